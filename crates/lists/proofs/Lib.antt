-- The laws behind the proofs.
mod Passes
