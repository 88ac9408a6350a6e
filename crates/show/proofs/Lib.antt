-- Lemmas of the proofs.
mod Past
