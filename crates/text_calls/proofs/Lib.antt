-- From what a check answers to what the call does.
mod Wholes
