-- The kinds beside BlobString that are a text behind its length.
mod Groups
