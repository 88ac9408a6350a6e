-- The numbers of the refusals, and their words.
pub mod Numbers
pub mod NumberLaws
pub mod Words
