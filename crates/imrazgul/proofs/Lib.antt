-- Theorems that cite one which falls under the must-fail edit of a promise: in specs/ they would not be checked then, and rt would take the edit for a text that it cannot read.
pub mod Theorems
pub mod Trips
