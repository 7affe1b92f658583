pub mod Answer
pub mod Help
pub mod Options
pub mod WordItems
pub mod WordLookup
pub mod WordValues
pub mod Words
pub mod steps
