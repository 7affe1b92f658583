pub mod Contributors
pub mod Words
