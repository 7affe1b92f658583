pub mod GivesBack
