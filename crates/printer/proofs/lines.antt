pub mod Passing
pub mod Rest
pub mod Listed
