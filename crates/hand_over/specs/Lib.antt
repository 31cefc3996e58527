pub mod Answered
pub mod ReadOff
