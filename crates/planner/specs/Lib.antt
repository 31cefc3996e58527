pub mod Ends
pub mod Plan
pub mod Promise
