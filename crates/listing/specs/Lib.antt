pub mod Listing
pub mod Collecting
pub mod Promises
pub mod Examples
