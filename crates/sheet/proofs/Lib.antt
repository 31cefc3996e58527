pub mod Nodes
pub mod Order
pub mod Promised
pub mod Unseen
pub mod Examples
