pub mod Table
pub mod Refusals
pub mod Slices
pub mod Told
pub mod Lent
