-- The invariant, and that every step keeps it
pub mod Sound
pub mod Stages
pub mod Potential
pub mod Counting
pub mod Terminal
pub mod Reaching
pub mod Starting
pub mod Contracting
pub mod Deleting
pub mod Extending
