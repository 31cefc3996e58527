-- Entries that are made one by one, and the hand-over's.
pub mod Entries
pub mod Handing
