-- The promise. The laws of one Rust module are named in its node file (lines.antt, pieces.antt).
pub mod Promised
