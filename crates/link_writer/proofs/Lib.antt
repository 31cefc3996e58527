-- Laws that several functions share.
pub mod Pieces
