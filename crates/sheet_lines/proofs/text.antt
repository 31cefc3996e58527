pub mod Begins
pub mod Decimal
pub mod Spaced
