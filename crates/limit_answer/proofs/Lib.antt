-- What is answered where the table is refused and where it is not; the promises about it; rows.
pub mod Refused
pub mod Promised
pub mod Rows
