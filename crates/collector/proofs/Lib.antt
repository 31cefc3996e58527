-- The exchanged table, arc by arc and walk by walk; what is refused; the promises; what stays; rows.
pub mod Exchange
pub mod Refused
pub mod Promised
pub mod Stability
pub mod Rows
