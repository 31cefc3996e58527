pub mod Text
pub mod Sheet
pub mod Printed
pub mod Promises
pub mod Examples
