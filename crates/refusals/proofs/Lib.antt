-- The refusals 1 to 7, in their order.
pub mod Refusing
