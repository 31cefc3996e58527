-- The laws of one step each: two nodes compared, a node looked for among those in order, and the wanted nodes put in order.
pub mod Comparing
pub mod Searching
pub mod Ordering
