-- The ways out of keeping.
pub mod Answers
-- Totals: a step, a list of nodes, and the walks through it.
pub mod Steps
pub mod Totals
pub mod Absent
-- What is given, by the ways out.
pub mod Choices
pub mod Outcomes
-- Beside a shortest path: such a path has few nodes, whatever the table's origin.
pub mod Few
pub mod Origin
pub mod Beside
-- The promises, and the rows.
pub mod Promised
pub mod Rows
