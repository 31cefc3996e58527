-- The pairs and the draws: how many, in which order, and what an arc has of them.
pub mod Counting
pub mod Rising
pub mod Pairs
pub mod Drawing
pub mod Listed
-- What is refused, and what stands in the columns where nothing is.
pub mod Refused
pub mod There
-- The promises, and the rows.
pub mod Promised
pub mod Rows
