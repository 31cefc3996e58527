-- tables, walks, and columns of numbers
pub mod Good
pub mod Back
pub mod Sums
-- steps, the invariant that they keep, and the run
pub mod Steps
pub mod Invariant
pub mod Run
-- when a node scans, and what it remembers from its last scan
pub mod Scanning
pub mod Remembering
-- what a sound state says of walks, of marks and of absent arcs, and the promises
pub mod Walks
pub mod Tally
pub mod Nowhere
pub mod Promised
pub mod Demanded
pub mod Made
pub mod Limit
pub mod Stability
-- the table without its absent arcs: the same auction, the same plan
pub mod Without
pub mod Absent
-- the test rack
pub mod Answers
