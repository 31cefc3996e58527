-- The table without its absent arcs: what it is, its walks, its steps, its run, its scans, and what is handed over
pub mod Places
pub mod Walks
pub mod Told
pub mod Runs
pub mod Scans
pub mod Handed
