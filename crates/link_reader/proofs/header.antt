pub mod NodeRuns
pub mod Ways
