pub mod Left
pub mod Says
