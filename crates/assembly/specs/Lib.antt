pub mod Start
pub mod Says
pub mod Entry
