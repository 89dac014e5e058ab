pub mod Walk
pub mod Root
pub mod StillWalk
