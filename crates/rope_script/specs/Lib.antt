pub mod Part
pub mod Walk
pub mod Ask
pub mod Step
