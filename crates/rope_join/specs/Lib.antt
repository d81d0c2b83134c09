pub mod Join
pub mod Cut
pub mod Put
