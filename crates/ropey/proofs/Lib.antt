pub mod Refusals
pub mod Ropes
pub mod TextsGiven
