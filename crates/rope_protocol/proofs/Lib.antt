pub mod Written
pub mod Serving
