pub mod Received
pub mod Sent
pub mod ErrorText
pub mod Laws
