-- The definitions that the contracts cite, from the words up, and what the floors above may rely on (Laws).
pub mod Compress
pub mod Tree
pub mod Stack
pub mod Running
pub mod Laws
