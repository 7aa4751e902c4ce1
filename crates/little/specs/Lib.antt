-- Parts of lists, runs, fields over the width, what an answer says, why an equation admits a single answer, and what the floors
-- above may rely on (Laws).
pub mod Parts
pub mod Runs
pub mod Fields
pub mod Said
pub mod Laws
pub mod Promise
