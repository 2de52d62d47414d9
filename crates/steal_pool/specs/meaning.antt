-- What a pool of tasks is, and what comes of its tasks.
pub mod Tasks
pub mod Pool
