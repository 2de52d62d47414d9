pub mod Blocks
pub mod Turning
pub mod Readable
pub mod Retelling
pub mod Rewriting
