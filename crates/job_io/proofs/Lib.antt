pub mod Gathering
pub mod Copying
pub mod LinesOf
pub mod Ahead
pub mod BlockOf
pub mod Known
