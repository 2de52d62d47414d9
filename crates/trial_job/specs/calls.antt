-- What the calls ask for.
pub mod Standing
