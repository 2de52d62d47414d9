pub use Rattle.window_miner.specs.calls.Mining
pub mod meaning
pub mod calls
