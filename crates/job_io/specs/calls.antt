-- What the calls do, by their results.
pub mod Ends
pub mod Reading
pub mod Memory
pub mod WriteCalls
pub mod Streams
