pub mod Order
pub mod Schedules
pub mod Spelt
pub mod Splitting
pub mod WithinRange
