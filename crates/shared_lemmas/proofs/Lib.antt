pub mod Ascending
pub mod Booleans
pub mod Claims
pub mod FiniteMaps
pub mod Membership
pub mod OrderedMaps
pub mod Orderings
pub mod Sets
