-- How it is stored.
pub mod Items
pub mod Places
