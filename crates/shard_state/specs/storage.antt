-- How it is stored.
pub mod Cells
pub mod KeyedCells
pub mod Keys
pub mod Touched
