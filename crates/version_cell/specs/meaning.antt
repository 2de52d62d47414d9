-- What is meant.
pub mod LabelMaps
pub mod Changes
pub mod Cell
pub mod Floor
