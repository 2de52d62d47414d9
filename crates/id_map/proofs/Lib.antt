pub mod OneChange
pub mod PlacedItems
pub mod ToldPlaces
