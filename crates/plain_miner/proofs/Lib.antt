pub mod Parts
pub mod OneMore
pub mod Parting
pub mod Putting
pub mod Rising
pub mod Growing
pub mod SameMembers
