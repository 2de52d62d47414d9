pub mod GroupsTaken
