-- What is true of the deque, of the queue and of the word that says that the feed is shut, whatever their
-- threads do; and how the two sides of a pool keep what contracts see of them.
pub mod Balance
pub mod ShutWord
pub mod Sides
pub mod Books
