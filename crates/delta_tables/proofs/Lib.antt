pub mod WindowsInTurn
