pub use Rattle.group_window.specs.meaning.Windows
pub mod meaning
pub mod calls
pub mod storage
