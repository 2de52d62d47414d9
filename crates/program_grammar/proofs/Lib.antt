pub mod OfLines
pub mod Lines
pub mod WholePrograms
pub mod RoundTrip
pub mod KnownLines
