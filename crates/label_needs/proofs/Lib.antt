pub mod Relabelling
