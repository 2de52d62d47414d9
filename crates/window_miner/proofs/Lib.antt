pub mod DeltasInOrder
