pub mod Fronts
pub mod Folds
pub mod Groupings
pub mod Pieces
