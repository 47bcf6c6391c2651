pub mod Salvage
pub mod Pieces
pub mod Line
pub mod Cases
pub mod Laws
