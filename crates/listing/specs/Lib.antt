pub mod Line
pub mod Text
pub mod Cases
pub mod Laws
