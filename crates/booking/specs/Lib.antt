pub mod Refusal
pub mod Book
pub mod Bookings
pub mod Laws
pub mod Cases
