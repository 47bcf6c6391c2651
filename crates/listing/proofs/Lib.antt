pub mod Worked
pub mod Each
pub mod Decimal
pub mod Lines
pub mod Texts
pub mod Words
pub mod Storing
