pub mod Rounding
pub mod Asking
pub mod Fractions
