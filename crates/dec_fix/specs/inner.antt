pub mod Significand
pub mod View
