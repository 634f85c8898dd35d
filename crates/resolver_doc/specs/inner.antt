pub mod Pointers
pub mod Known
pub mod Faults
