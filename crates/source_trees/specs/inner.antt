pub mod Laying
pub mod Shapes
