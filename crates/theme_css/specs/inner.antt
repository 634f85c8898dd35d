pub mod Views
pub mod Offers
pub mod Order
pub mod Choices
pub mod Pages
