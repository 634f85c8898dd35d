pub mod Joined
pub mod Glue
pub mod Elsewhere
pub mod Unread
pub mod Held
pub mod Ends
