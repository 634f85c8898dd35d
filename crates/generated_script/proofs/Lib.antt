pub mod AppendsRegroup
pub mod EventsFit
pub mod ListsGrow
pub mod LiteralsLast
