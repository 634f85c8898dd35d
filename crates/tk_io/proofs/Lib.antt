pub mod Extending
pub mod MapViews
mod Members
pub mod SortedEntries
pub mod TextMaps
