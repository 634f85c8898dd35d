pub mod Spelled
mod NameMaps
pub mod Taken
mod FirstRefused
mod Added
mod HexDigits
pub mod Endings
mod Allowed
mod PathsNamed
pub mod FiveLines
pub mod FiveNamesDiffer
pub mod NamesApart
pub mod PlainFramesJoin
pub mod QuotedReadsBack
pub mod RunsAreFirst
pub mod ScaledAreWritten
mod SortedNames
mod RisingNames
mod Risen
mod TextEnds
mod TextsMoved
