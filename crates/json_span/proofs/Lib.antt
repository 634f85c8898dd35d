mod Predictive
mod Scans
mod Classes
mod Runs
mod CharacterScans
mod AlternativesRead
pub mod Skips
pub mod Views
mod PlainViews
mod PlainCopies
mod EscapeFacts
pub mod Shorts
mod Contents
mod Boundaries
mod Strings
pub mod Exists
mod Scalars
mod Begins
mod Lists
mod Naming
mod NameOrder
mod RisingNames
mod MemberLists
mod Spans
mod Gives
mod Rfc
mod FrontsOn
mod Refusal
pub mod Unique
pub mod OneAnswer
pub mod Utf8
pub mod Spelled
pub mod Answered
mod Cut
pub mod Slices
pub mod Saying
pub mod SaidShown
pub mod SliceSaid
mod StringsAreUtf8
pub mod SaidFits
mod SaidCut
pub mod Composing
pub mod Insides
mod Lying
mod CursorsGoOn
mod Fitting
mod TakenCharacters
mod Matching
pub mod InOrder
mod FirstFlaw
