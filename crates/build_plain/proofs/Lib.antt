mod Answered
mod EachBuilds
mod Gives
pub mod Kept
mod KeptParts
pub mod OneOutputs
mod OutputsStand
pub mod Perm
pub mod Perms
pub mod Planned
mod SettingsAllowed
pub mod Shapes
pub mod Stands
pub mod Trees
pub mod Works
mod ExtensionsStand
mod PrintedSpans
mod SpansInText
mod SpansOfDocuments
mod SpansOfShapes
mod PermutationNames
mod ResolverNames
mod PlanNames
pub mod NamedTree
