pub mod EachMerge
pub mod NamedTrees
mod ByContent
mod Known
mod Laid
mod MergingKeepsTokens
mod OneMerge
mod ShapesAdded
mod ShapesHoldTokens
mod SourcesHoldTokens
mod StringsAreTexts
mod ShapesListed
mod NeedsInOrder
pub mod Fronts
