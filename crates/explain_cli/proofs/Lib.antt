mod ShortFiles
mod AcceptedTrees
mod WeighedTokens
mod AnswersGiven
mod QuestionsAsked
mod OneAnswers
mod Endings
mod Stopping
