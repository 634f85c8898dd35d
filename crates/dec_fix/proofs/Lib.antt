mod Scaling
mod Digits
mod Short
pub mod OneShortest
pub mod SameNumber
mod Placed
mod LastDigits
pub mod Numeral
pub mod Again
pub mod Pointed
pub mod Grammar
pub mod NumberTexts
mod Exactness
mod Exact
mod Range
pub mod ReadingBack
pub mod BytesAreParts
