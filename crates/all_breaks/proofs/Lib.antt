mod Entries
mod FirstBreaks
mod Listings
mod Planned
mod Tellings
mod ToldPairs
