mod HopsExplain
mod HopsFollowed
mod HopsHold
mod LinesFit
mod PlacesVisited
mod PlacesWritten
mod ValidExplains
mod WaysKnown
