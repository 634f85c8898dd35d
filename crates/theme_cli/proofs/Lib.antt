mod Endings
mod OneStatus
mod Stopping
