mod Endings
mod Stopping
