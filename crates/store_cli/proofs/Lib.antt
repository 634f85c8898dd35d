mod Endings
mod OutputPaths
mod Stopping
