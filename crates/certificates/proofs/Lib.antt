mod Cutting
mod Escapes
mod Finding
mod Strings
mod Lines
