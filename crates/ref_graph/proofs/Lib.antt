mod Markings
mod Reaches
mod Rows
mod Sets
