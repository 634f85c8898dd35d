pub mod ClapWords
