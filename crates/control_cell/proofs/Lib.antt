mod Altered
mod TokenWords
mod Entries
mod Numbered
mod Sequences
mod Beginnings
mod Planned
mod Others
