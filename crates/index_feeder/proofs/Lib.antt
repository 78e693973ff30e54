mod Fed
mod Made
mod Drained
mod Refused
