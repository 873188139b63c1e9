mod Copying
mod Places
mod Slots
