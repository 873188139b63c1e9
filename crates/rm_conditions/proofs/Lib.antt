mod Apart
mod Few
mod Fronts
mod Looking
mod Passable
