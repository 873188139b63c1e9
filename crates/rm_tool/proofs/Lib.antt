mod Comings
mod Moments
