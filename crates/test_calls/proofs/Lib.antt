mod BoardBytes
mod StillHeld
mod Wanted
