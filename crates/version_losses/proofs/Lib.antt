mod Filtered
mod Going
mod StaysOrGoes
mod StillLost
mod Carried
mod Staying
mod LeavingIs
mod LostBehind
