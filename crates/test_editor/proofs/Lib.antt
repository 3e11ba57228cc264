mod Quiet
mod Moved
