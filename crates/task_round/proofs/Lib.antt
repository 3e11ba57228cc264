mod Hands
mod Moves
mod Ranges
mod Results
