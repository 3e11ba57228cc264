mod Bodies
mod Graphic
mod Nodes
mod Numbered
mod Numbers
mod Parts
mod Single
