mod CalledNode
mod KnownRows
