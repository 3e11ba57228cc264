pub mod KnownErrors
mod Pulling
mod FirstLine
mod Pushing
mod WholeText
