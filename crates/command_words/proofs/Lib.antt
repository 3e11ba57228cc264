mod WrittenNumbers
mod Forms
mod NotTaken
mod Numbers
mod Judged
mod Settings
