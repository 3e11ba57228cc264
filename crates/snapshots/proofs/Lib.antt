mod Counted
mod Treelike
