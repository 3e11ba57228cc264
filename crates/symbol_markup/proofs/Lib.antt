mod SymbolCounts
mod ToldSoFar
mod ScalarRanges
