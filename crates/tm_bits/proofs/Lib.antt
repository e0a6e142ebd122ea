pub mod Evenness
pub mod Minterms
pub mod RowNumbers
pub mod Words
