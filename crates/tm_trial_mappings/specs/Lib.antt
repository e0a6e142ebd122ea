-- The nets that the tests of cuts and walks run on.
pub mod TestNets
