pub mod HexLemmas
pub mod MessageLemmas
