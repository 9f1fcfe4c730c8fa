pub mod Masks
pub mod Combinations
pub mod Exports
pub mod EncodeLemmas
pub mod Many
pub mod ReadLaws
pub mod UpdateLaws
pub mod PairRows
