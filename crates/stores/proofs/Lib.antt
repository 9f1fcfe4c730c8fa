pub mod GivenLemmas
pub mod ChosenLemmas
pub mod StripeLemmas
pub mod MemoryLemmas
