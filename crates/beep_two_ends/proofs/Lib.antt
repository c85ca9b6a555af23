pub mod WaysLemmas
pub mod KeptLemmas
pub mod SeenLemmas
pub mod RowsLemmas
pub mod WindowLemmas
pub mod SplitLemmas
pub mod WorldLemmas
pub mod RunLemmas
pub mod OctetsLemmas
mod Plays
