-- What public clauses cite.
pub mod Runs
pub mod Untaken
pub mod Laws
-- What the octets' queue stands for, in the code alone.
pub mod Queued
