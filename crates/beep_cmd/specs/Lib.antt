-- What public clauses cite.
pub mod Replay
pub mod Recorded
pub mod Ends
pub mod Recording
pub mod Listening
pub mod Pair
pub mod Complete
pub mod Told
-- What proofs alone need: what each part says of an input.
pub mod Judging
pub mod Pairing
pub mod Serving
