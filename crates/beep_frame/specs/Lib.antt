-- What public clauses cite.
pub mod Frame
pub mod Spelling
pub mod Stream
pub mod Modulo
pub mod Fed
pub mod Decoding
pub mod Decodes
pub mod Outline
pub mod Laws
-- What proofs alone need: the decoder as a machine, its state in the code, and how an outline
-- grows.
pub mod Machine
pub mod Line
pub mod Reading
pub mod Finding
pub mod Tracks
pub mod Keeping
pub mod Answering
pub mod Outlining
