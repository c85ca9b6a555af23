pub mod Fits
pub mod Sums
pub mod Held
pub mod Stands
pub mod Drained
pub mod Ready
