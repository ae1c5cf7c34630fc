pub mod Packing
pub mod Words
pub mod Held
