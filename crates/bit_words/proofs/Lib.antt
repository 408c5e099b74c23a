pub mod Packing
pub mod Bytes
pub mod Counting
pub mod Numbers
pub mod Words
pub mod Searching
