-- What is shown of the program's text, and the laws of its two ways.
pub mod Examples
pub mod Texts
pub mod Unique
