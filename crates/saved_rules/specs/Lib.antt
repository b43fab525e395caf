-- A chip's state as bytes.
pub mod Layout
pub mod Face
pub mod Saved
pub mod FaceCases
