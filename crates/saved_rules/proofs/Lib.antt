-- What is shown of a saved chip.
pub mod Same
pub mod Saved
pub mod Faced
pub mod FaceCases
