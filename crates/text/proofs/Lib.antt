-- Laws of the readers.
pub mod Read
