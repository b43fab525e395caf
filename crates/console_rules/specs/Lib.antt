-- What the small program writes.
pub mod Console
pub mod Examples
