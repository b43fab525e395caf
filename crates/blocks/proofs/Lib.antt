-- What is shown of blocks.
pub mod Parts
