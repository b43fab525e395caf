-- Document 02, item 1: a trace that arrives in portions.
pub mod Session
pub mod Portion
pub mod Calls
pub mod Portions
-- The same in the bytes that a C program lends.
pub mod Bytes
pub mod Face
pub mod InBytes
pub mod OneOutput
pub mod SessionCases
