-- Laws of a trace in portions.
pub mod Course
pub mod Courses
pub mod Windows
pub mod Held
pub mod Faced
pub mod Codes
pub mod Counts
pub mod Joins
pub mod Ways
pub mod Sessions
pub mod Feeds
pub mod Reached
-- What is claimed of it.
pub mod Calls
pub mod Portions
pub mod InBytes
pub mod OneOutput
pub mod SessionCases
