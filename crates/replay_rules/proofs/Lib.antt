-- What is shown of replay, and the laws of its loop.
pub mod Alarms
pub mod Best
pub mod Came
pub mod Consumed
pub mod Enough
pub mod Examples
pub mod ReplayCases
pub mod Meant
pub mod Plays
pub mod Replays
pub mod Room
pub mod Turns
pub mod Unique
pub mod Words
