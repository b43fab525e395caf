-- Document 01, Traces and their replay. The text of records and answers is text_rules', the step the rules'.
pub mod Play
pub mod Room
pub mod Replay
pub mod Consumed
pub mod Alarms
pub mod Best
pub mod Examples
pub mod ReplayCases
pub mod Enough
pub mod Meant
