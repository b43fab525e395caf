-- Laws of the text, for the crates above too.
pub mod Choice
pub mod Digits
pub mod Lines
pub mod More
pub mod Put
pub mod Records
pub mod Signed
pub mod Size
pub mod Unique
-- What is claimed of it.
pub mod AnswerText
pub mod Begins
pub mod Bounded
pub mod Completed
pub mod Filled
pub mod Plain
pub mod PutCases
pub mod RecordText
pub mod Tables
pub mod Written
