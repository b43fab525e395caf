-- Document 01, Traces and their replay: the text of records and answers. It knows no chip.
pub mod Names
pub mod Number
pub mod Line
pub mod Record
pub mod Answer
pub mod Sizes
-- The same in other words: literal texts, and a grammar.
pub mod RecordCases
pub mod AnswerCases
pub mod Written
pub mod RecordText
pub mod AnswerText
pub mod Completed
pub mod Bounded
pub mod PutCases
