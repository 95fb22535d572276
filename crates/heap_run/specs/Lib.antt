pub mod Texts
pub mod Opening
pub mod Answers
pub mod AnswerLaws
