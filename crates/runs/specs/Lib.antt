pub mod Traces
pub mod Answers
pub mod Rows
pub mod CallLaws
pub mod Law
pub mod States
pub mod Alike
