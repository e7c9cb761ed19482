pub mod Lists
pub mod RequestMoves
pub mod AnswerMoves
pub mod Counts
