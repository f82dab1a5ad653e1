pub mod AnswerLemmas
pub mod CodeLemmas
pub mod CompleteLemmas
pub mod RowLemmas
pub mod StepLemmas
