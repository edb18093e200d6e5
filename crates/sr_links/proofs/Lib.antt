pub mod DatabaseLemmas
pub mod PairLemmas
pub mod RuleLemmas
pub mod CountLemmas
pub mod FewLemmas
pub mod TalkLemmas
pub mod MendLemmas
mod BudgetLemmas
pub mod OutLemmas
pub mod BroughtLemmas
pub mod HaveLemmas
pub mod AnswerLemmas
