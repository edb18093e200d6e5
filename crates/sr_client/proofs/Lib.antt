mod AgainLemmas
mod ArriveLemmas
mod AskLemmas
mod AskedLemmas
mod BudgetLemmas
pub mod ByToldLemmas
mod Calls
mod CameLemmas
mod CountLemmas
mod CoverLemmas
mod Covers
mod CutLemmas
mod EndLemmas
mod EntryLemmas
mod EvictLemmas
mod ExplainLemmas
mod FallLemmas
mod FinishLemmas
mod FitLemmas
mod GiveUpLemmas
mod GoesLemmas
mod HeavyLemmas
mod Items
mod KeptLemmas
mod LaidLemmas
mod LastLemmas
pub mod LayLemmas
mod LendLemmas
mod MeantLemmas
mod MirrorLemmas
mod MoveLemmas
mod Nearing
pub mod NewLemmas
mod OverLemmas
mod PartsLemmas
mod PromiseLemmas
mod QueryLemmas
mod ReadLemmas
mod Renewal
mod ReplyLemmas
mod RestLemmas
pub mod Results
mod ResumeLemmas
mod SendLemmas
pub mod SendableLemmas
mod SendsLemmas
mod SettleLemmas
pub mod ShortLemmas
mod StartLemmas
pub mod SuitLemmas
pub mod TableLemmas
mod ToldLemmas
mod WriteLemmas
