pub mod KnownFound
pub mod KnownStatements
mod SetLemmas
mod SettleLemmas
mod RuleLemmas
mod PremiseLemmas
mod FitLemmas
mod ProvingLemmas
mod ScopeLemmas
mod LookLemmas
mod StandLemmas
mod NjLemmas
mod DeriveLemmas
mod ReturnLemmas
mod EnterLemmas
mod OwnLemmas
mod JoinLemmas
mod TakenLemmas
mod CallLemmas
mod RowLemmas
mod StepLemmas
mod FormLemmas
mod ToldLemmas
mod QuestionLemmas
mod JudgedLemmas
mod PartQuestions
