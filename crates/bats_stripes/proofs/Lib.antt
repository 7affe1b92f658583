pub mod StripedRows
mod StripeRows
mod PlanSteps
mod Runs
pub mod PieceLemmas
mod WrittenRows
pub mod Replays
