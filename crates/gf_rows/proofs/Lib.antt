pub mod HalfLemmas
pub mod LaneLemmas
pub mod MultipleLemmas
pub mod PlanLemmas
pub mod BufferLemmas
pub mod MatrixLemmas
pub mod LinearLemmas
pub mod SolutionLemmas
pub mod KernelLemmas
pub mod SpendsLemmas
mod RoundLemmas
mod Examples
