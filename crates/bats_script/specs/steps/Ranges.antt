-- What the parameters of a script keep.
use Rattle.std.specs.Prelude.{◌≤◌}
use Rattle.bats_script.specs.declared.parameters.Parameters.{Parameters}

-- the parameters are within a session's limits
pub record AreWithin (p : Parameters) : Type 0 where
  pub m_low : 1 ≤ p.m
  pub m_high : p.m ≤ 32
  pub t_low : 1 ≤ p.t
  pub t_high : p.t ≤ 2048
  pub table : p.table ≤ 1
