use Rattle.std.proofs.Common.{◌∙◌, arith, rules}
use Rattle.bats_io.proofs.ReadLemmas.{IsRead-takes}
use Rattle.bats_format.proofs.Filled.{IsRead-filled, FailsWithin-of, Fills-exit}
use Rattle.bats_cert.proofs.filling.fill.Goals as goal

pub loop-count-preserved : goal.loop-count-preserved
loop-count-preserved g c = record {
  within = search rules;
  read = IsRead-filled _ _ _ c.loop-count.count c.in_ok-got.got c.loop-count.buffer c.read.new.buf _ c.loop-count.invariant.within (omega (arith, c.read.auto.buf, c.in_ok-got.ensures.within))
      c.loop-count.invariant.read (IsRead-takes _ _ c.in_ok-got.got c.read.new.buf c.in_ok-got.ensures.taken);
  no_fault = c.in_ok-got.ensures.no_fault ∙ c.loop-count.invariant.no_fault;
}

pub returns-in_err-got : goal.returns-in_err-got
returns-in_err-got g c =
    Fills-exit _ _ _ c.from_residual.result c.from_residual.ensures.0
    (FailsWithin-of _ c.loop-count.count c.loop-count.buffer (search rules) c.loop-count.invariant.read c.loop-count.invariant.no_fault
    c.in_err-got.ensures.nothing_taken c.in_err-got.ensures.failed)
