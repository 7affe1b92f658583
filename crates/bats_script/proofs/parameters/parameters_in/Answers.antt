use Rattle.std.proofs.Common.{sym, ◌∙◌, codes, arith}
use Rattle.toml.specs.Data.{get_member}
use Rattle.toml.specs.View.{table_view}
use Rattle.bats_script.specs.Script.{parameters_of}
use Rattle.bats_script.specs.declared.script_end.ScriptKey.TheVariants.{M, T, Table, Systematic, Seed}
use Rattle.bats_script.proofs.ScriptLemmas.{asked, given, step, stop, exit-is, value-range}
use Rattle.bats_script.proofs.parameters.parameters_in.Goals as goal

pub returns-in_err-m-clause-value : goal.returns-in_err-m-clause-value
unfolding parameters_of
returns-in_err-m-clause-value c =
    exit-is _ _ c.from_residual.ensures.1
    ∙ sym (stop _ _ _ (asked M _ _ _ c.in_err-m.ensures.value c.number_at.ensures))

pub returns-in_err-t-clause-value : goal.returns-in_err-t-clause-value
unfolding parameters_of
returns-in_err-t-clause-value c =
    exit-is _ _ c.from_residual-in_err-t.ensures.1
    ∙ sym (step _ _ _ (asked M _ _ _ c.in_ok-m.ensures.value c.number_at.ensures) ∙ stop _ _ _ (asked T _ _ _ c.in_err-t.ensures.value c.number_at-2.ensures))

pub returns-in_err-degrees-clause-value : goal.returns-in_err-degrees-clause-value
unfolding parameters_of
returns-in_err-degrees-clause-value c =
    exit-is _ _ c.from_residual-in_err-degrees.ensures.1
    ∙ sym (step _ _ _ (asked M _ _ _ c.in_ok-m.ensures.value c.number_at.ensures) ∙ step _ _ _ (asked T _ _ _ c.in_ok-t.ensures.value c.number_at-2.ensures) ∙ stop _ _ _ (asked Table _ _ _ c.in_err-degrees.ensures.value c.number_at-3.ensures))

pub returns-in_err-systematic-clause-value : goal.returns-in_err-systematic-clause-value
unfolding parameters_of
returns-in_err-systematic-clause-value c =
    exit-is _ _ c.from_residual-in_err-systematic.ensures.1
    ∙ sym (step _ _ _ (asked M _ _ _ c.in_ok-m.ensures.value c.number_at.ensures) ∙ step _ _ _ (asked T _ _ _ c.in_ok-t.ensures.value c.number_at-2.ensures) ∙ step _ _ _ (asked Table _ _ _ c.in_ok-degrees.ensures.value c.number_at-3.ensures) ∙ stop _ _ _ (asked Systematic _ _ _ c.in_err-systematic.ensures.value c.boolean_at.ensures))

pub returns-in_err-seed-clause-value : goal.returns-in_err-seed-clause-value
unfolding parameters_of
returns-in_err-seed-clause-value c =
    exit-is _ _ c.from_residual-in_err-seed.ensures.1
    ∙ sym (step _ _ _ (asked M _ _ _ c.in_ok-m.ensures.value c.number_at.ensures) ∙ step _ _ _ (asked T _ _ _ c.in_ok-t.ensures.value c.number_at-2.ensures) ∙ step _ _ _ (asked Table _ _ _ c.in_ok-degrees.ensures.value c.number_at-3.ensures) ∙ step _ _ _ (asked Systematic _ _ _ c.in_ok-systematic.ensures.value c.boolean_at.ensures) ∙ stop _ _ _ (asked Seed _ _ _ c.in_err-seed.ensures.value c.seed_at.ensures))

pub overflow_cast-result : goal.overflow_cast-result
overflow_cast-result c =
    let (low, high) = value-range 1 32 (get_member (codes "m") (table_view c.args.table.now)) c.in_ok-m.m (given M _ _ (asked M _ _ _ c.in_ok-m.ensures.value c.number_at.ensures)) in
    record { fits = omega (arith, high) }

pub overflow_cast-result-2 : goal.overflow_cast-result-2
overflow_cast-result-2 c =
    let (low, high) = value-range 1 2048 (get_member (codes "t") (table_view c.args.table.now)) c.in_ok-t.t (given T _ _ (asked T _ _ _ c.in_ok-t.ensures.value c.number_at-2.ensures)) in
    record { fits = omega (arith, high) }

pub overflow_cast-result-3 : goal.overflow_cast-result-3
overflow_cast-result-3 c =
    let (low, high) = value-range 0 1 (get_member (codes "table") (table_view c.args.table.now)) c.in_ok-degrees.degrees (given Table _ _ (asked Table _ _ _ c.in_ok-degrees.ensures.value c.number_at-3.ensures)) in
    record { fits = omega (arith, high) }

pub returns-clause-value : goal.returns-clause-value
unfolding parameters_of
returns-clause-value c =
    sym (step _ _ _ (asked M _ _ _ c.in_ok-m.ensures.value c.number_at.ensures) ∙ step _ _ _ (asked T _ _ _ c.in_ok-t.ensures.value c.number_at-2.ensures) ∙ step _ _ _ (asked Table _ _ _ c.in_ok-degrees.ensures.value c.number_at-3.ensures) ∙ step _ _ _ (asked Systematic _ _ _ c.in_ok-systematic.ensures.value c.boolean_at.ensures) ∙ step _ _ _ (asked Seed _ _ _ c.in_ok-seed.ensures.value c.seed_at.ensures))

pub returns-clause-within : goal.returns-clause-within
returns-clause-within c =
    let m = value-range 1 32 (get_member (codes "m") (table_view c.args.table.now)) c.in_ok-m.m (given M _ _ (asked M _ _ _ c.in_ok-m.ensures.value c.number_at.ensures)) in
    let t = value-range 1 2048 (get_member (codes "t") (table_view c.args.table.now)) c.in_ok-t.t (given T _ _ (asked T _ _ _ c.in_ok-t.ensures.value c.number_at-2.ensures)) in
    let degrees = value-range 0 1 (get_member (codes "table") (table_view c.args.table.now)) c.in_ok-degrees.degrees (given Table _ _ (asked Table _ _ _ c.in_ok-degrees.ensures.value c.number_at-3.ensures)) in
    record {
      m_low = m.0;
      m_high = m.1;
      t_low = t.0;
      t_high = t.1;
      table = degrees.1;
    }
