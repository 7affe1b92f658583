use Rattle.gf_rows.proofs.BufferLemmas.{rows_apart}
use Rattle.bats_stripes.proofs.StripeRows.{rows_added}
use Rattle.bats_stripes.proofs.stripe.add_row.Goals as goal

pub add_scaled_inside-requires-clause-apart : goal.add_scaled_inside-requires-clause-apart
add_scaled_inside-requires-clause-apart c = rows_apart c.args.stride c.args.dst c.args.src c.requires.apart

pub returns-clause-rows : goal.returns-clause-rows
returns-clause-rows c =
    rows_added c.args.rows c.args.stride c.args.stripe.now c.requires.size c.add_scaled_inside.new.bytes c.args.dst c.args.factor c.args.src c.requires.dst c.requires.src
    c.add_scaled_inside.ensures
