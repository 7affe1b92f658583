use Rattle.bats_stripes.proofs.StripeRows.{rows_scaled}
use Rattle.bats_stripes.proofs.stripe.scale.Goals as goal

pub returns-clause-rows : goal.returns-clause-rows
returns-clause-rows c =
    rows_scaled c.args.rows c.args.stride c.args.stripe.now c.requires.size c.scale_row.new.row c.args.row c.args.factor c.requires.row c.scale_row.ensures.row
