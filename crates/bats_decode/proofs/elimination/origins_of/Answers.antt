use Rattle.std.proofs.Common.{◌∙◌, ap}
use Rattle.bats_decode.specs.steps.Left.{origin_after}
use Rattle.bats_decode.proofs.LeftLemmas.{origins-more}
use Rattle.bats_decode.proofs.elimination.origins_of.Goals as goal

pub symbols-preserved : goal.symbols-preserved
symbols-preserved c =
    origins-more c.args.columns.now c.args.left.now c.symbols.s c.origin_of.result c.symbols.origins.items c.push.new.self.items
    c.in_ok-push.ensures.items (c.origin_of.ensures ∙ ap (origin_after c.args.columns.now) c.get.ensures) c.symbols.invariant
