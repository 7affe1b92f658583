use Rattle.std.proofs.Common.{◌∙◌, ◌+◌, length, sym, ap, refl}
use Rattle.bats_relay.proofs.MixedPackets.{length-coefs, length-payload, IsMixed-more}
use Rattle.bats_relay.proofs.mixing.add_kept.Goals as goal

pub add_scaled-requires : goal.add_scaled-requires
add_scaled-requires c =
    length-coefs c.requires.before ∙ sym (ap length c.coefs-vector.ensures.row ∙ c.term_at-term.ensures.sized.coefs)

pub add_scaled-requires-2 : goal.add_scaled-requires-2
add_scaled-requires-2 c =
    length-payload c.requires.before ∙ sym (ap length c.payload-bytes.ensures.row ∙ c.term_at-term.ensures.sized.payload)

pub returns : goal.returns
returns c =
    rw (
      c.add_scaled.ensures,
      c.add_scaled-2.ensures,
      c.coefs-vector.ensures.factor,
      c.coefs-vector.ensures.row,
      c.payload-bytes.ensures.factor,
      c.payload-bytes.ensures.row,
    )
    (IsMixed-more c.args.basis.now.kept c.args.factors.now c.requires.factors c.args.i (c.args.i + 1) c.term_at-term.result.packet.now c.term_at-term.result.factor refl refl c.requires.before
    c.term_at-term.ensures.packet c.term_at-term.ensures.sized c.term_at-term.ensures.factor)
