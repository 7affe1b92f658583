use Rattle.std.proofs.Common.{◌∙◌, ◌+◌, length, sym, ap, refl, arith}
use Rattle.bats_relay.proofs.MixedPackets.{length-coefs, length-payload, IsMixed-more}
use Rattle.bats_relay.proofs.mixing.add_four_kept.Goals as goal

pub add_four-requires-clause-length_a : goal.add_four-requires-clause-length_a
add_four-requires-clause-length_a c =
    length-coefs c.requires.before ∙ sym (ap length c.coefs.ensures.row ∙ c.term_at-a.ensures.sized.coefs)

pub add_four-requires-clause-length_b : goal.add_four-requires-clause-length_b
add_four-requires-clause-length_b c =
    length-coefs c.requires.before ∙ sym (ap length c.coefs-2.ensures.row ∙ c.term_at-b.ensures.sized.coefs)

pub add_four-requires-clause-length_c : goal.add_four-requires-clause-length_c
add_four-requires-clause-length_c c =
    length-coefs c.requires.before ∙ sym (ap length c.coefs-3.ensures.row ∙ c.term_at-c.ensures.sized.coefs)

pub add_four-requires-clause-length_d : goal.add_four-requires-clause-length_d
add_four-requires-clause-length_d c =
    length-coefs c.requires.before ∙ sym (ap length c.coefs-4.ensures.row ∙ c.term_at-d.ensures.sized.coefs)

pub add_four-requires-2-clause-length_a : goal.add_four-requires-2-clause-length_a
add_four-requires-2-clause-length_a c =
    length-payload c.requires.before ∙ sym (ap length c.payload.ensures.row ∙ c.term_at-a.ensures.sized.payload)

pub add_four-requires-2-clause-length_b : goal.add_four-requires-2-clause-length_b
add_four-requires-2-clause-length_b c =
    length-payload c.requires.before ∙ sym (ap length c.payload-2.ensures.row ∙ c.term_at-b.ensures.sized.payload)

pub add_four-requires-2-clause-length_c : goal.add_four-requires-2-clause-length_c
add_four-requires-2-clause-length_c c =
    length-payload c.requires.before ∙ sym (ap length c.payload-3.ensures.row ∙ c.term_at-c.ensures.sized.payload)

pub add_four-requires-2-clause-length_d : goal.add_four-requires-2-clause-length_d
add_four-requires-2-clause-length_d c =
    length-payload c.requires.before ∙ sym (ap length c.payload-4.ensures.row ∙ c.term_at-d.ensures.sized.payload)

pub returns : goal.returns
returns c =
    rw (
      c.add_four.ensures,
      c.add_four-2.ensures,
      c.coefs.ensures.factor,
      c.coefs.ensures.row,
      c.coefs-2.ensures.factor,
      c.coefs-2.ensures.row,
      c.coefs-3.ensures.factor,
      c.coefs-3.ensures.row,
      c.coefs-4.ensures.factor,
      c.coefs-4.ensures.row,
      c.payload.ensures.factor,
      c.payload.ensures.row,
      c.payload-2.ensures.factor,
      c.payload-2.ensures.row,
      c.payload-3.ensures.factor,
      c.payload-3.ensures.row,
      c.payload-4.ensures.factor,
      c.payload-4.ensures.row,
    )
    (IsMixed-more c.args.basis.now.kept c.args.factors.now c.requires.factors (c.args.first + 3) (c.args.first + 4) c.term_at-d.result.packet.now c.term_at-d.result.factor (omega arith) (omega arith)
    (IsMixed-more c.args.basis.now.kept c.args.factors.now c.requires.factors (c.args.first + 2) (c.args.first + 3) c.term_at-c.result.packet.now c.term_at-c.result.factor (omega arith) (omega arith)
    (IsMixed-more c.args.basis.now.kept c.args.factors.now c.requires.factors (c.args.first + 1) (c.args.first + 2) c.term_at-b.result.packet.now c.term_at-b.result.factor (omega arith) (omega arith)
    (IsMixed-more c.args.basis.now.kept c.args.factors.now c.requires.factors c.args.first (c.args.first + 1) c.term_at-a.result.packet.now c.term_at-a.result.factor refl refl c.requires.before
    c.term_at-a.ensures.packet c.term_at-a.ensures.sized c.term_at-a.ensures.factor)
    c.term_at-b.ensures.packet c.term_at-b.ensures.sized c.term_at-b.ensures.factor)
    c.term_at-c.ensures.packet c.term_at-c.ensures.sized c.term_at-c.ensures.factor)
    c.term_at-d.ensures.packet c.term_at-d.ensures.sized c.term_at-d.ensures.factor)
