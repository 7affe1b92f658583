use Rattle.std.proofs.Common.{ℕ, ◌∷◌, refl, sym, subst}
use Rattle.bats_model.specs.declared.read_end.ReadEnd.TheVariants as ends
use Rattle.bats_format.specs.Taking.{IsStop}
use Rattle.bats_format.proofs.Reading.{IsStop-full, IsStop-tag}
use Rattle.bats_format.proofs.records.tag_of.Goals as goal

pub returns-then-records-eq-MAX_RECORDS : goal.returns-then-records-eq-MAX_RECORDS
returns-then-records-eq-MAX_RECORDS c session rest = (
  subst (λ (records : ℕ). IsStop session records c.args.at (c.args.byte ∷ rest) ends.TooManyRecords) (sym c.if-records-eq-MAX_RECORDS.true)
      (IsStop-full session c.args.at c.args.byte rest),
  refl,
)

pub returns : goal.returns
returns c session rest = (
  IsStop-tag session c.args.records c.args.at c.args.byte rest
      c.if-records-eq-MAX_RECORDS.false c.if-byte-eq-HEADER_TAG.false c.if-byte-eq-PACKET_TAG.false,
  refl,
)
