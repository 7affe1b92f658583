-- When a node is full for a packet, by what it holds.
use Rattle.std.proofs.Common.{◌≡◌, ◌<◌, ◌==◌, ◌&&◌, ◌∙◌, sym, subst, List, true, false, inl, inr, arith, All, Decides}
use Rattle.std.proofs.lemmas.Bool.{cases_Bool, eq-eqb, ne_eqb}
use Rattle.std.proofs.lemmas.List.Elements.{All-weaker}
use Rattle.bats_model.specs.Kept.{is_new, kept_of, kept_count, coefs_of, IsCombination}
use Rattle.bats_model.specs.PacketFile.{HasShape}
use Rattle.bats_model.specs.declared.packet.Packet.{Packet}
use Rattle.bats_model.specs.declared.taken.Taken.{Taken}
use Rattle.bats_model.specs.declared.taken.Taken.TheVariants.{Kept}
use Rattle.bats_model.proofs.KeptSpans.{HasVector, HasVector-shape, is_new-kept, All-kept_of}
use Rattle.bats_batch.specs.Basis.{IsTaken, IsSized}
use Rattle.bats_batch.specs.Held.{HeldData, StandsFor, kept_at, row_count, max_kept}
use Rattle.bats_batch.proofs.Offers.{row_count-stands}
use Rattle.bats_batch.proofs.KeptRows.{IsSized-shape}
use Rattle.bats_decode.proofs.Offering.{of-new}
use Rattle.bats_world.proofs.LinkLemmas.{and-true, and-left, and-right}

module _ (packets : List Packet) (held : HeldData) (packet : Packet) (stands : StandsFor packets held)
    (shape : HasShape held.session packet) where
  decides : Decides (is_new packets packet) (¬ IsCombination (coefs_of (kept_of packet.batch packets)) packet.coefs)
  decides =
      is_new-kept held.session.m packets packet
      (All-weaker (HasShape held.session) (HasVector held.session.m) (HasVector-shape held.session) packets stands.shapes)
      (HasVector-shape held.session packet shape)

  kept : IsTaken (kept_at held.batches packet.batch) packet Kept → is_new packets packet ≡ true
  kept is = decides.1 (subst (λ (ps : List Packet). IsTaken ps packet Kept) (stands.kept packet.batch) is)

  fresh : is_new packets packet ≡ true → IsTaken (kept_at held.batches packet.batch) packet Kept
  fresh is = subst (λ (ps : List Packet). IsTaken ps packet Kept) (sym (stands.kept packet.batch)) (decides.0 is)

  pub full-is : row_count held.batches ≡ max_kept → IsTaken (kept_at held.batches packet.batch) packet Kept
      → (is_new packets packet && kept_count packets == max_kept) ≡ true
  full-is count is =
      and-true (is_new packets packet) (kept_count packets == max_kept) (kept is)
      (eq-eqb (kept_count packets) max_kept (sym (row_count-stands packets held stands) ∙ count))

  pub full-not : (IsTaken (kept_at held.batches packet.batch) packet Kept → row_count held.batches < max_kept)
      → (is_new packets packet && kept_count packets == max_kept) ≡ false
  full-not room = elim (cases_Bool (is_new packets packet)) [
    | inl new ↦ and-right (is_new packets packet) (kept_count packets == max_kept)
        (ne_eqb (kept_count packets) max_kept
        (λ e. omega (arith, e, room (fresh new), row_count-stands packets held stands)))
    | inr old ↦ and-left (is_new packets packet) (kept_count packets == max_kept) old
  ]

  -- by what became of the packet
  pub full-not_taken : (taken : Taken) → IsTaken (kept_at held.batches packet.batch) packet taken
      → (taken ≡ Kept → row_count held.batches < max_kept)
      → (is_new packets packet && kept_count packets == max_kept) ≡ false
  full-not_taken taken is room =
      let Sized : Packet → Type 0 = IsSized held.session.m held.session.t in
      full-not (of-new (row_count held.batches < max_kept) held.session.m held.session.t (kept_at held.batches packet.batch) packet
      taken
      (subst (All Sized) (sym (stands.kept packet.batch))
      (All-kept_of Sized packet.batch packets (All-weaker (HasShape held.session) Sized (IsSized-shape held.session) packets stands.shapes)))
      shape.coefs shape.payload is room)
