-- A file that agrees with the packets that a relay took agrees with its outputs.
use Rattle.std.proofs.Common.{ℕ, ◌≡◌, ◌<◌, ◌+◌, ◌^◌, ◌∙◌, List, [], ◌∷◌, ◌++◌, length, get_or, map, sym, ap, subst, refl, arith, length-append}
use Rattle.std.specs.Prelude.{All}
use Rattle.std.specs.List.{range_with_len}
use Rattle.std.proofs.lemmas.Bool.{eqb-true}
use Rattle.std.proofs.lemmas.List.{length-map}
use Rattle.std.proofs.lemmas.List.Elements.{All-map, All-weaker, filter_passes}
use Rattle.std.proofs.lemmas.List.FromFn.{map-range_with_len_more}
use Rattle.gf_core.specs.Combinations.{combination}
use Rattle.bats_model.specs.Session.{SessionData}
use Rattle.bats_model.specs.Agreement.{Agrees, AgreesWithAll}
use Rattle.bats_model.specs.Kept.{kept_of, new_after, packet_row, Follows}
use Rattle.bats_model.specs.PacketFile.{HasShape}
use Rattle.bats_model.specs.Relay.{mix_factors, relay_output, relay_outputs}
use Rattle.bats_model.specs.declared.packet.Packet.{Packet}
use Rattle.bats_model.proofs.KeptSpans.{is_of, All-kept_of}
use Rattle.bats_model.proofs.KeptAgreement.{Agrees-follows, kept-agreement}
use Rattle.bats_batch.specs.Basis.{IsSized}
use Rattle.bats_batch.specs.Held.{HeldData, StandsFor, kept_at}
use Rattle.bats_batch.proofs.KeptRows.{IsSized-shape, combination-packets}
use Rattle.bats_relay.proofs.OutputRows.{length-mix_factors, mix_factors-lt, HasShape-output}

-- an output follows from the kept packets: one list of factors gives its vector and its payload
pub Follows-output : (session : SessionData) (seed : List ℕ) (batch number : ℕ) (kept : List Packet) → batch < 2 ^ 32
    → All (HasShape session) kept → Follows kept (relay_output session seed batch number kept)
unfolding relay_output
Follows-output session seed batch number kept range shapes =
    let factors : List ℕ = mix_factors seed batch number (length kept) in
    let output : Packet = relay_output session seed batch number kept in
    let shape : HasShape session output = HasShape-output session seed batch number kept range shapes in
    let width : length (packet_row output) ≡ session.m + session.t =
    omega (arith, length-append output.coefs output.payload, shape.coefs, shape.payload) in
    record {
      factors = factors;
      bytes = mix_factors-lt seed batch number (length kept);
      size = length-mix_factors seed batch number (length kept) ∙ sym (length-map kept packet_row);
      sums = ap (λ (n : ℕ). combination n factors (map packet_row kept)) width
          ∙ combination-packets session.m session.t factors kept
          (All-weaker (HasShape session) (IsSized session.m session.t) (IsSized-shape session) kept shapes);
    }

-- a file that agrees with the kept packets of a batch
pub Agrees-output : (session : SessionData) (seed : List ℕ) (batch number : ℕ) (kept : List Packet) (file : List ℕ) → batch < 2 ^ 32
    → All (HasShape session) kept → All (λ packet. packet.batch ≡ batch) kept → AgreesWithAll session kept file
    → Agrees session file (relay_output session seed batch number kept)
unfolding relay_output
Agrees-output session seed batch number kept file range shapes own agrees =
    Agrees-follows session file kept (relay_output session seed batch number kept)
    (HasShape-output session seed batch number kept range shapes) agrees.is_file
    (λ k d within. record { shape = shapes k d within; of_batch = own k d within; agrees = agrees.each k d within })
    (Follows-output session seed batch number kept range shapes)

-- kept packets are of their batch
pub own-kept : (batch : ℕ) (packets : List Packet) → All (λ packet. packet.batch ≡ batch) (kept_of batch packets)
own-kept batch packets k d within =
    eqb-true (get_or (kept_of batch packets) k d).batch batch (filter_passes (is_of batch) (new_after [] packets) k d within)

-- and one that agrees with all packets that were taken
pub Agrees-taken : (session : SessionData) (seed : List ℕ) (batch number : ℕ) (packets : List Packet) (file : List ℕ) → batch < 2 ^ 32
    → All (HasShape session) packets → AgreesWithAll session packets file
    → Agrees session file (relay_output session seed batch number (kept_of batch packets))
Agrees-taken session seed batch number packets file range shapes agrees =
    Agrees-output session seed batch number (kept_of batch packets) file range (All-kept_of (HasShape session) batch packets shapes)
    (own-kept batch packets) (((kept-agreement session packets file shapes).0 agrees).0 batch)

-- what is held of a batch, which stands for packets of the session's shape, is enough for it
pub Agrees-held : (packets : List Packet) (held : HeldData) (seed : List ℕ) (batch number : ℕ) (file : List ℕ) (packet : Packet)
    → batch < 2 ^ 32 → StandsFor packets held → AgreesWithAll held.session (kept_at held.batches batch) file
    → packet ≡ relay_output held.session seed batch number (kept_at held.batches batch) → Agrees held.session file packet
Agrees-held packets held seed batch number file packet range stands agrees is =
    let kept : kept_at held.batches batch ≡ kept_of batch packets = stands.kept batch in
    subst (Agrees held.session file) (sym (is ∙ ap (relay_output held.session seed batch number) kept))
    (Agrees-output held.session seed batch number (kept_of batch packets) file range
    (All-kept_of (HasShape held.session) batch packets stands.shapes) (own-kept batch packets)
    (subst (λ (ps : List Packet). AgreesWithAll held.session ps file) kept agrees))

pub AgreesWithAll-outputs : (session : SessionData) (seed : List ℕ) (batch first count : ℕ) (packets : List Packet) (file : List ℕ)
    → batch < 2 ^ 32 → All (HasShape session) packets → AgreesWithAll session packets file
    → AgreesWithAll session (relay_outputs session seed batch first count (kept_of batch packets)) file
AgreesWithAll-outputs session seed batch first count packets file range shapes agrees = record {
  is_file = agrees.is_file;
  each = All-map (Agrees session file) (λ (number : ℕ). relay_output session seed batch number (kept_of batch packets)) (range_with_len first count)
      (λ k d within. Agrees-taken session seed batch (get_or (range_with_len first count) k d) packets file range shapes agrees);
}

-- one output more
pub relay_outputs-more : (session : SessionData) (seed : List ℕ) (batch first count : ℕ) (kept : List Packet)
    → relay_outputs session seed batch first (count + 1) kept
    ≡ relay_outputs session seed batch first count kept ++ relay_output session seed batch (first + count) kept ∷ []
relay_outputs-more session seed batch first count kept =
    map-range_with_len_more (λ (number : ℕ). relay_output session seed batch number kept) first count (first + count) refl
