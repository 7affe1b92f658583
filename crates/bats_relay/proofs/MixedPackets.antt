-- Kept packets are added one after another, up to an output.
use Rattle.std.proofs.Common.{ℕ, ◌≡◌, ◌<◌, ◌+◌, ◌∙◌, List, [], ◌∷◌, ◌++◌, length, get_or, take, map, replicate, sym, ap, subst, arith}
use Rattle.std.specs.Prelude.{slice_get, Some}
use Rattle.std.proofs.lemmas.List.{map-append, length-map, length-take-le, take_more}
use Rattle.std.proofs.lemmas.List.Elements.{All-nil, All-push}
use Rattle.std.proofs.lemmas.Option.{slice_get_within, get_or_from_slice_get}
use Rattle.std.proofs.Math.Seq.{take-length}
use Rattle.gf_core.specs.Rows.{add_scaled_row}
use Rattle.gf_core.specs.Combinations.{combination}
use Rattle.gf_core.specs.Triangular.{AreRows}
use Rattle.gf_core.proofs.CombinationLemmas.{length-combination, combination-push}
use Rattle.bats_model.specs.Session.{SessionData}
use Rattle.bats_model.specs.Kept.{coefs_of}
use Rattle.bats_model.specs.Relay.{mix_factors, payloads_of, relay_output}
use Rattle.bats_model.specs.declared.packet.Packet.{Packet}
use Rattle.bats_batch.specs.Basis.{IsSized}
use Rattle.bats_relay.specs.steps.Mixing.{IsMixed}
use Rattle.bats_batch.proofs.PayloadSums.{AreRows-payloads}
use Rattle.bats_relay.proofs.OutputRows.{AreRows-coefs}

-- rows of zeros
pub IsMixed-none : (m t : ℕ) (kept : List Packet) (factors coefs payload : List ℕ) → coefs ≡ replicate m 0 → payload ≡ replicate t 0
    → IsMixed m t kept factors 0 coefs payload
unfolding combination
IsMixed-none m t kept factors coefs payload no_coefs no_payload = record {
  within = omega arith;
  sized = All-nil (IsSized m t);
  coefs_mixed = no_coefs;
  payload_mixed = no_payload;
}

pub length-coefs : {m t : ℕ} {kept : List Packet} {factors : List ℕ} {count : ℕ} {coefs payload : List ℕ}
    → IsMixed m t kept factors count coefs payload → length coefs ≡ m
length-coefs {m} {t} {kept} {factors} {count} is =
    ap length is.coefs_mixed ∙ length-combination m (take count factors) (coefs_of (take count kept))

pub length-payload : {m t : ℕ} {kept : List Packet} {factors : List ℕ} {count : ℕ} {coefs payload : List ℕ}
    → IsMixed m t kept factors count coefs payload → length payload ≡ t
length-payload {m} {t} {kept} {factors} {count} is =
    ap length is.payload_mixed ∙ length-combination t (take count factors) (payloads_of (take count kept))

module _ (kept : List Packet) (factors : List ℕ) (sizes : length factors ≡ length kept) where
  -- one packet more, by one of its two parts
  part-more : (width count : ℕ) (packet : Packet) (part : Packet → List ℕ) → slice_get kept count ≡ Some packet
      → AreRows width (map part (take count kept)) → length (part packet) ≡ width
      → combination width (take (count + 1) factors) (map part (take (count + 1) kept))
      ≡ add_scaled_row (combination width (take count factors) (map part (take count kept))) (get_or factors count 0) (part packet)
  part-more width count packet part stands are size =
      let within : count < length kept = slice_get_within kept count packet stands in
      let factors_more : take (count + 1) factors ≡ take count factors ++ get_or factors count 0 ∷ [] =
      take_more factors count 0 (omega (arith, within, sizes)) in
      let kept_more : take (count + 1) kept ≡ take count kept ++ packet ∷ [] =
      take_more kept count packet within ∙ ap (λ (p : Packet). take count kept ++ p ∷ []) (get_or_from_slice_get kept count packet packet stands) in
      let so_far : length (take count factors) ≡ length (map part (take count kept)) =
      length-take-le count factors (omega (arith, within, sizes))
      ∙ sym (length-map (take count kept) part ∙ length-take-le count kept (omega (arith, within))) in
      ap (λ (fs : List ℕ). combination width fs (map part (take (count + 1) kept))) factors_more
      ∙ ap (λ (ps : List Packet). combination width (take count factors ++ get_or factors count 0 ∷ []) (map part ps)) kept_more
      ∙ ap (combination width (take count factors ++ get_or factors count 0 ∷ [])) (map-append part (take count kept) (packet ∷ []))
      ∙ combination-push width (take count factors) (get_or factors count 0) (map part (take count kept)) (part packet) so_far are size

  -- the next packet is added
  pub IsMixed-more : {m t count : ℕ} {coefs payload : List ℕ} (at next : ℕ) (packet : Packet) (factor : ℕ) → at ≡ count → next ≡ at + 1
      → IsMixed m t kept factors count coefs payload → slice_get kept at ≡ Some packet → IsSized m t packet → factor ≡ get_or factors at 0
      → IsMixed m t kept factors next (add_scaled_row coefs factor packet.coefs) (add_scaled_row payload factor packet.payload)
  IsMixed-more {m} {t} {count} {coefs} {payload} at next packet factor here then is stands_at size same_at =
      let stands : slice_get kept count ≡ Some packet = subst (λ (n : ℕ). slice_get kept n ≡ Some packet) here stands_at in
      let same : factor ≡ get_or factors count 0 = subst (λ (n : ℕ). factor ≡ get_or factors n 0) here same_at in
      let within : count < length kept = slice_get_within kept count packet stands in
      let kept_more : take (count + 1) kept ≡ take count kept ++ packet ∷ [] =
      take_more kept count packet within ∙ ap (λ (p : Packet). take count kept ++ p ∷ []) (get_or_from_slice_get kept count packet packet stands) in
      subst (λ (n : ℕ). IsMixed m t kept factors n (add_scaled_row coefs factor packet.coefs) (add_scaled_row payload factor packet.payload))
      {x = count + 1} (omega (arith, here, then)) (record {
        within = omega (arith, within);
        sized = rw kept_more (All-push (IsSized m t) (take count kept) packet is.sized size);
        coefs_mixed = ap (λ (f : ℕ). add_scaled_row coefs f packet.coefs) same
            ∙ ap (λ (row : List ℕ). add_scaled_row row (get_or factors count 0) packet.coefs) is.coefs_mixed
            ∙ sym (part-more m count packet (λ (p : Packet). p.coefs) stands (AreRows-coefs m t (take count kept) is.sized) size.coefs);
        payload_mixed = ap (λ (f : ℕ). add_scaled_row payload f packet.payload) same
            ∙ ap (λ (row : List ℕ). add_scaled_row row (get_or factors count 0) packet.payload) is.payload_mixed
            ∙ sym (part-more t count packet (λ (p : Packet). p.payload) stands (AreRows-payloads m t (take count kept) is.sized) size.payload);
      })

-- ---- all kept packets

module _ (session : SessionData) (m t : ℕ) (kept : List Packet) (factors : List ℕ) (packet : Packet) (seed : List ℕ) (batch number : ℕ)
    (same_m : m ≡ session.m) (same_t : t ≡ session.t) (are : factors ≡ mix_factors seed batch number (length kept))
    (sizes : length factors ≡ length kept) (is : IsMixed m t kept factors (length kept) packet.coefs packet.payload) (own : packet.batch ≡ batch) where
  all_kept : take (length kept) kept ≡ kept
  all_kept = take-length kept

  all_factors : take (length kept) factors ≡ mix_factors seed batch number (length kept)
  all_factors = ap (λ (n : ℕ). take n factors) (sym sizes) ∙ take-length factors ∙ are

  whole_coefs : packet.coefs ≡ combination session.m (mix_factors seed batch number (length kept)) (coefs_of kept)
  whole_coefs = is.coefs_mixed ∙ ap (λ (fs : List ℕ). combination m fs (coefs_of (take (length kept) kept))) all_factors
      ∙ ap (λ (ps : List Packet). combination m (mix_factors seed batch number (length kept)) (coefs_of ps)) all_kept
      ∙ ap (λ (w : ℕ). combination w (mix_factors seed batch number (length kept)) (coefs_of kept)) same_m

  whole_payload : packet.payload ≡ combination session.t (mix_factors seed batch number (length kept)) (payloads_of kept)
  whole_payload = is.payload_mixed ∙ ap (λ (fs : List ℕ). combination t fs (payloads_of (take (length kept) kept))) all_factors
      ∙ ap (λ (ps : List Packet). combination t (mix_factors seed batch number (length kept)) (payloads_of ps)) all_kept
      ∙ ap (λ (w : ℕ). combination w (mix_factors seed batch number (length kept)) (payloads_of kept)) same_t

  -- the rows are an output
  pub output-mixed : packet ≡ relay_output session seed batch number kept
  unfolding relay_output
  output-mixed = λ i. record { batch = own i; coefs = whole_coefs i; payload = whole_payload i }
