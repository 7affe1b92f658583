-- Worked values, computed: two kept packets of batch 7, with the vectors 1, 0 and 0, 1, mixed with the factors 3 and 2.
use Rattle.std.proofs.Common.{◌≡◌, [], ◌∷◌, true, refl}
use Rattle.std.specs.Prelude.{replicate}
use Rattle.gf_core.specs.Combinations.{combination}
use Rattle.gf_core.specs.Field.{double, doubled, gf_sum, product_term, gf_mul}
use Rattle.gf_core.specs.Rows.{row_sum, scaled_row}
use Rattle.bats_model.specs.Relay.{mixed}
use Rattle.bats_model.specs.Session.{SessionData}
use Rattle.bats_model.specs.declared.packet.Packet.{Packet}

abbrev session : SessionData
session = record { m = 2; t = 2; file_length = 8; table = 0; systematic = true; seed = replicate 16 0 }

abbrev first : Packet
first = record { batch = 7; coefs = 1 ∷ 0 ∷ []; payload = 1 ∷ 2 ∷ [] }

abbrev second : Packet
second = record { batch = 7; coefs = 0 ∷ 1 ∷ []; payload = 0x80 ∷ 4 ∷ [] }

-- 3 times 1 and twice 0x80 is 3 and 0x1d; 3 times 2 and twice 4 is 6 and 8
mixed_two : mixed session 7 (3 ∷ 2 ∷ []) (first ∷ second ∷ []) ≡ record { batch = 7; coefs = 3 ∷ 2 ∷ []; payload = 0x1e ∷ 0x0e ∷ [] }
unfolding combination row_sum scaled_row double doubled gf_sum product_term gf_mul
mixed_two = refl
