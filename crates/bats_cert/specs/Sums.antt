-- What packets say of each symbol, and sums of packets by factors.
use Rattle.std.specs.Prelude.{ℕ, ◌==◌, if◌then◌else◌, List, map}
use Rattle.std.specs.List.{range_with_len}
use Rattle.gf_core.specs.Combinations.{combination}
use Rattle.bats_model.specs.Session.{SessionData, symbols_of}
use Rattle.bats_model.specs.Values.{packet_value}
use Rattle.bats_model.specs.Relay.{payloads_of}
use Rattle.bats_model.specs.declared.packet.Packet.{Packet}

-- the values of the symbols where symbol s is 1 and every other symbol is 0
abbrev pub one_at : ℕ → ℕ → ℕ
one_at s u = if u == s then 1 else 0

-- what a packet says of each symbol: entry s is what its payload is where symbol s is 1 and every other symbol is 0
unfoldable pub symbol_row : SessionData → Packet → List ℕ
symbol_row session packet = map (λ s. packet_value session packet (one_at s)) (range_with_len 0 (symbols_of session))

-- what the packets say of each symbol
abbrev pub symbol_rows : SessionData → List Packet → List (List ℕ)
symbol_rows session packets = map (symbol_row session) packets

-- what the sum of the packets, each times its factor, says of each symbol
abbrev pub symbol_sums : SessionData → List Packet → List ℕ → List ℕ
symbol_sums session packets factors = combination (symbols_of session) factors (symbol_rows session packets)

-- the payload of the sum of the packets, each times its factor
abbrev pub payload_sums : SessionData → List Packet → List ℕ → List ℕ
payload_sums session packets factors = combination session.t factors (payloads_of packets)
