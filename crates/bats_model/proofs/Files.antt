-- Files of a session: the same where their symbols are, and tests of agreement and of a symbol.
use Rattle.std.proofs.Common.{ℕ, zero, suc, ◌≡◌, ◌<◌, ◌≤◌, ◌+◌, ◌*◌, ◌/◌, ◌%◌, ◌∙◌, ◌==◌, ◌&&◌, sym, ap, refl, Bool, true, false, List, [], ◌∷◌, length, get_or, arith}
use Rattle.std.specs.Bool.{Decides}
use Rattle.std.specs.List.{All, list_all}
use Rattle.std.proofs.lemmas.Bool.Decides.{Decides-eqb, Decides-below_and, Decides-by_and, Decides-like}
use Rattle.std.proofs.lemmas.List.{ext_get_or}
use Rattle.std.proofs.lemmas.List.Elements.{All-weaker}
use Rattle.std.proofs.lemmas.Grind.{div_ceil_times}
use Rattle.std.proofs.lemmas.Nat.{div-add-mod', mod_below, div_below}
use Rattle.bats_model.specs.Session.{SessionData, symbols_of}
use Rattle.bats_model.specs.Symbol.{symbol_byte}
use Rattle.bats_model.specs.Agreement.{IsFile, Agrees, AgreesWithAll, IsSameSymbol, combined_byte}
use Rattle.bats_model.specs.declared.packet.Packet.{Packet}

-- files that have the same symbols are the same
pub same-files : (session : SessionData) (one other : List ℕ) → 0 < session.t → length one ≡ session.file_length
    → length other ≡ session.file_length
    → ((s : ℕ) → s < symbols_of session → IsSameSymbol session one other s) → one ≡ other
same-files session one other some k l same =
    let t = session.t in
    let covered : session.file_length ≤ symbols_of session * t = (div_ceil_times session.file_length t some).0 in
    ext_get_or 0 one other (k ∙ sym l) (λ i b.
    let place : i / t * t + i % t ≡ i = div-add-mod' i t in
    ap (λ (n : ℕ). get_or one n 0) (sym place)
    ∙ same (i / t) (div_below i t (symbols_of session) some (omega arith)) (i % t) (mod_below i t some)
    ∙ ap (λ (n : ℕ). get_or other n 0) place)

-- whether each number below n passes the test
abbrev each_below : (ℕ → Bool) → ℕ → Bool
each_below test zero = true
each_below test (suc n) = test n && each_below test n

-- whether two files have the same bytes in symbol s
abbrev pub is_same_symbol : SessionData → List ℕ → List ℕ → ℕ → Bool
is_same_symbol session one other s =
    each_below (λ c. symbol_byte session one s c == symbol_byte session other s c) session.t

pub is_same_symbol-Decides : (session : SessionData) (one other : List ℕ) (s : ℕ)
    → Decides (is_same_symbol session one other s) (IsSameSymbol session one other s)
is_same_symbol-Decides session one other s =
    let test : ℕ → Bool = λ c. symbol_byte session one s c == symbol_byte session other s c in
    Decides-below_and test (λ c. symbol_byte session one s c ≡ symbol_byte session other s c) (each_below test)
    (λ c. Decides-eqb (symbol_byte session one s c) (symbol_byte session other s c)) refl (λ n. refl) session.t

-- the equations of a packet, one for each column
abbrev Equations : SessionData → List ℕ → Packet → Type 0
Equations session file packet = (c : ℕ) → c < session.t
    → get_or packet.payload c 0 ≡ combined_byte session file packet.batch packet.coefs c

abbrev is_agreeing : SessionData → List ℕ → Packet → Bool
is_agreeing session file packet =
    each_below (λ c. get_or packet.payload c 0 == combined_byte session file packet.batch packet.coefs c) session.t

is_agreeing-Decides : (session : SessionData) (file : List ℕ) (packet : Packet)
    → Decides (is_agreeing session file packet) (Equations session file packet)
is_agreeing-Decides session file packet =
    let test : ℕ → Bool = λ c. get_or packet.payload c 0 == combined_byte session file packet.batch packet.coefs c in
    Decides-below_and test (λ c. get_or packet.payload c 0 ≡ combined_byte session file packet.batch packet.coefs c) (each_below test)
    (λ c. Decides-eqb (get_or packet.payload c 0) (combined_byte session file packet.batch packet.coefs c)) refl (λ n. refl) session.t

-- whether a file of the session agrees with all packets
abbrev pub is_agreeing_with_all : SessionData → List Packet → List ℕ → Bool
is_agreeing_with_all session packets file = list_all (is_agreeing session file) packets

pub is_agreeing_with_all-Decides : (session : SessionData) (packets : List Packet) (file : List ℕ) → IsFile session file
    → Decides (is_agreeing_with_all session packets file) (AgreesWithAll session packets file)
is_agreeing_with_all-Decides session packets file is =
    let equations : Packet → Type 0 = Equations session file in
    Decides-like (is_agreeing_with_all session packets file)
    (λ (all : All equations packets). record {
      is_file = is;
      each = All-weaker equations (Agrees session file) (λ p h. record { is_file = is; columns = h }) packets all;
    })
    (λ (agrees : AgreesWithAll session packets file). All-weaker (Agrees session file) equations (λ p h. h.columns) packets agrees.each)
    (Decides-by_and (is_agreeing session file) equations (list_all (is_agreeing session file)) (is_agreeing-Decides session file) refl
    (λ _ _. refl) packets)
