-- The bytes of a certificate say which it is.
use Rattle.std.proofs.Common.{◌≡◌, ℕ, suc, ◌<◌, ◌^◌, List, [], ◌∷◌, ◌++◌, length, All, refl, sym, ap, subst, ◌∙◌, append_assoc, arith}
use Rattle.std.proofs.lemmas.Nat.{from_be_bytes-to_be_bytes_2, from_be_bytes-to_be_bytes_4}
use Rattle.std.specs.Int.{w16, w32, to_be_bytes, from_be_bytes}
use Rattle.gf_rows.specs.Matrix.{Grid}
use Rattle.bats_model.specs.Session.{SessionData, IsSession, symbols_of}
use Rattle.bats_model.specs.Records.{header_record, packet_record}
use Rattle.bats_model.specs.PacketFile.{HasShape}
use Rattle.bats_model.specs.declared.packet.Packet.{Packet}
use Rattle.bats_format.proofs.RecordLemmas.{same_parts, same_headers, same_packets}
use Rattle.bats_cert.specs.Shown.{AreFactors, IsFitBody, IsFit}
use Rattle.bats_cert.specs.CertificateFile.{certificate_tag, kind_of, begin_bytes, packets_bytes, rows_bytes, body_bytes, certificate_bytes}
use Rattle.bats_cert.specs.declared.certificate.Body.{Body}
use Rattle.bats_cert.specs.declared.certificate.Body.TheVariants.{One, Two, Zero}
use Rattle.bats_cert.specs.declared.certificate.Certificate.{Certificate}

same_number : (m n : ℕ) → m < 2 ^ 32 → n < 2 ^ 32 → to_be_bytes w32 m ≡ to_be_bytes w32 n → m ≡ n
same_number m n h k e = sym (from_be_bytes-to_be_bytes_4 m h) ∙ ap (λ (l : List ℕ). from_be_bytes w32 l) e ∙ from_be_bytes-to_be_bytes_4 n k

same_short : (m n : ℕ) → m < 2 ^ 16 → n < 2 ^ 16 → to_be_bytes w16 m ≡ to_be_bytes w16 n → m ≡ n
same_short m n h k e = sym (from_be_bytes-to_be_bytes_2 m h) ∙ ap (λ (l : List ℕ). from_be_bytes w16 l) e ∙ from_be_bytes-to_be_bytes_2 n k

-- ---- packets

record AreSameLists (ps qs : List Packet) (x y : List ℕ) : Type 0 where
  packets : ps ≡ qs
  rest : x ≡ y

one_more : (p q : Packet) (ps qs : List Packet) (x y : List ℕ) → p ≡ q → AreSameLists ps qs x y → AreSameLists (p ∷ ps) (q ∷ qs) x y
one_more p q ps qs x y e h = record { packets = λ i. e i ∷ h.packets i; rest = h.rest }

same_lists : (session : SessionData) (ps qs : List Packet) (x y : List ℕ) → All (HasShape session) ps → All (HasShape session) qs → length ps ≡ length qs
    → packets_bytes ps ++ x ≡ packets_bytes qs ++ y → AreSameLists ps qs x y
same_lists session [] [] x y h k l e = record { packets = refl; rest = e }
same_lists session [] (q ∷ qs) x y h k l e = absurd (omega (arith, l))
same_lists session (p ∷ ps) [] x y h k l e = absurd (omega (arith, l))
same_lists session (p ∷ ps) (q ∷ qs) x y h k l e =
    let left : packet_record p.batch p.coefs p.payload ++ (packets_bytes ps ++ x) ≡ packets_bytes (p ∷ ps) ++ x = sym (append_assoc (packet_record p.batch p.coefs p.payload) (packets_bytes ps) x) in
    let right : packets_bytes (q ∷ qs) ++ y ≡ packet_record q.batch q.coefs q.payload ++ (packets_bytes qs ++ y) = append_assoc (packet_record q.batch q.coefs q.payload) (packets_bytes qs) y in
    let one = same_packets session p q (packets_bytes ps ++ x) (packets_bytes qs ++ y) (h 0 p (omega arith)) (k 0 q (omega arith)) (left ∙ e ∙ right) in
    one_more p q ps qs x y one.packet
    (same_lists session ps qs x y (λ i d within. h (suc i) d (omega (arith, within))) (λ i d within. k (suc i) d (omega (arith, within))) (omega (arith, l)) one.rest)

-- ---- rows

same_rows : (cols : ℕ) (rows others : List (List ℕ)) → All (λ row. length row ≡ cols) rows → All (λ row. length row ≡ cols) others → length rows ≡ length others
    → rows_bytes rows ≡ rows_bytes others → rows ≡ others
same_rows cols [] [] h k l e = refl
same_rows cols [] (other ∷ others) h k l e = absurd (omega (arith, l))
same_rows cols (row ∷ rows) [] h k l e = absurd (omega (arith, l))
same_rows cols (row ∷ rows) (other ∷ others) h k l e =
    let parts = same_parts row other (rows_bytes rows) (rows_bytes others) (h 0 row (omega arith) ∙ sym (k 0 other (omega arith))) e in
    let rest = same_rows cols rows others (λ i d within. h (suc i) d (omega (arith, within))) (λ i d within. k (suc i) d (omega (arith, within))) (omega (arith, l)) parts.rest in
    λ i. parts.front i ∷ rest i

same_grids : (packets : List Packet) (count : ℕ) (rows others : Grid) → AreFactors packets count rows → AreFactors packets count others
    → rows_bytes rows.rows ≡ rows_bytes others.rows → rows ≡ others
same_grids packets count rows others h k e =
    let same = same_rows (length packets) rows.rows others.rows
    (λ i d within. h.matrix.widths i d within ∙ h.width) (λ i d within. k.matrix.widths i d within ∙ k.width) (h.number ∙ sym k.number) e in
    let width : rows.cols ≡ others.cols = h.width ∙ sym k.width in
    λ i. record { cols = width i; rows = same i }

-- ---- bodies

same_bodies : (session : SessionData) (packets : List Packet) (body other : Body) → IsSession session → IsFitBody session packets body → IsFitBody session packets other
    → kind_of body ≡ kind_of other → body_bytes body ≡ body_bytes other → body ≡ other
same_bodies session packets (One file rows) (One other others) is h k l e =
    let parts = same_parts file other (rows_bytes rows.rows) (rows_bytes others.rows) (h.0.size ∙ sym k.0.size) e in
    let grids = same_grids packets (symbols_of session) rows others h.1 k.1 parts.rest in
    λ i. One (parts.front i) (grids i)
same_bodies session packets (One file rows) (Two s first second others) is h k l e = absurd (omega (arith, l))
same_bodies session packets (One file rows) (Zero column factors) is h k l e = absurd (omega (arith, l))
same_bodies session packets (Two s first second rows) (One file others) is h k l e = absurd (omega (arith, l))
same_bodies session packets (Two s first second rows) (Two u before after others) is h k l e =
    let left : to_be_bytes w32 s ++ (first ++ (second ++ rows_bytes rows.rows)) ≡ body_bytes (Two s first second rows) =
    sym (append_assoc (to_be_bytes w32 s) first (second ++ rows_bytes rows.rows)) ∙ sym (append_assoc (to_be_bytes w32 s ++ first) second (rows_bytes rows.rows)) in
    let right : body_bytes (Two u before after others) ≡ to_be_bytes w32 u ++ (before ++ (after ++ rows_bytes others.rows)) =
    append_assoc (to_be_bytes w32 u ++ before) after (rows_bytes others.rows) ∙ append_assoc (to_be_bytes w32 u) before (after ++ rows_bytes others.rows) in
    let p0 = same_parts (to_be_bytes w32 s) (to_be_bytes w32 u) _ _ refl (left ∙ e ∙ right) in
    let p1 = same_parts first before _ _ (h.1.size ∙ sym k.1.size) p0.rest in
    let p2 = same_parts second after _ _ (h.2.size ∙ sym k.2.size) p1.rest in
    let symbol : s ≡ u = same_number s u (omega (arith, h.0, is.symbols)) (omega (arith, k.0, is.symbols)) p0.front in
    let factors = subst (λ (n : ℕ). AreFactors packets n others) (sym symbol) k.3 in
    let grids = same_grids packets s rows others h.3 factors p2.rest in
    λ i. Two (symbol i) (p1.front i) (p2.front i) (grids i)
same_bodies session packets (Two s first second rows) (Zero column factors) is h k l e = absurd (omega (arith, l))
same_bodies session packets (Zero column factors) (One file rows) is h k l e = absurd (omega (arith, l))
same_bodies session packets (Zero column factors) (Two s first second rows) is h k l e = absurd (omega (arith, l))
same_bodies session packets (Zero column factors) (Zero place others) is h k l e =
    let p0 = same_parts (to_be_bytes w16 column) (to_be_bytes w16 place) factors others refl e in
    let places : column ≡ place = same_short column place (omega (arith, h.0, is.t_high)) (omega (arith, k.0, is.t_high)) p0.front in
    λ i. Zero (places i) (p0.rest i)

-- ---- certificates

-- the parts of a certificate's bytes, grouped to the right
regroup : (cert : Certificate) → header_record cert.session ++ ((certificate_tag ∷ kind_of cert.body ∷ []) ++ (to_be_bytes w32 (length cert.packets) ++ (packets_bytes cert.packets ++ body_bytes cert.body)))
    ≡ certificate_bytes cert
unfolding certificate_bytes begin_bytes
regroup cert =
    let header : List ℕ = header_record cert.session in
    let front : List ℕ = certificate_tag ∷ kind_of cert.body ∷ [] in
    let count : List ℕ = to_be_bytes w32 (length cert.packets) in
    sym (append_assoc header front (count ++ (packets_bytes cert.packets ++ body_bytes cert.body)))
    ∙ sym (append_assoc (header ++ front) count (packets_bytes cert.packets ++ body_bytes cert.body))
    ∙ sym (append_assoc (header ++ front ++ count) (packets_bytes cert.packets) (body_bytes cert.body))

same_kind : (kind other : ℕ) → certificate_tag ∷ kind ∷ [] ≡ certificate_tag ∷ other ∷ [] → kind ≡ other
same_kind kind other e = cc

of_session : (a b : Certificate) → IsSession a.session → IsFit a → IsFit b → a.session ≡ b.session
    → (certificate_tag ∷ kind_of a.body ∷ []) ++ (to_be_bytes w32 (length a.packets) ++ (packets_bytes a.packets ++ body_bytes a.body))
    ≡ (certificate_tag ∷ kind_of b.body ∷ []) ++ (to_be_bytes w32 (length b.packets) ++ (packets_bytes b.packets ++ body_bytes b.body)) → a ≡ b
of_session a b is h k same e =
    let p0 = same_parts (certificate_tag ∷ kind_of a.body ∷ []) (certificate_tag ∷ kind_of b.body ∷ []) _ _ refl e in
    let kinds = same_kind (kind_of a.body) (kind_of b.body) p0.front in
    let p1 = same_parts (to_be_bytes w32 (length a.packets)) (to_be_bytes w32 (length b.packets)) _ _ refl p0.rest in
    let counts = same_number (length a.packets) (length b.packets) (omega (arith, h.few)) (omega (arith, k.few)) p1.front in
    let shapes = subst (λ (session : SessionData). All (HasShape session) b.packets) (sym same) k.shapes in
    let lists = same_lists a.session a.packets b.packets (body_bytes a.body) (body_bytes b.body) h.shapes shapes counts p1.rest in
    let fits = subst (λ (session : SessionData). IsFitBody session b.packets b.body) (sym same) k.body in
    let fit = subst (λ (packets : List Packet). IsFitBody a.session packets b.body) (sym lists.packets) fits in
    let bodies = same_bodies a.session a.packets a.body b.body is h.body fit kinds lists.rest in
    λ i. record { session = same i; packets = lists.packets i; body = bodies i }

pub same_certificates : (a b : Certificate) → IsSession a.session → IsSession b.session → IsFit a → IsFit b → certificate_bytes a ≡ certificate_bytes b → a ≡ b
same_certificates a b is is' h k e =
    let headers = same_headers a.session b.session _ _ is is' (regroup a ∙ e ∙ sym (regroup b)) in
    of_session a b is h k headers.session headers.rest
