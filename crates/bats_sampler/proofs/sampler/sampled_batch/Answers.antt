use Rattle.std.proofs.Common.{List, ℕ, ◌≡◌, ◌+◌, ◌*◌, ◌∙◌, min, sym, ap, arith}
use Rattle.bats_model.specs.Session.{symbols_of}
use Rattle.bats_model.specs.Key.{key_word, pick, seeded_key}
use Rattle.bats_model.specs.DegreeTable.{degree_at, degree_table}
use Rattle.bats_model.specs.Batch.{drawn}
use Rattle.bats_sampler.specs.Words.{KeyPlace, bytes_from}
use Rattle.bats_sampler.proofs.BatchParts.{sampled_batch_of-parts, IsBatch-sampled}
use Rattle.bats_sampler.proofs.sampler.sampled_batch.Goals as goal

pub new-requires : goal.new-requires
new-requires c =
    let key : List ℕ = c.next_word.new.self.key in
    let degree : ℕ = c.min-degree.result in
    let columns : c.from.result ≡ c.m-2.result = c.from.ensures ∙ c.m.ensures.value ∙ sym c.m-2.ensures.value in
    let entries : c.from-3.result ≡ bytes_from key (4 * (1 + degree)) (degree * c.m-2.result) =
    c.from-3.ensures ∙ c.in_ok-entries.ensures.bytes
    ∙ ap (λ (w : KeyPlace). bytes_from w.key (4 * w.place) (degree * c.from.result)) c.in_ok-numbers.ensures.after
    ∙ ap (λ m. bytes_from key (4 * (1 + degree)) (degree * m)) columns in
    let limits = c.m-2.ensures.within in
    let few = c.degree_of-drawn_degree.ensures.few in
    IsBatch-sampled c.args.number degree c.symbols-symbols.result c.m-2.result key _ _ (omega arith) (omega arith)
    (omega arith) (c.from-2.ensures ∙ c.in_ok-numbers.ensures.drawn) entries

pub returns : goal.returns
returns c =
    let s = c.args.session.now in
    let n = c.args.number in
    let key : List ℕ = c.next_word.new.self.key in
    let degree : ℕ = c.min-degree.result in
    let symbols = c.symbols-symbols.ensures.value in
    let columns : c.from.result ≡ s.m = c.from.ensures ∙ c.m.ensures.value in
    let own : key ≡ c.key_from.result =
    ap (λ (w : KeyPlace). w.key) c.next_word.ensures.after ∙ ap (λ (w : KeyPlace). w.key) c.new-words.ensures in
    let word : c.next_word.result ≡ key_word key 0 =
    c.next_word.ensures.value ∙ ap (λ (w : KeyPlace). key_word w.key w.place) c.new-words.ensures
    ∙ ap (λ k. key_word k 0) (sym own) in
    let picked : c.pick_below.result ≡ pick (key_word key 0) 1000 =
    c.pick_below.ensures ∙ ap (λ w. pick w 1000) word in
    let first : c.degree_of-drawn_degree.result ≡ degree_at (degree_table s.table) (pick (key_word key 0) 1000) =
    c.degree_of-drawn_degree.ensures.value
    ∙ ap (λ t. degree_at (degree_table t) c.pick_below.result) c.table.ensures.value
    ∙ ap (λ p. degree_at (degree_table s.table) p) picked in
    let count : degree ≡ min (degree_at (degree_table s.table) (pick (key_word key 0) 1000)) (symbols_of s) =
    c.min-degree.ensures ∙ ap (λ d. min d c.symbols-symbols.result) first
    ∙ ap (λ k. min (degree_at (degree_table s.table) (pick (key_word key 0) 1000)) k) symbols in
    let entries : c.from-3.result ≡ bytes_from key (4 * (1 + degree)) (degree * s.m) =
    c.from-3.ensures ∙ c.in_ok-entries.ensures.bytes
    ∙ ap (λ (w : KeyPlace). bytes_from w.key (4 * w.place) (degree * c.from.result)) c.in_ok-numbers.ensures.after
    ∙ ap (λ m. bytes_from key (4 * (1 + degree)) (degree * m)) columns in
    let contributors : c.from-2.result ≡ drawn key (symbols_of s) degree =
    c.from-2.ensures ∙ c.in_ok-numbers.ensures.drawn ∙ ap (λ k. drawn key k degree) symbols in
    let limits = c.m-2.ensures.within in
    let m-2 = c.m-2.ensures.value in
    let made : c.new.result
    ≡ record { number = n; columns = s.m; contributors = c.from-2.result; entries = c.from-3.result } =
    c.new.ensures
    ∙ ap (λ m. record { number = n; columns = m; contributors = c.from-2.result; entries = c.from-3.result }) m-2 in
    made
    ∙ sampled_batch_of-parts s n degree key c.from-2.result c.from-3.result limits.m_low
    (own ∙ c.key_from.ensures ∙ ap (λ seed. seeded_key seed n 0 0) c.seed.ensures.value) count contributors entries
