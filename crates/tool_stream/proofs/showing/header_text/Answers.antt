use Rattle.std.proofs.Common.{ℕ, ◌≡◌, ◌∙◌, ◌++◌, List, codes, IfOk, if◌then◌else◌, string_bytes, refl, ap, subst, append_assoc}
use Rattle.std.specs.Fmt.{decimal}
use Rattle.hex.specs.Hex.{encode_lower}
use Rattle.bats_model.specs.Session.{SessionData, symbols_of}
use Rattle.tool_stream.specs.Show.{header_line}
use Rattle.tool_stream.specs.steps.Shown.{sizes_part, header_rest}
use Rattle.tool_stream.proofs.showing.header_text.Goals as goal

-- one text after nine
regroup : (a b c d e f g h i j k : List ℕ)
    → (a ++ (b ++ (c ++ (d ++ (e ++ (f ++ (g ++ (h ++ (i ++ j))))))))) ++ k ≡ a ++ (b ++ (c ++ (d ++ (e ++ (f ++ (g ++ (h ++ (i ++ (j ++ k)))))))))
regroup a b c d e f g h i j k = simp append_assoc refl

-- the line, from its parts
header_line-parts : (session : SessionData) (at m t size symbols systematic table : ℕ) (sizes seed : List ℕ)
    → sizes ≡ sizes_part at m t size symbols → m ≡ session.m → t ≡ session.t → size ≡ session.file_length → symbols ≡ symbols_of session
    → systematic ≡ (if session.systematic then 1 else 0) → table ≡ session.table → seed ≡ encode_lower session.seed
    → sizes ++ header_rest systematic table seed ≡ header_line session at
unfolding header_line
header_line-parts session at m t size symbols systematic table sizes seed sizes_is m_is t_is size_is symbols_is systematic_is table_is seed_is =
    rw (sizes_is, m_is, t_is, size_is, symbols_is, systematic_is, table_is, seed_is) (
    regroup (codes "header at=") (decimal at) (codes " m=") (decimal session.m) (codes " t=") (decimal session.t) (codes " length=")
    (decimal session.file_length) (codes " symbols=") (decimal (symbols_of session))
    (header_rest (if session.systematic then 1 else 0) session.table (encode_lower session.seed)))

pub returns : goal.returns
returns c =
    subst (λ (text : List ℕ). IfOk c.header_rest_text.result (λ line. string_bytes line ≡ text))
    (header_line-parts c.args.session.now c.args.at c.m.result c.t.result c.length.result c.symbols.result
    c.systematic_digit.result c.table.result c.as_str.result.now c.as_str-2.result.now
    (c.as_str.ensures.value ∙ c.in_ok-sizes.ensures)
    c.m.ensures.value c.t.ensures.value c.length.ensures.value c.symbols.ensures.value
    c.systematic_digit.ensures c.table.ensures.value
    (c.as_str-2.ensures.value ∙ c.in_ok-seed.ensures ∙ ap encode_lower c.seed.ensures.value))
    c.header_rest_text.ensures
