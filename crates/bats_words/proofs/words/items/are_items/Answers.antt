use Rattle.std.proofs.Common.{string_bytes, map, is_some, sym, ap, ◌∙◌, inl, inr}
use Rattle.std.specs.Slice.Iter.{iter_rest}
use Rattle.bats_words.specs.WordItems.{is_among, is_value_word, items_of}
use Rattle.bats_words.specs.WordLookup.{known_names}
use Rattle.bats_words.proofs.WordSplits.{after_flag, after_option, at_last, at_refused, at_end}
use Rattle.bats_words.proofs.words.items.are_items.Goals as goal
use Rattle.bats_words.proofs.words.items.are_items.Goals.{then-not-is_among-via-then-not-is_among, then-not-is_among-via-else-not-is_among+then-not-is_value_word}

pub loop-word-preserved-then-is_among : goal.loop-word-preserved-then-is_among
loop-word-preserved-then-is_among c =
    after_flag string_bytes (known_names c.args.names.now) _ _ _ _ c.in-Some.ensures.steps c.as_str.ensures.value (sym c.is_among.ensures ∙ c.if-is_among.true)
    ∙ c.loop-word.invariant

pub returns-in_default-next : goal.returns-in_default-next
returns-in_default-next c =
    let known = known_names c.args.names.now in
    at_last string_bytes known _ _ _ _ c.in-Some.ensures.steps c.in_default-next.ensures.steps.0 c.as_str.ensures.value (sym c.is_among.ensures ∙ c.if-is_among.false)
    ∙ c.loop-word.invariant
    ∙ ap (λ words. is_some (items_of known (map string_bytes words))) c.iter-left.ensures.rest

pub returns-then-not-is_among : goal.returns-then-not-is_among
returns-then-not-is_among c =
    let known = known_names c.args.names.now in
    at_refused string_bytes known _ _ _ _ _ _ c.in-Some.ensures.steps c.in-Some-next.ensures.steps c.as_str.ensures.value (sym c.is_among.ensures ∙ c.if-is_among.false) (
    elim c.then-not-is_among.branch [
      | then-not-is_among-via-then-not-is_among w ↦
          inl (ap (is_among known.options) (sym c.as_str-in-Some.ensures.value) ∙ sym c.is_among-in-Some.ensures ∙ w.if-not-is_among.true)
      | then-not-is_among-via-else-not-is_among+then-not-is_value_word w ↦
          inr (ap is_value_word (sym w.as_str-else-not-is_among.ensures.value) ∙ sym w.is_value_word.ensures ∙ w.if-not-is_value_word.true)
    ])
    ∙ c.loop-word.invariant
    ∙ ap (λ words. is_some (items_of known (map string_bytes words))) c.iter-left.ensures.rest

pub loop-word-preserved : goal.loop-word-preserved
loop-word-preserved c =
    after_option string_bytes (known_names c.args.names.now) _ _ _ _ _ _ _ _ c.in-Some.ensures.steps c.in-Some-next.ensures.steps c.as_str.ensures.value c.as_str-in-Some.ensures.value c.as_str-else-not-is_among.ensures.value (sym c.is_among.ensures ∙ c.if-is_among.false) (sym c.is_among-in-Some.ensures ∙ c.if-not-is_among.false) (sym c.is_value_word.ensures ∙ c.if-not-is_value_word.false)
    ∙ c.loop-word.invariant

pub returns : goal.returns
returns c =
    let known = known_names c.args.names.now in
    at_end string_bytes known (iter_rest c.loop-word.left) c.in_default.ensures.steps.0
    ∙ c.loop-word.invariant
    ∙ ap (λ words. is_some (items_of known (map string_bytes words))) c.iter-left.ensures.rest
