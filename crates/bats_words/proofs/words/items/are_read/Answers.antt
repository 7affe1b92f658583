use Rattle.std.proofs.Common.{◌&&◌, string_bytes, map, sym, ap, ◌∙◌}
use Rattle.bats_words.specs.WordLookup.{come_once_among, known_names, texts_of}
use Rattle.bats_words.proofs.WordLookups.{read_items-some, read_items-none}
use Rattle.bats_words.proofs.words.items.are_read.Goals as goal
use Rattle.bats_words.proofs.words.items.are_read.Goals.{then-are_items, else-are_items}

pub returns-then-come_once : goal.returns-then-come_once
returns-then-come_once c =
    elim c.if-are_items.branch [
      | then-are_items w ↦
          let tested = sym w.value-is ∙ c.if-come_once.true in
          let flags = c.come_once-then-come_once.result in
          ap (λ b. b && flags) (sym tested)
          ∙ ap (λ b. b && flags) w.come_once.ensures
          ∙ ap (λ b. come_once_among (texts_of c.args.names.now.options.now) (map string_bytes c.args.words.now) && b) c.come_once-then-come_once.ensures
          ∙ read_items-some (known_names c.args.names.now) (map string_bytes c.args.words.now) c.requires (sym c.are_items.ensures ∙ w.if-are_items.true)
      | else-are_items w ↦ cc
    ]

pub returns-else-come_once : goal.returns-else-come_once
returns-else-come_once c =
    elim c.if-are_items.branch [
      | then-are_items w ↦
          let names = c.args.names.now in
          let words = map string_bytes c.args.words.now in
          c.if-come_once.false
          ∙ ap (λ b. b && come_once_among (texts_of names.flags.now) words) (sym (sym w.value-is ∙ c.if-come_once.false) ∙ w.come_once.ensures)
          ∙ read_items-some (known_names names) words c.requires (sym c.are_items.ensures ∙ w.if-are_items.true)
      | else-are_items w ↦
          w.value-is ∙ w.if-are_items.false
          ∙ read_items-none (known_names c.args.names.now) (map string_bytes c.args.words.now) (sym c.are_items.ensures ∙ w.if-are_items.false)
    ]
