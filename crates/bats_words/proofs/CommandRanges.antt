-- The values of the command that words are stand in their ranges.
use Rattle.std.proofs.Common.{ℕ, ◌≡◌, ◌≤◌, ◌<◌, ◌*◌, Bool, true, false, not, ◌&&◌, cond, List, [], ◌∷◌, length, sym, ◌∙◌, subst, Option, None, Some, Result, Ok, Err, arith, rules}
use Rattle.std.proofs.lemmas.Bool.Decides.{nat_tests}
use Rattle.std.specs.Prelude.{codes, nat_le, IfOk}
use Rattle.std.specs.Option.{option_and_then}
use Rattle.std.specs.Result.{result_ok}
use Rattle.std.proofs.lemmas.Option.{cond_some, option_and_then_some}
use Rattle.std.proofs.lemmas.List.Elements.{All-from_get_or}
use Rattle.std.specs.Str.Parse.{digits_value}
use Rattle.hex.specs.Hex.{decode_sized}
use Rattle.hex.specs.declared.error.FromHexError.{FromHexError}
use Rattle.hex.proofs.HexLemmas.{decode_sized-ok, decode_sized-twice, decode_of-ok}
use Rattle.bats_words.specs.declared.command.Command.{Command}
use Rattle.bats_words.specs.declared.command.Command.TheVariants.{Source, Relay, Sink, Replay, Check, Show, Trial, Help}
use Rattle.bats_words.specs.declared.words_end.WordsEnd.{WordsEnd}
use Rattle.bats_words.specs.Answer.{IsAnswer}
use Rattle.bats_words.specs.Options.{IsSeed, InRanges}
use Rattle.bats_words.specs.WordItems.{KnownNames, read_items, value_of, is_there}
use Rattle.bats_words.specs.WordValues.{number_in, is_number_word, rule_of, seed_of}
use Rattle.bats_words.specs.Words.{command_of, read_by, read_or, source_of, source_names, relay_of, relay_names, sink_of, sink_names, replay_of, replay_names, check_of, check_names, show_of, show_names, trial_of, trial_names, help_of, help_names}
use Rattle.bats_words.proofs.CommandWords.{Builder}

-- ---- values

in_range : (b : Bool) (low v high n : ℕ) → cond (b && nat_le low v && nat_le v high) (Some v) None ≡ Some n → (low ≤ n) × (n ≤ high)
in_range b low v high n h =
    let w = cond_some (b && nat_le low v && nat_le v high) v n h in
    let l : low ≤ v = grind (arith, nat_tests, rules, w.0) in
    let r : v ≤ high = grind (arith, nat_tests, rules, w.0) in
    (omega (arith, w.1), omega (arith, w.1))

number_in-range : (low high : ℕ) (word : List ℕ) (n : ℕ) → number_in low high word ≡ Some n → (low ≤ n) × (n ≤ high)
unfolding number_in
number_in-range low high word n h = in_range (is_number_word word) low (digits_value 10 word) high n h

-- a value that is read, or a default in the range
read_or-range : (default low high n : ℕ) (word : Option (List ℕ)) → low ≤ default → default ≤ high → read_or default (number_in low high) word ≡ Some n
    → (low ≤ n) × (n ≤ high)
read_or-range default low high n None l r h = let same : default ≡ n = cc in (omega arith, omega arith)
read_or-range default low high n (Some word) l r h = number_in-range low high word n h

option_range : (low high n : ℕ) (word : Option (List ℕ)) → option_and_then (number_in low high) word ≡ Some n → (low ≤ n) × (n ≤ high)
option_range low high n None h = cc
option_range low high n (Some word) h = number_in-range low high word n h

ok_of : (r : Result (List ℕ) FromHexError) (x : List ℕ) → result_ok r ≡ Some x → r ≡ Ok x
ok_of (Ok y) x h = cc
ok_of (Err e) x h = cc

seed_of-seed : (word seed : List ℕ) → seed_of word ≡ Some seed → IsSeed seed
unfolding seed_of
seed_of-seed word seed h =
    let ok : decode_sized word 16 ≡ Ok seed = ok_of (decode_sized word 16) seed h in
    let size : length word ≡ 2 * 16 = decode_sized-ok word 16 seed ok in
    let whole = decode_of-ok word seed (sym (decode_sized-twice word 16 size) ∙ ok) in
    record { size = omega (arith, size, whole.2); bytes = All-from_get_or (λ byte. byte < 256) seed 0 (λ i within. whole.3 i) }

option_seed : (word : Option (List ℕ)) (seed : List ℕ) → option_and_then seed_of word ≡ Some seed → IsSeed seed
option_seed None seed h = cc
option_seed (Some word) seed h = seed_of-seed word seed h

-- ---- each command

-- each command that the builder gives has its values in their ranges
abbrev pub IsWithin : Builder → Type 0
IsWithin build = (value : List ℕ → Option (List ℕ)) (flag : List ℕ → Bool) (command : Command)
    → build value flag ≡ Some command → InRanges command

pub source_of-ranges : IsWithin source_of
unfolding source_of
source_of-ranges value flag command h =
    option_and_then_some _ (option_and_then (number_in 1 32) (value (codes "--m"))) command h (λ m m_is rest.
    option_and_then_some _ (option_and_then (number_in 1 2048) (value (codes "--t"))) command rest (λ t t_is rest'.
    option_and_then_some _ (option_and_then seed_of (value (codes "--seed"))) command rest' (λ seed seed_is rest2.
    option_and_then_some _ (option_and_then (number_in 0 32767) (value (codes "--batches"))) command rest2 (λ batches batches_is rest3.
    option_and_then_some _ (read_or 0 (number_in 0 1) (value (codes "--table"))) command rest3 (λ table table_is rest4.
    option_and_then_some _ (read_or 0 (number_in 0 4000000000) (value (codes "--from"))) command rest4 (λ first first_is rest5.
    let same : Source m t table (flag (codes "--systematic")) seed first batches ≡ command = cc in
    let rm = option_range 1 32 m (value (codes "--m")) m_is in
    let rt = option_range 1 2048 t (value (codes "--t")) t_is in
    let rb = option_range 0 32767 batches (value (codes "--batches")) batches_is in
    let rtab = read_or-range 0 0 1 table (value (codes "--table")) (omega arith) (omega arith) table_is in
    let rf = read_or-range 0 0 4000000000 first (value (codes "--from")) (omega arith) (omega arith) first_is in
    subst (λ (c : Command). InRanges c) same (
      record {
        m_low = rm.0;
        m_high = rm.1;
        t_low = rt.0;
        t_high = rt.1;
        table_high = omega (arith, rtab.1);
        first_high = rf.1;
        batches_high = rb.1;
      },
      option_seed (value (codes "--seed")) seed seed_is,
    )))))))

pub relay_of-ranges : IsWithin relay_of
unfolding relay_of
relay_of-ranges value flag command h =
    option_and_then_some _ (option_and_then seed_of (value (codes "--seed"))) command h (λ seed seed_is rest.
    option_and_then_some _ (option_and_then rule_of (value (codes "--rule"))) command rest (λ extra extra_is rest'.
    option_and_then_some _ (option_and_then (number_in 0 64) (value (codes "--count"))) command rest' (λ count count_is rest2.
    let same : Relay seed extra count ≡ command = cc in
    let r = option_range 0 64 count (value (codes "--count")) count_is in
    subst (λ (c : Command). InRanges c) same (record { high = r.1 }, option_seed (value (codes "--seed")) seed seed_is))))

pub sink_of-ranges : IsWithin sink_of
unfolding sink_of
sink_of-ranges value flag command h =
    option_and_then_some _ (read_or 1 (number_in 1 64) (value (codes "--workers"))) command h (λ workers workers_is rest.
    let same : Sink workers (flag (codes "--both")) ≡ command = cc in
    let r = read_or-range 1 1 64 workers (value (codes "--workers")) (omega arith) (omega arith) workers_is in
    subst (λ (c : Command). InRanges c) same (record { low = r.0; high = r.1 }))

pub replay_of-ranges : IsWithin replay_of
unfolding replay_of
replay_of-ranges value flag command h =
    option_and_then_some _ (read_or 1 (number_in 1 64) (value (codes "--workers"))) command h (λ workers workers_is rest.
    let both = flag (codes "--both") in
    let pool = flag (codes "--pool") in
    let same : Replay workers both pool ≡ command = (cond_some (not (both && pool)) (Replay workers both pool) command rest).1 in
    let r = read_or-range 1 1 64 workers (value (codes "--workers")) (omega arith) (omega arith) workers_is in
    subst (λ (c : Command). InRanges c) same (record { low = r.0; high = r.1 }))

pub check_of-ranges : IsWithin check_of
unfolding check_of
check_of-ranges value flag command h =
    option_and_then_some _ (read_or 1 (number_in 1 64) (value (codes "--workers"))) command h (λ workers workers_is rest.
    let same : Check workers ≡ command = cc in
    let r = read_or-range 1 1 64 workers (value (codes "--workers")) (omega arith) (omega arith) workers_is in
    subst (λ (c : Command). InRanges c) same (record { low = r.0; high = r.1 }))

pub show_of-ranges : IsWithin show_of
unfolding show_of
show_of-ranges value flag command h =
    let same : Show ≡ command = cc in
    subst (λ (c : Command). InRanges c) same tt

pub trial_of-ranges : IsWithin trial_of
unfolding trial_of
trial_of-ranges value flag command h =
    option_and_then_some _ (option_and_then (number_in 0 18446744073709551615) (value (codes "--number"))) command h (λ number number_is rest0.
    option_and_then_some _ (option_and_then (number_in 1 32) (value (codes "--m"))) command rest0 (λ m m_is rest1.
    option_and_then_some _ (option_and_then (number_in 1 2048) (value (codes "--t"))) command rest1 (λ t t_is rest2.
    option_and_then_some _ (option_and_then (number_in 0 8388608) (value (codes "--length"))) command rest2 (λ file_length file_length_is rest3.
    option_and_then_some _ (option_and_then (number_in 0 8192) (value (codes "--batches"))) command rest3 (λ batches batches_is rest4.
    option_and_then_some _ (option_and_then (number_in 0 8) (value (codes "--relays"))) command rest4 (λ relays relays_is rest5.
    option_and_then_some _ (option_and_then (number_in 0 100) (value (codes "--loss"))) command rest5 (λ loss loss_is rest6.
    option_and_then_some _ (read_or 0 (number_in 0 1) (value (codes "--table"))) command rest6 (λ table table_is rest7.
    option_and_then_some _ (read_or 1 (number_in 1 64) (value (codes "--workers"))) command rest7 (λ workers workers_is rest8.
    let trial = Trial number m t table file_length batches relays loss workers in
    let w = cond_some (nat_le (batches * m) 8192 && nat_le file_length (4096 * t)) trial command rest8 in
    let same : trial ≡ command = w.1 in
    let few_packets : batches * m ≤ 8192 = grind (arith, nat_tests, rules, w.0) in
    let few_symbols : file_length ≤ 4096 * t = grind (arith, nat_tests, rules, w.0) in
    let rm = option_range 1 32 m (value (codes "--m")) m_is in
    let rt = option_range 1 2048 t (value (codes "--t")) t_is in
    let rl = option_range 0 8388608 file_length (value (codes "--length")) file_length_is in
    let rb = option_range 0 8192 batches (value (codes "--batches")) batches_is in
    let rr = option_range 0 8 relays (value (codes "--relays")) relays_is in
    let rloss = option_range 0 100 loss (value (codes "--loss")) loss_is in
    let rtab = read_or-range 0 0 1 table (value (codes "--table")) (omega arith) (omega arith) table_is in
    let workers_range = read_or-range 1 1 64 workers (value (codes "--workers")) (omega arith) (omega arith) workers_is in
    subst (λ (c : Command). InRanges c) same (
      record {
        m_low = rm.0;
        m_high = rm.1;
        t_low = rt.0;
        t_high = rt.1;
        table_high = omega (arith, rtab.1);
        few_bytes = rl.1;
        few_symbols = few_symbols;
        batches_high = rb.1;
        few_packets = few_packets;
        relays_high = rr.1;
        loss_high = rloss.1;
      },
      record { low = workers_range.0; high = workers_range.1 },
    ))))))))))

pub help_of-ranges : IsWithin help_of
unfolding help_of
help_of-ranges value flag command h =
    let same : Help ≡ command = cc in
    subst (λ (c : Command). InRanges c) same tt

-- ---- every command

read_by-ranges : (known : KnownNames) (build : Builder) → IsWithin build → (words : List (List ℕ)) (command : Command)
    → read_by known build words ≡ Some command → InRanges command
read_by-ranges known build within words command h =
    option_and_then_some _ (read_items known words) command h (λ items items_is rest.
    within (λ name. value_of name items) (λ name. is_there name items) command rest)

by_choice : (b : Bool) (o p : Option Command) (command : Command) → (o ≡ Some command → InRanges command)
    → (p ≡ Some command → InRanges command) → cond b o p ≡ Some command → InRanges command
by_choice true o p command first other h = first h
by_choice false o p command first other h = other h

no_command : (command : Command) → None ≡ Some command → InRanges command
no_command command h = cc

-- the command that words are has its values in their ranges
pub command_of-ranges : (words : List (List ℕ)) (command : Command) → command_of words ≡ Some command → InRanges command
unfolding command_of
command_of-ranges [] command h = cc
command_of-ranges (name ∷ words) command h =
    by_choice _ _ _ command (read_by-ranges source_names source_of source_of-ranges words command) (
    by_choice _ _ _ command (read_by-ranges relay_names relay_of relay_of-ranges words command) (
    by_choice _ _ _ command (read_by-ranges sink_names sink_of sink_of-ranges words command) (
    by_choice _ _ _ command (read_by-ranges replay_names replay_of replay_of-ranges words command) (
    by_choice _ _ _ command (read_by-ranges check_names check_of check_of-ranges words command) (
    by_choice _ _ _ command (read_by-ranges show_names show_of show_of-ranges words command) (
    by_choice _ _ _ command (read_by-ranges trial_names trial_of trial_of-ranges words command) (
    by_choice _ _ _ command (read_by-ranges help_names help_of help_of-ranges words command) (no_command command)))))))) h

-- so has what the code answers
pub command_of-within : (words : List (List ℕ)) (result : Result Command WordsEnd) → IsAnswer (command_of words) result → IfOk result InRanges
command_of-within words (Ok command) h = command_of-ranges words command h
command_of-within words (Err end) h = tt
