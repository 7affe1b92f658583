use Rattle.std.proofs.Common.{string_bytes, map, sym, ap, subst, ◌∙◌}
use Rattle.clap.specs.Simple.{App, HasMatchesOf}
use Rattle.clap.specs.Takes.{takes}
use Rattle.bats_words.specs.Answer.{IsAnswer}
use Rattle.bats_words.specs.WordItems.{read_items}
use Rattle.bats_words.specs.Words.{trial_of, trial_names}
use Rattle.bats_words.specs.steps.Rules.{trial_app}
use Rattle.bats_words.proofs.WordLookups.{some_of}
use Rattle.bats_words.proofs.CommandWords.{trial_shape, trial-fits, trial_of-items, finds-items, given_answer, memory_answer, read_by-items, read_by-none, takes-words}
use Rattle.bats_words.proofs.words.networks.trial.Goals as goal

pub returns-then-not-are_read : goal.returns-then-not-are_read
returns-then-not-are_read c = read_by-none trial_names trial_of (map string_bytes c.args.words.now) (sym c.are_read.ensures ∙ c.if-not-are_read.true)

pub returns-in_err-matches : goal.returns-in_err-matches
returns-in_err-matches c =
    let words = map string_bytes c.args.words.now in
    let read = sym c.are_read.ensures ∙ c.if-not-are_read.false in
    let taken = takes-words trial_names trial_app trial_shape trial-fits words read in
    memory_answer _ _ _ (c.in_err-matches.ensures.passes (ap (λ (app : App). takes app words) c.in_ok-trial_rules.ensures ∙ taken)) c.from_residual-in_err-matches.ensures.1

pub returns : goal.returns
returns c =
    let words = map string_bytes c.args.words.now in
    let r = some_of (read_items trial_names words) (sym c.are_read.ensures ∙ c.if-not-are_read.false) in
    let has = subst (λ (app : App). HasMatchesOf app words c.in_ok-matches.matches) c.in_ok-trial_rules.ensures c.in_ok-matches.ensures.matches in
    let finds = finds-items trial_names trial_app trial_shape trial-fits words r.0 r.1 c.in_ok-matches.matches has in
    let same = read_by-items trial_names trial_of words r.0 r.1 ∙ sym (trial_of-items c.in_ok-matches.matches r.0 finds) ∙ sym c.trial_of.ensures in
    subst (IsAnswer _) (sym c.ok_or.ensures.value) (given_answer _ _ same)
