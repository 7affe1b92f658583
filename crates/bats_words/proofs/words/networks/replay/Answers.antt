use Rattle.std.proofs.Common.{string_bytes, map, sym, ap, subst, ◌∙◌}
use Rattle.clap.specs.Simple.{App, HasMatchesOf}
use Rattle.clap.specs.Takes.{takes}
use Rattle.bats_words.specs.Answer.{IsAnswer}
use Rattle.bats_words.specs.WordItems.{read_items}
use Rattle.bats_words.specs.Words.{replay_of, replay_names}
use Rattle.bats_words.specs.steps.Rules.{replay_app}
use Rattle.bats_words.proofs.WordLookups.{some_of}
use Rattle.bats_words.proofs.CommandWords.{replay_shape, replay-fits, replay_of-items, replay-both, replay-pool, finds-items, given_answer, memory_answer, read_by-items, read_by-none, takes-words}
use Rattle.bats_words.proofs.words.networks.replay.Goals as goal

pub returns-then-not-are_read : goal.returns-then-not-are_read
returns-then-not-are_read c = read_by-none replay_names replay_of (map string_bytes c.args.words.now) (sym c.are_read.ensures ∙ c.if-not-are_read.true)

pub returns-in_err-matches : goal.returns-in_err-matches
returns-in_err-matches c =
    let words = map string_bytes c.args.words.now in
    let read = sym c.are_read.ensures ∙ c.if-not-are_read.false in
    let taken = takes-words replay_names replay_app replay_shape replay-fits words read in
    memory_answer _ _ _ (c.in_err-matches.ensures.passes (ap (λ (app : App). takes app words) c.in_ok-replay_rules.ensures ∙ taken)) c.from_residual-in_err-matches.ensures.1

pub replay_of-requires-clause-both : goal.replay_of-requires-clause-both
replay_of-requires-clause-both c =
    let words = map string_bytes c.args.words.now in
    let r = some_of (read_items replay_names words) (sym c.are_read.ensures ∙ c.if-not-are_read.false) in
    let has = subst (λ (app : App). HasMatchesOf app words c.in_ok-matches.matches) c.in_ok-replay_rules.ensures c.in_ok-matches.ensures.matches in
    let finds = finds-items replay_names replay_app replay_shape replay-fits words r.0 r.1 c.in_ok-matches.matches has in
    replay-both c.in_ok-matches.matches r.0 finds

pub replay_of-requires-clause-pool : goal.replay_of-requires-clause-pool
replay_of-requires-clause-pool c =
    let words = map string_bytes c.args.words.now in
    let r = some_of (read_items replay_names words) (sym c.are_read.ensures ∙ c.if-not-are_read.false) in
    let has = subst (λ (app : App). HasMatchesOf app words c.in_ok-matches.matches) c.in_ok-replay_rules.ensures c.in_ok-matches.ensures.matches in
    let finds = finds-items replay_names replay_app replay_shape replay-fits words r.0 r.1 c.in_ok-matches.matches has in
    replay-pool c.in_ok-matches.matches r.0 finds

pub returns : goal.returns
returns c =
    let words = map string_bytes c.args.words.now in
    let r = some_of (read_items replay_names words) (sym c.are_read.ensures ∙ c.if-not-are_read.false) in
    let has = subst (λ (app : App). HasMatchesOf app words c.in_ok-matches.matches) c.in_ok-replay_rules.ensures c.in_ok-matches.ensures.matches in
    let finds = finds-items replay_names replay_app replay_shape replay-fits words r.0 r.1 c.in_ok-matches.matches has in
    let same = read_by-items replay_names replay_of words r.0 r.1 ∙ sym (replay_of-items c.in_ok-matches.matches r.0 finds) ∙ sym c.replay_of.ensures in
    subst (IsAnswer _) (sym c.ok_or.ensures.value) (given_answer _ _ same)
