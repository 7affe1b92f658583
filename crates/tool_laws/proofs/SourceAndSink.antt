-- Words that are a command `source`, and then `sink` on what it sends.
use Rattle.std.proofs.Common.{ℕ, ◌≡◌, ◌≤◌, ◌∙◌, inl, inr, sym, ap, refl, subst, Bool, true, List, length, Some}
use Rattle.std.specs.Int.{div_ceil}
use Rattle.std.proofs.lemmas.Bool.{cases_lt}
use Rattle.bats_model.specs.Bytes.{AreBytes}
use Rattle.bats_model.specs.Session.{symbols_of, symbol_count, max_symbols}
use Rattle.bats_words.specs.declared.command.Command.TheVariants as commands
use Rattle.bats_words.specs.declared.source_options.SourceOptions.{SourceOptions}
use Rattle.tool_run.specs.declared.status.Status.TheVariants as statuses
use Rattle.bats_words.specs.Options.{source_options}
use Rattle.tool_source.specs.FileSession.{session_for}
use Rattle.bats_words.specs.Words.{command_of}
use Rattle.tool_run.specs.Ending.{Ending}
use Rattle.tool_source.specs.Source.{source_ending, source_promise}
use Rattle.tool_sink.specs.Sink.{IsSinkEnding, sink_promise}
use Rattle.bats_words.proofs.CommandRanges.{command_of-ranges}
use Rattle.tool_source.proofs.Endings.{source_ending-too_long}
use Rattle.tool_laws.proofs.SentPackets.{Sends}
use Rattle.tool_laws.proofs.RelayedFiles.{limit_not_done}
use Rattle.tool_laws.proofs.GivenBack.{IsFileOrNone, output_given_back}
use Rattle.tool_laws.proofs.AllSymbols.{output_comes_back}

-- a file that is sent isn't too long
not_too_long : (o : SourceOptions) (file : List ℕ) → (source_ending o file).status ≡ statuses.Done
    → symbols_of (session_for o (length file)) ≤ max_symbols
not_too_long o file h = elim (cases_lt max_symbols (symbols_of (session_for o (length file)))) [
  | inl long ↦
      absurd (limit_not_done (sym (ap (λ (x : Ending). x.status) (source_ending-too_long o file long)) ∙ h))
  | inr short ↦ short
]

-- what was sent of a file, as the options ask for
record HasSent (o : SourceOptions) (file : List ℕ) (sent : Ending) : Type 0 where
  sends : Sends o file
  sent_is : sent ≡ source_ending o file

has_sent : (words : List (List ℕ)) (m t table : ℕ) (systematic : Bool) (seed : List ℕ) (first batches : ℕ) (file : List ℕ) (sent : Ending)
    → command_of words ≡ Some (commands.Source m t table systematic seed first batches) → AreBytes file
    → (source_promise (source_options m t table systematic seed first batches)).ends file sent → sent.status ≡ statuses.Done
    → HasSent (source_options m t table systematic seed first batches) file sent
has_sent words m t table systematic seed first batches file sent asked bytes is done =
    let o = source_options m t table systematic seed first batches in
    let within = command_of-ranges words (commands.Source m t table systematic seed first batches) asked in
    record {
      sends = record {
        ranges = within.0;
        seed = within.1;
        bytes = bytes;
        symbols = not_too_long o file (sym (ap (λ (x : Ending). x.status) is) ∙ done);
      };
      sent_is = is;
    }

received : (o : SourceOptions) (both : Bool) (file : List ℕ) (sent ending : Ending) → HasSent o file sent
    → (sink_promise both).ends sent.output ending → IsSinkEnding both (source_ending o file).output ending
received o both file sent ending h is = subst (λ (x : Ending). IsSinkEnding both x.output ending) h.sent_is is

pub given_back : (words : List (List ℕ)) (m t table : ℕ) (systematic : Bool) (seed : List ℕ) (first batches : ℕ) (both : Bool)
    (file : List ℕ) (sent ending : Ending)
    → command_of words ≡ Some (commands.Source m t table systematic seed first batches) → AreBytes file
    → (source_promise (source_options m t table systematic seed first batches)).ends file sent → sent.status ≡ statuses.Done
    → (sink_promise both).ends sent.output ending → IsFileOrNone file ending
given_back words m t table systematic seed first batches both file sent ending asked bytes is done is_after =
    let o = source_options m t table systematic seed first batches in
    let h = has_sent words m t table systematic seed first batches file sent asked bytes is done in
    output_given_back o file both ending h.sends (received o both file sent ending h is_after)

pub comes_back_whole : (words : List (List ℕ)) (m t table : ℕ) (seed : List ℕ) (batches : ℕ) (both : Bool)
    (file : List ℕ) (sent ending : Ending)
    → command_of words ≡ Some (commands.Source m t table true seed 0 batches)
    → batches ≡ div_ceil (symbol_count (length file) t) m → AreBytes file
    → (source_promise (source_options m t table true seed 0 batches)).ends file sent → sent.status ≡ statuses.Done
    → (sink_promise both).ends sent.output ending → (ending.status ≡ statuses.Done) × (ending.output ≡ file)
comes_back_whole words m t table seed batches both file sent ending asked all bytes is done is_after =
    let o = source_options m t table true seed 0 batches in
    let h = has_sent words m t table true seed 0 batches file sent asked bytes is done in
    output_comes_back o file both ending h.sends (record { systematic = refl; first = refl; batches = all })
    (received o both file sent ending h is_after)
