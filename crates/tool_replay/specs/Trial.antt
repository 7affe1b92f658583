-- What `trial` sends over a chain of relays, how it ends, and what it promises.
use Rattle.std.specs.Prelude.{ℕ, zero, suc, ◌≡◌, ◌+◌, nat_lt, Bool, false, List, [], ◌∷◌, ◌++◌, length, map, flat_map, replicate, sum_by, codes, Some, if◌then◌else◌}
use Rattle.std.specs.Fmt.{decimal}
use Rattle.std.specs.Int.{w32, w64, to_be_bytes}
use Rattle.std.specs.List.{range_with_len}
use Rattle.bats_model.specs.Key.{key_word, pick, seeded_key}
use Rattle.bats_model.specs.Kept.{kept_of, kept_count}
use Rattle.bats_model.specs.Peeling.{IsInactiveList, largest_degree, payload_bound}
use Rattle.bats_model.specs.Relay.{relay_outputs}
use Rattle.bats_model.specs.RightAnswer.{IsRightAnswer}
use Rattle.bats_model.specs.Session.{SessionData, symbols_of}
use Rattle.bats_model.specs.declared.answer.Answer.{Answer}
use Rattle.bats_model.specs.declared.answer.Answer.TheVariants.{File, Inconsistent, NeedMore}
use Rattle.bats_model.specs.declared.packet.Packet.{Packet}
use Rattle.bats_relay.specs.Rule.{fixed_count}
use Rattle.bats_script.specs.Trial.{trial_file, trial_seed}
use Rattle.bats_words.specs.declared.trial_options.TrialOptions.{TrialOptions}
use Rattle.bats_world.specs.Standing.{IsHonestAnswer}
use Rattle.bats_world.specs.World.{source_packet}
use Rattle.tool_run.specs.Ending.{Ending, untouched}
use Rattle.tool_run.specs.Promise.{Promise, takes_no_input}
use Rattle.tool_sink.specs.Answers.{answer_status}

-- ---- what the trial's number gives

-- the session, which isn't systematic
abbrev pub trial_session : TrialOptions → SessionData
trial_session options = record {
  m = options.m;
  t = options.t;
  file_length = options.length;
  table = options.table;
  systematic = false;
  seed = trial_seed options.number;
}

-- the seed of a relay: the trial's number in 8 bytes and the relay's own in 4, the highest first, and 4 zero bytes
abbrev pub relay_seed : ℕ → ℕ → List ℕ
relay_seed number relay = to_be_bytes w64 number ++ (to_be_bytes w32 relay ++ replicate 4 0)

-- the key of the losses on a hop
abbrev pub loss_key : ℕ → ℕ → List ℕ
loss_key number hop = seeded_key (trial_seed number) hop 3 0

-- whether the packet at this place of a hop, counted from 0 in the order sent, is lost
abbrev pub is_lost : TrialOptions → ℕ → ℕ → Bool
is_lost options hop place = nat_lt (pick (key_word (loss_key options.number hop) place) 100) options.loss

-- ---- what is sent and what arrives

-- the packets that arrive of those sent on a hop, the first of which has this place
unfoldable pub surviving : TrialOptions → ℕ → ℕ → List Packet → List Packet
surviving options hop place [] = []
surviving options hop place (packet ∷ packets) =
    if is_lost options hop place then surviving options hop (place + 1) packets
    else packet ∷ surviving options hop (place + 1) packets

-- what the source sends of a batch: its coded packets, columns rising
unfoldable pub source_batch : TrialOptions → ℕ → List Packet
source_batch options batch =
    map (source_packet (trial_session options) (trial_file options.number options.length) batch) (range_with_len 0 options.m)

-- what a relay sends of a batch that has taken these packets: as many outputs as a batch has packets, where it holds one
unfoldable pub relay_batch : TrialOptions → ℕ → List Packet → ℕ → List Packet
relay_batch options relay packets batch =
    relay_outputs (trial_session options) (relay_seed options.number relay) batch 0
    (fixed_count options.m (length (kept_of batch packets))) (kept_of batch packets)

-- what is sent of all batches, numbers rising
abbrev pub of_batches : TrialOptions → (ℕ → List Packet) → List Packet
of_batches options sent = flat_map sent (range_with_len 0 options.batches)

-- what arrives at the end of a hop. Hop 0 leads from the source, and hop h from relay h, which has taken what arrived there.
unfoldable pub arrived : TrialOptions → ℕ → List Packet
arrived options zero = surviving options 0 0 (of_batches options (source_batch options))
arrived options (suc hop) =
    surviving options (hop + 1) 0 (of_batches options (relay_batch options (hop + 1) (arrived options hop)))

-- what arrives at the sink, behind the last relay
abbrev pub sink_arrivals : TrialOptions → List Packet
sink_arrivals options = arrived options options.relays

-- ---- how it ends

-- the end of the line
abbrev pub answer_words : Answer → List ℕ
answer_words (File file) = codes "answer=file\n"
answer_words Inconsistent = codes "answer=inconsistent\n"
answer_words (NeedMore at_symbol first second) = codes "answer=need-more open=" ++ (decimal at_symbol ++ codes "\n")

-- the line, before the answer
abbrev pub trial_counts : ℕ → ℕ → ℕ → ℕ → ℕ → ℕ → List ℕ
trial_counts number symbols batches arrivals kept inactive =
    codes "trial number=" ++ (decimal number ++ (codes " symbols=" ++ (decimal symbols ++ (codes " batches=" ++ (decimal batches
    ++ (codes " arrived=" ++ (decimal arrivals ++ (codes " kept=" ++ (decimal kept ++ (codes " inactive="
    ++ (decimal inactive ++ codes " ")))))))))))

-- the ending of an answer, with so many inactive symbols: there is one line, and it is the output
abbrev pub trial_ending : TrialOptions → ℕ → Answer → Ending
trial_ending options inactive answer = record {
  status = answer_status answer;
  output = trial_counts options.number (symbols_of (trial_session options)) options.batches (length (sink_arrivals options))
      (kept_count (sink_arrivals options)) inactive ++ answer_words answer;
  line = [];
  reach = untouched;
  work = Some (payload_bound (sum_by (λ hop. length (arrived options hop)) (range_with_len 0 (options.relays + 1))) options.m
      (kept_count (sink_arrivals options)) (largest_degree (trial_session options) (sink_arrivals options)) inactive);
}

-- the ending is that of a right answer to what arrived at the sink, and tells how long the inactive list is. The answer is
-- the trial's file, or need-more.
pub record IsTrialEnding (options : TrialOptions) (ending : Ending) : Type 0 where
  pub answer : Answer
  pub right : IsRightAnswer (trial_session options) (sink_arrivals options) answer
  pub honest : IsHonestAnswer (trial_file options.number options.length) answer
  pub inactive : List ℕ
  pub is_inactive : IsInactiveList (trial_session options) (sink_arrivals options) inactive
  pub ending_is : ending ≡ trial_ending options (length inactive) answer

-- what `trial` promises: it reads nothing, and makes all it needs from its number
abbrev pub trial_promise : TrialOptions → Promise
trial_promise options = takes_no_input (IsTrialEnding options)
