-- What holds of each world still holds after an event.
use Rattle.std.proofs.Common.{ℕ, ◌≡◌, ◌<◌, ◌≤◌, ◌+◌, ◌∙◌, sym, ap, refl, subst, List, [], ◌∷◌, ◌++◌, length, false, inl, inr, arith, All}
use Rattle.std.proofs.lemmas.Bool.{cases_eq}
use Rattle.std.proofs.lemmas.List.{length_push, length-map}
use Rattle.std.proofs.lemmas.List.Elements.{All-nil, All-map, All-push, All-from_get_or}
use Rattle.bats_model.specs.Session.{SessionData}
use Rattle.bats_model.specs.PacketFile.{HasShape}
use Rattle.bats_batch.specs.Held.{HeldData}
use Rattle.bats_relay.specs.Mixer.{MixerData, sent_of, HasSentOne}
use Rattle.bats_model.specs.Agreement.{IsFile}
use Rattle.bats_world.specs.World.{max_pool, IsLink}
use Rattle.bats_world.specs.Standing.{WorldData, IsTableOf, relay_at}
use Rattle.bats_world.specs.steps.Relays.{new_relay, new_relays}
use Rattle.bats_world.proofs.LinkLemmas.{no-return}
use Rattle.bats_world.specs.steps.Places.{ChangesAt}
use Rattle.bats_world.specs.steps.Inside.{IsWorld}
use Rattle.bats_world.specs.declared.made.Made.{Made}

abbrev no_relay : MixerData
no_relay = record {
  held = record {
    session = record { m = 0; t = 0; file_length = 0; table = 0; systematic = false; seed = [] };
    batches = [];
  };
  seed = [];
  counts = [];
}

-- what holds of each relay, by what holds of the one that has changed
All-changed : (P : MixerData → Type 0) (place : ℕ) (old new : List MixerData) → ChangesAt place old new
    → All P old → P (relay_at new place) → All P new
All-changed P place old new changes all own =
    All-from_get_or P new no_relay (λ i within. elim (cases_eq i place) [
      | inl e ↦ subst (λ (n : ℕ). P (relay_at new n)) (sym e) own
      | inr differ ↦ subst P (sym (changes.others i differ)) (all i no_relay (omega (arith, within, changes.count)))
    ])

module _ (world : WorldData) (is : IsWorld world) where
  abbrev with_pool : List MixerData → Made → WorldData
  with_pool relays made = record {
    session = world.session;
    file = world.file;
    relays = relays;
    linked = world.linked;
    pool = world.pool ++ made ∷ [];
    sink = world.sink;
  }

  IsWorld-made : (relays : List MixerData) (made : Made) → length world.pool < max_pool → length relays ≡ length world.relays
      → All (λ (relay : MixerData). relay.held.session ≡ world.session) relays
      → All (λ (relay : MixerData). (batch : ℕ) → sent_of relay batch ≤ length world.pool + 1) relays
      → HasShape world.session made.packet → made.maker ≤ length world.relays → IsWorld (with_pool relays made)
  IsWorld-made relays made room size sessions sent shape maker = record {
    file = is.file;
    few = omega (arith, size, is.few);
    sessions = sessions;
    sent = λ k d within batch. omega (arith, sent k d within batch, length_push world.pool made);
    table = is.table;
    one_way = is.one_way;
    room = omega (arith, room, length_push world.pool made);
    shapes = All-push (λ (one : Made). HasShape world.session one.packet) world.pool made is.shapes shape;
    makers = All-push (λ (one : Made). one.maker ≤ length relays) world.pool made
        (λ k d within. omega (arith, is.makers k d within, size)) (omega (arith, maker, size));
    sink = is.sink;
  }

  -- the source has made a packet
  pub IsWorld-sent : (made : Made) → length world.pool < max_pool → HasShape world.session made.packet
      → made.maker ≤ length world.relays → IsWorld (with_pool world.relays made)
  IsWorld-sent made room shape maker =
      IsWorld-made world.relays made room refl is.sessions (λ k d within batch. omega (arith, is.sent k d within batch)) shape maker

  -- a relay has made one
  pub IsWorld-mixed : (relays : List MixerData) (made : Made) (place batch : ℕ) → length world.pool < max_pool
      → place < length world.relays → ChangesAt place world.relays relays
      → HasSentOne batch (relay_at world.relays place) (relay_at relays place)
      → HasShape (relay_at world.relays place).held.session made.packet → made.maker ≤ length world.relays
      → IsWorld (with_pool relays made)
  IsWorld-mixed relays made place batch room within changes one shape maker =
      let session : (relay_at world.relays place).held.session ≡ world.session = is.sessions place no_relay within in
      IsWorld-made relays made room changes.count
      (All-changed (λ (relay : MixerData). relay.held.session ≡ world.session) place world.relays relays changes is.sessions
      (ap (λ (h : HeldData). h.session) one.held ∙ session))
      (All-changed (λ (relay : MixerData). (b : ℕ) → sent_of relay b ≤ length world.pool + 1) place world.relays relays changes
      (λ k d there b. omega (arith, is.sent k d there b))
      (λ b. elim (cases_eq b batch) [
        | inl e ↦ subst (λ (n : ℕ). sent_of (relay_at relays place) n ≤ length world.pool + 1) (sym e)
            (omega (arith, one.own, is.sent place no_relay within batch))
        | inr differ ↦ omega (arith, one.others b differ, is.sent place no_relay within b)
      ]))
      (subst (λ (s : SessionData). HasShape s made.packet) session shape) maker

  -- a relay was given a packet
  pub IsWorld-given : (relays : List MixerData) (place : ℕ) → place < length world.relays → ChangesAt place world.relays relays
      → (relay_at relays place).held.session ≡ (relay_at world.relays place).held.session
      → ((batch : ℕ) → sent_of (relay_at relays place) batch ≡ sent_of (relay_at world.relays place) batch)
      → IsWorld (record {
        session = world.session;
        file = world.file;
        relays = relays;
        linked = world.linked;
        pool = world.pool;
        sink = world.sink;
      })
  IsWorld-given relays place within changes session sent = record {
    file = is.file;
    few = omega (arith, changes.count, is.few);
    sessions = All-changed (λ (relay : MixerData). relay.held.session ≡ world.session) place world.relays relays changes is.sessions
        (session ∙ is.sessions place no_relay within);
    sent = All-changed (λ (relay : MixerData). (b : ℕ) → sent_of relay b ≤ length world.pool) place world.relays relays changes is.sent
        (λ b. omega (arith, sent b, is.sent place no_relay within b));
    table = is.table;
    one_way = is.one_way;
    room = is.room;
    shapes = is.shapes;
    makers = λ k d there. omega (arith, is.makers k d there, changes.count);
    sink = is.sink;
  }

-- before any event
pub IsWorld-opening : (seeds : List (List ℕ)) (links : List (ℕ × ℕ)) (world : WorldData) → IsFile world.session world.file
    → length seeds ≤ 16 → All (IsLink (length seeds)) links → world.relays ≡ new_relays world.session seeds
    → IsTableOf links world.linked → world.pool ≡ [] → world.sink.held.session ≡ world.session → IsWorld world
IsWorld-opening seeds links world f few are relays table pool sink = record {
  file = f;
  few = omega (arith, few, ap (λ (r : List MixerData). length r) relays, length-map seeds (new_relay world.session));
  sessions = subst (All (λ (relay : MixerData). relay.held.session ≡ world.session)) (sym relays)
      (All-map (λ (relay : MixerData). relay.held.session ≡ world.session) (new_relay world.session) seeds (λ k d within. refl));
  sent = subst (All (λ (relay : MixerData). (batch : ℕ) → sent_of relay batch ≤ length world.pool)) (sym relays)
      (All-map (λ (relay : MixerData). (batch : ℕ) → sent_of relay batch ≤ length world.pool) (new_relay world.session) seeds
      (λ k d within batch. omega arith));
  table = table.size;
  one_way = no-return (length seeds) links world.linked are table;
  room = omega (arith, ap (λ (p : List Made). length p) pool);
  shapes = subst (All (λ (made : Made). HasShape world.session made.packet)) (sym pool)
      (All-nil (λ (made : Made). HasShape world.session made.packet));
  makers = subst (All (λ (made : Made). made.maker ≤ length world.relays)) (sym pool)
      (All-nil (λ (made : Made). made.maker ≤ length world.relays));
  sink = sink;
}
