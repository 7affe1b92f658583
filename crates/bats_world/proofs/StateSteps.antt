-- Which state a world stands for after an event.
use Rattle.std.proofs.Common.{ℕ, ◌≡◌, ◌≢◌, ◌<◌, ◌+◌, ◌==◌, ◌&&◌, ◌∙◌, sym, ap, refl, subst, List, [], ◌∷◌, ◌++◌, length, map, get_or, cond, Bool, true, false, inl, inr, arith, length-append, append-nil}
use Rattle.std.specs.List.{filter}
use Rattle.std.proofs.lemmas.Bool.{cases_eq, eq-eqb, ne_eqb}
use Rattle.std.proofs.lemmas.List.{map-append, length-map}
use Rattle.std.proofs.lemmas.List.Elements.{filter-append}
use Rattle.bats_model.specs.Session.{SessionData}
use Rattle.bats_model.specs.declared.packet.Packet.{Packet}
use Rattle.bats_batch.specs.Held.{HeldData}
use Rattle.bats_batch.specs.Held.{StandsFor as HoldsFor}
use Rattle.bats_relay.specs.Mixer.{MixerData, sent_of, HasSentOne}
use Rattle.bats_decode.specs.Decoder.{DecoderData}
use Rattle.bats_decode.specs.Decoder.{StandsFor as DecodesFor}
use Rattle.bats_world.specs.World.{NetworkState, Given, opening, sink_of, received_by, made_count, with_made, with_given}
use Rattle.bats_world.specs.Standing.{WorldData, StandsFor, IsRelayOf, IsTableOf, relay_at}
use Rattle.bats_world.specs.steps.Places.{ChangesAt}
use Rattle.bats_world.specs.declared.made.Made.{Made}
use Rattle.bats_world.specs.steps.Relays.{new_relay, new_relays}
use Rattle.bats_batch.proofs.Offers.{StandsFor-none}
use Rattle.bats_world.proofs.RelayChanges.{relay-new}
use Rattle.bats_world.proofs.LinkLemmas.{and-true, and-left, and-right}

-- ---- counts

one_where : {X : Type 0} (b : Bool) (x : X) → length (cond b (x ∷ []) []) ≡ cond b 1 0
one_where true x = refl
one_where false x = refl

made_count-more : (node batch : ℕ) (pool : List Made) (made : Made)
    → made_count node batch (pool ++ made ∷ []) ≡ made_count node batch pool + cond (made.maker == node && made.packet.batch == batch) 1 0
made_count-more node batch pool made =
    let test : Made → Bool = λ one. one.maker == node && one.packet.batch == batch in
    ap (λ (l : List Made). length l) (filter-append test pool (made ∷ []))
    ∙ (length-append (filter test pool) (cond (test made) (made ∷ []) [])
    ∙ ap (λ (n : ℕ). made_count node batch pool + n) (one_where (test made) made))

packet_where : (b : Bool) (one : Given) → map (λ (g : Given). g.packet) (cond b (one ∷ []) []) ≡ cond b (one.packet ∷ []) []
packet_where true one = refl
packet_where false one = refl

received-more : (node : ℕ) (given : List Given) (one : Given)
    → received_by node (given ++ one ∷ []) ≡ received_by node given ++ cond (one.node == node) (one.packet ∷ []) []
received-more node given one =
    let test : Given → Bool = λ g. g.node == node in
    ap (map (λ (g : Given). g.packet)) (filter-append test given (one ∷ []))
    ∙ (map-append (λ (g : Given). g.packet) (filter test given) (cond (test one) (one ∷ []) [])
    ∙ ap (λ (l : List Packet). received_by node given ++ l) (packet_where (test one) one))

received-own : (node : ℕ) (given : List Given) (one : Given) → one.node ≡ node
    → received_by node (given ++ one ∷ []) ≡ received_by node given ++ one.packet ∷ []
received-own node given one is =
    received-more node given one
    ∙ ap (λ (b : Bool). received_by node given ++ cond b (one.packet ∷ []) []) (eq-eqb one.node node is)

received-other : (node : ℕ) (given : List Given) (one : Given) → one.node ≢ node
    → received_by node (given ++ one ∷ []) ≡ received_by node given
received-other node given one differ =
    received-more node given one
    ∙ (ap (λ (b : Bool). received_by node given ++ cond b (one.packet ∷ []) []) (ne_eqb one.node node differ)
    ∙ append-nil (received_by node given))

-- ---- a packet that was made

pub record HasMade (node : ℕ) (packet : Packet) (place : ℕ) (before after : MixerData) : Type 0 where
  pub held : after.held ≡ before.held
  pub seed : after.seed ≡ before.seed
  pub sent : (batch : ℕ) → sent_of after batch ≡ sent_of before batch + cond (node == place + 1 && packet.batch == batch) 1 0

none-if : (b : Bool) → b ≡ false → cond {A = ℕ} b 1 0 ≡ 0
none-if true is = cc
none-if false is = refl

one-if : (b : Bool) → b ≡ true → cond {A = ℕ} b 1 0 ≡ 1
one-if true is = refl
one-if false is = cc

pub HasMade-other : (node : ℕ) (packet : Packet) (place : ℕ) (before after : MixerData) → node ≢ place + 1 → after ≡ before
    → HasMade node packet place before after
HasMade-other node packet place before after differ same = record {
  held = ap (λ (r : MixerData). r.held) same;
  seed = ap (λ (r : MixerData). r.seed) same;
  sent = λ batch.
      let none : cond {A = ℕ} (node == place + 1 && packet.batch == batch) 1 0 ≡ 0 =
      none-if (node == place + 1 && packet.batch == batch)
      (and-left (node == place + 1) (packet.batch == batch) (ne_eqb node (place + 1) differ)) in
      ap (λ (r : MixerData). sent_of r batch) same ∙ omega (arith, none);
}

pub HasMade-own : (node : ℕ) (packet : Packet) (place batch : ℕ) (before after : MixerData) → node ≡ place + 1 → packet.batch ≡ batch
    → HasSentOne batch before after → HasMade node packet place before after
HasMade-own node packet place batch before after is of one = record {
  held = one.held;
  seed = one.seed;
  sent = λ b. elim (cases_eq b batch) [
    | inl e ↦
        let some : cond {A = ℕ} (node == place + 1 && packet.batch == b) 1 0 ≡ 1 =
        one-if (node == place + 1 && packet.batch == b)
        (and-true (node == place + 1) (packet.batch == b) (eq-eqb node (place + 1) is) (eq-eqb packet.batch b (of ∙ sym e))) in
        let own : sent_of after b ≡ sent_of before b + 1 =
        subst (λ (n : ℕ). sent_of after n ≡ sent_of before n + 1) (sym e) one.own in
        own ∙ omega (arith, some)
    | inr differ ↦
        let none : cond {A = ℕ} (node == place + 1 && packet.batch == b) 1 0 ≡ 0 =
        none-if (node == place + 1 && packet.batch == b)
        (and-right (node == place + 1) (packet.batch == b) (ne_eqb packet.batch b (λ e. differ (sym e ∙ of)))) in
        one.others b differ ∙ omega (arith, none)
  ];
}

module _ (state : NetworkState) (world : WorldData) (stands : StandsFor state world) where
  pub StandsFor-made : (node : ℕ) (packet : Packet) (relays : List MixerData) → length relays ≡ length world.relays
      → ((place : ℕ) → place < length world.relays → HasMade node packet place (relay_at world.relays place) (relay_at relays place))
      → StandsFor (with_made state node packet) (record {
        session = world.session;
        file = world.file;
        relays = relays;
        linked = world.linked;
        pool = world.pool ++ record { maker = node; packet = packet } ∷ [];
        sink = world.sink;
      })
  StandsFor-made node packet relays size made = record {
    session = stands.session;
    file = stands.file;
    count = size ∙ stands.count;
    relays = λ place within.
        let there : place < length world.relays = omega (arith, within, size) in
        let before : IsRelayOf state (place + 1) (relay_at world.relays place) = stands.relays place there in
        let has = made place there in
        record {
          session = ap (λ (h : HeldData). h.session) has.held ∙ before.session;
          seed = has.seed ∙ before.seed;
          held = subst (HoldsFor (received_by (place + 1) state.given)) (sym has.held) before.held;
          sent = λ batch.
              has.sent batch
              ∙ (ap (λ (n : ℕ). n + cond (node == place + 1 && packet.batch == batch) 1 0) (before.sent batch)
              ∙ sym (made_count-more (place + 1) batch state.pool (record { maker = node; packet = packet })));
        };
    links = stands.links;
    pool = ap (λ (p : List Made). p ++ record { maker = node; packet = packet } ∷ []) stands.pool;
    sink_session = stands.sink_session;
    sink = stands.sink;
  }

  -- ---- a packet that was given

  pub StandsFor-given_relay : (node place : ℕ) (packet : Packet) (relays : List MixerData) → node ≡ place + 1
      → place < length world.relays → ChangesAt place world.relays relays
      → (relay_at relays place).held.session ≡ (relay_at world.relays place).held.session
      → (relay_at relays place).seed ≡ (relay_at world.relays place).seed
      → ((batch : ℕ) → sent_of (relay_at relays place) batch ≡ sent_of (relay_at world.relays place) batch)
      → ((packets : List Packet) → HoldsFor packets (relay_at world.relays place).held
      → HoldsFor (packets ++ packet ∷ []) (relay_at relays place).held)
      → StandsFor (with_given state node packet) (record {
        session = world.session;
        file = world.file;
        relays = relays;
        linked = world.linked;
        pool = world.pool;
        sink = world.sink;
      })
  StandsFor-given_relay node place packet relays is within changes session seed sent holds =
      let one : Given = record { node = node; packet = packet } in
      record {
        session = stands.session;
        file = stands.file;
        count = changes.count ∙ stands.count;
        relays = λ other there.
            let here : other < length world.relays = omega (arith, there, changes.count) in
            let before : IsRelayOf state (other + 1) (relay_at world.relays other) = stands.relays other here in
            elim (cases_eq other place) [
              | inl e ↦
                  let own : IsRelayOf state (place + 1) (relay_at world.relays place) = stands.relays place within in
                  subst (λ (n : ℕ). IsRelayOf (with_given state node packet) (n + 1) (relay_at relays n)) (sym e) (record {
                    session = session ∙ own.session;
                    seed = seed ∙ own.seed;
                    held = subst (λ (ps : List Packet). HoldsFor ps (relay_at relays place).held)
                        (sym (received-own (place + 1) state.given one is))
                        (holds (received_by (place + 1) state.given) own.held);
                    sent = λ batch. sent batch ∙ own.sent batch;
                  })
              | inr differ ↦
                  subst (IsRelayOf (with_given state node packet) (other + 1)) (sym (changes.others other differ)) (record {
                    session = before.session;
                    seed = before.seed;
                    held = subst (λ (ps : List Packet). HoldsFor ps (relay_at world.relays other).held)
                        (sym (received-other (other + 1) state.given one (λ e. differ (omega (arith, e, is)))))
                        before.held;
                    sent = before.sent;
                  })
            ];
        links = stands.links;
        pool = stands.pool;
        sink_session = stands.sink_session;
        sink = subst (λ (ps : List Packet). DecodesFor ps world.sink)
            (sym (received-other (sink_of state) state.given one (λ e. omega (arith, e, is, within, stands.count)))) stands.sink;
      }

  pub StandsFor-given_sink : (node : ℕ) (packet : Packet) (sink : DecoderData) → node ≡ sink_of state
      → sink.held.session ≡ world.sink.held.session
      → ((packets : List Packet) → DecodesFor packets world.sink → DecodesFor (packets ++ packet ∷ []) sink)
      → StandsFor (with_given state node packet) (record {
        session = world.session;
        file = world.file;
        relays = world.relays;
        linked = world.linked;
        pool = world.pool;
        sink = sink;
      })
  StandsFor-given_sink node packet sink is session decodes =
      let one : Given = record { node = node; packet = packet } in
      record {
        session = stands.session;
        file = stands.file;
        count = stands.count;
        relays = λ place within.
            let before : IsRelayOf state (place + 1) (relay_at world.relays place) = stands.relays place within in
            record {
              session = before.session;
              seed = before.seed;
              held = subst (λ (ps : List Packet). HoldsFor ps (relay_at world.relays place).held)
                  (sym (received-other (place + 1) state.given one (λ e. omega (arith, e, is, within, stands.count))))
                  before.held;
              sent = before.sent;
            };
        links = stands.links;
        pool = stands.pool;
        sink_session = session ∙ stands.sink_session;
        sink = subst (λ (ps : List Packet). DecodesFor ps sink) (sym (received-own (sink_of state) state.given one is))
            (decodes (received_by (sink_of state) state.given) stands.sink);
      }

-- ---- before any event

pub StandsFor-opening : (session : SessionData) (file : List ℕ) (seeds : List (List ℕ)) (links : List (ℕ × ℕ)) (world : WorldData)
    → world.session ≡ session → world.file ≡ file → world.relays ≡ new_relays session seeds → IsTableOf links world.linked
    → world.pool ≡ [] → world.sink.held.session ≡ session → DecodesFor [] world.sink
    → StandsFor (opening session file seeds links) world
StandsFor-opening session file seeds links world same_session same_file relays table pool sink_session sink = record {
  session = same_session;
  file = same_file;
  count = ap (λ (r : List MixerData). length r) relays ∙ length-map seeds (new_relay session);
  relays = λ place within.
      let there : place < length seeds =
      omega (arith, within, ap (λ (r : List MixerData). length r) relays, length-map seeds (new_relay session)) in
      let is : relay_at world.relays place ≡ new_relay session (get_or seeds place []) =
      ap (λ (r : List MixerData). relay_at r place) relays ∙ relay-new session seeds place there in
      subst (IsRelayOf (opening session file seeds links) (place + 1)) (sym is) (record {
        session = refl;
        seed = ap (λ (n : ℕ). get_or seeds n []) (omega arith);
        held = StandsFor-none session [] refl;
        sent = λ batch. refl;
      });
  links = table;
  pool = pool;
  sink_session = sink_session;
  sink = sink;
}
