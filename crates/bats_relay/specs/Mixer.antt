-- What a mixer holds, and how many outputs it made of each batch.
use Rattle.std.specs.Prelude.{ℕ, ◌≡◌, ◌≢◌, ◌+◌, List, unwrap_or}
use Rattle.std.specs.Ordering.{nat_cmp}
use Rattle.std.specs.BTreeMap.{is_at}
use Rattle.std.specs.Map.{lookup}
use Rattle.bats_batch.specs.Held.{HeldData}

-- the held batches, the relay's seed, and of each batch that was mixed how many outputs were made
pub record MixerData : Type 0 where
  pub held : HeldData
  pub seed : List ℕ
  pub counts : List (ℕ × ℕ)

-- outputs of one batch, at most: numbers of outputs are below it
abbrev pub max_outputs : ℕ
max_outputs = 1048576

-- how many outputs were made of a batch: none of one that was never mixed
abbrev pub sent_of : MixerData → ℕ → ℕ
sent_of mixer batch = unwrap_or (lookup (is_at (nat_cmp batch)) mixer.counts) 0

-- one more output was made of the batch, and nothing else has changed
pub record HasSentOne (batch : ℕ) (before after : MixerData) : Type 0 where
  pub held : after.held ≡ before.held
  pub seed : after.seed ≡ before.seed
  pub own : sent_of after batch ≡ sent_of before batch + 1
  pub others : (other : ℕ) → other ≢ batch → sent_of after other ≡ sent_of before other
