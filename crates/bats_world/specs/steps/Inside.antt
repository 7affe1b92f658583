-- What holds of each world, whatever state it stands for.
use Rattle.std.specs.Prelude.{ℕ, ◌≡◌, ◌<◌, ◌≤◌, ◌*◌, false, All, length, slice_index_or}
use Rattle.bats_model.specs.Agreement.{IsFile}
use Rattle.bats_model.specs.PacketFile.{HasShape}
use Rattle.bats_relay.specs.Mixer.{sent_of}
use Rattle.bats_world.specs.World.{max_pool}
use Rattle.bats_world.specs.Standing.{WorldData}

-- the parts are of one session, the numbers are within their limits, and no link leads to the source
pub record IsWorld (world : WorldData) : Type 0 where
  pub file : IsFile world.session world.file
  pub few : length world.relays ≤ 16
  pub sessions : All (λ relay. relay.held.session ≡ world.session) world.relays
  pub sent : All (λ relay. (batch : ℕ) → sent_of relay batch ≤ length world.pool) world.relays
  pub table : length world.linked ≡ 324
  pub one_way : (from : ℕ) → from < 18 → slice_index_or world.linked (from * 18) false ≡ false
  pub room : length world.pool ≤ max_pool
  pub shapes : All (λ made. HasShape world.session made.packet) world.pool
  pub makers : All (λ made. made.maker ≤ length world.relays) world.pool
  pub sink : world.sink.held.session ≡ world.session
