-- What every script keeps.
use Rattle.std.specs.Prelude.{◌≡◌, ◌≤◌, length}
use Rattle.std.specs.List.{All}
use Rattle.bats_world.specs.World.{IsLink}
use Rattle.bats_script.specs.declared.script.Script.{Script}

-- the file has as many bytes as the session says, there are at most 16 relays, and the links lead between its nodes
pub record IsSound (script : Script) : Type 0 where
  pub file : length script.file ≡ script.session.file_length
  pub relays : length script.relay_seeds ≤ 16
  pub links : All (IsLink (length script.relay_seeds)) script.links
