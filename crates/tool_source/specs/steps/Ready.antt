-- What `source` has once its file was read.
use Rattle.std.specs.Prelude.{◌≡◌, ◌≤◌, ℕ, List, length}
use Rattle.bats_io.specs.Streams.{InputState, IsTold, IsEnded, ReadsAtMost}
use Rattle.bats_model.specs.Session.{SessionData, symbols_of, max_symbols}
use Rattle.bats_words.specs.declared.source_options.SourceOptions.{SourceOptions}
use Rattle.tool_source.specs.FileSession.{session_for}
use Rattle.tool_source.specs.Source.{most_read}

-- the whole file and its session
pub record IsReady (options : SourceOptions) (before after : InputState) (session : SessionData) (bytes : List ℕ) : Type 0 where
  pub told : IsTold before.left bytes
  pub read : ReadsAtMost before.left after.left (most_read options)
  pub symbols : symbols_of (session_for options (length bytes)) ≤ max_symbols
  pub end : IsEnded after.left
  pub no_fault : after.faults ≡ before.faults
  pub session_is : session ≡ session_for options (length bytes)
