-- The session of a file that is sent.
use Rattle.std.specs.Prelude.{ℕ}
use Rattle.bats_model.specs.Session.{SessionData}
use Rattle.bats_words.specs.declared.source_options.SourceOptions.{SourceOptions}

-- the session of a file of so many bytes
abbrev pub session_for : SourceOptions → ℕ → SessionData
session_for options file_length =
    record {
      m = options.m;
      t = options.t;
      file_length = file_length;
      table = options.table;
      systematic = options.systematic;
      seed = options.seed;
    }
