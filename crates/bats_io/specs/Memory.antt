-- Sources and sinks in memory, as clauses see them.
use Rattle.std.specs.Prelude.{ℕ, Bool, List}

-- a source: the bytes left, how many a read gives at most, the numbers of the calls that fail, how many calls
-- there were, and how many of them failed
pub record MemoryOfSource : Type 0 where
  pub left : List ℕ
  pub most : ℕ
  pub fails : List ℕ
  pub calls : ℕ
  pub faults : ℕ

-- a sink: the bytes written, how many there is room for, how many a write takes at most, the numbers of the calls
-- that fail, how many calls there were, how many of them failed, and whether the last bytes were flushed
pub record MemoryOfSink : Type 0 where
  pub written : List ℕ
  pub room : ℕ
  pub most : ℕ
  pub fails : List ℕ
  pub calls : ℕ
  pub faults : ℕ
  pub flushed : Bool
