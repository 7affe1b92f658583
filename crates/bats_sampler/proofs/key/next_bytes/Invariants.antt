use Rattle.std.proofs.Common.{◌≡◌, ◌+◌, ◌*◌, ◌/◌, ◌%◌, ◌<◌}
use Rattle.bats_model.specs.Key.{key_word}
use Rattle.bats_sampler.specs.Words.{bytes_from}
use Rattle.bats_sampler.proofs.key.next_bytes.Given as goal

abbrev pub invariant-loop-i : goal.invariant-loop-i
invariant-loop-i l = record {
  key : l.words.key ≡ l.fn.words.key;
  place : l.words.place ≡ l.fn.words.place + (l.i + 3) / 4;
  so_far : l.bytes.items ≡ bytes_from l.fn.words.key (4 * l.fn.words.place) l.i;
  word : 0 < l.i % 4 → l.word ≡ key_word l.fn.words.key (l.fn.words.place + l.i / 4);
}
