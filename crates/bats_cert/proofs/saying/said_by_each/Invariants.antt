use Rattle.std.proofs.Common.{◌≡◌, length, take}
use Rattle.bats_model.specs.Session.{symbols_of}
use Rattle.bats_cert.specs.Sums.{symbol_rows}
use Rattle.bats_cert.proofs.saying.said_by_each.Given as goal

abbrev pub invariant-packets : goal.invariant-packets
invariant-packets l = record {
  cols : l.said.cols ≡ symbols_of l.session;
  count : length l.said.rows ≡ length l.packets;
  rows : take l.i l.said.rows ≡ take l.i (symbol_rows l.session l.packets);
}
