use Rattle.std.proofs.Common.{◌≡◌, arith}
use Rattle.std.specs.Int.{w32, from_be_bytes}
use Rattle.std.proofs.lemmas.Nat.{be_bytes_4}
use Rattle.bats_format.proofs.records.number_in.Goals as goal

pub returns : goal.returns
returns c =
    let number : c.read_u32.result ≡ from_be_bytes w32 c.args.bytes.now = omega (arith, c.read_u32.ensures) in
    be_bytes_4 c.args.bytes.now c.read_u32.result c.told-bytes c.fits-bytes number
