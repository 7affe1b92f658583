use Rattle.std.proofs.Common.{◌≡◌, arith, take, drop}
use Rattle.std.specs.Int.{w32, from_be_bytes}
use Rattle.bats_cert.proofs.Records.{batch-bytes}
use Rattle.bats_cert.proofs.listing.batch_in.Goals as goal

pub returns : goal.returns
returns c =
    let number : c.read_u32.result ≡ from_be_bytes w32 (take 4 (drop 1 c.args.written.now)) = omega (arith, c.read_u32.ensures) in
    batch-bytes c.args.written.now c.read_u32.result c.requires (λ i. omega (arith, c.type_inv.written i)) number
