use Rattle.std.proofs.Common.{◌≡◌, ◌<◌, ◌+◌, ◌*◌, ◌∙◌, ℕ, length, get_or, set, ap, arith, length-set}
use Rattle.std.proofs.lemmas.List.{get_or_default}
use Rattle.gf_core.specs.Field.{gf_add}
use Rattle.bats_model.specs.Session.{symbols_of}
use Rattle.bats_decode.specs.declared.elimination.Origin.TheVariants.{Row}
use Rattle.bats_decode.specs.steps.Eliminated.{origin_of}
use Rattle.bats_decode.specs.steps.Answered.{change_at}
use Rattle.bats_decode.proofs.RaisedFiles.{begins-within, starts-apart, insides-apart, stays, raised-below}
use Rattle.bats_decode.proofs.answering.raise.Goals as goal

pub symbols-preserved : goal.symbols-preserved
symbols-preserved c =
    let e = c.args.e.now in
    let session = c.args.session.now in
    let t = session.t in
    let s = c.symbols.s in
    let first = c.args.file.now in
    let file = c.symbols.file in
    let new = c.add_at.new.file in
    let change : ℕ → ℕ = λ k. change_at e c.args.free (origin_of e k) in
    let some : 0 < t = omega (arith, c.t.ensures.within.t_low) in
    let below : s < symbols_of session = omega (arith, c.symbols-s-end.ensures.value, c.symbols-test.true) in
    let within : s * t < session.file_length = begins-within session.file_length t s some below in
    let inside : s * t < length file = omega (arith, within, c.symbols.invariant.size, c.requires.length) in
    let origin = c.index.ensures ∙ get_or_default e.origins.items s c.index.result.now (Row 0) (omega (arith, below, c.requires.shape.origins)) in
    let by : c.change_of.result ≡ change s = c.change_of.ensures ∙ ap (change_at e c.args.free) origin in
    let byte : ℕ = gf_add (get_or file (s * t) 0) (change s) in
    let written : new ≡ set file (s * t) byte = cc in
    record {
      size = ap length written ∙ length-set file (s * t) byte ∙ c.symbols.invariant.size;
      raised = raised-below first file new t s change some inside (c.symbols.invariant.ahead s (omega arith)) c.symbols.invariant.raised written;
      ahead = λ k h. stays file new (s * t) byte (k * t) written (starts-apart t k s some (λ same. omega (arith, same, h)))
          ∙ c.symbols.invariant.ahead k (omega arith);
      rest = λ k b h l. stays file new (s * t) byte (k * t + b) written (insides-apart t k s b h l)
          ∙ c.symbols.invariant.rest k b h l;
    }
