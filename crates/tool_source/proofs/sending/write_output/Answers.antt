use Rattle.std.proofs.Common.{◌≡◌, ◌++◌, ap, List, ℕ}
use Rattle.bats_model.specs.Session.{SessionData}
use Rattle.bats_model.specs.Records.{header_record}
use Rattle.tool_source.specs.Source.{source_output, packet_records}
use Rattle.tool_run.proofs.Writing.{Writes-after, Writes-same, Writes-exit}
use Rattle.tool_source.proofs.sending.write_output.Goals as goal

-- the output, as it is written
source_output-parts : (s t : SessionData) (file : List ℕ) (first batches : ℕ) → s ≡ t
    → source_output s file first batches ≡ header_record t ++ packet_records s file first batches
unfolding source_output
source_output-parts s t file first batches e = ap (λ (u : SessionData). header_record u ++ packet_records s file first batches) e

pub returns-in_err-write_header : goal.returns-in_err-write_header
returns-in_err-write_header g c =
    let e = c.args.encoder.now in
    Writes-exit _ (packet_records e.session e.file c.args.first c.args.batches)
    (source_output-parts e.session c.args.session.now e.file c.args.first c.args.batches c.requires.session)
    c.from_residual.ensures.1 c.in_err-write_header.ensures

pub returns : goal.returns
returns g c =
    let e = c.args.encoder.now in
    Writes-same (source_output-parts e.session c.args.session.now e.file c.args.first c.args.batches c.requires.session)
    (Writes-after c.in_ok-write_header.ensures c.write_batches.ensures)
