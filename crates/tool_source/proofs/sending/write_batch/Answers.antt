use Rattle.std.proofs.Common.{◌≡◌, ◌<◌, ◌∙◌, ap, sym, arith, ℕ, flat_map}
use Rattle.std.specs.List.{range_with_len}
use Rattle.bats_model.specs.Session.{SessionData}
use Rattle.tool_source.specs.Source.{coded_record, batch_records}
use Rattle.tool_run.proofs.Writing.{Writes-nothing, Writes-same}
use Rattle.tool_run.proofs.Loops.{Writes-more, Writes-failed}
use Rattle.tool_source.proofs.sending.write_batch.Goals as goal

pub loop-j-init : goal.loop-j-init
loop-j-init g c = Writes-nothing (g.O.Sink.state c.args.output.now)

pub loop-j-preserved : goal.loop-j-preserved
loop-j-preserved g c =
    Writes-more (coded_record c.args.encoder.now.session c.args.encoder.now.file c.args.batch.now.number) 0 c.loop-j.j
    c.loop-j.invariant (Writes-same (ap (coded_record c.args.encoder.now.session c.args.encoder.now.file c.args.batch.now.number) (omega arith)) c.in_ok-write_coded.ensures)

pub returns-in_err-write_coded : goal.returns-in_err-write_coded
unfolding batch_records
returns-in_err-write_coded g c =
    let record_of = coded_record c.args.encoder.now.session c.args.encoder.now.file c.args.batch.now.number in
    let columns : c.from-j-end.result ≡ c.args.encoder.now.session.m =
    c.from-j-end.ensures ∙ c.m.ensures.value ∙ ap (λ (s : SessionData). s.m) (sym c.requires.session) in
    let more : c.loop-j.j < c.args.encoder.now.session.m = omega arith in
    Writes-failed record_of 0 c.args.encoder.now.session.m c.loop-j.j _ more c.from_residual.ensures.1
    c.loop-j.invariant (Writes-same (ap record_of (omega arith)) c.in_err-write_coded.ensures)

pub returns : goal.returns
unfolding batch_records
returns g c =
    let record_of = coded_record c.args.encoder.now.session c.args.encoder.now.file c.args.batch.now.number in
    let columns : c.from-j-end.result ≡ c.args.encoder.now.session.m =
    c.from-j-end.ensures ∙ c.m.ensures.value ∙ ap (λ (s : SessionData). s.m) (sym c.requires.session) in
    let all : c.loop-j.j ≡ c.args.encoder.now.session.m = omega arith in
    Writes-same (ap (λ (n : ℕ). flat_map record_of (range_with_len 0 n)) (sym all)) c.loop-j.invariant
