use Rattle.std.proofs.Common.{◌≡◌, ◌∙◌, ap, sym, subst, List, ℕ, length, arith}
use Rattle.bats_model.specs.Bytes.{AreBytes}
use Rattle.bats_model.specs.Session.{SessionData}
use Rattle.bats_model.specs.Batch.{BatchData}
use Rattle.bats_model.specs.Coded.{coded_payload, unit_vector}
use Rattle.bats_encoder.specs.Encoder.{EncoderData}
use Rattle.bats_model.proofs.SystematicBatches.{columns-batch_of}
use Rattle.bats_encoder.proofs.Agreements.{Agrees-coded}
use Rattle.bats_encoder.proofs.encoder.Encoder.coded.Goals as goal

pub payload_of-requires : goal.payload_of-requires
payload_of-requires c =
    let columns : c.args.batch.now.columns ≡ c.args.self.now.session.m =
    ap (λ (b : BatchData). b.columns) c.requires.of_session ∙ columns-batch_of c.args.self.now.session c.args.batch.now.number in
    omega (arith, c.requires.column, columns)

pub returns-clause-agrees : goal.returns-clause-agrees
returns-clause-agrees c =
    let e = c.args.self.now in
    let same : e ≡ record { session = c.self.inside.session; file = c.self.inside.file } = sym c.self.view_is in
    let file : e.file ≡ c.self.inside.file = ap (λ (x : EncoderData). x.file) same in
    let session : e.session ≡ c.self.inside.session = ap (λ (x : EncoderData). x.session) same in
    let size : length e.file ≡ e.session.file_length =
    ap (λ (bytes : List ℕ). length bytes) file ∙ c.self.invariant ∙ ap (λ (x : SessionData). x.file_length) (sym session) in
    let columns : c.m.result ≡ e.session.m = c.m.ensures.value ∙ ap (λ (x : SessionData). x.m) (sym session) in
    Agrees-coded e.session e.file c.args.batch.now c.args.j _
    (record { size = size; bytes = subst AreBytes (sym file) c.as_slice.ensures.bytes })
    c.requires.of_session c.requires.column c.number.ensures.value
    (c.from.ensures ∙ c.in_ok-coefs.ensures ∙ ap (λ (m : ℕ). unit_vector m c.args.j) columns)
    (c.from-2.ensures ∙ c.in_ok-payload.ensures
    ∙ ap (λ (bytes : List ℕ). coded_payload c.self.inside.session bytes c.args.batch.now c.args.j) (c.as_slice.ensures.value ∙ sym file)
    ∙ ap (λ (x : SessionData). coded_payload x e.file c.args.batch.now c.args.j) (sym session))
