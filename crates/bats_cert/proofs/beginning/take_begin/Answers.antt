use Rattle.std.proofs.Common.{ℕ, ◌≡◌, List, ◌++◌, ◌∷◌, [], length, subst, arith, length-append}
use Rattle.std.specs.Int.{w32, to_be_bytes}
use Rattle.bats_model.specs.Records.{header_record}
use Rattle.bats_format.proofs.RecordLemmas.{length-header_record}
use Rattle.bats_cert.specs.CertificateFile.{certificate_tag, tag_field, kind_field, count_field}
use Rattle.bats_cert.specs.steps.Parts.{HasRead}
use Rattle.bats_cert.specs.steps.Taken.{byte_of}
use Rattle.bats_cert.proofs.Layouts.{byte_of-le, begin_bytes-parts, to_tag, to_kind, to_count}
use Rattle.bats_cert.proofs.Stopping.{IfErr-exit, HasRead-after, Stops-after, Stops-wider}
use Rattle.bats_cert.proofs.beginning.take_begin.Goals as goal

pub returns-in_err-session-clause-err : goal.returns-in_err-session-clause-err
returns-in_err-session-clause-err g c =
    IfErr-exit _ c.from_residual.result c.from_residual.ensures.1
    (λ next. Stops-wider 38 (omega arith)
    (c.in_err-session.ensures.err (λ session. tag_field (kind_field (λ kind. count_field (next session kind))))))

pub returns-in_err-take_tag-clause-err : goal.returns-in_err-take_tag-clause-err
returns-in_err-take_tag-clause-err g c =
    let session = c.in_ok-session.session in
    let is = c.in_ok-session.ensures.is_session in
    let size = length-header_record session is in
    IfErr-exit _ c.from_residual-in_err-take_tag.result c.from_residual-in_err-take_tag.ensures.1
    (λ next. Stops-after (header_record session) 38 (to_tag session next is) c.in_ok-session.ensures.ok (omega (arith, size)) (omega (arith, size))
    (c.in_err-take_tag.ensures.err (kind_field (λ kind. count_field (next session kind)))))

pub returns-in_err-kind-clause-err : goal.returns-in_err-kind-clause-err
returns-in_err-kind-clause-err g c =
    let session = c.in_ok-session.session in
    let is = c.in_ok-session.ensures.is_session in
    let front : List ℕ = header_record session ++ certificate_tag ∷ [] in
    let size : length front ≡ 33 = omega (arith, length-header_record session is, length-append (header_record session) (certificate_tag ∷ [])) in
    IfErr-exit _ c.from_residual-in_err-kind.result c.from_residual-in_err-kind.ensures.1
    (λ next. Stops-after front 38 (to_kind session next is)
    (HasRead-after (header_record session) (certificate_tag ∷ []) c.in_ok-session.ensures.ok c.in_ok-take_tag.ensures.ok) (omega (arith, size)) (omega (arith, size))
    (c.in_err-kind.ensures.err (λ kind. count_field (next session kind))))

pub returns-in_err-count-clause-err : goal.returns-in_err-count-clause-err
returns-in_err-count-clause-err g c =
    let session = c.in_ok-session.session in
    let is = c.in_ok-session.ensures.is_session in
    let kind : ℕ = byte_of c.in_ok-kind.kind in
    let front : List ℕ = header_record session ++ certificate_tag ∷ [] in
    let size : length (front ++ kind ∷ []) ≡ 34 = omega (arith, length-header_record session is, length-append (header_record session) (certificate_tag ∷ []), length-append front (kind ∷ [])) in
    IfErr-exit _ c.from_residual-in_err-count.result c.from_residual-in_err-count.ensures.1
    (λ next. Stops-after (front ++ kind ∷ []) 38 (to_count session kind next is (byte_of-le c.in_ok-kind.kind))
    (HasRead-after front (kind ∷ []) (HasRead-after (header_record session) (certificate_tag ∷ []) c.in_ok-session.ensures.ok c.in_ok-take_tag.ensures.ok) c.in_ok-kind.ensures.ok)
    (omega (arith, size)) (omega (arith, size))
    (c.in_err-count.ensures.err (next session kind)))

pub returns-clause-ok : goal.returns-clause-ok
returns-clause-ok g c =
    let session = c.in_ok-session.session in
    let kind : ℕ = byte_of c.in_ok-kind.kind in
    let front : List ℕ = header_record session ++ certificate_tag ∷ [] in
    record {
      is_session = c.in_ok-session.ensures.is_session;
      few = c.in_ok-count.ensures.few;
      part = subst (HasRead _ _) (begin_bytes-parts session kind c.in_ok-count.count)
          (HasRead-after (front ++ kind ∷ []) (to_be_bytes w32 c.in_ok-count.count)
          (HasRead-after front (kind ∷ []) (HasRead-after (header_record session) (certificate_tag ∷ []) c.in_ok-session.ensures.ok c.in_ok-take_tag.ensures.ok) c.in_ok-kind.ensures.ok)
          c.in_ok-count.ensures.ok);
    }
