use Rattle.std.proofs.Common.{◌∙◌, ap}
use Rattle.bats_format.proofs.Headers.{session_of, session_of-header_record, none-from_record}
use Rattle.bats_format.proofs.header.read_header.Goals as goal

pub returns-in-Some-clause-only : goal.returns-in-Some-clause-only
returns-in-Some-clause-only c = λ session is same.
    let none = none-from_record session c.args.bytes.now is same in
    let some = c.in-Some.is in
    let found = c.broken_field.ensures in
    cc

pub returns-in-None-clause-only : goal.returns-in-None-clause-only
returns-in-None-clause-only c = λ session is same.
    c.session_in.ensures.value ∙ ap session_of same ∙ session_of-header_record session is
