use Rattle.bats_cert.proofs.RightBodies.{right-body}
use Rattle.bats_cert.proofs.VerdictLemmas.{valid-exactly}
use Rattle.bats_cert.proofs.verifying.verify.Goals as goal

pub returns-clause-valid : goal.returns-clause-valid
returns-clause-valid c = valid-exactly c.args.cert.now.session c.args.cert.now.packets c.args.cert.now.body c.in_ok-verdict.verdict c.in_ok-verdict.ensures

pub returns-clause-right : goal.returns-clause-right
returns-clause-right c = λ e. right-body c.args.cert.now.session c.args.cert.now.packets c.args.cert.now.body c.m-m.ensures.within
    ((valid-exactly c.args.cert.now.session c.args.cert.now.packets c.args.cert.now.body c.in_ok-verdict.verdict c.in_ok-verdict.ensures).0 e)
