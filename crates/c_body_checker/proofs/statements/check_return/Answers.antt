use Rattle.c_value_checker.specs.Seen.{seen}
use Rattle.c_body_checker.proofs.BodyLemmas.{return_noted}
use Rattle.c_body_checker.proofs.statements.check_return.Goals as goal

pub returns-in_ok-found-in-Some : goal.returns-in_ok-found-in-Some
returns-in_ok-found-in-Some c =
    return_noted (seen c.args.environment.now) c.args.gives c.args.word c.args.value.now c.in-Some.value c.in_ok-found-in-Some.found c.args.findings.now
    c.judge.new.findings c.return_value.new.findings
    c.in-Some.is c.in_ok-found-in-Some.ensures.value c.in_ok-found-in-Some.ensures.faults c.return_value.ensures
