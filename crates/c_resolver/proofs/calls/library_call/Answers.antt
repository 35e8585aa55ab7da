use Rattle.std.proofs.Common.{map}
use Rattle.c_body_checker.specs.Rows.{parameter_seen}
use Rattle.c_resolver.specs.Shown.{looks}
use Rattle.c_resolver.proofs.CallLemmas.{call_none, call_some}
use Rattle.c_resolver.proofs.calls.library_call.Goals as goal

pub returns-in_default : goal.returns-in_default
returns-in_default c =
    call_none (looks c.args.tables.now c.args.scope.now) c.args.call.now c.as_slice.result.now c.args.name.now.text c.new.result c.as_slice.ensures
    c.in_default.ensures c.new.ensures

pub returns : goal.returns
returns c =
    call_some (looks c.args.tables.now c.args.scope.now) c.args.call.now c.as_slice.result.now c.args.name.now.text c.in-Some.found.now.function
    (map parameter_seen c.in-Some.found.now.parameters.now)
    c.in_ok-made.made c.as_slice-2.result.now c.in_ok-arguments.arguments c.as_slice.ensures c.in-Some.ensures.0 c.in-Some.ensures.1 c.in_ok-made.ensures
    c.as_slice-2.ensures c.in_ok-arguments.ensures
