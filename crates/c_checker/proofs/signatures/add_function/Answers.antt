use Rattle.c_value_checker.specs.Seen.{seen}
use Rattle.c_value_checker.specs.Seen.{takes_seen}
use Rattle.c_value_checker.proofs.NotedLemmas.{on_ok}
use Rattle.c_checker.proofs.FunctionLemmas.{function_added}
use Rattle.c_checker.proofs.signatures.add_function.Goals as goal

pub returns : goal.returns
returns c = on_ok c.declare.result c.declare.ensures (λ e. function_added (seen c.args.environment.now) (seen c.add_signature.new.environment) (seen c.declare.new.self) c.args.signature.now (takes_seen c.in_ok-takes.takes) c.in_ok-number.number c.args.defines c.is_defined-is_defined.result
    c.in_ok-takes.ensures c.in_ok-number.ensures.names c.in_ok-number.ensures.number c.is_defined-is_defined.ensures e)
