use Rattle.std.proofs.Common.{◌∙◌, ap}
use Rattle.c_tree.specs.declared.kinds.Sort.TheVariants as sort
use Rattle.c_tree.specs.Env.{declare}
use Rattle.c_value_checker.specs.Seen.{seen}
use Rattle.c_value_checker.specs.Seen.{takes_seen}
use Rattle.c_value_checker.proofs.NotedLemmas.{on_ok}
use Rattle.c_checker.proofs.FunctionLemmas.{type_added}
use Rattle.c_checker.proofs.signatures.add_function_type.Goals as goal

pub returns : goal.returns
returns c = on_ok c.declare.result c.declare.ensures (λ e. type_added (seen c.args.environment.now) (seen c.add_signature.new.environment) (seen c.declare.new.self) c.args.signature.now (takes_seen c.in_ok-takes.takes) c.in_ok-number.number
    c.in_ok-takes.ensures c.in_ok-number.ensures.names c.in_ok-number.ensures.number
    (e ∙ ap (λ k. declare (seen c.add_signature.new.environment) c.args.signature.now.name (sort.Type k)) c.plain.ensures))
