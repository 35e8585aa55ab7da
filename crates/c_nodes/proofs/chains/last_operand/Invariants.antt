use Rattle.std.proofs.Common.{◌≡◌, drop}
use Rattle.c_tree.specs.Make.{last_operand}
use Rattle.c_nodes.proofs.chains.last_operand.Given as goal

abbrev pub invariant-loop-link : goal.invariant-loop-link
invariant-loop-link l = last_operand l.span (drop l.link-index l.links) ≡ last_operand l.fn.first l.links
