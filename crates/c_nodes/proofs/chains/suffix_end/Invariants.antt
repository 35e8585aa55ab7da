use Rattle.std.proofs.Common.{◌≡◌, drop}
use Rattle.c_nodes.specs.Rows.{suffix_end}
use Rattle.c_nodes.proofs.chains.suffix_end.Given as goal

abbrev pub invariant-loop-suffix : goal.invariant-loop-suffix
invariant-loop-suffix l = suffix_end l.span (drop l.suffix-index l.suffixes) ≡ suffix_end l.fn.first l.suffixes
