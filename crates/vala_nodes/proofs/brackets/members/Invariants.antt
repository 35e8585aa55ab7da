use Rattle.std.proofs.Common.{◌≡◌, length}
use Rattle.vala_grammar.specs.Trees.{members}
use Rattle.vala_nodes.proofs.brackets.members.Given as goal

abbrev pub invariant-words : goal.invariant-words
invariant-words l = members l.fn.first l.fn.words ≡ members l.left l.words

abbrev pub decreases-words : goal.decreases-words
decreases-words l = length l.words
