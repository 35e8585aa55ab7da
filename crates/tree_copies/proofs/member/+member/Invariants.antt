use Rattle.std.proofs.Common.{◌≡◌, take}
use Rattle.tree_copies.proofs.member.+member.Given as goal

abbrev pub invariant-members-loop-tree : goal.invariant-members-loop-tree
invariant-members-loop-tree l = l.copy ≡ take l.tree-index l.trees
