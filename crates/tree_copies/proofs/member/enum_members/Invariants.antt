use Rattle.std.proofs.Common.{◌≡◌, take}
use Rattle.tree_copies.proofs.member.enum_members.Given as goal

abbrev pub invariant-loop-tree : goal.invariant-loop-tree
invariant-loop-tree l = l.copy ≡ take l.tree-index l.trees
