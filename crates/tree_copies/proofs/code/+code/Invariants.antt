use Rattle.std.proofs.Common.{◌≡◌, take}
use Rattle.tree_copies.proofs.code.+code.Given as goal

abbrev pub invariant-exprs-loop-tree : goal.invariant-exprs-loop-tree
invariant-exprs-loop-tree l = l.copy ≡ take l.tree-index l.trees

abbrev pub invariant-arguments-loop-tree : goal.invariant-arguments-loop-tree
invariant-arguments-loop-tree l = l.copy ≡ take l.tree-index l.trees

abbrev pub invariant-stmts-loop-tree : goal.invariant-stmts-loop-tree
invariant-stmts-loop-tree l = l.copy ≡ take l.tree-index l.trees

abbrev pub invariant-declarators-loop-tree : goal.invariant-declarators-loop-tree
invariant-declarators-loop-tree l = l.copy ≡ take l.tree-index l.trees

abbrev pub invariant-sections-loop-tree : goal.invariant-sections-loop-tree
invariant-sections-loop-tree l = l.copy ≡ take l.tree-index l.trees

abbrev pub invariant-labels-loop-tree : goal.invariant-labels-loop-tree
invariant-labels-loop-tree l = l.copy ≡ take l.tree-index l.trees

abbrev pub invariant-catches-loop-tree : goal.invariant-catches-loop-tree
invariant-catches-loop-tree l = l.copy ≡ take l.tree-index l.trees

abbrev pub invariant-arms-loop-tree : goal.invariant-arms-loop-tree
invariant-arms-loop-tree l = l.copy ≡ take l.tree-index l.trees
