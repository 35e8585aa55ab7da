-- What is known of a body before its statements: the places of its locals and of its labels.
use Rattle.std.specs.Prelude.{ℕ, suc, ◌+◌, length, Bool, true, false, if◌then◌else◌, List, [], ◌∷◌, ◌++◌, map, Option, Some, None}
use Rattle.c_tree.specs.declared.kinds.Kind.{Kind}
use Rattle.c_tree.specs.declared.code.Stmt.{Stmt}
use Rattle.c_tree.specs.declared.code.Block.{Block}
use Rattle.c_tree.specs.declared.code.Local.{Local}
use Rattle.c_tree.specs.declared.code.Stmt.TheOpen.{Stmt-F, Block-F}
use Rattle.c_tree.specs.declared.code.Stmt.TheFolds.{fold-Block, fold-Stmt}
use Rattle.c_meaning.specs.State as meaning
use Rattle.c_meaning.specs.Code as code
use Rattle.c_code.specs.declared.code.Code.{Code}
use Rattle.c_code.specs.Resolved.{Tables}
use Rattle.c_code.specs.Statements.{bearings, has_code, statement_code}
use Rattle.c_code.specs.declared.program.Statement.{Statement}
use Rattle.c_code.specs.declared.program.Statement.TheVariants as statement
use Rattle.c_code.specs.declared.program.Taken.{Taken}
use Rattle.c_resolver.specs.declared.locals.Slot.{Slot}

-- the slot of a local
abbrev pub slot_seen : Slot → code.Slot
slot_seen s = record { start = s.start; at = s.at }

-- the locals of a statement
abbrev pub locals_in : Stmt → List Local
locals_in = fold-Stmt (List Local) (List Local) code.stmt_locals code.block_locals

-- the label at each place of the code of a statement, if there is one
abbrev pub else_labels : Option (List (Option (List ℕ))) → List (Option (List ℕ))
else_labels None = []
else_labels (Some ls) = None ∷ ls

abbrev pub stmt_labels : Stmt-F (List (Option (List ℕ))) (List (Option (List ℕ))) → List (Option (List ℕ))
stmt_labels (Stmt-F.If a b o) = None ∷ b ++ else_labels o
stmt_labels (Stmt-F.Label x) = Some x.text ∷ []
stmt_labels (Stmt-F.Block b) = None ∷ b
stmt_labels s = None ∷ []

abbrev pub all_labels : List (List (Option (List ℕ))) → List (Option (List ℕ))
all_labels [] = []
all_labels (l ∷ ls) = l ++ all_labels ls

abbrev pub block_labels : Block-F (List (Option (List ℕ))) (List (Option (List ℕ))) → List (Option (List ℕ))
block_labels b = all_labels b.body

-- the labels of a statement, and of a block
abbrev pub labels_in : Stmt → List (Option (List ℕ))
labels_in = fold-Stmt (List (Option (List ℕ))) (List (Option (List ℕ))) stmt_labels block_labels

abbrev pub labels_of : Block → List (Option (List ℕ))
labels_of = fold-Block (List (Option (List ℕ))) (List (Option (List ℕ))) stmt_labels block_labels

-- a statement of which only the label is known
abbrev pub act_alone : Option (List ℕ) → meaning.Act
act_alone None = meaning.Open
act_alone (Some x) = meaning.Label x

abbrev pub label_alone : Option (List ℕ) → meaning.Statement
label_alone l = record { scope = record { env = record { scopes = []; structs = []; signatures = [] }; variables = [] }; act = act_alone l }

-- the statements of a function of a kind that has labels at such places
abbrev pub code_at : Kind → List (Option (List ℕ)) → Tables → meaning.Statement → Statement
code_at k labels t x = statement_code x.scope.env k (map label_alone labels) (bearings t x.scope) x.act

-- a test before a block, or before two: behind the first one the second is passed over
abbrev pub tested_rows : Code → List Statement → Option (List Statement) → List Statement
tested_rows c first None = statement.Test c (length first) ∷ first
tested_rows c first (Some second) = statement.Test c (suc (length first)) ∷ first ++ statement.Pass (length second) ∷ second

-- the code of a statement
abbrev pub code_in : Stmt → code.Coded
code_in = fold-Stmt code.Coded code.Coded code.stmt_code code.block_code

-- whether all functions of the library that are called have code
abbrev pub else_has_code : Option Bool → Bool
else_has_code None = true
else_has_code (Some b) = b

abbrev pub stmt_has_code : Stmt-F Bool Bool → Bool
stmt_has_code (Stmt-F.Call c) = has_code c.callee
stmt_has_code (Stmt-F.Store a c) = has_code c.callee
stmt_has_code (Stmt-F.If a b o) = if b then else_has_code o else false
stmt_has_code (Stmt-F.Block b) = b
stmt_has_code s = true

abbrev pub every : List Bool → Bool
every [] = true
every (b ∷ bs) = if b then every bs else false

abbrev pub block_has_code : Block-F Bool Bool → Bool
block_has_code b = every b.body

abbrev pub calls_have_code : Block → Bool
calls_have_code = fold-Block Bool Bool stmt_has_code block_has_code

abbrev pub calls_in_have_code : Stmt → Bool
calls_in_have_code = fold-Stmt Bool Bool stmt_has_code block_has_code

-- the cells of what is taken
abbrev pub cells_in : List Taken → ℕ
cells_in [] = 0
cells_in (t ∷ ts) = t.cells + cells_in ts
