-- What is known of statements.
use Rattle.std.specs.Prelude.{ℕ, if◌then◌else◌, map, List, [], ◌++◌, Option, Some, None}
use Rattle.std.specs.Option.{option_map}
use Rattle.c_tree.specs.declared.code.Stmt.{Stmt}
use Rattle.c_tree.specs.declared.code.Block.{Block}
use Rattle.c_tree.specs.declared.code.Stmt.TheFolds.{fold-Stmt}
use Rattle.c_tree.specs.declared.names.Name.{Name}
use Rattle.c_tree.specs.declared.names.Span.{Span}
use Rattle.c_tree.specs.declared.kinds.Cause.TheVariants.{Misfit}
use Rattle.c_tree.specs.declared.kinds.Fault.{Fault}
use Rattle.c_tree.specs.declared.kinds.Kind.{Kind}
use Rattle.c_tree.specs.Faults.{fault}
use Rattle.c_tree.specs.Kinds.{is_void}
use Rattle.c_tree.specs.Env.{Env}
use Rattle.c_tree.specs.Checks.{checked}
use Rattle.c_tree.specs.Rules.{Body, Context, check_stmt, check_block, checked_block, fit_by}
use Rattle.c_tree.specs.Unit.{block_end, label_faults, target_faults}
use Rattle.c_body_checker.specs.declared.calls.Argument.{Argument}
use Rattle.c_value_checker.specs.Judgements.{is_null_told}

-- what is known of a statement
abbrev pub of_statement : Stmt → Body
of_statement = fold-Stmt Body Body (check_stmt checked) check_block

-- what is known of the block behind `else`
abbrev pub else_body : Option Block → Option Body
else_body = option_map (checked_block checked)

-- the labels of a table, the last one first
abbrev pub labels_of : List (List ℕ × Span) → List Name
labels_of es = map (λ e. record { text = e.0; span = e.1 }) es

-- what a statement is in
abbrev pub context : Env → Option Kind → Context
context env r = record { env = env; result = r }

-- the fault of a `return` with a value
abbrev pub returned : Option Kind → Span → Argument → List Fault
returned None word a = []
returned (Some k) word a = if is_void k then fault Misfit word.start a.span.end else fit_by (Some k) a.found.kind (is_null_told a.found.literal) a.span

-- the faults of labels in the body of a function, and of what goes to labels
abbrev pub jump_faults : Block → List Fault
jump_faults b = label_faults [] (checked_block checked b).labels ++ target_faults (checked_block checked b).labels (block_end b) (checked_block checked b).targets

-- all faults of the body of a function, behind its parameters
abbrev pub whole_body : Env → Option Kind → Block → List Fault
whole_body env r b =
    (checked_block checked b).faults (context env r)
    ++ label_faults [] (checked_block checked b).labels
    ++ target_faults (checked_block checked b).labels (block_end b) (checked_block checked b).targets
