-- The faults of operators before an operand, the types of casts first.
use Rattle.std.specs.Prelude.{ℕ, true, false, List, [], ◌∷◌, ◌++◌, Option, Some, None}
use Rattle.c_tree.specs.declared.names.Span.{Span}
use Rattle.c_tree.specs.declared.operators.Prefix.{Prefix}
use Rattle.c_tree.specs.declared.operators.Prefix.TheVariants as prefix
use Rattle.c_tree.specs.declared.operators.PrefixOperator.{PrefixOperator}
use Rattle.c_tree.specs.declared.kinds.Kind.{Kind}
use Rattle.c_tree.specs.declared.kinds.Fault.{Fault}
use Rattle.c_tree.specs.Words.{join}
use Rattle.c_tree.specs.Env.{Env}
use Rattle.c_tree.specs.Faults.{on, outcome_faults}
use Rattle.c_value_checker.specs.declared.judged.Literal.{Literal}
use Rattle.c_value_checker.specs.declared.judged.Literal.TheVariants as literal
use Rattle.c_tree.specs.Checks.{prefix_by, prefix_kind, cast_faults}

-- the undeclared types of casts
abbrev pub casts_faults : Env → List PrefixOperator → List Fault
casts_faults env [] = []
casts_faults env (p ∷ ps) = cast_faults env p.prefix ++ casts_faults env ps

-- the operators that do not fit what is behind them, the innermost first
abbrev pub operators_faults : Env → List PrefixOperator → Option Kind → Span → List Fault
operators_faults env [] k last = []
operators_faults env (p ∷ ps) k last = operators_faults env ps k last ++ outcome_faults (on (prefix_kind env ps k) (prefix_by env p.prefix)) (join p.span last)

-- a number with `-` before it
abbrev pub minus_told : Prefix → ℕ → Option Literal
minus_told prefix.Minus n = Some (literal.Figure true n)
minus_told p n = None

-- `-` before a number is a literal too
abbrev pub signed_told : List PrefixOperator → Option Literal → Option Literal
signed_told [] l = l
signed_told (p ∷ []) (Some (literal.Figure false n)) = minus_told p.prefix n
signed_told ps l = None
