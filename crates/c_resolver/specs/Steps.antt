-- What is told of a value behind each of its operators, suffixes and choices.
use Rattle.std.specs.Prelude.{false, List, [], ◌∷◌, Option}
use Rattle.c_tree.specs.declared.operators.Prefix.{Prefix}
use Rattle.c_tree.specs.declared.operators.Prefix.TheVariants as prefix
use Rattle.c_tree.specs.declared.operators.PrefixOperator.{PrefixOperator}
use Rattle.c_tree.specs.declared.operators.BinaryOperator.{BinaryOperator}
use Rattle.c_tree.specs.declared.names.Name.{Name}
use Rattle.c_tree.specs.declared.kinds.Kind.{Kind}
use Rattle.c_tree.specs.declared.kinds.Operand.{Operand}
use Rattle.c_tree.specs.Env.{Env, cells_of, target}
use Rattle.c_tree.specs.Checks.{prefix_kind, suffix_outcome, choice_operand, index_of, joined, operand_if, operand_kind, chain_kind}
use Rattle.c_tree.specs.Checks as check
use Rattle.c_tree.specs.Faults.{on, outcome_kind}
use Rattle.c_meaning.specs.Layout.{known, offset}
use Rattle.c_meaning.specs.Values.{kind_operand}
use Rattle.c_code.specs.declared.code.Move.{Move}
use Rattle.c_code.specs.declared.code.Move.TheVariants as go
use Rattle.c_code.specs.declared.code.Sign.TheVariants as sign
use Rattle.c_code.specs.declared.code.Start.TheVariants as start
use Rattle.c_code.specs.declared.code.Alternative.{Alternative, roll-Alternative}
use Rattle.c_code.specs.declared.code.Operation.{Operation, roll-Operation}
use Rattle.c_code.specs.declared.code.Code.{Code}
use Rattle.c_code.specs.Resolved.{on as code_on}
use Rattle.c_code.specs.Resolved.{
  Bearings,
  Both,
  PartSuffix,
  PartChoice,
  PartLink,
  before,
  code,
  env_in,
  known_suffix,
  known_choices,
  known_links,
  nothing,
  operations,
  read,
  suffix_place,
}
use Rattle.c_resolver.specs.Shown.{Shown}

-- its code as a value and as a place
abbrev pub codes_of : Shown → Both
codes_of s = record { value = s.value; place = s.place }

-- what an operator does with the value of its operand, where the result has a kind
abbrev pub move_of : Prefix → Option Kind → Move
move_of prefix.Not k = go.Not
move_of prefix.Deref k = go.Follow
move_of prefix.AddressOf k = go.Address
move_of (prefix.Cast t) k = go.Convert (known k)
move_of prefix.Plus k = go.Sign sign.Plus (known k)
move_of prefix.Minus k = go.Sign sign.Minus (known k)
move_of prefix.Complement k = go.Sign sign.Complement (known k)

-- an operator before a value
abbrev pub shown_before : Env → PrefixOperator → Shown → Shown
shown_before env p s =
    let k : Option Kind = prefix_kind env (p ∷ []) s.kind in
    let a : Both = before env p.prefix k (codes_of s) in
    record { kind = k; null = false; value = a.value; place = a.place }

-- operators before a value, the outermost first
abbrev pub all_before : Env → List PrefixOperator → Shown → Shown
all_before env [] s = s
all_before env (p ∷ ps) s = shown_before env p (all_before env ps s)

-- a value that is read from its place, where it has one
abbrev pub as_place : Env → Shown → Shown
as_place env s = record { kind = s.kind; null = false; value = read env s.kind s.place; place = s.place }

-- the value at a place, of a kind
abbrev pub placed : Env → Option Kind → Code → Shown
placed env k q = record { kind = k; null = false; value = read env k q; place = q }

-- a field behind a value
abbrev pub field_behind : Env → Shown → Name → Shown
field_behind env s x = placed env (outcome_kind (suffix_outcome env s.kind (check.Field x)))
    (code_on s.place (go.Field (offset env (known s.kind) x.text) ∷ []))

-- a field of what a value leads to
abbrev pub arrow_behind : Env → Shown → Name → Shown
arrow_behind env s x = placed env (outcome_kind (suffix_outcome env s.kind (check.Arrow x)))
    (code_on s.value (go.Follow ∷ go.Field (offset env (target (known s.kind)) x.text) ∷ []))

-- what stands behind a value at an index
abbrev pub element_behind : Env → Shown → Shown → Shown
element_behind env s i = placed env (outcome_kind (on s.kind (λ j. on i.kind (index_of env j))))
    (code_on s.value (go.Index i.value (cells_of env (target (known s.kind))) ∷ []))

-- a suffix behind a value
abbrev pub shown_behind : Bearings → Shown → PartSuffix → Shown
shown_behind b s x = placed (env_in b) (outcome_kind (suffix_outcome (env_in b) s.kind (known_suffix x))) (suffix_place b (known s.kind) (codes_of s) x)

-- suffixes behind a value, the innermost first
abbrev pub all_behind : Bearings → Shown → List PartSuffix → Shown
all_behind b s [] = s
all_behind b s (x ∷ xs) = all_behind b (shown_behind b s x) xs

-- what is chosen, where the whole is an operand
abbrev pub alternative : Bearings → PartChoice → Option Operand → Alternative
alternative b c o = roll-Alternative (record { test = c.test.value b; yes = c.yes.value b; gives = kind_operand o })

-- choices before an operand, each with the kind of the whole from there on
abbrev pub alternatives_by : Bearings → List PartChoice → Option Operand → List Alternative
alternatives_by b [] o = []
alternatives_by b (c ∷ cs) o = alternative b c (choice_operand (env_in b) (known_choices (c ∷ cs)) o) ∷ alternatives_by b cs o

-- an operator between an operand and a value
abbrev pub operation_of : Env → BinaryOperator → Option Operand → Shown → Operation
operation_of env o a s =
    let b : Option Operand = operand_if s.kind s.null in
    roll-Operation (record {
      operator = o;
      gives = kind_operand (joined env o a b);
      left = kind_operand a;
      right = kind_operand b;
      step = cells_of env
          (target (kind_operand a));
      operand = s.value;
    })

-- a value as an operand
abbrev pub operand_told : Shown → Option Operand
operand_told s = operand_if s.kind s.null

-- operators behind a value, with their operands
abbrev pub chain_told : Bearings → Shown → List PartLink → Shown
chain_told b s ls =
    record {
      kind = operand_kind (chain_kind (env_in b) (operand_told s) (known_links ls));
      null = false;
      value = code
          (start.Chain s.value (operations b (operand_told s) ls)) [];
      place = nothing;
    }

-- choices before a value
abbrev pub choice_told : Bearings → List PartChoice → Shown → Shown
choice_told b cs s =
    record {
      kind = operand_kind (choice_operand (env_in b) (known_choices cs) (operand_told s));
      null = false;
      value = code
          (start.Choice (alternatives_by b cs (operand_told s)) s.value) [];
      place = nothing;
    }
