-- The code of values: names become places, kinds become what the moves need.
use Rattle.std.specs.Prelude.{ℕ, pos, List, [], ◌∷◌, ◌++◌, Option, Some, None, Ok, Err}
use Rattle.c_tree.specs.declared.names.Name.{Name}
use Rattle.c_tree.specs.declared.names.Span.{Span}
use Rattle.c_tree.specs.declared.operators.BinaryOperator.{BinaryOperator}
use Rattle.c_tree.specs.declared.operators.Prefix.{Prefix}
use Rattle.c_tree.specs.declared.operators.Prefix.TheVariants as prefix
use Rattle.c_tree.specs.declared.operators.PrefixOperator.{PrefixOperator}
use Rattle.c_tree.specs.declared.code.Expr.{Expr}
use Rattle.c_tree.specs.declared.code.Shape.TheOpen.{Shape-F, Suffix-F, Choice-F, Expr-F, Link-F}
use Rattle.c_tree.specs.declared.code.Shape.TheFolds.{fold-Expr}
use Rattle.c_tree.specs.declared.kinds.Kind.{Kind}
use Rattle.c_tree.specs.declared.kinds.Operand.{Operand}
use Rattle.c_tree.specs.declared.kinds.Sort.{Sort}
use Rattle.c_tree.specs.declared.kinds.Sort.TheVariants as sort
use Rattle.c_tree.specs.Kinds.{ulong, long}
use Rattle.c_tree.specs.Constants.{character_value}
use Rattle.c_tree.specs.Constants as constant
use Rattle.c_tree.specs.Library.{constant_kind}
use Rattle.c_tree.specs.Env.{Env, found, cells_of, target}
use Rattle.c_tree.specs.Faults.{outcome_kind}
use Rattle.c_tree.specs.Checks.{Checked, Known, KnownLink, KnownChoice, KnownSuffix, check_shape, number_kind, operand_of, prefix_kind, suffix_outcome, suffix_kind, joined, choice_operand, variable_kind}
use Rattle.c_tree.specs.Checks as check
use Rattle.c_meaning.specs.declared.cell.Cell.{Cell}
use Rattle.c_meaning.specs.declared.cell.Cell.TheVariants.{Int}
use Rattle.c_meaning.specs.State.{Place, Scope, Routine, Fixed, Standing}
use Rattle.c_meaning.specs.Layout.{known, kind, offset}
use Rattle.c_meaning.specs.Blocks.{Answer}
use Rattle.c_meaning.specs.Numbers.{number}
use Rattle.c_meaning.specs.Values.{variable_in, static_in, routine_in, literal_in, datum_cell, kind_operand}
use Rattle.c_code.specs.declared.code.Code.{Code, roll-Code}
use Rattle.c_code.specs.declared.code.Start.{Start}
use Rattle.c_code.specs.declared.code.Start.TheVariants as start
use Rattle.c_code.specs.declared.code.Move.{Move}
use Rattle.c_code.specs.declared.code.Move.TheVariants as go
use Rattle.c_code.specs.declared.code.Sign.TheVariants as sign
use Rattle.c_code.specs.declared.code.Operation.{Operation, roll-Operation}
use Rattle.c_code.specs.declared.code.Alternative.{Alternative, roll-Alternative}

-- 1. What names are resolved by

-- the blocks of text literals and static variables, and the functions
pub record Tables : Type 0 where
  pub literals : List Standing
  pub statics : List Fixed
  pub routines : List Routine

-- the same, and what is declared where a value stands
pub record Bearings : Type 0 where
  pub tables : Tables
  pub scope : Scope

abbrev pub env_in : Bearings → Env
env_in b = b.scope.env

-- 2. Pieces of code

abbrev pub code : Start → List Move → Code
code s ms = roll-Code (record { start = s; moves = ms })

-- what has no meaning
abbrev pub nothing : Code
nothing = code start.Nothing []

-- code, and a few moves more
abbrev pub on : Code → List Move → Code
on c ms = code c.start (c.moves ++ ms)

abbrev pub cell : Cell → Code
cell c = code (start.Cell c) []

abbrev pub cell_if : Answer Cell → Code
cell_if (Ok c) = cell c
cell_if (Err u) = nothing

-- the value at what is reached, of a kind
abbrev pub read : Env → Option Kind → Code → Code
read env k c = on c (go.Read (known k) (cells_of env (known k)) ∷ [])

abbrev pub static_start : Answer Place → Code
static_start (Ok p) = code (start.Block p.block) []
static_start (Err u) = nothing

abbrev pub variable_start : Bearings → List ℕ → Option ℕ → Code
variable_start b x (Some at) = code (start.Local at) []
variable_start b x None = static_start (static_in b.tables.statics x)

-- the place of a variable
abbrev pub variable : Bearings → List ℕ → Code
variable b x = variable_start b x (variable_in b.scope.variables x)

abbrev pub member : Option Sort → Code
member (Some (sort.Member z)) = cell (Int z)
member s = nothing

-- 3. What is told of a value: what is checked of it, and the code of its value and of its place

pub record Resolution : Type 0 where
  pub checked : Checked
  pub value : Bearings → ℕ → Code
  pub place : Bearings → Code

pub record Part : Type 0 where
  pub known : Known
  pub value : Bearings → Code
  pub place : Bearings → Code

pub record PartLink : Type 0 where
  pub operator : BinaryOperator
  pub operand : Part

pub record PartChoice : Type 0 where
  pub test : Part
  pub yes : Part

pub data PartSuffix : Type 0 where
  Field : Name → PartSuffix
  Arrow : Name → PartSuffix
  Index : Part → Span → PartSuffix

abbrev pub known_links : List PartLink → List KnownLink
known_links [] = []
known_links (l ∷ ls) = record { operator = l.operator; operand = l.operand.known } ∷ known_links ls

abbrev pub known_choices : List PartChoice → List KnownChoice
known_choices [] = []
known_choices (c ∷ cs) = record { test = c.test.known; yes = c.yes.known } ∷ known_choices cs

abbrev pub known_suffix : PartSuffix → KnownSuffix
known_suffix (Field x) = check.Field x
known_suffix (Arrow x) = check.Arrow x
known_suffix (Index i s) = check.Index i.known s

abbrev pub known_suffixes : List PartSuffix → List KnownSuffix
known_suffixes [] = []
known_suffixes (x ∷ xs) = known_suffix x ∷ known_suffixes xs

-- a level with what is checked of its parts
abbrev pub known_layer : Shape-F Resolution PartSuffix PartChoice Part PartLink → Shape-F Checked KnownSuffix KnownChoice Known KnownLink
known_layer (Shape-F.Number n) = Shape-F.Number n
known_layer (Shape-F.Character b) = Shape-F.Character b
known_layer (Shape-F.Text bytes) = Shape-F.Text bytes
known_layer (Shape-F.Constant c) = Shape-F.Constant c
known_layer (Shape-F.Variable x) = Shape-F.Variable x
known_layer (Shape-F.Function x) = Shape-F.Function x
known_layer (Shape-F.Member x) = Shape-F.Member x
known_layer (Shape-F.SizeOf t s) = Shape-F.SizeOf t s
known_layer (Shape-F.Offset t x s) = Shape-F.Offset t x s
known_layer (Shape-F.Prefix ps a) = Shape-F.Prefix ps a.known
known_layer (Shape-F.Postfix a xs) = Shape-F.Postfix a.known (known_suffixes xs)
known_layer (Shape-F.Chain a ls) = Shape-F.Chain a.known (known_links ls)
known_layer (Shape-F.Conditional cs e) = Shape-F.Conditional (known_choices cs) e.known

abbrev pub kind_part : Bearings → Part → Option Kind
kind_part b a = a.known.value.kind (env_in b)

-- 4. Operators before an operand

-- the code of a value and of its place
pub record Both : Type 0 where
  pub value : Code
  pub place : Code

abbrev pub before : Env → Prefix → Option Kind → Both → Both
before env prefix.Not r a = record { value = on a.value (go.Not ∷ []); place = nothing }
before env prefix.Deref r a = record { value = read env r (on a.value (go.Follow ∷ [])); place = on a.value (go.Follow ∷ []) }
before env prefix.AddressOf r a = record { value = on a.place (go.Address ∷ []); place = nothing }
before env (prefix.Cast t) r a = record { value = on a.value (go.Convert (known r) ∷ []); place = nothing }
before env prefix.Plus r a = record { value = on a.value (go.Sign sign.Plus (known r) ∷ []); place = nothing }
before env prefix.Minus r a = record { value = on a.value (go.Sign sign.Minus (known r) ∷ []); place = nothing }
before env prefix.Complement r a = record { value = on a.value (go.Sign sign.Complement (known r) ∷ []); place = nothing }

-- operators, the outermost first, before an operand of a kind
abbrev pub prefixed : Env → List PrefixOperator → Option Kind → Both → Both
prefixed env [] k a = a
prefixed env (p ∷ ps) k a = before env p.prefix (prefix_kind env (p ∷ ps) k) (prefixed env ps k a)

abbrev pub both : Bearings → Part → Both
both b a = record { value = a.value b; place = a.place b }

-- 5. What stands behind a value

-- a suffix of a value of a kind: the first goes on from a place, the others from a pointer
abbrev pub suffix_place : Bearings → Kind → Both → PartSuffix → Code
suffix_place b k a (Field x) = on a.place (go.Field (offset (env_in b) k x.text) ∷ [])
suffix_place b k a (Arrow x) = on a.value (go.Follow ∷ go.Field (offset (env_in b) (target k) x.text) ∷ [])
suffix_place b k a (Index i s) = on a.value (go.Index (i.value b) (cells_of (env_in b) (target k)) ∷ [])

-- suffixes, the innermost first: each gives a place, which the next one reads, or goes on from
abbrev pub suffixes_place : Bearings → Option Kind → Both → List PartSuffix → Code
suffixes_place b k a [] = a.place
suffixes_place b k a (x ∷ xs) =
    let q : Code = suffix_place b (known k) a x in
    let j : Option Kind = outcome_kind (suffix_outcome (env_in b) k (known_suffix x)) in
    suffixes_place b j (record { value = read (env_in b) j q; place = q }) xs

-- 6. Chains and choices

abbrev pub operation : Bearings → Option Operand → PartLink → Operation
operation b a l =
    let o : Option Operand = operand_of (env_in b) l.operand.known in
    roll-Operation (record { operator = l.operator; gives = kind_operand (joined (env_in b) l.operator a o); left = kind_operand a; right = kind_operand o; step = cells_of (env_in b) (target (kind_operand a)); operand = l.operand.value b })

-- the operations of a chain from its first operand on
abbrev pub operations : Bearings → Option Operand → List PartLink → List Operation
operations b a [] = []
operations b a (l ∷ ls) = operation b a l ∷ operations b (joined (env_in b) l.operator a (operand_of (env_in b) l.operand.known)) ls

-- each with the kind of the whole from there on
abbrev pub alternatives : Bearings → List PartChoice → Part → List Alternative
alternatives b [] e = []
alternatives b (c ∷ cs) e =
    roll-Alternative (record { test = c.test.value b; yes = c.yes.value b; gives = kind_operand (choice_operand (env_in b) (known_choices (c ∷ cs)) (operand_of (env_in b) e.known)) })
    ∷ alternatives b cs e

-- 7. One level of a value

-- a value that is no place
abbrev pub plain : Shape-F Resolution PartSuffix PartChoice Part PartLink → (Bearings → ℕ → Code) → Resolution
plain s v = record { checked = check_shape (known_layer s); value = v; place = λ b. nothing }

abbrev pub resolve_shape : Shape-F Resolution PartSuffix PartChoice Part PartLink → Resolution
resolve_shape (Shape-F.Number n) = plain (Shape-F.Number n) (λ b at. cell (number (number_kind n.kind) (pos n.value)))
resolve_shape (Shape-F.Character c) = plain (Shape-F.Character c) (λ b at. cell (Int (character_value c)))
resolve_shape (Shape-F.Text bytes) = plain (Shape-F.Text bytes) (λ b at. cell_if (literal_in b.tables.literals at))
resolve_shape (Shape-F.Constant x) = plain (Shape-F.Constant x) (λ b at. cell (datum_cell (constant_kind x) (constant.constant_value x)))
resolve_shape (Shape-F.Variable x) =
    record {
      checked = check_shape (Shape-F.Variable x);
      value = λ b at. read (env_in b) (variable_kind (found (env_in b).scopes x.text)) (variable b x.text);
      place = λ b. variable b x.text;
    }
resolve_shape (Shape-F.Function x) = plain (Shape-F.Function x) (λ b at. cell_if (routine_in 0 b.tables.routines x.text))
resolve_shape (Shape-F.Member x) = plain (Shape-F.Member x) (λ b at. member (found (env_in b).scopes x.text))
resolve_shape (Shape-F.SizeOf t s) = plain (Shape-F.SizeOf t s) (λ b at. cell (number ulong (pos (cells_of (env_in b) (kind (env_in b) t)))))
resolve_shape (Shape-F.Offset t x s) = plain (Shape-F.Offset t x s) (λ b at. cell (number long (pos (offset (env_in b) (kind (env_in b) t) x.text))))
resolve_shape (Shape-F.Prefix ps a) =
    record {
      checked = check_shape (known_layer (Shape-F.Prefix ps a));
      value = λ b at. (prefixed (env_in b) ps (kind_part b a) (both b a)).value;
      place = λ b. (prefixed (env_in b) ps (kind_part b a) (both b a)).place;
    }
resolve_shape (Shape-F.Postfix a xs) =
    record {
      checked = check_shape (known_layer (Shape-F.Postfix a xs));
      value = λ b at. read (env_in b) (suffix_kind (env_in b) (kind_part b a) (known_suffixes xs)) (suffixes_place b (kind_part b a) (both b a) xs);
      place = λ b. suffixes_place b (kind_part b a) (both b a) xs;
    }
resolve_shape (Shape-F.Chain a ls) =
    plain (Shape-F.Chain a ls) (λ b at. code (start.Chain (a.value b) (operations b (operand_of (env_in b) a.known) ls)) [])
resolve_shape (Shape-F.Conditional cs e) = plain (Shape-F.Conditional cs e) (λ b at. code (start.Choice (alternatives b cs e) (e.value b)) [])

abbrev pub resolve_suffix : Suffix-F Resolution PartSuffix PartChoice Part PartLink → PartSuffix
resolve_suffix (Suffix-F.Field x) = Field x
resolve_suffix (Suffix-F.Arrow x) = Arrow x
resolve_suffix (Suffix-F.Index i s) = Index i s

abbrev pub resolve_choice : Choice-F Resolution PartSuffix PartChoice Part PartLink → PartChoice
resolve_choice c = record { test = c.test; yes = c.yes }

abbrev pub resolve_link : Link-F Resolution PartSuffix PartChoice Part PartLink → PartLink
resolve_link l = record { operator = l.operator; operand = l.operand }

abbrev pub resolve_expr : Expr-F Resolution PartSuffix PartChoice Part PartLink → Part
resolve_expr e = record { known = record { span = e.span; value = e.shape.checked }; value = λ b. e.shape.value b e.span.start; place = e.shape.place }

-- THE CODE OF A VALUE, by what names are resolved by
abbrev pub resolved : Expr → Part
resolved = fold-Expr Resolution PartSuffix PartChoice Part PartLink resolve_shape resolve_suffix resolve_choice resolve_expr resolve_link

abbrev pub value_code : Bearings → Expr → Code
value_code b e = (resolved e).value b

abbrev pub place_code : Bearings → Expr → Code
place_code b e = (resolved e).place b

-- the kind of a value
abbrev pub kind_at : Bearings → Expr → Kind
kind_at b e = known (kind_part b (resolved e))

-- a value in a kind
abbrev pub in_kind : Kind → Code → Code
in_kind k c = on c (go.Convert k ∷ [])
