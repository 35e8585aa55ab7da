-- The values and the places of expressions, or why they have none. Parts are evaluated from left to right.
use Rattle.std.specs.Prelude.{ℕ, suc, ◌==◌, ◌&&◌, Bool, true, false, if◌then◌else◌, pos, neg_ℤ, ◌*ℤ◌, List, [], ◌∷◌, Option, Some, None, Ok, Err}
use Rattle.std.specs.Str.{bytes_eq}
use Rattle.vg_base.specs.declared.event.UndefKind.TheVariants as undef
use Rattle.c_tree.specs.declared.names.Name.{Name}
use Rattle.c_tree.specs.declared.names.Span.{Span}
use Rattle.c_tree.specs.declared.operators.BinaryOperator.{BinaryOperator}
use Rattle.c_tree.specs.declared.operators.BinaryOperator.TheVariants as op
use Rattle.c_tree.specs.declared.operators.Prefix.{Prefix}
use Rattle.c_tree.specs.declared.operators.Prefix.TheVariants as prefix
use Rattle.c_tree.specs.declared.operators.PrefixOperator.{PrefixOperator}
use Rattle.c_tree.specs.declared.code.Expr.{Expr}
use Rattle.c_tree.specs.declared.code.Shape.TheOpen.{Shape-F, Suffix-F, Choice-F, Expr-F, Link-F}
use Rattle.c_tree.specs.declared.code.Shape.TheFolds.{fold-Expr}
use Rattle.c_tree.specs.declared.kinds.Kind.{Kind}
use Rattle.c_tree.specs.declared.kinds.Sort.{Sort}
use Rattle.c_tree.specs.declared.kinds.Sort.TheVariants as sort
use Rattle.c_tree.specs.declared.kinds.Operand.{Operand}
use Rattle.c_tree.specs.Kinds.{is_integer, ulong, long}
use Rattle.c_tree.specs.Constants.{Datum, Figure, constant_value, character_value}
use Rattle.c_tree.specs.Library.{constant_kind}
use Rattle.c_tree.specs.Env.{Env, found, cells_of, target}
use Rattle.c_tree.specs.Faults.{outcome_kind}
use Rattle.c_tree.specs.Checks.{Checked, Known, KnownLink, KnownChoice, KnownSuffix, check_shape, number_kind, operand_of, operand_kind, prefix_kind, suffix_outcome, joined, choice_operand, prefix_worth}
use Rattle.c_tree.specs.Checks as check
use Rattle.c_meaning.specs.declared.cell.Cell.{Cell}
use Rattle.c_meaning.specs.declared.cell.Cell.TheVariants.{Int, Ptr, Func, Null}
use Rattle.c_meaning.specs.State
use Rattle.c_meaning.specs.State.{Place, Value, Scalar, Struct, Variable, Scope, Routine, Fixed, Standing}
use Rattle.c_meaning.specs.Layout.{known, kind, offset}
use Rattle.c_meaning.specs.Blocks.{Answer, bind}
use Rattle.c_meaning.specs.Numbers.{number, number_of, scalar, converted, is_false, truth, read, pointed, moved, to, stepped, calculated, worth_cell, difference, same}

-- where a value is evaluated: the functions of the unit, the state, what is declared there, and the block of the frame
pub record Context : Type 0 where
  pub routines : List Routine
  pub state : State.State
  pub scope : Scope
  pub frame : ℕ

-- what is evaluated where it is asked for
abbrev pub Later : Type 0 → Type 0
Later A = Unit {0} → A

-- 1. Names

abbrev pub variable_in : List Variable → List ℕ → Option ℕ
variable_in [] x = None
variable_in (v ∷ vs) x = if bytes_eq v.name x then Some v.at else variable_in vs x

abbrev pub static_in : List Fixed → List ℕ → Answer Place
static_in [] x = Err undef.Kind
static_in (v ∷ vs) x = if bytes_eq v.name x then Ok (record { block = v.block; at = 0 }) else static_in vs x

abbrev pub place_by : Context → List ℕ → Option ℕ → Answer Place
place_by c x (Some at) = Ok (record { block = c.frame; at = at })
place_by c x None = static_in c.state.statics x

-- a variable is a place of the frame's block, or a block of its own
abbrev pub variable_place : Context → List ℕ → Answer Place
variable_place c x = place_by c x (variable_in c.scope.variables x)

-- the number of a function, counted from a number on
abbrev pub routine_in : ℕ → List Routine → List ℕ → Answer Cell
routine_in n [] x = Err undef.Kind
routine_in n (r ∷ rs) x = if bytes_eq r.name x then Ok (Func n) else routine_in (suc n) rs x

-- a text literal is known by where it stands
abbrev pub literal_in : List Standing → ℕ → Answer Cell
literal_in [] start = Err undef.Kind
literal_in (l ∷ ls) start = if l.start == start then Ok (Ptr l.block 0) else literal_in ls start

abbrev pub as_value : Answer Cell → Answer Value
as_value a = bind a (λ c. Ok (Scalar c))

abbrev pub datum_cell : Kind → Datum → Cell
datum_cell k (Figure z) = number k z
datum_cell k d = Null

abbrev pub member_number : Option Sort → Answer Value
member_number (Some (sort.Member z)) = Ok (Scalar (Int z))
member_number s = Err undef.Kind

-- 2. What is told of a value

-- its kind, its value by where it stands, and its place
pub record Meant : Type 0 where
  pub checked : Checked
  pub value : Context → ℕ → Answer Value
  pub place : Context → Answer Place

pub record Part : Type 0 where
  pub known : Known
  pub value : Context → Answer Value
  pub place : Context → Answer Place

pub record PartLink : Type 0 where
  pub operator : BinaryOperator
  pub operand : Part

pub record PartChoice : Type 0 where
  pub test : Part
  pub yes : Part

pub data PartSuffix : Type 0 where
  Field : Name → PartSuffix
  Arrow : Name → PartSuffix
  Index : Part → Span → PartSuffix

abbrev pub known_link : PartLink → KnownLink
known_link l = record { operator = l.operator; operand = l.operand.known }

abbrev pub known_links : List PartLink → List KnownLink
known_links [] = []
known_links (l ∷ ls) = known_link l ∷ known_links ls

abbrev pub known_choices : List PartChoice → List KnownChoice
known_choices [] = []
known_choices (c ∷ cs) = record { test = c.test.known; yes = c.yes.known } ∷ known_choices cs

abbrev pub known_suffix : PartSuffix → KnownSuffix
known_suffix (Field x) = check.Field x
known_suffix (Arrow x) = check.Arrow x
known_suffix (Index i s) = check.Index i.known s

abbrev pub known_suffixes : List PartSuffix → List KnownSuffix
known_suffixes [] = []
known_suffixes (x ∷ xs) = known_suffix x ∷ known_suffixes xs

-- a level with what is checked of its parts
abbrev pub known_layer : Shape-F Meant PartSuffix PartChoice Part PartLink → Shape-F Checked KnownSuffix KnownChoice Known KnownLink
known_layer (Shape-F.Number n) = Shape-F.Number n
known_layer (Shape-F.Character b) = Shape-F.Character b
known_layer (Shape-F.Text bytes) = Shape-F.Text bytes
known_layer (Shape-F.Constant c) = Shape-F.Constant c
known_layer (Shape-F.Variable x) = Shape-F.Variable x
known_layer (Shape-F.Function x) = Shape-F.Function x
known_layer (Shape-F.Member x) = Shape-F.Member x
known_layer (Shape-F.SizeOf t s) = Shape-F.SizeOf t s
known_layer (Shape-F.Offset t x s) = Shape-F.Offset t x s
known_layer (Shape-F.Prefix ps a) = Shape-F.Prefix ps a.known
known_layer (Shape-F.Postfix a xs) = Shape-F.Postfix a.known (known_suffixes xs)
known_layer (Shape-F.Chain a ls) = Shape-F.Chain a.known (known_links ls)
known_layer (Shape-F.Conditional cs e) = Shape-F.Conditional (known_choices cs) e.known

abbrev pub kind_part : Context → Part → Option Kind
kind_part c a = a.known.value.kind c.scope.env

-- the value at a place of a kind
abbrev pub read_place : Context → Option Kind → Place → Answer Value
read_place c k p = read c.state (known k) (cells_of c.scope.env (known k)) p

-- 3. Operators before an operand

abbrev pub pointed_value : Context → Value → Answer Place
pointed_value c v = bind (scalar v) (pointed c.state)

-- an operator on a number, whose result has the kind r
abbrev pub on_number : Prefix → Kind → Value → Answer Value
on_number p r v = bind (scalar v) (λ x. bind (number_of x) (λ z. as_value (worth_cell r undef.Overflow (prefix_worth p r (Figure z)))))

abbrev pub prefix_value : Context → Prefix → Option Kind → Later (Answer Value) → Later (Answer Place) → Answer Value
prefix_value c prefix.Not r v p = bind (v tt) (λ x. bind (scalar x) (λ y. Ok (Scalar (truth (is_false y)))))
prefix_value c prefix.Deref r v p = bind (bind (v tt) (pointed_value c)) (read_place c r)
prefix_value c prefix.AddressOf r v p = bind (p tt) (λ q. Ok (Scalar (to q)))
prefix_value c (prefix.Cast t) r v p = bind (v tt) (converted (known r))
prefix_value c o r v p = bind (v tt) (on_number o (known r))

abbrev pub prefix_place : Context → Prefix → Later (Answer Value) → Answer Place
prefix_place c prefix.Deref v = bind (v tt) (pointed_value c)
prefix_place c o v = Err undef.Kind

-- the value and the place of a part
pub record Both : Type 0 where
  pub value : Later (Answer Value)
  pub place : Later (Answer Place)

-- an operator before a part, where the value has the kind r
abbrev pub before : Context → Prefix → Option Kind → Both → Both
before c p r b = record { value = λ u. prefix_value c p r b.value b.place; place = λ u. prefix_place c p b.value }

-- operators, the outermost first, before a part
abbrev pub prefixed : Context → List PrefixOperator → Part → Both
prefixed c [] a = record { value = λ u. a.value c; place = λ u. a.place c }
prefixed c (p ∷ ps) a = before c p.prefix (prefix_kind c.scope.env (p ∷ ps) (kind_part c a)) (prefixed c ps a)

-- 4. What stands behind a value

-- the field of what a pointer of a kind leads to
abbrev pub arrow_place : Context → Kind → Name → Value → Answer Place
arrow_place c k x v = bind (pointed_value c v) (λ p. moved c.state p (pos (offset c.scope.env (target k) x.text)))

-- so many steps of a pointer of a kind on
abbrev pub index_place : Context → Kind → Value → Value → Answer Place
index_place c k v i = bind (scalar i) (λ y. bind (number_of y) (λ n. bind (pointed_value c v) (λ p. moved c.state p (n *ℤ pos (cells_of c.scope.env (target k))))))

abbrev pub suffix_place : Context → Kind → Later (Answer Value) → Later (Answer Place) → PartSuffix → Answer Place
suffix_place c k v p (Field x) = bind (p tt) (λ q. moved c.state q (pos (offset c.scope.env k x.text)))
suffix_place c k v p (Arrow x) = bind (v tt) (arrow_place c k x)
suffix_place c k v p (Index i s) = bind (v tt) (λ x. bind (i.value c) (index_place c k x))

-- suffixes, the innermost first: each gives a place, which the next one reads, or goes on from
abbrev pub suffixes_place : Context → Option Kind → Later (Answer Value) → Later (Answer Place) → List PartSuffix → Answer Place
suffixes_place c k v p [] = p tt
suffixes_place c k v p (x ∷ xs) =
    let q : Answer Place = suffix_place c (known k) v p x in
    let j : Option Kind = outcome_kind (suffix_outcome c.scope.env k (known_suffix x)) in
    suffixes_place c j (λ u. bind q (read_place c j)) (λ u. q) xs

-- 5. Operators between operands

abbrev pub kind_operand : Option Operand → Kind
kind_operand a = known (operand_kind a)

-- a pointer or function, and another or a number
abbrev pub pointer_result : Context → BinaryOperator → Kind → Kind → Cell → Cell → Answer Cell
pointer_result c op.Add j k x y = bind (number_of y) (λ n. stepped c.state x (n *ℤ pos (cells_of c.scope.env (target j))))
pointer_result c op.Subtract j k x y =
    if is_integer k then bind (number_of y) (λ n. stepped c.state x (neg_ℤ (n *ℤ pos (cells_of c.scope.env (target j)))))
    else bind (pointed c.state x) (λ p. bind (pointed c.state y) (difference p))
pointer_result c op.Equal j k x y = Ok (truth (same x y))
pointer_result c op.Unequal j k x y = Ok (truth (if same x y then false else true))
pointer_result c o j k x y = Err undef.Kind

-- two cells of kinds j and k, where the result has the kind r
abbrev pub combined : Context → BinaryOperator → Kind → Kind → Kind → Cell → Cell → Answer Cell
combined c o r j k x y =
    if is_integer j && is_integer k then bind (number_of x) (λ a. bind (number_of y) (λ b. calculated o r j k a b)) else pointer_result c o j k x y

-- whether a value is true
abbrev pub truth_of : Value → Answer Value
truth_of v = bind (scalar v) (λ x. Ok (Scalar (truth (if is_false x then false else true))))

-- the second of `&&` is evaluated where the first is true, and that of `||` where it is false
abbrev pub unless_decided : Bool → Bool → Later (Answer Value) → Answer Value
unless_decided false false w = Ok (Scalar (truth false))
unless_decided true true w = Ok (Scalar (truth true))
unless_decided first decides w = bind (w tt) truth_of

abbrev pub shortened : Bool → Value → Later (Answer Value) → Answer Value
shortened decides v w = bind (scalar v) (λ x. unless_decided (if is_false x then false else true) decides w)

abbrev pub link_value : Context → BinaryOperator → Kind → Kind → Kind → Later (Answer Value) → Value → Answer Value
link_value c op.And r j k w v = shortened false v w
link_value c op.Or r j k w v = shortened true v w
link_value c o r j k w v = bind (scalar v) (λ x. bind (w tt) (λ u. bind (scalar u) (λ y. as_value (combined c o r j k x y))))

-- a chain from its first operand on
abbrev pub chain_value : Context → Option Operand → Answer Value → List PartLink → Answer Value
chain_value c a v [] = v
chain_value c a v (l ∷ ls) =
    let b : Option Operand = operand_of c.scope.env l.operand.known in
    let r : Option Operand = joined c.scope.env l.operator a b in
    chain_value c r (bind v (link_value c l.operator (kind_operand r) (kind_operand a) (kind_operand b) (λ u. l.operand.value c))) ls

-- 6. Choices

abbrev pub one_of : Bool → Later (Answer Value) → Later (Answer Value) → Answer Value
one_of true a b = a tt
one_of false a b = b tt

-- the chosen value, in the kind of the whole
abbrev pub choices_value : Context → List PartChoice → Part → Answer Value
choices_value c [] e = e.value c
choices_value c (x ∷ xs) e =
    bind (x.test.value c) (λ t. bind (scalar t) (λ y.
    bind (one_of (is_false y) (λ u. choices_value c xs e) (λ u. x.yes.value c)) (converted (kind_operand (choice_operand c.scope.env (known_choices (x ∷ xs)) (operand_of c.scope.env e.known))))))

-- 7. One level of a value

abbrev pub constant : Shape-F Meant PartSuffix PartChoice Part PartLink → (Context → ℕ → Answer Value) → Meant
constant s v = record { checked = check_shape (known_layer s); value = v; place = λ c. Err undef.Kind }

abbrev pub mean_shape : Shape-F Meant PartSuffix PartChoice Part PartLink → Meant
mean_shape (Shape-F.Number n) = constant (Shape-F.Number n) (λ c at. Ok (Scalar (number (number_kind n.kind) (pos n.value))))
mean_shape (Shape-F.Character b) = constant (Shape-F.Character b) (λ c at. Ok (Scalar (Int (character_value b))))
mean_shape (Shape-F.Text bytes) = constant (Shape-F.Text bytes) (λ c at. as_value (literal_in c.state.literals at))
mean_shape (Shape-F.Constant x) = constant (Shape-F.Constant x) (λ c at. Ok (Scalar (datum_cell (constant_kind x) (constant_value x))))
mean_shape (Shape-F.Variable x) =
    record {
      checked = check_shape (Shape-F.Variable x);
      value = λ c at. bind (variable_place c x.text) (read_place c (check.variable_kind (found c.scope.env.scopes x.text)));
      place = λ c. variable_place c x.text;
    }
mean_shape (Shape-F.Function x) = constant (Shape-F.Function x) (λ c at. as_value (routine_in 0 c.routines x.text))
mean_shape (Shape-F.Member x) = constant (Shape-F.Member x) (λ c at. member_number (found c.scope.env.scopes x.text))
mean_shape (Shape-F.SizeOf t s) = constant (Shape-F.SizeOf t s) (λ c at. Ok (Scalar (number ulong (pos (cells_of c.scope.env (kind c.scope.env t))))))
mean_shape (Shape-F.Offset t x s) = constant (Shape-F.Offset t x s) (λ c at. Ok (Scalar (number long (pos (offset c.scope.env (kind c.scope.env t) x.text)))))
mean_shape (Shape-F.Prefix ps a) =
    record { checked = check_shape (known_layer (Shape-F.Prefix ps a)); value = λ c at. (prefixed c ps a).value tt; place = λ c. (prefixed c ps a).place tt }
mean_shape (Shape-F.Postfix a xs) =
    record {
      checked = check_shape (known_layer (Shape-F.Postfix a xs));
      value = λ c at. bind (suffixes_place c (kind_part c a) (λ u. a.value c) (λ u. a.place c) xs) (read_place c (check.suffix_kind c.scope.env (kind_part c a) (known_suffixes xs)));
      place = λ c. suffixes_place c (kind_part c a) (λ u. a.value c) (λ u. a.place c) xs;
    }
mean_shape (Shape-F.Chain a ls) = constant (Shape-F.Chain a ls) (λ c at. chain_value c (operand_of c.scope.env a.known) (a.value c) ls)
mean_shape (Shape-F.Conditional cs e) = constant (Shape-F.Conditional cs e) (λ c at. choices_value c cs e)

abbrev pub mean_suffix : Suffix-F Meant PartSuffix PartChoice Part PartLink → PartSuffix
mean_suffix (Suffix-F.Field x) = Field x
mean_suffix (Suffix-F.Arrow x) = Arrow x
mean_suffix (Suffix-F.Index i s) = Index i s

abbrev pub mean_choice : Choice-F Meant PartSuffix PartChoice Part PartLink → PartChoice
mean_choice c = record { test = c.test; yes = c.yes }

abbrev pub mean_link : Link-F Meant PartSuffix PartChoice Part PartLink → PartLink
mean_link l = record { operator = l.operator; operand = l.operand }

-- a value knows where it stands
abbrev pub mean_expr : Expr-F Meant PartSuffix PartChoice Part PartLink → Part
mean_expr e = record { known = record { span = e.span; value = e.shape.checked }; value = λ c. e.shape.value c e.span.start; place = e.shape.place }

-- WHAT A VALUE MEANS: its kind, its value and its place
abbrev pub meant : Expr → Part
meant = fold-Expr Meant PartSuffix PartChoice Part PartLink mean_shape mean_suffix mean_choice mean_expr mean_link

-- A unit as it runs: what is declared at its end, its functions, which cells name by their numbers, and what its values mean.
pub record Program : Type 0 where
  pub env : Env
  pub routines : List Routine
  pub meant : Expr → Part

-- where a unit's statement is
pub record Here : Type 0 where
  pub program : Program
  pub context : Context

abbrev pub part_at : Here → Expr → Part
part_at h e = h.program.meant e

abbrev pub env_at : Here → Env
env_at h = h.context.scope.env

abbrev pub value_of : Here → Expr → Answer Value
value_of h e = (part_at h e).value h.context

abbrev pub place_of : Here → Expr → Answer Place
place_of h e = (part_at h e).place h.context

-- the kind of a value where it stands
abbrev pub kind_at : Here → Expr → Kind
kind_at h e = known (kind_part h.context (part_at h e))

-- the one cell of a value
abbrev pub cell_at : Here → Expr → Answer Cell
cell_at h e = bind (value_of h e) scalar

-- a place of a unit, in a state
abbrev pub here : Program → State.State → Scope → ℕ → Here
here p s sc frame = record { program = p; context = record { routines = p.routines; state = s; scope = sc; frame = frame } }
