-- The kinds and the faults of values.
use Rattle.std.specs.Str.{bytes_eq}
use Rattle.std.specs.Prelude.{ℕ, ◌+◌, length, pos, negsuc, neg_ℤ, ◌+ℤ◌, ◌==◌, ◌&&◌, Bool, true, false, if◌then◌else◌, List, [], ◌∷◌, ◌++◌, Option, Some, None}
use Rattle.c_lexer.specs.declared.token.Constant.TheVariants as constant
use Rattle.c_lexer.specs.declared.token.NumberType.{NumberType}
use Rattle.c_lexer.specs.declared.token.NumberType.TheVariants as y
use Rattle.c_tree.specs.declared.names.Name.{Name}
use Rattle.c_tree.specs.declared.names.Span.{Span}
use Rattle.c_tree.specs.declared.names.Base.{Base}
use Rattle.c_tree.specs.declared.names.Base.TheVariants as base
use Rattle.c_tree.specs.declared.names.CType.{CType}
use Rattle.c_tree.specs.declared.operators.BinaryOperator.{BinaryOperator}
use Rattle.c_tree.specs.declared.operators.Prefix.{Prefix}
use Rattle.c_tree.specs.declared.operators.Prefix.TheVariants as prefix
use Rattle.c_tree.specs.declared.operators.PrefixOperator.{PrefixOperator}
use Rattle.c_tree.specs.declared.code.Expr.{Expr}
use Rattle.c_tree.specs.declared.code.Shape.TheOpen.{Shape-F, Suffix-F}
use Rattle.c_tree.specs.declared.code.Shape.TheFolds.{fold-Expr}
use Rattle.c_tree.specs.declared.kinds.KindBase.{KindBase}
use Rattle.c_tree.specs.declared.kinds.KindBase.TheVariants.{Struct, Function}
use Rattle.c_tree.specs.declared.kinds.Kind.{Kind}
use Rattle.c_tree.specs.declared.kinds.Sort.{Sort}
use Rattle.c_tree.specs.declared.kinds.Sort.TheVariants as sort
use Rattle.c_tree.specs.declared.kinds.Fault.{Fault}
use Rattle.c_tree.specs.Words.{join}
use Rattle.c_tree.specs.declared.kinds.Operand.{Operand}
use Rattle.c_tree.specs.Kinds.{plain, pointer_to, int, uint, long, ulong, text, is_integer, is_pointer, is_scalar, given_if, widened, casts, applied, chosen}
use Rattle.c_tree.specs.Constants.{Datum, Figure, InText, Code, Worth, Is, Ends, Untold, wrap, result, truth, is_false, both, converted, character_value, constant_value}
use Rattle.c_tree.specs.Library.{Literal, Word, constant_kind}
use Rattle.c_tree.specs.Library.{Figure as FigureOf}
use Rattle.c_tree.specs.Library.{Field as Declared}
use Rattle.c_tree.specs.Env.{Env, found, fields_of, field_named, cells_of, laid_out, reaches, target, kind_of}
use Rattle.c_tree.specs.Faults.{Outcome, Gives, Wrong, Lacks, Silent, outcome, outcome_kind, outcome_faults, on, undeclared}

-- 1. What is known of a value

-- which literal it is, if it is one, its kind in an environment, its faults, and what it comes to as a constant
pub record Checked : Type 0 where
  pub literal : Option Literal
  pub kind : Env → Option Kind
  pub faults : Env → List Fault
  pub worth : Env → Worth

-- the same, and where it stands with its brackets
pub record Known : Type 0 where
  pub span : Span
  pub value : Checked

-- an operator, and what is known of the operand behind it
pub record KnownLink : Type 0 where
  pub operator : BinaryOperator
  pub operand : Known

-- what is known of a condition and of the value behind it
pub record KnownChoice : Type 0 where
  pub test : Known
  pub yes : Known

-- a suffix, and what is known of the index in it
pub data KnownSuffix : Type 0 where
  Field : Name → KnownSuffix
  Arrow : Name → KnownSuffix
  Index : Known → Span → KnownSuffix

-- one without faults
abbrev pub sound : Option Literal → Kind → Datum → Checked
sound l k d = record { literal = l; kind = λ env. Some k; faults = λ env. []; worth = λ env. Is d }

-- whether a literal is the word `NULL`
abbrev pub is_null_literal : Option Literal → Bool
is_null_literal (Some (Word constant.Null)) = true
is_null_literal l = false

-- whether it is the word `NULL`
abbrev pub is_null : Known → Bool
is_null a = is_null_literal a.value.literal

-- an operand, where it has a kind
abbrev pub operand_if : Option Kind → Bool → Option Operand
operand_if None null = None
operand_if (Some k) null = Some (record { kind = k; null = null })

-- a value as an operand
abbrev pub operand_of : Env → Known → Option Operand
operand_of env a = operand_if (a.value.kind env) (is_null a)

-- 2. Names, types and literals

-- the kind of a number
abbrev pub number_kind : NumberType → Kind
number_kind y.Gint = int
number_kind y.Guint = uint
number_kind y.Glong = long
number_kind y.Gulong = ulong

-- the fault of a name that stands for nothing
abbrev pub undeclared_if : Option Sort → Name → List Fault
undeclared_if None x = undeclared x
undeclared_if (Some s) x = []

-- the fault of the base of a type
abbrev pub base_faults : Env → Base → List Fault
base_faults env (base.Named x) = undeclared_if (found env.scopes x.text) x
base_faults env b = []

-- an undeclared type
abbrev pub type_faults : Env → CType → List Fault
type_faults env c = base_faults env c.base

-- the kind of a variable
abbrev pub variable_kind : Option Sort → Option Kind
variable_kind (Some (sort.Variable k)) = k
variable_kind s = None

-- the kind of a function as a value
abbrev pub function_kind : Option Sort → Option Kind
function_kind (Some (sort.Function n is_static is_defined)) = Some (plain (Function n))
function_kind s = None

-- 3. Fields

-- what a field gives, or that there is none of that name
abbrev pub field_found : Option Declared → Name → Outcome
field_found None x = Lacks x
field_found (Some f) x = on f.kind Gives

-- the field of a struct that has these
abbrev pub field_outcome : Option (List Declared) → Name → Outcome
field_outcome None x = Wrong
field_outcome (Some fs) x = field_found (field_named fs x.text) x

-- the field of a value of a kind
abbrev pub field_by : Env → KindBase → Name → Outcome
field_by env (Struct n) x = field_outcome (fields_of env n) x
field_by env b x = Wrong

-- the field of a value of a kind
abbrev pub field_of : Env → Kind → Name → Outcome
field_of env k x = if k.stars == 0 then field_by env k.base x else Wrong

-- the field of what a pointer leads to
abbrev pub arrow_of : Env → Kind → Name → Outcome
arrow_of env k x = if is_pointer k then field_of env (target k) x else Wrong

-- what stands behind a pointer at an index
abbrev pub index_of : Env → Kind → Kind → Outcome
index_of env k i = if reaches env k && is_integer i then Gives (target k) else Wrong

-- what a suffix gives behind a value of a kind
abbrev pub suffix_outcome : Env → Option Kind → KnownSuffix → Outcome
suffix_outcome env k (Field x) = on k (λ j. field_of env j x)
suffix_outcome env k (Arrow x) = on k (λ j. arrow_of env j x)
suffix_outcome env k (Index i s) = on k (λ j. on (i.value.kind env) (index_of env j))

-- what a row of suffixes gives
abbrev pub suffix_kind : Env → Option Kind → List KnownSuffix → Option Kind
suffix_kind env k [] = k
suffix_kind env k (x ∷ xs) = suffix_kind env (outcome_kind (suffix_outcome env k x)) xs

-- where a suffix ends
abbrev pub suffix_end : KnownSuffix → Span
suffix_end (Field x) = x.span
suffix_end (Arrow x) = x.span
suffix_end (Index i s) = s

-- the faults of an index
abbrev pub index_faults : Env → KnownSuffix → List Fault
index_faults env (Index i s) = i.value.faults env
index_faults env x = []

-- each `p->f` of a row of suffixes begins where the first value does
abbrev pub suffix_faults : Env → Span → Option Kind → List KnownSuffix → List Fault
suffix_faults env first k [] = []
suffix_faults env first k (x ∷ xs) = index_faults env x ++ outcome_faults (suffix_outcome env k x) (join first (suffix_end x)) ++ suffix_faults env first (outcome_kind (suffix_outcome env k x)) xs

-- 4. Prefixes

-- a cast to a kind
abbrev pub cast_outcome : Option Kind → Kind → Outcome
cast_outcome to k = on to (λ t. outcome (given_if (casts t k) t))

-- what an operator gives of a kind
abbrev pub prefix_by : Env → Prefix → Kind → Outcome
prefix_by env prefix.Plus k = outcome (given_if (is_integer k) (widened k))
prefix_by env prefix.Minus k = outcome (given_if (is_integer k) (widened k))
prefix_by env prefix.Complement k = outcome (given_if (is_integer k) (widened k))
prefix_by env prefix.Not k = outcome (given_if (is_scalar k) int)
prefix_by env prefix.Deref k = outcome (given_if (reaches env k) (target k))
prefix_by env prefix.AddressOf k = Gives (pointer_to k)
prefix_by env (prefix.Cast c) k = cast_outcome (kind_of env c) k

-- of operators, the outermost first, before an operand of that kind
abbrev pub prefix_kind : Env → List PrefixOperator → Option Kind → Option Kind
prefix_kind env [] k = k
prefix_kind env (p ∷ ps) k = outcome_kind (on (prefix_kind env ps k) (prefix_by env p.prefix))

-- the fault of the type of a cast
abbrev pub cast_faults : Env → Prefix → List Fault
cast_faults env (prefix.Cast c) = type_faults env c
cast_faults env p = []

-- each is at fault where it stands, and ends where the operand does
abbrev pub prefix_faults : Env → List PrefixOperator → Option Kind → Span → List Fault
prefix_faults env [] k last = []
prefix_faults env (p ∷ ps) k last = cast_faults env p.prefix ++ prefix_faults env ps k last ++ outcome_faults (on (prefix_kind env ps k) (prefix_by env p.prefix)) (join p.span last)

-- 5. Chains

-- what an operator gives of two operands
abbrev pub join_outcome : Env → BinaryOperator → Option Operand → Option Operand → Outcome
join_outcome env o (Some a) (Some b) = outcome (applied (reaches env) o a b)
join_outcome env o a b = Silent

-- the result as an operand
abbrev pub joined : Env → BinaryOperator → Option Operand → Option Operand → Option Operand
joined env o a b = operand_if (outcome_kind (join_outcome env o a b)) false

-- the kind of an operand
abbrev pub operand_kind : Option Operand → Option Kind
operand_kind None = None
operand_kind (Some a) = Some a.kind

-- what a chain gives
abbrev pub chain_kind : Env → Option Operand → List KnownLink → Option Operand
chain_kind env a [] = a
chain_kind env a (l ∷ ls) = chain_kind env (joined env l.operator a (operand_of env l.operand)) ls

-- each `a + b` of a chain begins where the chain does
abbrev pub chain_faults : Env → Span → Option Operand → List KnownLink → List Fault
chain_faults env first a [] = []
chain_faults env first a (l ∷ ls) =
    l.operand.value.faults env
    ++ outcome_faults (join_outcome env l.operator a (operand_of env l.operand)) (join first l.operand.span)
    ++ chain_faults env first (joined env l.operator a (operand_of env l.operand)) ls

-- 6. Choices, from the right

-- what a choice gives
abbrev pub choice_outcome : Option Kind → Option Operand → Option Operand → Outcome
choice_outcome (Some t) (Some a) (Some b) = if is_scalar t then outcome (chosen a b) else Wrong
choice_outcome t a b = Silent

-- what a row of choices gives
abbrev pub choice_operand : Env → List KnownChoice → Option Operand → Option Operand
choice_operand env [] e = e
choice_operand env (c ∷ cs) e = operand_if (outcome_kind (choice_outcome (c.test.value.kind env) (operand_of env c.yes) (choice_operand env cs e))) false

-- each `a ? b : c` begins with its condition and ends where the last value does
abbrev pub choice_faults : Env → List KnownChoice → Known → List Fault
choice_faults env [] e = e.value.faults env
choice_faults env (c ∷ cs) e =
    c.test.value.faults env
    ++ c.yes.value.faults env
    ++ choice_faults env cs e
    ++ outcome_faults (choice_outcome (c.test.value.kind env) (operand_of env c.yes) (choice_operand env cs (operand_of env e))) (join c.test.span e.span)

-- 7. Values

-- the size of what is laid out
abbrev pub size_outcome : Env → Kind → Outcome
size_outcome env k = if laid_out env k then Gives ulong else Wrong

-- a field that is there, as its place
abbrev pub as_long : Outcome → Outcome
as_long (Gives k) = Gives long
as_long o = o

-- the place of a field of a struct that is laid out
abbrev pub offset_outcome : Env → Name → Kind → Outcome
offset_outcome env x k = if laid_out env k then as_long (field_of env k x) else Wrong

-- a number with `-` before it
abbrev pub minus_literal : Prefix → ℕ → Option Literal
minus_literal prefix.Minus n = Some (FigureOf true n)
minus_literal p n = None

-- `-` before a number is a literal too
abbrev pub signed_literal : List PrefixOperator → Option Literal → Option Literal
signed_literal [] l = l
signed_literal (p ∷ []) (Some (FigureOf false n)) = minus_literal p.prefix n
signed_literal ps l = None

-- 8. What constants come to

-- what an operator gives of a constant, in the kind of its result
abbrev pub prefix_worth : Prefix → Kind → Datum → Worth
prefix_worth prefix.Plus k (Figure z) = result k z
prefix_worth prefix.Minus k (Figure z) = result k (neg_ℤ (wrap k z))
prefix_worth prefix.Complement k (Figure z) = Is (Figure (wrap k (neg_ℤ z +ℤ negsuc 0)))
prefix_worth prefix.Not k d = truth (is_false d)
prefix_worth (prefix.Cast c) k d = Is (converted k d)
prefix_worth p k d = Untold

-- the same of what a value comes to
abbrev pub told_prefix : Prefix → Option Kind → Worth → Worth
told_prefix p (Some k) (Is d) = prefix_worth p k d
told_prefix p k Ends = Ends
told_prefix p k w = Untold

-- operators, the outermost first: each gives a value of its own kind
abbrev pub prefixes_worth : Env → List PrefixOperator → Option Kind → Worth → Worth
prefixes_worth env [] k w = w
prefixes_worth env (p ∷ ps) k w = told_prefix p.prefix (prefix_kind env (p ∷ ps) k) (prefixes_worth env ps k w)

-- the cells that a pointer's step goes over
abbrev pub step_of : Env → Kind → ℕ
step_of env k = cells_of env (target k)

-- what an operator gives of what two values come to
abbrev pub told_both : Env → BinaryOperator → Option Operand → Option Operand → Worth → Worth → Worth
told_both env o (Some a) (Some b) v w = both o (step_of env a.kind) a.kind b.kind v w
told_both env o a b v w = Untold

-- what a chain comes to
abbrev pub chain_worth : Env → Option Operand → Worth → List KnownLink → Worth
chain_worth env a v [] = v
chain_worth env a v (l ∷ ls) = chain_worth env (joined env l.operator a (operand_of env l.operand)) (told_both env l.operator a (operand_of env l.operand) v (l.operand.value.worth env)) ls

-- what a value comes to in the kind of the whole
abbrev pub in_kind : Option Operand → Worth → Worth
in_kind (Some a) (Is d) = Is (converted a.kind d)
in_kind a w = w

-- the value that a condition chooses
abbrev pub chosen_worth : Worth → Worth → Worth → Worth
chosen_worth (Is d) v w = if is_false d then w else v
chosen_worth c v w = c

-- what a row of choices comes to
abbrev pub choices_worth : Env → List KnownChoice → Known → Worth
choices_worth env [] e = e.value.worth env
choices_worth env (c ∷ cs) e = in_kind (choice_operand env (c ∷ cs) (operand_of env e)) (chosen_worth (c.test.value.worth env) (c.yes.value.worth env) (choices_worth env cs e))

-- a number of cells
abbrev pub size_worth : Env → Option Kind → Worth
size_worth env None = Untold
size_worth env (Some k) = Is (Figure (pos (cells_of env k)))

-- the cells of a kind that is known
abbrev pub cells_if : Env → Option Kind → ℕ
cells_if env None = 0
cells_if env (Some k) = cells_of env k

-- the cells in front of a field
abbrev pub cells_before : Env → List Declared → List ℕ → ℕ
cells_before env [] x = 0
cells_before env (f ∷ fs) x = if bytes_eq f.name x then 0 else cells_if env f.kind + cells_before env fs x

-- the place of a field among these
abbrev pub offset_in : Env → Option (List Declared) → Name → Worth
offset_in env None x = Untold
offset_in env (Some fs) x = Is (Figure (pos (cells_before env fs x.text)))

-- the place of a field of a kind
abbrev pub struct_offset : Env → KindBase → Name → Worth
struct_offset env (Struct n) x = offset_in env (fields_of env n) x
struct_offset env b x = Untold

-- what `G_STRUCT_OFFSET` comes to
abbrev pub offset_worth : Env → Option Kind → Name → Worth
offset_worth env None x = Untold
offset_worth env (Some k) x = struct_offset env k.base x

-- the value of a member
abbrev pub member_worth : Option Sort → Worth
member_worth (Some (sort.Member z)) = Is (Figure z)
member_worth s = Untold

-- 9. One level of a value, with what is known of each part in its place

-- what is known of one level
abbrev pub check_shape : Shape-F Checked KnownSuffix KnownChoice Known KnownLink → Checked
check_shape (Shape-F.Number n) = sound (Some (FigureOf false n.value)) (number_kind n.kind) (Figure (pos n.value))
check_shape (Shape-F.Character b) = sound None int (Figure (character_value b))
check_shape (Shape-F.Text bytes) = sound None text (InText (length bytes + 1) (pos 0))
check_shape (Shape-F.Constant c) = sound (Some (Word c)) (constant_kind c) (constant_value c)
check_shape (Shape-F.Variable x) =
    record { literal = None; kind = λ env. variable_kind (found env.scopes x.text); faults = λ env. undeclared_if (found env.scopes x.text) x; worth = λ env. Untold }
check_shape (Shape-F.Function x) = record { literal = None; kind = λ env. function_kind (found env.scopes x.text); faults = λ env. []; worth = λ env. Is (Code x.text) }
check_shape (Shape-F.Member x) = record { literal = None; kind = λ env. Some int; faults = λ env. []; worth = λ env. member_worth (found env.scopes x.text) }
check_shape (Shape-F.SizeOf c s) =
    record {
      literal = None;
      kind = λ env. outcome_kind (on (kind_of env c) (size_outcome env));
      faults = λ env. type_faults env c ++ outcome_faults (on (kind_of env c) (size_outcome env)) s;
      worth = λ env. size_worth env (kind_of env c);
    }
check_shape (Shape-F.Offset c x s) =
    record {
      literal = None;
      kind = λ env. outcome_kind (on (kind_of env c) (offset_outcome env x));
      faults = λ env. type_faults env c ++ outcome_faults (on (kind_of env c) (offset_outcome env x)) s;
      worth = λ env. offset_worth env (kind_of env c) x;
    }
check_shape (Shape-F.Prefix ps a) =
    record {
      literal = signed_literal ps a.value.literal;
      kind = λ env. prefix_kind env ps (a.value.kind env);
      faults = λ env. a.value.faults env ++ prefix_faults env ps (a.value.kind env) a.span;
      worth = λ env. prefixes_worth env ps (a.value.kind env) (a.value.worth env);
    }
check_shape (Shape-F.Postfix a xs) =
    record {
      literal = None;
      kind = λ env. suffix_kind env (a.value.kind env) xs;
      faults = λ env. a.value.faults env ++ suffix_faults env a.span (a.value.kind env) xs;
      worth = λ env. Untold;
    }
check_shape (Shape-F.Chain a ls) =
    record {
      literal = None;
      kind = λ env. operand_kind (chain_kind env (operand_of env a) ls);
      faults = λ env. a.value.faults env ++ chain_faults env a.span (operand_of env a) ls;
      worth = λ env. chain_worth env (operand_of env a) (a.value.worth env) ls;
    }
check_shape (Shape-F.Conditional cs e) =
    record { literal = None; kind = λ env. operand_kind (choice_operand env cs (operand_of env e)); faults = λ env. choice_faults env cs e; worth = λ env. choices_worth env cs e }

-- one level of a suffix
abbrev pub check_suffix : Suffix-F Checked KnownSuffix KnownChoice Known KnownLink → KnownSuffix
check_suffix (Suffix-F.Field x) = Field x
check_suffix (Suffix-F.Arrow x) = Arrow x
check_suffix (Suffix-F.Index i s) = Index i s

-- WHAT IS KNOWN of a value: its kind, where each part keeps the rules, and all its faults
abbrev pub checked : Expr → Known
checked = fold-Expr Checked KnownSuffix KnownChoice Known KnownLink check_shape check_suffix
    (λ c. record { test = c.test; yes = c.yes }) (λ e. record { span = e.span; value = e.shape }) (λ l. record { operator = l.operator; operand = l.operand })

-- the kind of a value
abbrev pub kind_in : Env → Expr → Option Kind
kind_in env e = (checked e).value.kind env

-- the faults of a value
abbrev pub faults_in : Env → Expr → List Fault
faults_in env e = (checked e).value.faults env
