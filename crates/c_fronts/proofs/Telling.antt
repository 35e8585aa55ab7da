-- What is told of each part of a text, and in which context.
use Rattle.std.proofs.Common.{◌≡◌, ℕ, ◌<◌, ◌≤◌, Bool, true, false, not, ◌||◌, if◌then◌else◌, is_some, List, [], ◌∷◌, ◌++◌, map, codes, Option, Some}
use Rattle.std.proofs.Common.{None, arith}
use Rattle.c_tree.specs.declared.names.CType.{CType}
use Rattle.c_tree.specs.declared.names.Name.{Name}
use Rattle.c_tree.specs.declared.names.Span.{Span}
use Rattle.c_tree.specs.declared.names.Base.TheVariants as base
use Rattle.c_tree.specs.declared.code.Expr.{Expr}
use Rattle.c_tree.specs.declared.code.Link.{Link, out-Link}
use Rattle.c_tree.specs.declared.code.Suffix.{Suffix}
use Rattle.c_tree.specs.declared.code.Local.{Local}
use Rattle.c_tree.specs.declared.code.Block.{Block}
use Rattle.c_tree.specs.declared.code.Stmt.{Stmt}
use Rattle.c_tree.specs.declared.kinds.Kind.{Kind}
use Rattle.c_tree.specs.declared.kinds.Sort.{Sort}
use Rattle.c_tree.specs.declared.kinds.Sort.TheVariants as sort
use Rattle.c_tree.specs.declared.kinds.Fault.{Fault}
use Rattle.c_tree.specs.declared.kinds.Operand.{Operand}
use Rattle.c_tree.specs.declared.unit.Item.{Item}
use Rattle.c_tree.specs.Words.{Token, start_of}
use Rattle.c_tree.specs.Make.{name_at, span_of, conditional, suffix_span}
use Rattle.c_tree.specs.Env.{Env, found}
use Rattle.c_tree.specs.Faults.{twice, unless}
use Rattle.c_tree.specs.Checks.{Known, checked, type_faults, base_faults, chain_faults, suffix_faults}
use Rattle.c_tree.specs.Rules.{Context, checked_block, condition, inner, all_checked, own_faults, twice_here, not_laid_out, local_faults}
use Rattle.c_tree.specs.Rules.{locals_faults, with_locals, all_faults, all_labels}
use Rattle.c_tree.specs.Unit.{twice_optional, parameter_faults, member_faults, function_faults, label_faults, target_faults, block_end, has_field}
use Rattle.c_tree.specs.Unit.{field_faults, item_faults, items_faults}
use Rattle.c_grammar.specs.Trees.{with_prefixes, base_of}
use Rattle.c_grammar.specs.Parts as w
use Rattle.c_grammar.specs.Parts.{What, Part, tree_of}
use Rattle.c_grammar.specs.Grammar.{C}
use Rattle.c_fronts.proofs.Marks.{Telling}
use Rattle.c_fronts.proofs.Shows.{Probe, shows, gated}
use Rattle.c_fronts.proofs.Unfold.{known_link, known_suffix, body_of}
use Rattle.c_fronts.proofs.Judging.{Rule, judged, judged_from, LateLast}

-- where the last token of a front begins, and a place behind the front
pub record Edge : Type 0 where
  pub last : ℕ
  pub place : ℕ
  pub apart : last < place

-- 1. Contexts

-- what is asked, and what is declared
pub record Seen : Type 0 where
  pub probe : Probe
  pub env : Env

-- an operand, and whether nothing is asked of it while its first token is the last
pub record Self : Type 0 where
  pub probe : Probe
  pub env : Env
  pub gate : Bool

-- a chain up to here: where it begins, what it gives so far, and where that ends
pub record Chain : Type 0 where
  pub probe : Probe
  pub env : Env
  pub first : Span
  pub given : Option Operand
  pub «end» : ℕ

-- suffixes up to here
pub record Row : Type 0 where
  pub probe : Probe
  pub env : Env
  pub first : Span
  pub kind : Option Kind
  pub «end» : ℕ

-- arguments up to here
pub record Passed : Type 0 where
  pub probe : Probe
  pub env : Env
  pub rule : Rule
  pub before : Option Known

-- fields up to here
pub record Among : Type 0 where
  pub probe : Probe
  pub env : Env
  pub before : List Local

-- statements: what they are in, and the labels before them
pub record Inside : Type 0 where
  pub probe : Probe
  pub context : Context
  pub labels : List Name

-- a block, and whether it is the body of a function
pub record Blocks : Type 0 where
  pub probe : Probe
  pub context : Context
  pub labels : List Name
  pub whole : Bool

-- `GInterfaceInfo` is found
abbrev pub HasInfo : Env → Type 0
HasInfo env = is_some (found env.scopes (codes "GInterfaceInfo")) ≡ true

-- items
pub record Outside : Type 0 where
  pub probe : Probe
  pub env : Env
  pub info : HasInfo env

-- an item that begins with `static const GInterfaceInfo`
pub record Table (i : Token) : Type 0 where
  pub probe : Probe
  pub env : Env
  pub info : HasInfo env
  pub named : i.bytes ≡ codes "GInterfaceInfo"
  pub by_name : base_of i ≡ base.Named (name_at i)

abbrev pub Context_of : What → Type 0
Context_of w.Consts = Unit {0}
Context_of (w.Stars must) = Unit {0}
Context_of w.Unnamed = Self
Context_of (w.Links l k) = Chain
Context_of (w.Suffixes dot must) = Row
Context_of w.Arguments = Passed
Context_of w.MoreArguments = Passed
Context_of w.SignedNumberOf = Unit {0}
Context_of w.GotoOf = Unit {0}
Context_of w.Cases = Unit {0}
Context_of w.LocalOf = Among
Context_of w.Fields = Among
Context_of w.BlockOf = Blocks
Context_of w.Body = Inside
Context_of w.Statements = Inside
Context_of w.Statement = Inside
Context_of w.PlainStmt = Inside
Context_of (w.NamedStmt t) = Inside
Context_of (w.ValueStmt a) = Inside
Context_of (w.Assigned b) = Inside
Context_of (w.AssignedTail b a) = Inside
Context_of (w.ElseOf a b) = Inside
Context_of (w.DeclaredOf b c n from) = Outside
Context_of (w.TypedEnd c) = Outside
Context_of (w.StaticEnd t c) = Outside
Context_of (w.InfoEnd t k i) = Table i
Context_of (w.StaticRest t) = Outside
Context_of (w.TypedefRest t) = Outside
Context_of (w.ItemOf line) = Outside
Context_of (w.ItemsOf line) = Outside
Context_of q = Seen

-- 2. What is told

module _ (edge : Edge) where
  -- of faults
  abbrev pub tell : Probe → List Fault → Bool
  tell p fs = shows edge.last p fs

  -- of a value
  abbrev pub value_tells : Probe → Env → Expr → Bool
  value_tells p env e = tell p ((checked e).value.faults env)

  -- of a type, and of its base
  abbrev pub type_tells : Probe → Env → CType → Bool
  type_tells p env c = tell p (type_faults env c)

  abbrev pub base_tells : Probe → Env → Token → Bool
  base_tells p env t = tell p (base_faults env (base_of t))

  -- where a front ends in a tree or behind it, the tree ends behind the front's last token
  abbrev pub LateValue : Expr → Type 0
  LateValue e = edge.last < (span_of e).end

  -- behind a value that a statement begins with
  abbrev pub behind : Expr → Probe → Probe
  behind a p = gated edge.last (span_of a).start p

  -- what is asked of an operand that begins there
  abbrev pub self_seen : Self → ℕ → Seen
  self_seen c n = record { probe = if c.gate then gated edge.last n c.probe else c.probe; env = c.env }

  -- where links end
  abbrev pub links_end : ℕ → List Link → ℕ
  links_end n [] = n
  links_end n (l ∷ ls) = links_end (span_of (out-Link l).operand).end ls

  abbrev pub suffixes_end : ℕ → List Suffix → ℕ
  suffixes_end n [] = n
  suffixes_end n (x ∷ xs) = suffixes_end (suffix_span x).end xs

  -- of a statement
  abbrev pub stmt_tells : Inside → Stmt → Bool
  stmt_tells c s = tell c.probe ((body_of s).faults c.context) || tell c.probe (label_faults c.labels (body_of s).labels)

  -- of statements
  abbrev pub stmts_tell : Inside → List Stmt → Bool
  stmts_tell c ss = tell c.probe (all_faults c.context (map body_of ss)) || tell c.probe (label_faults c.labels (all_labels (map body_of ss)))

  -- the context behind declarations
  abbrev pub behind_locals : Inside → List Local → Inside
  behind_locals c ls = record c { context = record { env = with_locals c.context.env ls; result = c.context.result } }

  -- of a block in its scope
  abbrev pub body_tells : Inside → List Local → List Stmt → Bool
  body_tells c ls ss = tell c.probe (locals_faults c.context.env ls) || stmts_tell (behind_locals c ls) ss

  -- of the targets in the body of a function
  abbrev pub ends_tell : Blocks → Block → Bool
  ends_tell c b = if c.whole then tell c.probe (target_faults (checked_block checked b).labels (block_end b) (checked_block checked b).targets) else false

  abbrev pub block_tells : Blocks → Block → Bool
  block_tells c b = (tell c.probe ((checked_block checked b).faults c.context) || tell c.probe (label_faults c.labels (checked_block checked b).labels)) ||
      ends_tell c b

  -- of a field
  abbrev pub field_tells : Among → Local → Bool
  field_tells c l =
      tell c.probe (type_faults c.env l.declared ++ unless (not (has_field l.name.text c.before)) (twice l.name)) || tell c.probe
      (not_laid_out c.env (Rattle.c_tree.specs.Env.kind_of c.env l.declared) l.name)

  -- a name that is declared before and is no function
  abbrev pub other_twice : Option Sort → Name → List Fault
  other_twice None x = []
  other_twice (Some (sort.Function n is_static is_defined)) x = []
  other_twice (Some s) x = twice x

  -- of the type and the name of a function
  abbrev pub head_tells : Outside → CType → Token → Bool
  head_tells c y n = type_tells c.probe c.env y || tell c.probe (other_twice (found c.env.scopes n.bytes) (name_at n))

  abbrev pub item_tells : Probe → Env → Item → Bool
  item_tells p env i = tell p (item_faults checked (checked_block checked) env i)

  abbrev pub tells_of : (q : What) → Context_of q → tree_of q → Bool
  tells_of (w.TypeRest u t must) c x = type_tells c.probe c.env x
  tells_of (w.TypeMore u t) c x = type_tells c.probe c.env x
  tells_of (w.AnyType anyhow object) c x = type_tells c.probe c.env x
  tells_of (w.Value k) c x = value_tells c.probe c.env x
  tells_of (w.Choosing k) c x = value_tells c.probe c.env (conditional x.0 x.1)
  tells_of (w.ChoosingTail k a) c x = value_tells c.probe c.env (conditional x.0 x.1)
  tells_of (w.Upto l k a) c x = value_tells c.probe c.env x
  tells_of (w.Links l k) c x = tell c.probe (chain_faults c.env c.first c.given (map known_link x))
  tells_of (w.Operand l k) c x = value_tells c.probe c.env x
  tells_of (w.Prefixed k) c x = value_tells c.probe c.env (with_prefixes x)
  tells_of w.Place c x = value_tells c.probe c.env (with_prefixes x)
  tells_of (w.Primary k) c x = value_tells c.probe c.env x
  tells_of w.Unnamed c x = value_tells (self_seen c (span_of x).start).probe c.env x
  tells_of (w.Suffixes dot must) c x = tell c.probe (suffix_faults c.env c.first c.kind (map known_suffix x))
  tells_of w.Arguments c x = tell c.probe (own_faults c.env (all_checked checked x)) || tell c.probe (judged c.env c.rule (all_checked checked x))
  tells_of w.MoreArguments c x = tell c.probe (own_faults c.env (all_checked checked x)) || tell c.probe
      (judged_from c.env c.rule c.before (all_checked checked x))
  tells_of w.KeyType c x = type_tells (gated edge.last x.span.start c.probe) c.env x
  tells_of w.LocalOf c x = field_tells c x
  tells_of (w.LocalRest t) c x = tell c.probe (local_faults c.env x)
  tells_of w.BlockOf c x = block_tells c x
  tells_of w.Body c x = body_tells c x.0 x.1
  tells_of w.Statements c x = stmts_tell c x
  tells_of w.Statement c x = stmt_tells c x
  tells_of w.PlainStmt c x = stmt_tells c x
  tells_of (w.NamedStmt t) c x = stmt_tells c x
  tells_of (w.ValueStmt a) c x = stmt_tells c x
  tells_of (w.Assigned b) c x = stmt_tells c x
  tells_of (w.AssignedTail b a) c x = stmt_tells c x
  tells_of (w.ElseOf a b) c x = stmt_tells c x
  tells_of w.MemberOf c x = tell c.probe (twice_here c.env x.name)
  tells_of w.Members c x = tell c.probe (member_faults c.env x)
  tells_of w.MoreMembers c x = tell c.probe (member_faults c.env x)
  tells_of w.Fields c x = tell c.probe (field_faults c.env c.before x)
  tells_of w.ParameterOf c x = tell c.probe (type_faults c.env x.declared ++ twice_optional c.env x.name)
  tells_of (w.ParameterEnd y) c x = tell c.probe (type_faults c.env x.declared ++ twice_optional c.env x.name)
  tells_of w.MoreParameters c x = tell c.probe (parameter_faults c.env x)
  tells_of (w.ParametersOf main) c x = tell c.probe (parameter_faults c.env x)
  tells_of w.IntType c x = type_tells c.probe c.env x
  tells_of w.TextsType c x = type_tells c.probe c.env x
  tells_of w.TableInside c x = tell c.probe (function_faults (found c.env.scopes x.bytes) (name_at x))
  tells_of (w.DeclaredOf b y n from) c x = item_tells c.probe c.env x
  tells_of (w.TypedEnd y) c x = item_tells c.probe c.env x
  tells_of (w.StaticEnd t y) c x = item_tells c.probe c.env x
  tells_of (w.InfoEnd t k i) c x = item_tells c.probe c.env x
  tells_of (w.StaticRest t) c x = item_tells c.probe c.env x
  tells_of (w.TypedefRest t) c x = item_tells c.probe c.env x
  tells_of (w.ItemOf line) c x = item_tells c.probe c.env x
  tells_of (w.ItemsOf line) c x = tell c.probe (items_faults checked (checked_block checked) c.env x)
  tells_of q c x = false

  -- what was told before
  abbrev pub start_at : (q : What) → Context_of q → Bool
  start_at (w.TypeRest u t must) c = base_tells c.probe c.env t
  start_at (w.TypeMore u t) c = base_tells c.probe c.env t
  start_at (w.ChoosingTail k a) c = value_tells c.probe c.env a
  start_at (w.Upto l k a) c = value_tells c.probe c.env a
  start_at (w.ValueStmt a) c = value_tells (behind a c.probe) c.context.env a
  start_at (w.Assigned b) c = value_tells (behind b c.probe) c.context.env b
  start_at (w.AssignedTail b a) c = value_tells (behind b c.probe) c.context.env b || value_tells (behind b c.probe) c.context.env a
  start_at (w.ElseOf a b) c =
      (tell c.probe (condition c.context.env (checked a)) || tell c.probe (inner (checked_block checked b) c.context)) || tell c.probe
      (label_faults c.labels (checked_block checked b).labels)
  start_at (w.ParameterEnd y) c = type_tells c.probe c.env y
  start_at (w.DeclaredOf b y n from) c = head_tells c y n
  start_at (w.TypedEnd y) c = type_tells c.probe c.env y
  start_at (w.StaticEnd t y) c = type_tells c.probe c.env y
  start_at q c = false

  -- what holds where the front ends in front of a part
  abbrev pub LateToken : Token → Type 0
  LateToken t = (edge.last ≤ t.start) × (edge.last < t.end)

  abbrev pub Ready_for : (q : What) → Context_of q → Type 0
  Ready_for (w.ChoosingTail k a) c = LateValue a
  Ready_for (w.Upto l k a) c = LateValue a
  Ready_for (w.Links l k) c = edge.last < c.end
  Ready_for (w.Suffixes dot must) c = edge.last < c.end
  Ready_for w.MoreArguments c = LateLast edge.last c.probe c.env c.before
  Ready_for (w.LocalRest t) c = LateToken t
  Ready_for (w.NamedStmt t) c = LateToken t
  Ready_for (w.ValueStmt a) c = LateValue a
  Ready_for (w.AssignedTail b a) c = LateValue a
  Ready_for q c = Unit {0}

  -- what holds where the front ends in a part or behind it
  abbrev pub Done_with : (q : What) → Context_of q → tree_of q → Type 0
  Done_with (w.Value k) c x = LateValue x
  Done_with (w.Choosing k) c x = LateValue x.1
  Done_with (w.ChoosingTail k a) c x = LateValue x.1
  Done_with (w.Upto l k a) c x = LateValue x
  Done_with (w.Links l k) c x = edge.last < links_end c.end x
  Done_with (w.Operand l k) c x = LateValue x
  Done_with (w.Prefixed k) c x = LateValue (with_prefixes x)
  Done_with w.Place c x = LateValue (with_prefixes x)
  Done_with (w.Primary k) c x = LateValue x
  Done_with w.Unnamed c x = LateValue x
  Done_with (w.Suffixes dot must) c x = edge.last < suffixes_end c.end x
  Done_with q c x = Unit {0}

  -- what always holds
  abbrev pub Fact_of : (q : What) → Context_of q → tree_of q → Type 0
  Fact_of (w.TypeRest u t must) c x = (x.base ≡ base_of t) × (x.span.start ≡ start_of t.start u)
  Fact_of (w.TypeMore u t) c x = (x.base ≡ base_of t) × (x.span.start ≡ start_of t.start u)
  Fact_of q c x = Unit {0}

  -- a token behind the place
  abbrev pub BehindToken : Token → Type 0
  BehindToken t = (edge.place < t.start) × (edge.place < t.end)

  pub behind_late : (t : Token) → BehindToken t → LateToken t
  behind_late t b = let a = edge.apart in (omega (arith, b.0), omega (arith, b.1))

  abbrev pub telling : Telling C
  telling = record {
    Behind = BehindToken;
    Last = LateToken;
    behind_last = behind_late;
    Context = λ (p : Part). Context_of p.what;
    tells = λ (p : Part) c x. tells_of p.what c x;
    start = λ (p : Part) c. start_at p.what c;
    Ready = λ (p : Part) c. Ready_for p.what c;
    Done = λ (p : Part) c x. Done_with p.what c x;
    Fact = λ (p : Part) c x. Fact_of p.what c x;
  }
