-- To take places away once more changes nothing.
use Rattle.std.proofs.Common.{◌≡◌, ◌∙◌, refl, sym, ap, Bool, false, List, [], ◌∷◌, map, Some, None}
use Rattle.c_tree.specs.declared.names.Base.{Base}
use Rattle.c_tree.specs.declared.names.Base.TheVariants as base
use Rattle.c_tree.specs.declared.names.CType.{CType}
use Rattle.c_tree.specs.declared.names.Span.{Span}
use Rattle.c_tree.specs.declared.operators.BinaryOperator.{BinaryOperator}
use Rattle.c_tree.specs.declared.operators.Prefix.TheVariants as prefix
use Rattle.c_tree.specs.declared.operators.Prefix.{Prefix}
use Rattle.c_tree.specs.declared.operators.PrefixOperator.{PrefixOperator}
use Rattle.c_tree.specs.declared.code.Expr.{Expr}
use Rattle.c_tree.specs.declared.code.Local.{Local}
use Rattle.c_tree.specs.declared.code.Call.{Call}
use Rattle.c_tree.specs.declared.code.Callee.TheVariants as callee
use Rattle.c_tree.specs.declared.code.Case.{Case}
use Rattle.c_tree.specs.declared.code.Stmt.{Stmt}
use Rattle.c_tree.specs.declared.code.Stmt.TheOpen.{Stmt-F}
use Rattle.c_tree.specs.declared.code.Stmt.TheVariants as stmt
use Rattle.c_tree.specs.declared.code.Block.{Block}
use Rattle.c_tree.specs.declared.code.Link.{Link}
use Rattle.c_tree.specs.declared.code.Choice.{Choice}
use Rattle.c_tree.specs.declared.code.Suffix.{Suffix}
use Rattle.c_tree.specs.declared.code.Suffix.TheVariants as suffix
use Rattle.c_tree.specs.declared.code.Shape.{Shape}
use Rattle.c_tree.specs.declared.code.Shape.TheVariants as shape
use Rattle.c_tree.specs.declared.code.Shape.TheOpen.{Shape-F, Suffix-F}
use Rattle.c_tree.specs.Words.{Word, at, join}
use Rattle.c_tree.specs.Names.{Names}
use Rattle.c_tree.specs.Make.{name_at, expr, link, choice, block}
use Rattle.c_tree.specs.Values as v
use Rattle.c_tree.specs.Statements as st
use Rattle.c_tree.specs.Statements.{ReadsStmt, ReadsStmts, ReadsBlock, ReadsCall, call_value, call_row, call_type_row, ReadsPlace, place_is}
use Rattle.c_tree.specs.Bare.{nowhere, bare_name, bare_base, bare_type, bare_operator, bare_prefix, bare_shape, bare_suffix, bare_expr, bare_local, bare_call, bare_case, bare_stmt, bare_block}
use Rattle.c_printer.proofs.BareTrees.{shape_at, bare_layer, suffix_at, bare_suffix_layer, bare_of_link, bare_of_choice, bare_of_suffix, bare_at, suffix_bare_at, link_bare, choice_bare, bare_span}
use Rattle.c_printer.proofs.Moving.{flat_chain, flat_prefix, flat_suffix, flat_choice, chain_bare, prefix_bare, suffixed_bare, conditional_bare}
use Rattle.c_printer.proofs.StatementReading.{bare_of_stmt, stmt_bare_layer, stmt_at, stmt_bare, block_bare}

-- 1. Types and operators

base_twice : (b : Base) → bare_base (bare_base b) ≡ bare_base b
base_twice base.Void = refl
base_twice base.Int = refl
base_twice base.Char = refl
base_twice (base.Named x) = refl

pub type_twice : (c : CType) → bare_type (bare_type c) ≡ bare_type c
type_twice c = λ i. record { base = base_twice c.base i; is_const = c.is_const; stars = c.stars; span = nowhere }

operator_twice : (p : Prefix) → bare_operator (bare_operator p) ≡ bare_operator p
operator_twice prefix.Plus = refl
operator_twice prefix.Minus = refl
operator_twice prefix.Not = refl
operator_twice prefix.Complement = refl
operator_twice prefix.Deref = refl
operator_twice prefix.AddressOf = refl
operator_twice (prefix.Cast c) = ap prefix.Cast (type_twice c)

prefixes_twice : (ps : List PrefixOperator) → map bare_prefix (map bare_prefix ps) ≡ map bare_prefix ps
prefixes_twice [] = refl
prefixes_twice (p ∷ ps) = λ i. record { prefix = operator_twice p.prefix i; span = nowhere } ∷ prefixes_twice ps i

pub local_twice : (l : Local) → bare_local (bare_local l) ≡ bare_local l
local_twice l = λ i. record { declared = type_twice l.declared i; name = bare_name l.name }

pub locals_twice : (ls : List Local) → map bare_local (map bare_local ls) ≡ map bare_local ls
locals_twice [] = refl
locals_twice (l ∷ ls) = λ i. local_twice l i ∷ locals_twice ls i

cases_twice : (cs : List Case) → map bare_case (map bare_case cs) ≡ map bare_case cs
cases_twice [] = refl
cases_twice (c ∷ cs) = ap (λ ds. bare_case c ∷ ds) (cases_twice cs)

-- 2. Values

chain_flat : (a : Expr) (ls : List Link) → bare_expr (flat_chain a ls) ≡ flat_chain (bare_expr a) (map bare_of_link ls)
chain_flat a [] = refl
chain_flat a (l ∷ ls) = bare_at (Shape-F.Chain a (l ∷ ls)) nowhere

prefix_flat : (ps : List PrefixOperator) (a : Expr) → bare_expr (flat_prefix ps a) ≡ flat_prefix (map bare_prefix ps) (bare_expr a)
prefix_flat [] a = refl
prefix_flat (p ∷ ps) a = bare_at (Shape-F.Prefix (p ∷ ps) a) nowhere

suffix_flat : (a : Expr) (xs : List Suffix) → bare_expr (flat_suffix a xs) ≡ flat_suffix (bare_expr a) (map bare_of_suffix xs)
suffix_flat a [] = refl
suffix_flat a (x ∷ xs) = bare_at (Shape-F.Postfix a (x ∷ xs)) nowhere

choice_flat : (cs : List Choice) (e : Expr) → bare_expr (flat_choice cs e) ≡ flat_choice (map bare_of_choice cs) (bare_expr e)
choice_flat [] e = refl
choice_flat (c ∷ cs) e = bare_at (Shape-F.Conditional (c ∷ cs) e) nowhere

single_twice : (l m : Shape-F Shape Suffix Choice Expr Link) (o : Span) → bare_shape (bare_layer l) ≡ shape_at m → bare_shape (bare_layer m) ≡ bare_shape (bare_layer l) → bare_expr (bare_expr (expr (shape_at l) o)) ≡ bare_expr (expr (shape_at l) o)
single_twice l m o e f = ap bare_expr (bare_at l o ∙ ap (λ s. expr s nowhere) e) ∙ bare_at m nowhere ∙ ap (λ s. expr s nowhere) f ∙ sym (bare_at l o)

link_twice : (o : BinaryOperator) (b : Expr) → bare_expr (bare_expr b) ≡ bare_expr b → bare_of_link (bare_of_link (link o b)) ≡ bare_of_link (link o b)
link_twice o b e = ap bare_of_link (link_bare o b) ∙ link_bare o (bare_expr b) ∙ ap (link o) e ∙ sym (link_bare o b)

choice_twice : (a b : Expr) → bare_expr (bare_expr a) ≡ bare_expr a → bare_expr (bare_expr b) ≡ bare_expr b → bare_of_choice (bare_of_choice (choice a b)) ≡ bare_of_choice (choice a b)
choice_twice a b e f = ap bare_of_choice (choice_bare a b) ∙ choice_bare (bare_expr a) (bare_expr b) ∙ (λ i. choice (e i) (f i)) ∙ sym (choice_bare a b)

suffix_twice : (l m : Suffix-F Shape Suffix Choice Expr Link) → bare_suffix (bare_suffix_layer l) ≡ suffix_at m → bare_suffix (bare_suffix_layer m) ≡ bare_suffix (bare_suffix_layer l) → bare_of_suffix (bare_of_suffix (suffix_at l)) ≡ bare_of_suffix (suffix_at l)
suffix_twice l m e f = ap bare_of_suffix (suffix_bare_at l ∙ e) ∙ suffix_bare_at m ∙ f ∙ sym (suffix_bare_at l)

Twice : (p : v.Part) → v.tree_of p → Type 0
Twice v.Value x = bare_expr (bare_expr x) ≡ bare_expr x
Twice v.Choosing x = (map bare_of_choice (map bare_of_choice x.0) ≡ map bare_of_choice x.0) × (bare_expr (bare_expr x.1) ≡ bare_expr x.1)
Twice (v.Chained l) x = bare_expr (bare_expr x) ≡ bare_expr x
Twice (v.Links l) x = map bare_of_link (map bare_of_link x) ≡ map bare_of_link x
Twice (v.Operand l) x = bare_expr (bare_expr x) ≡ bare_expr x
Twice v.Prefixed x = bare_expr (bare_expr x.1) ≡ bare_expr x.1
Twice v.Postfixed x = bare_expr (bare_expr x) ≡ bare_expr x
Twice v.Suffixes x = map bare_of_suffix (map bare_of_suffix x) ≡ map bare_of_suffix x
Twice v.Primary x = bare_expr (bare_expr x) ≡ bare_expr x
Twice v.Arguments x = map bare_expr (map bare_expr x) ≡ map bare_expr x
Twice v.MoreArguments x = map bare_expr (map bare_expr x) ≡ map bare_expr x

module _ (ns : Names) (constant : Bool) where
  twice : {p : v.Part} {w : Word} {x : v.tree_of p} → v.Reads ns constant p w x → Twice p x
  unfolding Twice
  twice (v.value {cs} {e} r) = let q = twice r in ap bare_expr (conditional_bare cs e) ∙ choice_flat (map bare_of_choice cs) (bare_expr e) ∙ (λ i. flat_choice (q.0 i) (q.1 i)) ∙ sym (conditional_bare cs e)
  twice (v.last_choice r) = (refl, twice r)
  twice (v.more_choices t s {a} {b} ra i rb j rest) = let q = twice rest in ((λ i. choice_twice a b (twice ra) (twice rb) i ∷ q.0 i), q.1)
  twice (v.chain {a} {ls} ra rest) = let q = twice ra in let k = twice rest in ap bare_expr (chain_bare a ls) ∙ chain_flat (bare_expr a) (map bare_of_link ls) ∙ (λ i. flat_chain (q i) (k i)) ∙ sym (chain_bare a ls)
  twice v.no_link = refl
  twice (v.more_links {o} {b} i h j rb rest) = let q = twice rest in λ i. link_twice o b (twice rb) i ∷ q i
  twice (v.operand h r) = twice r
  twice (v.tightest {ps} {a} r) = let q = twice r in ap bare_expr (prefix_bare ps a) ∙ prefix_flat (map bare_prefix ps) (bare_expr a) ∙ (λ i. flat_prefix (prefixes_twice ps i) (q i)) ∙ sym (prefix_bare ps a)
  twice (v.no_prefix r) = twice r
  twice (v.more_prefixes i h r k) = twice r
  twice (v.cast s i rc h j r) = twice r
  twice (v.postfixed {a} {xs} ra rest h) = let q = twice ra in let k = twice rest in ap bare_expr (suffixed_bare a xs) ∙ suffix_flat (bare_expr a) (map bare_of_suffix xs) ∙ (λ i. flat_suffix (q i) (k i)) ∙ sym (suffixed_bare a xs)
  twice v.no_suffix = refl
  twice (v.field {n} h i j rest) = let q = twice rest in λ i. suffix_twice (Suffix-F.Field (name_at n)) (Suffix-F.Field (bare_name (name_at n))) refl refl i ∷ q i
  twice (v.arrow {n} h i j rest) = let q = twice rest in λ i. suffix_twice (Suffix-F.Arrow (name_at n)) (Suffix-F.Arrow (bare_name (name_at n))) refl refl i ∷ q i
  twice (v.index {t} s {i = x} h j ri m rest) = let q = twice rest in let k = twice ri in λ i. suffix_twice (Suffix-F.Index x (join (at t) (at s))) (Suffix-F.Index (bare_expr x) nowhere) refl (ap (λ y. suffix.Index y nowhere) k) i ∷ q i
  twice (v.number {t} {n} {y} i) = single_twice (Shape-F.Number (record { value = n; kind = y })) (Shape-F.Number (record { value = n; kind = y })) (at t) refl refl
  twice (v.character {t} {b} i) = single_twice (Shape-F.Character b) (Shape-F.Character b) (at t) refl refl
  twice (v.text {t} i) = single_twice (Shape-F.Text t.bytes) (Shape-F.Text t.bytes) (at t) refl refl
  twice (v.constant_name {t} {c} i) = single_twice (Shape-F.Constant c) (Shape-F.Constant c) (at t) refl refl
  twice (v.variable {t} i h) = single_twice (Shape-F.Variable (name_at t)) (Shape-F.Variable (bare_name (name_at t))) (at t) refl refl
  twice (v.function {t} i h) = single_twice (Shape-F.Function (name_at t)) (Shape-F.Function (bare_name (name_at t))) (at t) refl refl
  twice (v.member {t} i h) = single_twice (Shape-F.Member (name_at t)) (Shape-F.Member (bare_name (name_at t))) (at t) refl refl
  twice (v.size_of {t} s {c} i j rc h k) = single_twice (Shape-F.SizeOf c (join (at t) (at s))) (Shape-F.SizeOf (bare_type c) nowhere) (join (at t) (at s)) refl (ap (λ d. shape.SizeOf d nowhere) (type_twice c))
  twice (v.offset {t} d f s {c} i j rc h p x k) = single_twice (Shape-F.Offset c (name_at f) (join (at t) (at s))) (Shape-F.Offset (bare_type c) (bare_name (name_at f)) nowhere) (join (at t) (at s)) refl (ap (λ d. shape.Offset d (bare_name (name_at f)) nowhere) (type_twice c))
  twice (v.brackets {t} s {a} i r j) = ap bare_expr (sym (bare_span (join (at t) (at s)) a)) ∙ twice r ∙ bare_span (join (at t) (at s)) a
  twice v.no_argument = refl
  twice (v.arguments ra rest) = let q = twice ra in let k = twice rest in λ i. q i ∷ k i
  twice v.no_more = refl
  twice (v.more_arguments i ra rest) = let q = twice ra in let k = twice rest in λ i. q i ∷ k i

  pub value_twice : {w : Word} {e : Expr} → v.Reads ns constant v.Value w e → bare_expr (bare_expr e) ≡ bare_expr e
  unfolding Twice
  value_twice r = twice r

  callee_twice : {w : Word} {e : Expr} → v.Reads ns constant v.Postfixed w e → bare_expr (bare_expr e) ≡ bare_expr e
  unfolding Twice
  callee_twice r = twice r

  arguments_twice : {w : Word} {es : List Expr} → v.Reads ns constant v.Arguments w es → map bare_expr (map bare_expr es) ≡ map bare_expr es
  unfolding Twice
  arguments_twice r = twice r

  more_twice : {w : Word} {es : List Expr} → v.Reads ns constant v.MoreArguments w es → map bare_expr (map bare_expr es) ≡ map bare_expr es
  unfolding Twice
  more_twice r = twice r

place_twice : {ns : Names} {w : Word} {a : Expr} → ReadsPlace ns w a → bare_expr (bare_expr a) ≡ bare_expr a
unfolding Twice
place_twice {ns} (place_is r h) = twice ns false r

call_twice : {ns : Names} {w : Word} {c : Call} → ReadsCall ns w c → bare_call (bare_call c) ≡ bare_call c
call_twice {ns} (call_value t s ra i r j) = λ k. record { callee = callee.Value (callee_twice ns false ra k); type_argument = None; arguments = arguments_twice ns false r k; span = nowhere }
call_twice {ns} (call_row {n} s i h j r m) = λ k. record { callee = callee.Row (bare_name (name_at n)); type_argument = None; arguments = arguments_twice ns false r k; span = nowhere }
call_twice {ns} (call_type_row {n} s {c} i h j rc o r m) = λ k. record { callee = callee.Row (bare_name (name_at n)); type_argument = Some (type_twice c k); arguments = more_twice ns false r k; span = nowhere }

-- 3. Statements

made_twice : (l m : Stmt-F Stmt Block) → bare_stmt (stmt_bare_layer l) ≡ stmt_at m → bare_stmt (stmt_bare_layer m) ≡ bare_stmt (stmt_bare_layer l) → bare_of_stmt (bare_of_stmt (stmt_at l)) ≡ bare_of_stmt (stmt_at l)
made_twice l m e f = ap bare_of_stmt (stmt_bare l ∙ e) ∙ stmt_bare m ∙ f ∙ sym (stmt_bare l)

mutual
  stmt_twice : {ns : Names} {w : Word} {s : Stmt} → ReadsStmt ns w s → bare_of_stmt (bare_of_stmt s) ≡ bare_of_stmt s
  stmt_twice {ns} (st.assigns t e {a} {b} p i r j) = made_twice (Stmt-F.Assign a b) (Stmt-F.Assign (bare_expr a) (bare_expr b)) refl (λ k. stmt.Assign (place_twice p k) (value_twice ns false r k))
  stmt_twice {ns} (st.calls e {c} r i) = made_twice (Stmt-F.Call c) (Stmt-F.Call (bare_call c)) refl (ap stmt.Call (call_twice r))
  stmt_twice {ns} (st.stores t e {a} {c} p i r j) = made_twice (Stmt-F.Store a c) (Stmt-F.Store (bare_expr a) (bare_call c)) refl (λ k. stmt.Store (place_twice p k) (call_twice r k))
  stmt_twice {ns} (st.if_block s {a} {b} i j r h rb) = made_twice (Stmt-F.If a b None) (Stmt-F.If (bare_expr a) (bare_block b) None) refl (λ k. stmt.If (value_twice ns false r k) (block_twice rb k) None)
  stmt_twice {ns} (st.if_else s l {a} {b} {d} i j r h rb m rd) = made_twice (Stmt-F.If a b (Some d)) (Stmt-F.If (bare_expr a) (bare_block b) (Some (bare_block d))) refl (λ k. stmt.If (value_twice ns false r k) (block_twice rb k) (Some (block_twice rd k)))
  stmt_twice {ns} (st.if_goto s x {a} i j r h g) = made_twice (Stmt-F.IfGoto a (name_at x)) (Stmt-F.IfGoto (bare_expr a) (bare_name (name_at x))) refl (λ k. stmt.IfGoto (value_twice ns false r k) (bare_name (name_at x)))
  stmt_twice (st.goes x g) = made_twice (Stmt-F.Goto (name_at x)) (Stmt-F.Goto (bare_name (name_at x))) refl refl
  stmt_twice (st.labels {n = x} i j h) = made_twice (Stmt-F.Label (name_at x)) (Stmt-F.Label (bare_name (name_at x))) refl refl
  stmt_twice {ns} (st.switches s l d c q x {a} {cs} i j r h m rs y z g e) = made_twice (Stmt-F.Switch a cs (name_at x)) (Stmt-F.Switch (bare_expr a) (map bare_case cs) (bare_name (name_at x))) refl (λ k. stmt.Switch (value_twice ns false r k) (cases_twice cs k) (bare_name (name_at x)))
  stmt_twice (st.returns {t} i j) = made_twice (Stmt-F.Return (at t) None) (Stmt-F.Return nowhere None) refl refl
  stmt_twice {ns} (st.returns_value {t} e {a} i r j) = made_twice (Stmt-F.Return (at t) (Some a)) (Stmt-F.Return nowhere (Some (bare_expr a))) refl (λ k. stmt.Return nowhere (Some (value_twice ns false r k)))
  stmt_twice (st.blocks {b} r) = made_twice (Stmt-F.Block b) (Stmt-F.Block (bare_block b)) refl (ap stmt.Block (block_twice r))

  stmts_twice : {ns : Names} {w : Word} {ss : List Stmt} → ReadsStmts ns w ss → map bare_of_stmt (map bare_of_stmt ss) ≡ map bare_of_stmt ss
  stmts_twice st.no_stmt = refl
  stmts_twice (st.more_stmts r rest) = λ k. stmt_twice r k ∷ stmts_twice rest k

  pub block_twice : {ns : Names} {w : Word} {b : Block} → ReadsBlock ns w b → bare_block (bare_block b) ≡ bare_block b
  block_twice (st.block_is {t} s {ls} {ss} i rl rs j) =
      ap bare_block (block_bare ls ss (join (at t) (at s))) ∙ block_bare (map bare_local ls) (map bare_of_stmt ss) nowhere ∙ (λ k. block (locals_twice ls k) (stmts_twice rs k) nowhere) ∙ sym (block_bare ls ss (join (at t) (at s)))
