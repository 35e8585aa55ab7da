-- What is told of statements by their parts.
use Rattle.std.proofs.Common.{◌≡◌, ◌∙◌, refl, sym, ap, ap₂, ℕ, ◌<◌, Bool, true, false, not, ◌||◌, if◌then◌else◌, List, [], ◌∷◌, ◌++◌, map, Option, Some, None}
use Rattle.c_tree.specs.declared.names.Span.{Span}
use Rattle.c_tree.specs.declared.names.Name.{Name}
use Rattle.c_tree.specs.declared.names.CType.{CType}
use Rattle.c_tree.specs.declared.code.Expr.{Expr}
use Rattle.c_tree.specs.declared.code.Call.{Call}
use Rattle.c_tree.specs.declared.code.Case.{Case}
use Rattle.c_tree.specs.declared.code.Local.{Local}
use Rattle.c_tree.specs.declared.code.Block.{Block}
use Rattle.c_tree.specs.declared.code.Stmt.{Stmt}
use Rattle.c_tree.specs.declared.code.Stmt.TheOpen.{Stmt-F}
use Rattle.c_tree.specs.declared.kinds.Kind.{Kind}
use Rattle.c_tree.specs.declared.kinds.Cause.TheVariants.{Misfit}
use Rattle.c_tree.specs.Words.{Token, join}
use Rattle.c_tree.specs.Words as words
use Rattle.c_tree.specs.Make.{name_at, span_of, block}
use Rattle.c_tree.specs.Kinds.{is_scalar, is_integer, is_void, fits}
use Rattle.c_tree.specs.Env.{Env, found, opened}
use Rattle.c_tree.specs.Faults.{misfit, unless, fault}
use Rattle.c_tree.specs.Checks.{checked, undeclared_if}
use Rattle.c_tree.specs.Rules.{Body, check_stmt, checked_block, inner, condition, must_be, fit, result_fit, call, all_checked, own_faults, value_call}
use Rattle.c_tree.specs.Rules.{row_call, row_number, type_argument_faults, type_argument_fine, return_by, return_empty, all_faults, all_labels}
use Rattle.c_tree.specs.Rules.{locals_faults, with_locals}
use Rattle.c_tree.specs.Unit.{label_faults, target_faults, has_name}
use Rattle.c_grammar.specs.Trees as trees
use Rattle.c_fronts.proofs.Shows.{Probe, gated, shows_append, shows_three, shows_drop, shows_behind, or_none, or_both, or_drop, or_pairs, late_misfit}
use Rattle.c_fronts.proofs.Shows.{late_unless, late_one}
use Rattle.c_fronts.proofs.Unfold.{body_of, body_layer, stmt_at, body_at, block_out}
use Rattle.c_fronts.proofs.Judging.{judged, rule_of_kind, rule_of_row, late_call, late_row, late_fit, late_class}
use Rattle.c_fronts.proofs.ValueFaults.{known_end}
use Rattle.c_fronts.proofs.Telling.{Edge, Seen, Inside, Blocks, tell, value_tells, LateValue, behind, stmt_tells, stmts_tell, body_tells}
use Rattle.c_fronts.proofs.Telling.{block_tells}

-- the labels behind some
abbrev pub add_labels : List Name → List Name → List Name
add_labels before [] = before
add_labels before (x ∷ xs) = add_labels (x ∷ before) xs

-- behind the labels of a statement
abbrev pub behind_stmt : Inside → Stmt → Inside
behind_stmt c s = record { probe = c.probe; context = c.context; labels = add_labels c.labels (body_of s).labels }

-- what stands in a block
abbrev pub of_block : Blocks → Inside
of_block c = record { probe = c.probe; context = c.context; labels = c.labels }

module _ (edge : Edge) where
  -- 1. Labels

  pub labels_split : (p : Probe) (before xs ys : List Name)
      → tell edge p (label_faults before (xs ++ ys)) ≡ (tell edge p (label_faults before xs) || tell edge p (label_faults (add_labels before xs) ys))
  labels_split p before [] ys = refl
  labels_split p before (x ∷ xs) ys =
      let one = unless (not (has_name x.text before)) (fault Rattle.c_tree.specs.declared.kinds.Cause.TheVariants.Twice x.span.start x.span.end) in
      shows_append edge.last p one (label_faults (x ∷ before) (xs ++ ys)) ∙ ap (λ (z : Bool). tell edge p one || z) (labels_split p (x ∷ before) xs ys)
      ∙ or_both (tell edge p one) (tell edge p (label_faults (x ∷ before) xs)) (tell edge p (label_faults (add_labels (x ∷ before) xs) ys))
      ∙ ap (λ (z : Bool). z || tell edge p (label_faults (add_labels (x ∷ before) xs) ys)) (sym (shows_append edge.last p one (label_faults (x ∷ before) xs)))

  pub label_late : (p : Probe) (before : List Name) (x : Name) → edge.last < x.span.end → tell edge p (label_faults before (x ∷ [])) ≡ false
  label_late p before x h =
      shows_append edge.last p (unless (not (has_name x.text before))
      (fault Rattle.c_tree.specs.declared.kinds.Cause.TheVariants.Twice x.span.start x.span.end)) []
      ∙ ap (λ (z : Bool). z || false) (late_unless edge.last p (not (has_name x.text before))
      (fault Rattle.c_tree.specs.declared.kinds.Cause.TheVariants.Twice x.span.start x.span.end) (late_one edge.last p _ x.span.start x.span.end h))

  pub targets_late : (p : Probe) (labels : List Name) (n : ℕ) (ts : List Name) → edge.last < n → tell edge p (target_faults labels n ts) ≡ false
  targets_late p labels n [] h = refl
  targets_late p labels n (x ∷ ts) h =
      shows_append edge.last p (unless (has_name x.text labels) (fault Rattle.c_tree.specs.declared.kinds.Cause.TheVariants.Undeclared x.span.start n))
      (target_faults labels n ts)
      ∙ ap₂ (λ y z. y || z) (late_unless edge.last p (has_name x.text labels)
      (fault Rattle.c_tree.specs.declared.kinds.Cause.TheVariants.Undeclared x.span.start n) (late_one edge.last p _ x.span.start n h))
      (targets_late p labels n ts h)

  -- 2. Statements

  pub stmt_is : (c : Inside) (l : Stmt-F Stmt Block) → stmt_tells edge c (stmt_at l)
      ≡ (tell edge c.probe ((check_stmt checked (body_layer l)).faults c.context) || tell edge c.probe
      (label_faults c.labels (check_stmt checked (body_layer l)).labels))
  stmt_is c l = ap (λ (b : Body). tell edge c.probe (b.faults c.context) || tell edge c.probe (label_faults c.labels b.labels)) (body_at l)

  -- what is seen of a statement, and what behind the first token of a value
  abbrev pub seen_in : Inside → Seen
  seen_in c = record { probe = c.probe; env = c.context.env }

  abbrev pub seen_behind : Inside → Expr → Seen
  seen_behind c a = record { probe = behind edge a c.probe; env = c.context.env }

  abbrev pub sv : Seen → Expr → Bool
  sv c e = value_tells edge c.probe c.env e

  pub assign_late : (c : Inside) (b e : Expr) → LateValue edge e
      → stmt_tells edge c (Rattle.c_tree.specs.declared.code.Stmt.TheVariants.Assign b e) ≡ (sv (seen_behind c b) b || sv (seen_behind c b) e)
  assign_late c b e h =
      let g = (seen_behind c b).probe in let env = c.context.env in
      stmt_is c (Stmt-F.Assign b e) ∙ or_none _
      ∙ shows_behind edge.last (span_of b).start c.probe
      ((checked b).value.faults env ++ (checked e).value.faults env ++ fit env ((checked b).value.kind env) (checked e))
      ∙ shows_three edge.last g ((checked b).value.faults env) ((checked e).value.faults env) (fit env ((checked b).value.kind env) (checked e))
      ∙ or_drop (sv (seen_behind c b) b || sv (seen_behind c b) e) (tell edge g (fit env ((checked b).value.kind env) (checked e)))
      (late_fit edge.last g env ((checked b).value.kind env) (checked e) (known_end edge.last g env e h))

  -- arguments by a rule
  abbrev pub args_tell : Seen → Rattle.c_fronts.proofs.Judging.Rule → List Expr → Bool
  args_tell c r xs = tell edge c.probe (own_faults c.env (all_checked checked xs)) || tell edge c.probe (judged c.env r (all_checked checked xs))

  pub value_call_late : (c : Seen) (a : Expr) (xs : List Expr) (s : Token) → edge.last < s.end
      → tell edge c.probe (call checked c.env (trees.value_call a xs s)).faults
      ≡ (sv c a || args_tell c (rule_of_kind edge.last c.probe c.env ((checked a).value.kind c.env)) xs)
  value_call_late c a xs s h =
      let env = c.env in let k = (checked a).value.kind env in let ys = all_checked checked xs in let span = join (span_of a) (words.at s) in
      shows_three edge.last c.probe ((checked a).value.faults env) (own_faults env ys) (value_call env k span ys).faults
      ∙ ap (λ (z : Bool). (sv c a || tell edge c.probe (own_faults env ys)) || z) (late_call edge.last c.probe env k span ys h)
      ∙ sym (or_both (sv c a) (tell edge c.probe (own_faults env ys)) (tell edge c.probe (judged env (rule_of_kind edge.last c.probe env k) ys)))

  -- the name of a function of the library, and the type that it takes
  abbrev pub row_name : Seen → Token → Bool
  row_name c n = tell edge c.probe (undeclared_if (found c.env.scopes n.bytes) (name_at n))

  abbrev pub row_type : Seen → Option CType → Bool
  row_type c y = tell edge c.probe (type_argument_faults c.env y)

  pub row_call_late : (c : Seen) (n : Token) (y : Option CType) (xs : List Expr) (s : Token) → edge.last < s.end
      → tell edge c.probe (call checked c.env (trees.row_call n y xs s)).faults
      ≡ ((row_name c n || row_type c y) || args_tell c (rule_of_row edge.last c.probe c.env (row_number (found c.env.scopes n.bytes))) xs)
  row_call_late c n y xs s h =
      let env = c.env in let o = row_number (found env.scopes n.bytes) in let ys = all_checked checked xs in let span = join
      (words.at n) (words.at s) in let fine = type_argument_fine env y in
      shows_append edge.last c.probe (undeclared_if (found env.scopes n.bytes) (name_at n) ++ type_argument_faults env y ++ own_faults env ys)
      (row_call env o span fine ys).faults
      ∙ ap₂ (λ x z. x || z) (shows_three edge.last c.probe (undeclared_if (found env.scopes n.bytes) (name_at n)) (type_argument_faults env y)
      (own_faults env ys)) (late_row edge.last c.probe env o span fine ys h)
      ∙ sym (or_both (row_name c n || row_type c y) (tell edge c.probe (own_faults env ys))
      (tell edge c.probe (judged env (rule_of_row edge.last c.probe env o) ys)))

  result_late : (p : Probe) (k j : Option Kind) (s : Span) → edge.last < s.end → tell edge p (result_fit k j s) ≡ false
  result_late p None j s h = refl
  result_late p (Some k) None s h = refl
  result_late p (Some k) (Some j) s h = late_unless edge.last p (fits k j false) (misfit s) (late_misfit edge.last p s h)

  -- a call alone, or one whose result is stored
  call_alone : (c : Inside) (d : Call) → stmt_tells edge c (trees.call_stmt None d) ≡ tell edge (gated edge.last d.span.start c.probe)
      (call checked c.context.env d).faults
  call_alone c d = stmt_is c (Stmt-F.Call d) ∙ or_none _ ∙ shows_behind edge.last d.span.start c.probe (call checked c.context.env d).faults

  call_stored : (c : Inside) (b : Expr) (d : Call) → edge.last < d.span.end
      → stmt_tells edge c (trees.call_stmt (Some b) d) ≡ (sv (seen_behind c b) b || tell edge (behind edge b c.probe) (call checked c.context.env d).faults)
  call_stored c b d h =
      let env = c.context.env in let g = behind edge b c.probe in let k = (checked b).value.kind env in let r = (call checked env d).result in
      stmt_is c (Stmt-F.Store b d) ∙ or_none _
      ∙ shows_behind edge.last (span_of b).start c.probe ((checked b).value.faults env ++ (call checked env d).faults ++ result_fit k r d.span)
      ∙ shows_three edge.last g ((checked b).value.faults env) (call checked env d).faults (result_fit k r d.span)
      ∙ or_drop (sv (seen_behind c b) b || tell edge g (call checked env d).faults) (tell edge g (result_fit k r d.span)) (result_late g k r d.span h)

  -- where a call is asked from: the place that is stored to, or its own beginning
  abbrev pub front_of : Option Expr → ℕ → ℕ
  front_of None n = n
  front_of (Some b) n = (span_of b).start

  abbrev pub seen_from : Inside → Option Expr → ℕ → Seen
  seen_from c o n = record { probe = gated edge.last (front_of o n) c.probe; env = c.context.env }

  abbrev pub place_tells : Inside → Option Expr → Bool
  place_tells c None = false
  place_tells c (Some b) = sv (seen_behind c b) b

  pub call_stmt_late : (c : Inside) (o : Option Expr) (d : Call) → edge.last < d.span.end
      → stmt_tells edge c (trees.call_stmt o d) ≡ (place_tells c o || tell edge (seen_from c o d.span.start).probe (call checked c.context.env d).faults)
  call_stmt_late c None d h = call_alone c d
  call_stmt_late c (Some b) d h = call_stored c b d h

  return_late : (p : Probe) (env : Env) (k : Option Kind) (word : Span) (a : Expr) → LateValue edge a → tell edge p (return_by env k word (checked a)) ≡ false
  return_late p env None word a h = refl
  return_late p env (Some k) word a h = go (is_void k)
    where
      go : (x : Bool) → tell edge p (if x then fault Misfit word.start (checked a).span.end else fit env (Some k) (checked a)) ≡ false
      go true = late_one edge.last p Misfit word.start (checked a).span.end (known_end edge.last p env a h)
      go false = late_fit edge.last p env (Some k) (checked a) (known_end edge.last p env a h)

  pub return_value_late : (c : Inside) (t : Token) (a : Expr) → LateValue edge a
      → stmt_tells edge c (Rattle.c_tree.specs.declared.code.Stmt.TheVariants.Return (words.at t) (Some a)) ≡ sv (seen_in c) a
  return_value_late c t a h =
      stmt_is c (Stmt-F.Return (words.at t) (Some a)) ∙ or_none _
      ∙ shows_drop edge.last c.probe ((checked a).value.faults c.context.env) (return_by c.context.env c.context.result (words.at t) (checked a))
      (return_late c.probe c.context.env c.context.result (words.at t) a h)

  empty_late : (p : Probe) (k : Option Kind) (s : Span) → edge.last < s.end → tell edge p (return_empty k s) ≡ false
  empty_late p None s h = refl
  empty_late p (Some k) s h = late_unless edge.last p (is_void k) (misfit s) (late_misfit edge.last p s h)

  pub return_alone_late : (c : Inside) (t : Token) → edge.last < t.end
      → stmt_tells edge c (Rattle.c_tree.specs.declared.code.Stmt.TheVariants.Return (words.at t) None) ≡ false
  return_alone_late c t h = stmt_is c (Stmt-F.Return (words.at t) None) ∙ or_none _ ∙ empty_late c.probe c.context.result (words.at t) h

  pub condition_late : (c : Inside) (a : Expr) → LateValue edge a → tell edge c.probe (condition c.context.env (checked a)) ≡ sv (seen_in c) a
  condition_late c a h = shows_drop edge.last c.probe ((checked a).value.faults c.context.env) (must_be c.context.env is_scalar (checked a))
      (late_class edge.last c.probe c.context.env is_scalar (checked a) (known_end edge.last c.probe c.context.env a h))

  -- what a `switch` says of its value
  abbrev pub switch_tells : Inside → Expr → Bool
  switch_tells c a = tell edge c.probe ((checked a).value.faults c.context.env ++ must_be c.context.env is_integer (checked a))

  pub switch_late : (c : Inside) (a : Expr) → LateValue edge a → switch_tells c a ≡ sv (seen_in c) a
  switch_late c a h = shows_drop edge.last c.probe ((checked a).value.faults c.context.env) (must_be c.context.env is_integer (checked a))
      (late_class edge.last c.probe c.context.env is_integer (checked a) (known_end edge.last c.probe c.context.env a h))

  pub switch_is : (c : Inside) (a : Expr) (cs : List Case) (x : Name)
      → stmt_tells edge c (Rattle.c_tree.specs.declared.code.Stmt.TheVariants.Switch a cs x) ≡ switch_tells c a
  switch_is c a cs x = stmt_is c (Stmt-F.Switch a cs x) ∙ or_none _

  pub goto_is : (c : Inside) (x : Name) → stmt_tells edge c (Rattle.c_tree.specs.declared.code.Stmt.TheVariants.Goto x) ≡ false
  goto_is c x = stmt_is c (Stmt-F.Goto x)

  pub label_is : (c : Inside) (x : Name) → stmt_tells edge c (Rattle.c_tree.specs.declared.code.Stmt.TheVariants.Label x) ≡ tell edge c.probe
      (label_faults c.labels (x ∷ []))
  label_is c x = stmt_is c (Stmt-F.Label x)

  pub if_goto_is : (c : Inside) (a : Expr) (x : Name) → stmt_tells edge c (Rattle.c_tree.specs.declared.code.Stmt.TheVariants.IfGoto a x) ≡ tell edge c.probe
      (condition c.context.env (checked a))
  if_goto_is c a x = stmt_is c (Stmt-F.IfGoto a x) ∙ or_none _

  -- blocks inside others

  abbrev pub inside_block : Inside → List Name → Blocks
  inside_block c ls = record { probe = c.probe; context = record { env = opened c.context.env; result = c.context.result }; labels = ls; whole = false }

  pub block_stmt_is : (c : Inside) (b : Block) → stmt_tells edge c (Rattle.c_tree.specs.declared.code.Stmt.TheVariants.Block b) ≡ block_tells edge
      (inside_block c c.labels) b
  block_stmt_is c b = stmt_is c (Stmt-F.Block b) ∙ sym (or_none _)

  -- what `if`, its condition and its block say
  abbrev pub if_tells : Inside → Expr → Block → Bool
  if_tells c a b =
      (tell edge c.probe (condition c.context.env (checked a)) || tell edge c.probe (inner (checked_block checked b) c.context)) || tell edge c.probe
      (label_faults c.labels (checked_block checked b).labels)

  pub if_is : (c : Inside) (a : Expr) (b : Block) → stmt_tells edge c (Rattle.c_tree.specs.declared.code.Stmt.TheVariants.If a b None) ≡ if_tells c a b
  if_is c a b = let q = checked_block checked b in
      stmt_is c (Stmt-F.If a b None)
      ∙ ap₂ (λ x z. x || z) (shows_three edge.last c.probe (condition c.context.env (checked a)) (inner q c.context) [] ∙ or_none _)
      (labels_split c.probe c.labels q.labels [] ∙ or_none _)

  pub if_else_is : (c : Inside) (a : Expr) (b d : Block)
      → stmt_tells edge c (Rattle.c_tree.specs.declared.code.Stmt.TheVariants.If a b (Some d))
      ≡ (if_tells c a b || block_tells edge (inside_block c (add_labels c.labels (checked_block checked b).labels)) d)
  if_else_is c a b d = let q = checked_block checked b in let r = checked_block checked d in
      stmt_is c (Stmt-F.If a b (Some d))
      ∙ ap₂ (λ x z. x || z) (shows_three edge.last c.probe (condition c.context.env (checked a)) (inner q c.context) (inner r c.context))
      (labels_split c.probe c.labels q.labels r.labels)
      ∙ or_pairs (tell edge c.probe (condition c.context.env (checked a)) || tell edge c.probe (inner q c.context)) (tell edge c.probe (inner r c.context))
      (tell edge c.probe (label_faults c.labels q.labels))
      (tell edge c.probe (label_faults (add_labels c.labels q.labels) r.labels))
      ∙ ap (λ (z : Bool). if_tells c a b || z) (sym (or_none _))

  -- 3. Lists of statements, and blocks

  pub stmts_more : (c : Inside) (s : Stmt) (ss : List Stmt) → stmts_tell edge c (s ∷ ss) ≡ (stmt_tells edge c s || stmts_tell edge (behind_stmt c s) ss)
  stmts_more c s ss =
      ap₂ (λ x z. x || z) (shows_append edge.last c.probe ((body_of s).faults c.context) (all_faults c.context (map body_of ss)))
      (labels_split c.probe c.labels (body_of s).labels (all_labels (map body_of ss)))
      ∙ or_pairs (tell edge c.probe ((body_of s).faults c.context)) (tell edge c.probe (all_faults c.context (map body_of ss)))
      (tell edge c.probe (label_faults c.labels (body_of s).labels))
      (tell edge c.probe (label_faults (add_labels c.labels (body_of s).labels) (all_labels (map body_of ss))))

  -- the body of a block and the targets in it
  pub block_is : (c : Blocks) (ls : List Local) (ss : List Stmt) (o : Span)
      → block_tells edge c (block ls ss o) ≡ (body_tells edge (of_block c) ls ss || Rattle.c_fronts.proofs.Telling.ends_tell edge c (block ls ss o))
  block_is c ls ss o =
      ap (λ (b : Body). (tell edge c.probe (b.faults c.context) || tell edge c.probe (label_faults c.labels b.labels)) ||
      Rattle.c_fronts.proofs.Telling.ends_tell edge c (block ls ss o)) (block_out ls ss o)
      ∙ ap (λ (z : Bool). (z || tell edge c.probe (label_faults c.labels (all_labels (map body_of ss)))) || Rattle.c_fronts.proofs.Telling.ends_tell edge c
      (block ls ss o))
      (shows_append edge.last c.probe (locals_faults c.context.env ls)
      (all_faults (record { env = with_locals c.context.env ls; result = c.context.result }) (map body_of ss)))
      ∙ ap (λ (z : Bool). z || Rattle.c_fronts.proofs.Telling.ends_tell edge c (block ls ss o))
      (sym (or_both (tell edge c.probe (locals_faults c.context.env ls))
      (tell edge c.probe (all_faults (record { env = with_locals c.context.env ls; result = c.context.result }) (map body_of ss)))
      (tell edge c.probe (label_faults c.labels (all_labels (map body_of ss))))))

  pub ends_late : (c : Blocks) (b : Block) → edge.last < Rattle.c_tree.specs.Unit.block_end b → Rattle.c_fronts.proofs.Telling.ends_tell edge c b ≡ false
  ends_late c b h = go c.whole
    where
      go : (x : Bool) → (if x then tell edge c.probe
          (target_faults (checked_block checked b).labels (Rattle.c_tree.specs.Unit.block_end b) (checked_block checked b).targets) else false) ≡ false
      go true = targets_late c.probe (checked_block checked b).labels (Rattle.c_tree.specs.Unit.block_end b) (checked_block checked b).targets h
      go false = refl
