-- The marks of statements and blocks.
use Rattle.std.proofs.Common.{◌≡◌, ◌∙◌, refl, sym, ap, ℕ, ◌<◌, Bool, true, false, ◌||◌, List, [], ◌∷◌, ◌++◌, map, Option, Some, None, arith}
use Rattle.predictive_grammar.specs.Forms.{Form}
use Rattle.c_lexer.specs.declared.token.Sign.TheVariants as sign
use Rattle.c_tree.specs.declared.names.Span.{Span}
use Rattle.c_tree.specs.declared.names.CType.{CType}
use Rattle.c_tree.specs.declared.code.Expr.{Expr}
use Rattle.c_tree.specs.declared.code.Suffix.{Suffix}
use Rattle.c_tree.specs.declared.code.Local.{Local}
use Rattle.c_tree.specs.declared.code.Block.{Block}
use Rattle.c_tree.specs.declared.code.Stmt.{Stmt}
use Rattle.c_tree.specs.declared.code.Stmt.TheVariants as stmt
use Rattle.c_tree.specs.declared.kinds.Sort.{Sort}
use Rattle.c_tree.specs.Words.{Token, join}
use Rattle.c_tree.specs.Words as words
use Rattle.c_tree.specs.Names.{Names, Role, TypeName, RowName, role_of}
use Rattle.c_tree.specs.Types.{can_be_type}
use Rattle.c_tree.specs.Values.{is_place}
use Rattle.c_tree.specs.Make.{name_at, span_of, suffixed, conditional, block}
use Rattle.c_tree.specs.Env.{found, kind_of}
use Rattle.c_tree.specs.Faults.{misfit}
use Rattle.c_tree.specs.Checks.{Known, checked, undeclared_if, type_faults, suffix_faults}
use Rattle.c_tree.specs.Rules.{checked_block, condition, row_number, twice_if, twice_here, not_laid_out, laid_out_if, local_faults, locals_faults}
use Rattle.c_tree.specs.Env.{found_in, innermost}
use Rattle.c_tree.specs.Unit.{label_faults}
use Rattle.c_grammar.specs.Trees.{sign_prefix, with_prefixes, one_prefix, name_value, value_call, row_call, call_stmt, local, type_of, no_stars}
use Rattle.c_grammar.specs.Parts as w
use Rattle.c_grammar.specs.Parts.{What, tree_of, at}
use Rattle.c_grammar.specs.Grammar.{C, form, just, call_behind, row_behind, label_behind, named_behind, stored_behind, value_behind, assigned_named}
use Rattle.c_grammar.specs.Grammar.{statements_behind, body_behind, body_named, local_end}
use Rattle.c_fronts.proofs.Marks.{m_give, m_take, m_part, m_pick}
use Rattle.c_fronts.proofs.Shows.{Probe, shows, gated, shows_append, shows_drop, shows_behind, gate_shut, or_none, or_both, or_drop, late_undeclared}
use Rattle.c_fronts.proofs.Shows.{late_twice, late_misfit, late_unless}
use Rattle.c_fronts.proofs.Unfold.{known_suffix}
use Rattle.c_fronts.proofs.Judging.{Rule, rule_of_kind, rule_of_row}
use Rattle.c_fronts.proofs.ValueFaults.{suffixed_tells}
use Rattle.c_fronts.proofs.StmtFaults.{add_labels, behind_stmt, label_late, seen_in, seen_behind, sv, assign_late, args_tell, value_call_late}
use Rattle.c_fronts.proofs.StmtFaults.{row_name, row_type, row_call_late, seen_from, place_tells, call_stmt_late, return_value_late}
use Rattle.c_fronts.proofs.StmtFaults.{return_alone_late, condition_late, switch_tells, switch_late, switch_is, goto_is, label_is, if_goto_is}
use Rattle.c_fronts.proofs.StmtFaults.{inside_block, block_stmt_is, if_tells, if_is, if_else_is, stmts_more, of_block, block_is, ends_late}
use Rattle.c_fronts.proofs.Telling.{Edge, Seen, Passed, Inside, Blocks, Context_of, start_at, Ready_for, tells_of, Done_with, Fact_of, tell}
use Rattle.c_fronts.proofs.Telling.{type_tells, base_tells, value_tells, LateValue, LateToken, BehindToken, stmt_tells, stmts_tell, body_tells}
use Rattle.c_fronts.proofs.Telling.{block_tells, behind_locals, ends_tell}
use Rattle.c_fronts.proofs.MarkTypes.{Mark, silent, base_late}
use Rattle.c_fronts.proofs.MarkValues.{M, row_from, suffixed_end, conditional_end, sign_more, prefix_end, mark_bracket, mark_cast, name_late}

-- a name is known where it begins
pub named_late : (edge : Edge) (p : Probe) (o : Option Sort) (t : Token) → BehindToken edge t → tell edge p (undeclared_if o (name_at t)) ≡ false
named_late edge p None t b = let a = edge.apart in late_undeclared edge.last p (name_at t) (omega (arith, b.0))
named_late edge p (Some s) t b = refl

pub twice_late : (edge : Edge) (p : Probe) (o : Option Sort) (t : Token) → BehindToken edge t → tell edge p (twice_if o (name_at t)) ≡ false
twice_late edge p None t b = refl
twice_late edge p (Some s) t b = let a = edge.apart in late_twice edge.last p (name_at t) (omega (arith, b.0))

module _ (edge : Edge) (ns : Names) where
  -- 1. Calls

  -- a part that is a statement, or ends as one
  pub record IsStmt (q : What) (d : Context_of q) (c : Inside) (f : Stmt → tree_of q) : Type 0 where
    pub tells : (s : Stmt) → tells_of edge q d (f s) ≡ stmt_tells edge c s
    pub fact : (s : Stmt) → Fact_of edge q d (f s)
    pub done : (s : Stmt) → Done_with edge q d (f s)

  abbrev passed : Seen → Rule → Option Known → Passed
  passed c r o = record { probe = c.probe; env = c.env; rule = r; before = o }

  abbrev value_rule : Seen → Expr → Rule
  value_rule c a = rule_of_kind edge.last c.probe c.env ((checked a).value.kind c.env)

  abbrev row_rule : Seen → Token → Rule
  row_rule c n = rule_of_row edge.last c.probe c.env (row_number (found c.env.scopes n.bytes))

  -- a call of a value, behind it
  pub mark_call : {q : What} {d : Context_of q} {told : Bool} {over : Type 0} (c : Inside) (o : Option Expr) (a : Expr) (f : Stmt → tree_of q)
      → IsStmt q d c f
      → (over → told ≡ (place_tells edge c o || sv edge (seen_from edge c o (span_of a).start) a)) → M edge ns q d told over (call_behind ns o a f)
  mark_call c o a f m h =
      let g = seen_from edge c o (span_of a).start in let past = place_tells edge c o || sv edge g a in
      m_take (λ t. past) (λ t b ov. sym (h ov))
      (λ t e. m_part (passed g (value_rule g a) None) past (λ xs. past || args_tell edge g (value_rule g a) xs) (λ ov. (sym (or_none past), tt))
      (λ xs f2 k. refl) (λ xs f2.
      m_take (λ s. past || args_tell edge g (value_rule g a) xs) (λ s b ov. refl) (λ s e2. m_take (λ x. stmt_tells edge c (call_stmt o (value_call a xs s)))
      (λ x b ov. call_stmt_late edge c o (value_call a xs s) ov.1 ∙ ap (λ (z : Bool). place_tells edge c o || z) (value_call_late edge g a xs s ov.1)
      ∙ or_both (place_tells edge c o) (sv edge g a) (args_tell edge g (value_rule g a) xs))
      (λ x e3. m_give (f (call_stmt o (value_call a xs s))) (m.fact (call_stmt o (value_call a xs s))) (λ ov. m.tells (call_stmt o (value_call a xs s)))
      (λ ov. m.done (call_stmt o (value_call a xs s)))))))

  -- a call of a function of the library, behind its name
  pub mark_row : {q : What} {d : Context_of q} {told : Bool} {over : Type 0} (c : Inside) (o : Option Expr) (n : Token) (takes : Bool) (f : Stmt → tree_of q)
      → IsStmt q d c f
      → (over → told ≡ (place_tells edge c o || row_name edge (seen_from edge c o n.start) n)) → M edge ns q d told over (row_behind ns o n takes f)
  mark_row c o n false f m h =
      let g = seen_from edge c o n.start in let past = place_tells edge c o || row_name edge g n in
      m_take (λ t. past) (λ t b ov. sym (h ov))
      (λ t e. m_part (passed g (row_rule g n) None) past (λ xs. past || args_tell edge g (row_rule g n) xs) (λ ov. (sym (or_none past), tt))
      (λ xs f2 k. refl) (λ xs f2.
      m_take (λ s. past || args_tell edge g (row_rule g n) xs) (λ s b ov. refl) (λ s e2. m_take (λ x. stmt_tells edge c (call_stmt o (row_call n None xs s)))
      (λ x b ov. call_stmt_late edge c o (row_call n None xs s) ov.1
      ∙ ap (λ (z : Bool). place_tells edge c o || z)
      (row_call_late edge g n None xs s ov.1 ∙ ap (λ (z : Bool). z || args_tell edge g (row_rule g n) xs) (or_none (row_name edge g n)))
      ∙ or_both (place_tells edge c o) (row_name edge g n) (args_tell edge g (row_rule g n) xs))
      (λ x e3. m_give (f (call_stmt o (row_call n None xs s))) (m.fact (call_stmt o (row_call n None xs s)))
      (λ ov. m.tells (call_stmt o (row_call n None xs s))) (λ ov. m.done (call_stmt o (row_call n None xs s)))))))
  mark_row c o n true f m h =
      let g = seen_from edge c o n.start in let past = place_tells edge c o || row_name edge g n in
      m_take (λ t. past) (λ t b ov. sym (h ov))
      (λ t e. m_part g past (λ y. past || type_tells edge g.probe g.env y) (λ ov. (sym (or_none past), tt)) (λ y f2 k. refl) (λ y f2.
      m_part (passed g (row_rule g n) None) (past || type_tells edge g.probe g.env y)
      (λ xs. (past || type_tells edge g.probe g.env y) || args_tell edge g (row_rule g n) xs)
      (λ ov. (sym (or_none (past || type_tells edge g.probe g.env y)), tt)) (λ xs f3 k. refl) (λ xs f3.
      m_take (λ s. (past || type_tells edge g.probe g.env y) || args_tell edge g (row_rule g n) xs) (λ s b ov. refl)
      (λ s e2. m_take (λ x. stmt_tells edge c (call_stmt o (row_call n (Some y) xs s)))
      (λ x b ov. call_stmt_late edge c o (row_call n (Some y) xs s) ov.1
      ∙ ap (λ (z : Bool). place_tells edge c o || z) (row_call_late edge g n (Some y) xs s ov.1)
      ∙ or_both (place_tells edge c o) (row_name edge g n || row_type edge g (Some y)) (args_tell edge g (row_rule g n) xs)
      ∙ ap (λ (z : Bool). z || args_tell edge g (row_rule g n) xs) (or_both (place_tells edge c o) (row_name edge g n) (row_type edge g (Some y))))
      (λ x e3. m_give (f (call_stmt o (row_call n (Some y) xs s))) (m.fact (call_stmt o (row_call n (Some y) xs s)))
      (λ ov. m.tells (call_stmt o (row_call n (Some y) xs s))) (λ ov. m.done (call_stmt o (row_call n (Some y) xs s))))))))

  -- 2. What is stored

  suffixed_start : (a : Expr) (xs : List Suffix) → (span_of (suffixed a xs)).start ≡ (span_of a).start
  suffixed_start a [] = refl
  suffixed_start a (x ∷ xs) = refl

  -- the same value under the same gate
  gate_same : (c : Inside) (a : Expr) (xs : List Suffix) → sv edge (seen_behind edge c (suffixed a xs)) (suffixed a xs) ≡ sv edge (seen_behind edge c a)
      (suffixed a xs)
  gate_same c a xs = ap (λ (n : ℕ). value_tells edge (gated edge.last n c.probe) c.context.env (suffixed a xs)) (suffixed_start a xs)

  -- a value that is stored to this place, behind its first operand
  mark_stored : {q : What} {d : Context_of q} (c : Inside) (b a : Expr) (f : Stmt → tree_of q) → IsStmt q d c f → {told : Bool} {over : Type 0}
      → (over → told ≡ (sv edge (seen_behind edge c b) b || sv edge (seen_behind edge c b) a)) → (over → LateValue edge a)
      → M edge ns q d told over (Rattle.c_grammar.specs.Grammar.here ns (w.ChoosingTail false a)
      (λ r. Rattle.c_grammar.specs.Grammar.sign_here ns sign.Semicolon
      (λ e. Rattle.predictive_grammar.specs.Forms.give (f (stmt.Assign b (conditional r.0 r.1))))))
  mark_stored c b a f m h l =
      let g = seen_behind edge c b in let past = sv edge g b in
      m_part g past (λ r. past || sv edge g (conditional r.0 r.1)) (λ ov. (h ov, l ov)) (λ r f2 k. refl) (λ r f2.
      m_take (λ e. stmt_tells edge c (stmt.Assign b (conditional r.0 r.1)))
      (λ e b2 ov. assign_late edge c b (conditional r.0 r.1) (conditional_end edge ns r.0 r.1 ov)) (λ e e2.
      m_give (f (stmt.Assign b (conditional r.0 r.1))) (m.fact (stmt.Assign b (conditional r.0 r.1))) (λ ov. m.tells (stmt.Assign b (conditional r.0 r.1)))
      (λ ov. m.done (stmt.Assign b (conditional r.0 r.1)))))

  -- a part alone that is a statement
  pub mark_stmt : {q z : What} {d : Context_of q} {told : Bool} {over : Type 0} (c : Inside) (k : Context_of z) (f : tree_of z → tree_of q)
      → (over → (told ≡ start_at edge z k) × Ready_for edge z k)
      → ((s : tree_of z) → Fact_of edge q d (f s)) → ((s : tree_of z) → tells_of edge q d (f s) ≡ tells_of edge z k s)
      → ((s : tree_of z) → Done_with edge q d (f s)) → M edge ns q d told over (just ns z f)
  mark_stmt c k f h fact tells done = m_part k false (λ s. tells_of edge _ k s) h (λ s f2 g. refl)
      (λ s f2. m_give (f s) (fact s) (λ ov. tells s) (λ ov. done s))

  -- what is told of a name that is stored or called
  abbrev callee_tells : Seen → Token → Role → Bool
  callee_tells c t (RowName takes) = row_name edge c t
  callee_tells c t r = sv edge c (name_value ns t)

  callee_late : (c : Seen) (t : Token) (r : Role) → BehindToken edge t → callee_tells c t r ≡ false
  callee_late c t (RowName takes) b = named_late edge c.probe (found c.env.scopes t.bytes) t b
  callee_late c t r b = name_late edge ns c t b

  -- what is told of a place that is stored to
  abbrev place_of : Inside → Expr → Bool
  place_of c b = sv edge (seen_behind edge c b) b

  pub mark_assigned : (b : Expr) (c : Inside) → Mark edge ns (w.Assigned b) c
  unfolding form
  mark_assigned b c =
      m_pick (m_take (λ t. (place_of c b) || callee_tells (seen_behind edge c b) t (role_of ns t.bytes))
      (λ t b2 ov. or_drop (place_of c b) (callee_tells (seen_behind edge c b) t (role_of ns t.bytes))
      (callee_late (seen_behind edge c b) t (role_of ns t.bytes) b2)) (λ t e. by_role t (role_of ns t.bytes)))
      (m_pick (m_take (λ t. (place_of c b)) (λ t b2 ov. refl)
      (λ t e. m_part (seen_behind edge c b) (place_of c b)
      (λ r. (place_of c b) || sv edge (seen_behind edge c b) (with_prefixes (one_prefix (sign_prefix t) r))) (λ ov. (sym (or_none (place_of c b)), tt))
      (λ r f k. ap (λ (z : Bool). (place_of c b) || z) (sign_more edge ns (seen_behind edge c b) t r k))
      (λ r f. stored (with_prefixes (one_prefix (sign_prefix t) r)) (λ ov. refl) (λ ov. prefix_end edge ns (sign_prefix t) r ov))))
      (m_pick (m_take (λ t. (place_of c b)) (λ t b2 ov. refl)
      (λ t e. m_part (seen_behind edge c b) (place_of c b)
      (λ r. (place_of c b) || sv edge (seen_behind edge c b) (with_prefixes (one_prefix (sign_prefix t) r))) (λ ov. (sym (or_none (place_of c b)), tt))
      (λ r f k. ap (λ (z : Bool). (place_of c b) || z) (sign_more edge ns (seen_behind edge c b) t r k))
      (λ r f. stored (with_prefixes (one_prefix (sign_prefix t) r)) (λ ov. refl) (λ ov. prefix_end edge ns (sign_prefix t) r ov))))
      (m_pick (m_take (λ t. (place_of c b)) (λ t b2 ov. refl) (λ t e. m_pick
      (mark_cast edge ns (seen_behind edge c b) false (place_of c b) (place_of c b) (LateToken edge t) t (λ r. value_behind ns (with_prefixes r))
      (λ ov. refl) (λ r. stored (with_prefixes r) (λ ov. refl) (λ ov. ov)))
      (mark_bracket edge ns (seen_behind edge c b) false (place_of c b) (place_of c b) (LateToken edge t) t (λ a. just ns (w.AssignedTail b a) (λ s. s))
      (λ ov. refl) (λ a e2. tail a (λ ov. refl) (λ ov. ov)))))
      (m_part (record { probe = (seen_behind edge c b).probe; env = (seen_behind edge c b).env; gate = false }) (place_of c b)
      (λ a. (place_of c b) || sv edge (seen_behind edge c b) a) (λ ov. (sym (or_none (place_of c b)), tt)) (λ a f k. refl)
      (λ a f. tail a (λ ov. refl) (λ ov. ov))))))
    where
      stored : {told : Bool} {over : Type 0} (a : Expr) → (over → told ≡ ((place_of c b) || sv edge (seen_behind edge c b) a)) → (over → LateValue edge a)
          → M edge ns (w.Assigned b) c told over (value_behind ns a)
      stored a h l = mark_stored c b a (λ s. s) (record { tells = λ s. refl; fact = λ s. tt; done = λ s. tt }) h l

      tail : {told : Bool} {over : Type 0} (a : Expr) → (over → told ≡ ((place_of c b) || sv edge (seen_behind edge c b) a)) → (over → LateValue edge a)
          → M edge ns (w.Assigned b) c told over (just ns (w.AssignedTail b a) (λ s. s))
      tail a h l = mark_stmt {z = w.AssignedTail b a} c c (λ s. s) (λ ov. (h ov, l ov)) (λ s. tt) (λ s. refl) (λ s. tt)

      by_role : (t : Token) (r : Role) → M edge ns (w.Assigned b) c ((place_of c b) || callee_tells (seen_behind edge c b) t r) (LateToken edge t)
          (assigned_named ns t r)
      by_role t (RowName takes) = mark_row c (Some b) t takes (λ s. s) (record { tells = λ s. refl; fact = λ s. tt; done = λ s. tt }) (λ ov. refl)
      by_role t r = tail (name_value ns t) (λ ov. refl) (λ ov. ov.1)

  pub mark_assigned_tail : (b a : Expr) (c : Inside) → Mark edge ns (w.AssignedTail b a) c
  unfolding form
  mark_assigned_tail b a c =
      m_part (row_from edge ns (seen_behind edge c b) a) ((place_of c b) || sv edge (seen_behind edge c b) a)
      (λ xs. (place_of c b) || sv edge (seen_behind edge c b) (suffixed a xs))
      (λ ov. (sym (or_none ((place_of c b) || sv edge (seen_behind edge c b) a)), ov))
      (λ xs f k. ap (λ (z : Bool). (place_of c b) || z) (suffixed_tells edge.last (seen_behind edge c b).probe (seen_behind edge c b).env a xs)
      ∙ or_both (place_of c b) (sv edge (seen_behind edge c b) a)
      (tell edge (seen_behind edge c b).probe (suffix_faults (seen_behind edge c b).env (checked a).span
      ((checked a).value.kind (seen_behind edge c b).env) (map known_suffix xs))))
      (λ xs f. m_pick (mark_call c (Some b) (suffixed a xs) (λ s. s) (record { tells = λ s. refl; fact = λ s. tt; done = λ s. tt }) (λ ov. refl))
      (mark_stored c b (suffixed a xs) (λ s. s) (record { tells = λ s. refl; fact = λ s. tt; done = λ s. tt }) (λ ov. refl)
      (λ ov. suffixed_end edge ns a xs ov)))

  -- 3. Statements that begin with a value

  pub mark_value_stmt : (a : Expr) (c : Inside) → Mark edge ns (w.ValueStmt a) c
  unfolding form
  mark_value_stmt a c =
      m_part (row_from edge ns (seen_behind edge c a) a) (sv edge (seen_behind edge c a) a)
      (λ xs. sv edge (seen_behind edge c (suffixed a xs)) (suffixed a xs)) (λ ov. (sym (or_none (sv edge (seen_behind edge c a) a)), ov))
      (λ xs f k. gate_same c a xs ∙ suffixed_tells edge.last (seen_behind edge c a).probe (seen_behind edge c a).env a xs)
      (λ xs f. by_place (suffixed a xs) (is_place (suffixed a xs)))
    where
      by_place : {over : Type 0} (e : Expr) (b : Bool) → M edge ns (w.ValueStmt a) c (sv edge (seen_behind edge c e) e) over (stored_behind ns b e (λ s. s))
      by_place e true = m_pick (m_take (λ t. sv edge (seen_behind edge c e) e) (λ t b ov. refl)
          (λ t e2. mark_stmt {z = w.Assigned e} c c (λ s. s) (λ ov. (refl, tt)) (λ s. tt) (λ s. refl) (λ s. tt)))
          (mark_call c None e (λ s. s) (record { tells = λ s. refl; fact = λ s. tt; done = λ s. tt }) (λ ov. refl))
      by_place e false = mark_call c None e (λ s. s) (record { tells = λ s. refl; fact = λ s. tt; done = λ s. tt }) (λ ov. refl)

  mark_label : (t : Token) (c : Inside) → M edge ns (w.NamedStmt t) c false (LateToken edge t) (label_behind ns t)
  mark_label t c =
      m_take (λ x. tell edge c.probe (label_faults c.labels (name_at t ∷ []))) (λ x b ov. label_late edge c.probe c.labels (name_at t) ov.1) (λ x e.
      m_take (λ y. tell edge c.probe (label_faults c.labels (name_at t ∷ []))) (λ y b ov. refl)
      (λ y e2. m_give (stmt.Label (name_at t)) tt (λ ov. label_is edge c (name_at t)) (λ ov. tt)))

  pub mark_named_stmt : (t : Token) (c : Inside) → Mark edge ns (w.NamedStmt t) c
  unfolding form
  mark_named_stmt t c = by_role (role_of ns t.bytes)
    where
      by_role : (r : Role) → M edge ns (w.NamedStmt t) c false (LateToken edge t) (named_behind ns t r)
      by_role (TypeName m) = mark_label t c
      by_role (RowName takes) = m_pick (mark_label t c) (mark_row c None t takes (λ s. s) (record { tells = λ s. refl; fact = λ s. tt; done = λ s. tt })
          (λ ov. sym (gate_shut edge.last t.start c.probe (undeclared_if (found c.context.env.scopes t.bytes) (name_at t)) ov.0)))
      by_role r = m_pick (mark_label t c) (mark_stmt {z = w.ValueStmt (name_value ns t)} c c (λ s. s)
          (λ ov. (sym (gate_shut edge.last t.start c.probe ((checked (name_value ns t)).value.faults c.context.env) ov.0), ov.1)) (λ s. tt) (λ s. refl)
          (λ s. tt))

  -- 4. Other statements

  -- what is seen of a statement behind its first token
  abbrev seen_at : Inside → Token → Seen
  seen_at c t = record { probe = gated edge.last t.start c.probe; env = c.context.env }

  -- a value in brackets behind `if` or `switch`
  mark_inside : {q : What} {d : Context_of q} {told : Bool} {over : Type 0} (c : Inside) (says : Expr → Bool)
      → ((a : Expr) → LateValue edge a → says a ≡ sv edge (seen_in edge c) a) → (over → told ≡ false) → (f : Expr → Form C (at ns q))
      → ((a : Expr) (s : Token) → M edge ns q d (says a) (LateToken edge s) (f a))
      → M edge ns q d told over (Rattle.c_grammar.specs.Grammar.value_inside ns f)
  mark_inside c says late h f m =
      m_take (λ t. false) (λ t b ov. sym (h ov))
      (λ t e. m_part (seen_in edge c) false (λ a. sv edge (seen_in edge c) a) (λ ov. (refl, tt)) (λ a f2 g. refl) (λ a f2.
      m_take (λ s. says a) (λ s b ov. late a ov) (λ s e2. m a s)))

  abbrev condition_tells : Inside → Expr → Bool
  condition_tells c a = tell edge c.probe (condition c.context.env (checked a))

  -- what a block says behind a condition
  or_if : (a x l : Bool) → ((a || x) || l) ≡ (a || ((x || l) || false))
  or_if a x l = sym (or_both a x l) ∙ ap (λ z. a || z) (sym (or_none (x || l)))

  mark_if : (c : Inside) (a : Expr) (s : Token) → M edge ns w.PlainStmt c (condition_tells c a) (LateToken edge s)
      (Rattle.predictive_grammar.specs.Forms.pick
      (Rattle.c_grammar.specs.Sorts.on ns (Rattle.c_grammar.specs.Tests.word_is Rattle.c_lexer.specs.declared.token.Keyword.TheVariants.Goto))
      (just ns w.GotoOf (λ n. stmt.IfGoto a (name_at n))) (Rattle.c_grammar.specs.Grammar.here ns w.BlockOf (λ b. just ns (w.ElseOf a b) (λ s. s))))
  mark_if c a s =
      m_pick (m_part tt (condition_tells c a) (λ n. condition_tells c a) (λ ov. (sym (or_none (condition_tells c a)), tt))
      (λ n f g. sym (or_none (condition_tells c a))) (λ n f. m_give (stmt.IfGoto a (name_at n)) tt (λ ov. if_goto_is edge c a (name_at n)) (λ ov. tt)))
      (m_part (inside_block edge c c.labels) (condition_tells c a) (λ b. if_tells edge c a b) (λ ov. (sym (or_none (condition_tells c a)), tt))
      (λ b f g. or_if (condition_tells c a) (tell edge c.probe (Rattle.c_tree.specs.Rules.inner (checked_block checked b) c.context))
      (tell edge c.probe (label_faults c.labels (checked_block checked b).labels)))
      (λ b f. mark_stmt {z = w.ElseOf a b} c c (λ s. s) (λ ov. (refl, tt)) (λ s. tt) (λ s. refl) (λ s. tt)))

  pub mark_else : (a : Expr) (b : Block) (c : Inside) → Mark edge ns (w.ElseOf a b) c
  unfolding form
  mark_else a b c =
      m_pick (m_take (λ l. if_tells edge c a b) (λ l b2 ov. refl)
      (λ l e. m_part (inside_block edge c (add_labels c.labels (checked_block checked b).labels)) (if_tells edge c a b)
      (λ d. stmt_tells edge c (stmt.If a b (Some d)))
      (λ ov. (sym (or_none (if_tells edge c a b)), tt)) (λ d f g. if_else_is edge c a b d) (λ d f. m_give (stmt.If a b (Some d)) tt (λ ov. refl) (λ ov. tt))))
      (m_give (stmt.If a b None) tt (λ ov. if_is edge c a b) (λ ov. tt))

  pub mark_plain_stmt : (c : Inside) → Mark edge ns w.PlainStmt c
  unfolding form
  mark_plain_stmt c =
      m_pick (m_take silent (λ t b ov. refl) (λ t e. m_part (seen_at c t) false (λ r. sv edge (seen_at c t) (with_prefixes (one_prefix (sign_prefix t) r)))
      (λ ov. (refl, tt)) (λ r f g. sign_more edge ns (seen_at c t) t r g) (λ r f.
      m_take (λ e2. sv edge (seen_at c t) (with_prefixes (one_prefix (sign_prefix t) r))) (λ e2 b ov. refl) (λ e2 e3.
      mark_stmt {z = w.Assigned (with_prefixes (one_prefix (sign_prefix t) r))} c c (λ s. s) (λ ov. (refl, tt)) (λ s. tt) (λ s. refl) (λ s. tt)))))
      (m_pick (m_take silent (λ t b ov. refl) (λ t e. mark_bracket edge ns (seen_at c t) false false false (LateToken edge t) t
      (λ a. just ns (w.ValueStmt a) (λ s. s)) (λ ov. refl) (λ a e2.
      mark_stmt {z = w.ValueStmt a} c c (λ s. s) (λ ov. (ap (λ (n : ℕ). value_tells edge (gated edge.last n c.probe) c.context.env a) (sym e2), ov))
      (λ s. tt) (λ s. refl) (λ s. tt))))
      (m_pick (m_part (record { probe = c.probe; env = c.context.env; gate = true }) false (λ a. sv edge (seen_behind edge c a) a) (λ ov. (refl, tt))
      (λ a f g. refl) (λ a f.
      mark_stmt {z = w.ValueStmt a} c c (λ s. s) (λ ov. (refl, ov)) (λ s. tt) (λ s. refl) (λ s. tt)))
      (m_pick (m_part (inside_block edge c c.labels) false (λ b. stmt_tells edge c (stmt.Block b)) (λ ov. (refl, tt)) (λ b f g. block_stmt_is edge c b)
      (λ b f. m_give (stmt.Block b) tt (λ ov. refl) (λ ov. tt)))
      (m_pick (m_take silent (λ t b ov. refl) (λ i e. mark_inside c (condition_tells c) (condition_late edge c) (λ ov. refl) _ (λ a s. mark_if c a s)))
      (m_pick (m_part tt false (λ n. false) (λ ov. (refl, tt)) (λ n f g. refl)
      (λ n f. m_give (stmt.Goto (name_at n)) tt (λ ov. goto_is edge c (name_at n)) (λ ov. tt)))
      (m_pick (m_take silent (λ t b ov. refl) (λ i e. mark_inside c (switch_tells edge c) (switch_late edge c) (λ ov. refl) _ (λ a s.
      m_take (λ l. switch_tells edge c a) (λ l b ov. refl)
      (λ l e2. m_part tt (switch_tells edge c a) (λ r. switch_tells edge c a) (λ ov. (sym (or_none (switch_tells edge c a)), tt))
      (λ r f g. sym (or_none (switch_tells edge c a))) (λ r f.
      m_take (λ x. switch_tells edge c a) (λ x b ov. refl)
      (λ x e3. m_give (stmt.Switch a r.0 (name_at r.1)) tt (λ ov. switch_is edge c a r.0 (name_at r.1)) (λ ov. tt)))))))
      (m_take silent (λ t b ov. refl) (λ t e.
      m_pick (m_take (λ x. stmt_tells edge c (stmt.Return (words.at t) None)) (λ x b ov. return_alone_late edge c t ov.1)
      (λ x e2. m_give (stmt.Return (words.at t) None) tt (λ ov. refl) (λ ov. tt)))
      (m_part (seen_in edge c) false (λ a. sv edge (seen_in edge c) a) (λ ov. (refl, tt)) (λ a f g. refl) (λ a f.
      m_take (λ x. stmt_tells edge c (stmt.Return (words.at t) (Some a))) (λ x b ov. return_value_late edge c t a ov)
      (λ x e2. m_give (stmt.Return (words.at t) (Some a)) tt (λ ov. refl) (λ ov. tt))))))))))))

  pub mark_statement : (c : Inside) → Mark edge ns w.Statement c
  unfolding form
  mark_statement c =
      m_pick (m_take silent (λ t b ov. refl) (λ t e. mark_stmt {z = w.NamedStmt t} c c (λ s. s) (λ ov. (refl, ov)) (λ s. tt) (λ s. refl) (λ s. tt)))
      (mark_stmt {z = w.PlainStmt} c c (λ s. s) (λ ov. (refl, tt)) (λ s. tt) (λ s. refl) (λ s. tt))

  pub mark_statements : (c : Inside) → Mark edge ns w.Statements c
  unfolding form
  mark_statements c =
      m_pick (m_part c false (λ s. stmt_tells edge c s) (λ ov. (refl, tt)) (λ s f g. refl)
      (λ s f. m_part (behind_stmt c s) (stmt_tells edge c s) (λ ss. stmts_tell edge c (s ∷ ss)) (λ ov. (sym (or_none (stmt_tells edge c s)), tt))
      (λ ss f2 g. stmts_more edge c s ss) (λ ss f2. m_give (s ∷ ss) tt (λ ov. refl) (λ ov. tt))))
      (m_give [] tt (λ ov. refl) (λ ov. tt))

  -- 5. Declarations and blocks

  abbrev type_and_name : Seen → CType → Token → Bool
  type_and_name c y n = tell edge c.probe (type_faults c.env y ++ twice_here c.env (name_at n))

  -- a declaration behind its type, of which is asked behind a place
  mark_local_end : {q : What} {d : Context_of q} {told : Bool} {over : Type 0} (c : Seen) (start : ℕ) (y : CType) → y.span.start ≡ start
      → (f : Local → Form C (at ns q)) → (over → told ≡ type_tells edge (gated edge.last start c.probe) c.env y)
      → ((l : Local) (e : Token) → M edge ns q d (tell edge c.probe (local_faults c.env l)) (LateToken edge e) (f l))
      → M edge ns q d told over (local_end ns y f)
  mark_local_end c start y same f h m =
      let g : Seen = record { probe = gated edge.last start c.probe; env = c.env } in
      m_take (λ n. type_and_name g y n) (λ n b ov. shows_drop edge.last g.probe (type_faults c.env y) (twice_here c.env (name_at n))
      (twice_late edge g.probe (found_in (innermost c.env.scopes) n.bytes) n b) ∙ sym (h ov)) (λ n e.
      m_take (λ x. tell edge c.probe (local_faults c.env (local y n))) (λ x b ov. whole n ov) (λ x e2. m (local y n) x))
    where
      whole : (n : Token) → LateToken edge n → tell edge c.probe (local_faults c.env (local y n)) ≡ type_and_name
          (record { probe = gated edge.last start c.probe; env = c.env }) y n
      whole n ov =
          shows_behind edge.last y.span.start c.probe
          (type_faults c.env y ++ twice_here c.env (name_at n) ++ not_laid_out c.env (kind_of c.env y) (name_at n))
          ∙ ap (λ (k : ℕ). shows edge.last (gated edge.last k c.probe)
          (type_faults c.env y ++ twice_here c.env (name_at n) ++ not_laid_out c.env (kind_of c.env y) (name_at n))) same
          ∙ shows_drop edge.last (gated edge.last start c.probe) (type_faults c.env y ++ twice_here c.env (name_at n))
          (not_laid_out c.env (kind_of c.env y) (name_at n))
          (late_unless edge.last (gated edge.last start c.probe) (laid_out_if c.env (kind_of c.env y)) (misfit (name_at n).span)
          (late_misfit edge.last (gated edge.last start c.probe) (name_at n).span ov.1))

  -- what is seen behind a token
  abbrev seen_after : Seen → Token → Seen
  seen_after c t = record { probe = gated edge.last t.start c.probe; env = c.env }

  pub mark_local_rest : (t : Token) (c : Seen) → Mark edge ns (w.LocalRest t) c
  unfolding form
  mark_local_rest t c =
      m_pick (m_part (seen_after c t) false (λ y. type_tells edge (seen_after c t).probe (seen_after c t).env y)
      (λ ov. (sym (gate_shut edge.last t.start c.probe (Rattle.c_tree.specs.Checks.base_faults c.env (Rattle.c_grammar.specs.Trees.base_of t)) ov.0), tt))
      (λ y f k. refl)
      (λ y f. mark_local_end c t.start y f.1 (λ l. Rattle.predictive_grammar.specs.Forms.give l) (λ ov. refl) (λ l e. m_give l tt (λ ov. refl) (λ ov. tt))))
      (mark_local_end c t.start (type_of [] t [] no_stars) refl (λ l. Rattle.predictive_grammar.specs.Forms.give l)
      (λ ov. sym (gate_shut edge.last t.start c.probe (type_faults c.env (type_of [] t [] no_stars)) ov.0)) (λ l e. m_give l tt (λ ov. refl) (λ ov. tt)))

  pub mark_key_type : (c : Seen) → Mark edge ns w.KeyType c
  unfolding form
  mark_key_type c =
      m_pick (m_take silent (λ t b ov. refl) (λ t e. m_part tt false silent (λ ov. (refl, tt)) (λ u f k. refl) (λ u f.
      m_take (λ b. base_tells edge (gated edge.last t.start c.probe) c.env b) (λ b bh ov. base_late edge (gated edge.last t.start c.probe) c.env b bh)
      (λ b e2.
      m_part (record { probe = gated edge.last t.start c.probe; env = c.env }) false (λ y. type_tells edge (gated edge.last t.start c.probe) c.env y)
      (λ ov. (refl, tt)) (λ y f2 k. refl)
      (λ y f2. m_give y tt (λ ov. ap (λ (n : ℕ). type_tells edge (gated edge.last n c.probe) c.env y) f2.1) (λ ov. tt))))))
      (m_take (λ t. base_tells edge (gated edge.last t.start c.probe) c.env t) (λ t b ov. base_late edge (gated edge.last t.start c.probe) c.env t b) (λ t e.
      m_part (record { probe = gated edge.last t.start c.probe; env = c.env }) false (λ y. type_tells edge (gated edge.last t.start c.probe) c.env y)
      (λ ov. (refl, tt)) (λ y f2 k. refl)
      (λ y f2. m_give y tt (λ ov. ap (λ (n : ℕ). type_tells edge (gated edge.last n c.probe) c.env y) f2.1) (λ ov. tt))))

  -- the context behind a declaration
  abbrev behind_local : Inside → Local → Inside
  behind_local c l = record {
    probe = c.probe;
    context = record { env = Rattle.c_tree.specs.Rules.with_local c.context.env l; result = c.context.result };
    labels = c.labels;
  }

  body_more : (c : Inside) (l : Local) (ls : List Local) (ss : List Stmt)
      → body_tells edge c (l ∷ ls) ss ≡ (tell edge c.probe (local_faults c.context.env l) || body_tells edge (behind_local c l) ls ss)
  body_more c l ls ss =
      ap (λ (z : Bool). z || stmts_tell edge (behind_locals edge c (l ∷ ls)) ss)
      (shows_append edge.last c.probe (local_faults c.context.env l) (locals_faults (Rattle.c_tree.specs.Rules.with_local c.context.env l) ls))
      ∙ sym (or_both (tell edge c.probe (local_faults c.context.env l))
      (tell edge c.probe (locals_faults (Rattle.c_tree.specs.Rules.with_local c.context.env l) ls)) (stmts_tell edge (behind_locals edge c (l ∷ ls)) ss))

  mark_body_behind : {over : Type 0} (c : Inside) (l : Local) → M edge ns w.Body c (tell edge c.probe (local_faults c.context.env l)) over (body_behind ns l)
  mark_body_behind c l =
      m_part (behind_local c l) (tell edge c.probe (local_faults c.context.env l)) (λ r. body_tells edge c (l ∷ r.0) r.1)
      (λ ov. (sym (or_none (tell edge c.probe (local_faults c.context.env l))), tt))
      (λ r f k. body_more c l r.0 r.1) (λ r f. m_give (l ∷ r.0, r.1) tt (λ ov. refl) (λ ov. tt))

  mark_statements_behind : {over : Type 0} (c : Inside) (s : Stmt) → M edge ns w.Body c (stmt_tells edge c s) over (statements_behind ns s)
  mark_statements_behind c s =
      m_part (behind_stmt c s) (stmt_tells edge c s) (λ ss. body_tells edge c [] (s ∷ ss)) (λ ov. (sym (or_none (stmt_tells edge c s)), tt))
      (λ ss f k. stmts_more edge c s ss) (λ ss f. m_give ([], s ∷ ss) tt (λ ov. refl) (λ ov. tt))

  pub mark_body : (c : Inside) → Mark edge ns w.Body c
  unfolding form
  mark_body c =
      m_pick (m_part (seen_in edge c) false (λ y. type_tells edge (gated edge.last y.span.start c.probe) c.context.env y) (λ ov. (refl, tt)) (λ y f k. refl)
      (λ y f.
      mark_local_end (seen_in edge c) y.span.start y refl (λ l. body_behind ns l) (λ ov. refl) (λ l e. mark_body_behind c l)))
      (m_pick (m_take silent (λ t b ov. refl) (λ t e. by_role t (can_be_type true (role_of ns t.bytes))))
      (m_pick (m_part c false (λ s. stmt_tells edge c s) (λ ov. (refl, tt)) (λ s f k. refl) (λ s f. mark_statements_behind c s))
      (m_give ([], []) tt (λ ov. refl) (λ ov. tt))))
    where
      named : (t : Token) → M edge ns w.Body c false (LateToken edge t) (Rattle.c_grammar.specs.Grammar.here ns (w.NamedStmt t) (λ s. statements_behind ns s))
      named t = m_part c false (λ s. stmt_tells edge c s) (λ ov. (refl, ov)) (λ s f k. refl) (λ s f. mark_statements_behind c s)

      by_role : (t : Token) (b : Bool) → M edge ns w.Body c false (LateToken edge t) (body_named ns t b)
      by_role t true = m_pick (m_part (seen_in edge c) false (λ l. tell edge c.probe (local_faults c.context.env l)) (λ ov. (refl, ov)) (λ l f k. refl)
          (λ l f. mark_body_behind c l)) (named t)
      by_role t false = named t

  pub mark_block : (c : Blocks) → Mark edge ns w.BlockOf c
  unfolding form
  mark_block c =
      m_take silent (λ t b ov. refl) (λ t e. m_part (of_block c) false (λ r. body_tells edge (of_block c) r.0 r.1) (λ ov. (refl, tt)) (λ r f k. refl) (λ r f.
      m_take (λ s. block_tells edge c (block r.0 r.1 (join (words.at t) (words.at s)))) (λ s b ov. late r.0 r.1 (join (words.at t) (words.at s)) b.1)
      (λ s e2. m_give (block r.0 r.1 (join (words.at t) (words.at s))) tt (λ ov. refl) (λ ov. tt))))
    where
      late : (ls : List Local) (ss : List Stmt) (o : Span) → edge.place < o.end → block_tells edge c (block ls ss o) ≡ body_tells edge (of_block c) ls ss
      late ls ss o h = let a = edge.apart in
          block_is edge c ls ss o ∙ or_drop (body_tells edge (of_block c) ls ss) (ends_tell edge c (block ls ss o))
          (ends_late edge c (block ls ss o) (omega (arith, h)))

  -- what has no fault

  pub mark_number : Mark edge ns w.SignedNumberOf tt
  unfolding form
  mark_number = m_pick (m_take silent (λ t b ov. refl) (λ m e. m_take silent (λ t b ov. refl) (λ t e2. m_give _ tt (λ ov. refl) (λ ov. tt))))
      (m_take silent (λ t b ov. refl) (λ t e2. m_give _ tt (λ ov. refl) (λ ov. tt)))

  pub mark_goto : Mark edge ns w.GotoOf tt
  unfolding form
  mark_goto = m_take silent (λ t b ov. refl)
      (λ t e. m_take silent (λ n b ov. refl) (λ n e2. m_take silent (λ x b ov. refl) (λ x e3. m_give n tt (λ ov. refl) (λ ov. tt))))

  pub mark_cases : Mark edge ns w.Cases tt
  unfolding form
  mark_cases =
      m_pick (m_take silent (λ t b ov. refl) (λ t e. m_part tt false silent (λ ov. (refl, tt)) (λ x f k. refl)
      (λ x f. m_take silent (λ s b ov. refl) (λ s e2. m_part tt false silent (λ ov. (refl, tt)) (λ n f2 k. refl) (λ n f2.
      m_part tt false silent (λ ov. (refl, tt)) (λ r f3 k. refl) (λ r f3. m_give _ tt (λ ov. refl) (λ ov. tt)))))))
      (m_take silent (λ t b ov. refl) (λ t e. m_take silent (λ s b ov. refl)
      (λ s e2. m_part tt false silent (λ ov. (refl, tt)) (λ n f k. refl) (λ n f. m_give ([], n) tt (λ ov. refl) (λ ov. tt)))))
