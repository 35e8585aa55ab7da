-- The same tokens at other places are read as the same declarations, calls and statements, apart from places.
use Rattle.std.proofs.Common.{◌≡◌, ◌∙◌, refl, sym, ap, subst, false, List, [], ◌∷◌, ◌++◌, map, Some, None}
use Rattle.c_tree.specs.declared.names.SignedNumber.{SignedNumber}
use Rattle.c_tree.specs.declared.code.Expr.{Expr}
use Rattle.c_tree.specs.declared.code.Local.{Local}
use Rattle.c_tree.specs.declared.code.Callee.TheVariants as callee
use Rattle.c_tree.specs.declared.code.Call.{Call}
use Rattle.c_tree.specs.declared.code.Case.{Case}
use Rattle.c_tree.specs.declared.code.Stmt.{Stmt}
use Rattle.c_tree.specs.declared.code.Stmt.TheOpen.{Stmt-F}
use Rattle.c_tree.specs.declared.code.Stmt.TheVariants as stmt
use Rattle.c_tree.specs.declared.code.Block.{Block}
use Rattle.c_tree.specs.Words.{Token, Word, at, join}
use Rattle.c_tree.specs.Names.{Names, role_of, with_local, with_locals}
use Rattle.c_tree.specs.Values as v
use Rattle.c_tree.specs.Make.{name_at, span_of, block}
use Rattle.c_tree.specs.Statements as st
use Rattle.c_tree.specs.Statements.{ReadsStmt, ReadsStmts, ReadsBlock, ReadsLocal, local_is, ReadsLocals, no_local, more_locals, ReadsNumber, number_is, negative_is, ReadsCall, call_value, call_row, call_type_row, ReadsPlace, place_is, ReadsGoto, goto_is, ReadsCases, no_case, more_cases}
use Rattle.c_tree.specs.Bare.{nowhere, bare_name, bare_expr, bare_local, bare_call, bare_case, bare_stmt, bare_block}
use Rattle.c_printer.specs.Alike.{Alike}
use Rattle.c_printer.proofs.Moving.{at_end, at_token, at_both, same_name, same_object, same_place, type_moved, moved}
use Rattle.c_printer.proofs.StatementReading.{bare_of_stmt, stmt_bare_layer, stmt_at, stmt_bare, block_bare, same_scope}

-- words that are read as a tree, apart from places
pub record Kept {A B : Type 0} (R : Word → A → Type 0) (bare : A → B) (w : Word) (x : A) : Type 0 where
  pub tree : A
  pub reads : R w tree
  pub same : bare tree ≡ bare x

-- 1. Declarations

pub local_moved : {ns : Names} {w z : Word} {l : Local} → ReadsLocal ns w l → Alike w z → Kept (ReadsLocal ns) bare_local z l
local_moved {ns} {l} (local_is n e {w} {c} t h i j) al =
    at_both w (n ∷ e ∷ []) (λ z. Kept (ReadsLocal ns) bare_local z l) al (λ x y a1 a2.
    at_token (λ z. Kept (ReadsLocal ns) bare_local (x ++ z) l) a2 (λ n' y1 ln b1.
    at_token (λ z. Kept (ReadsLocal ns) bare_local (x ++ n' ∷ z) l) b1 (λ e' y2 le b2.
    at_end (λ z. Kept (ReadsLocal ns) bare_local (x ++ n' ∷ e' ∷ z) l) b2
    (let m = type_moved t a1 in
    record { tree = record { declared = m.tree; name = name_at n' }; reads = local_is n' e' m.reads (same_object m.tree c m.same ∙ h) (ln.terminal ∙ i) (le.terminal ∙ j); same = λ k. record { declared = m.same k; name = same_name ln i k } }))))

pub locals_moved : {ns : Names} {w z : Word} {ls : List Local} → ReadsLocals ns w ls → Alike w z → Kept (ReadsLocals ns) (map bare_local) z ls
locals_moved {ns} no_local al = at_end (λ z. Kept (ReadsLocals ns) (map bare_local) z []) al (record { tree = []; reads = no_local; same = refl })
locals_moved {ns} {ls} (more_locals {u} {w} {l} {ls = ms} r rest) al =
    at_both u w (λ z. Kept (ReadsLocals ns) (map bare_local) z ls) al (λ x y a1 a2.
    let m = local_moved r a1 in let q = locals_moved rest a2 in
    record { tree = m.tree ∷ q.tree; reads = more_locals m.reads (subst (λ s. ReadsLocals s y q.tree) (sym (ap (with_local ns) m.same)) q.reads); same = λ k. m.same k ∷ q.same k })

-- 2. Numbers, jumps and places

pub number_moved : {w z : Word} {x : SignedNumber} → ReadsNumber w x → Alike w z → ReadsNumber z x
number_moved {x} (number_is i) al = at_token (λ z. ReadsNumber z x) al (λ t w l b. at_end (λ z. ReadsNumber (t ∷ z) x) b (number_is (l.terminal ∙ i)))
number_moved {x} (negative_is i j) al = at_token (λ z. ReadsNumber z x) al (λ s w l b. at_token (λ z. ReadsNumber (s ∷ z) x) b (λ t y m c. at_end (λ z. ReadsNumber (s ∷ t ∷ z) x) c (negative_is (l.terminal ∙ i) (m.terminal ∙ j))))

pub record MovedGoto (w : Word) (n : Token) : Type 0 where
  pub label : Token
  pub reads : ReadsGoto w label
  pub same : bare_name (name_at label) ≡ bare_name (name_at n)

goto_moved : {w z : Word} {n : Token} → ReadsGoto w n → Alike w z → MovedGoto z n
goto_moved {n} (goto_is i j h) al = at_token (λ z. MovedGoto z n) al (λ t y l b. at_token (λ z. MovedGoto (t ∷ z) n) b (λ n' y1 m c. at_token (λ z. MovedGoto (t ∷ n' ∷ z) n) c (λ e y2 q d. at_end (λ z. MovedGoto (t ∷ n' ∷ e ∷ z) n) d
    (record { label = n'; reads = goto_is (l.terminal ∙ i) (m.terminal ∙ j) (q.terminal ∙ h); same = same_name m j }))))

place_moved : {ns : Names} {w z : Word} {a : Expr} → ReadsPlace ns w a → Alike w z → Kept (ReadsPlace ns) bare_expr z a
place_moved {ns} (place_is {a} r h) al = let m = moved ns false r al in record { tree = m.tree; reads = place_is m.reads (same_place m.tree a m.same ∙ h); same = m.same }

value_moved : {ns : Names} {w z : Word} {a : Expr} → v.Reads ns false v.Value w a → Alike w z → Kept (v.Reads ns false v.Value) bare_expr z a
value_moved {ns} r al = let m = moved ns false r al in record { tree = m.tree; reads = m.reads; same = m.same }

cases_moved : {w z : Word} {cs : List Case} → ReadsCases w cs → Alike w z → Kept ReadsCases (map bare_case) z cs
cases_moved no_case al = at_end (λ z. Kept ReadsCases (map bare_case) z []) al (record { tree = []; reads = no_case; same = refl })
cases_moved {cs} (more_cases {t} s n {u} {v = g} {w} {x} {cs = ds} i r j go rest) al =
    at_both (t ∷ u ++ s ∷ g) w (λ z. Kept ReadsCases (map bare_case) z cs) al (λ f y a1 a2.
    at_both (t ∷ u) (s ∷ g) (λ z. Kept ReadsCases (map bare_case) (z ++ y) cs) a1 (λ f1 f2 b1 b2.
    at_token (λ z. Kept ReadsCases (map bare_case) (z ++ f2 ++ y) cs) b1 (λ t' u' lt c1.
    at_token (λ z. Kept ReadsCases (map bare_case) (t' ∷ u' ++ z ++ y) cs) b2 (λ s' g' ls c2.
    let m = goto_moved go c2 in let q = cases_moved rest a2 in
    record { tree = record { number = x; label = name_at m.label } ∷ q.tree; reads = more_cases s' m.label (lt.terminal ∙ i) (number_moved r c1) (ls.terminal ∙ j) m.reads q.reads; same = λ k. record { number = x; label = m.same k } ∷ q.same k }))))

-- 3. Calls

call_moved : {ns : Names} {w z : Word} {c : Call} → ReadsCall ns w c → Alike w z → Kept (ReadsCall ns) bare_call z c
call_moved {ns} {c} (call_value t s {u} {w} {a} {xs} ra i r j) al =
    at_both (u ++ t ∷ w) (s ∷ []) (λ z. Kept (ReadsCall ns) bare_call z c) al (λ x y a1 a2.
    at_both u (t ∷ w) (λ z. Kept (ReadsCall ns) bare_call (z ++ y) c) a1 (λ u' x1 b1 b2.
    at_token (λ z. Kept (ReadsCall ns) bare_call (u' ++ z ++ y) c) b2 (λ t' w' lt c1.
    at_token (λ z. Kept (ReadsCall ns) bare_call (u' ++ t' ∷ w' ++ z) c) a2 (λ s' y1 ls c2.
    at_end (λ z. Kept (ReadsCall ns) bare_call (u' ++ t' ∷ w' ++ s' ∷ z) c) c2
    (let m = moved ns false ra b1 in let q = moved ns false r c1 in
    record {
      tree = record { callee = callee.Value m.tree; type_argument = None; arguments = q.tree; span = join (span_of m.tree) (at s') };
      reads = call_value t' s' m.reads (lt.terminal ∙ i) q.reads (ls.terminal ∙ j);
      same = λ k. record { callee = callee.Value (m.same k); type_argument = None; arguments = q.same k; span = nowhere };
    })))))
call_moved {ns} {c} (call_row {n} {t} s {w} {xs} i h j r k) al =
    at_both (n ∷ t ∷ w) (s ∷ []) (λ z. Kept (ReadsCall ns) bare_call z c) al (λ x y a1 a2.
    at_token (λ z. Kept (ReadsCall ns) bare_call (z ++ y) c) a1 (λ n' x1 ln b1.
    at_token (λ z. Kept (ReadsCall ns) bare_call (n' ∷ z ++ y) c) b1 (λ t' w' lt b2.
    at_token (λ z. Kept (ReadsCall ns) bare_call (n' ∷ t' ∷ w' ++ z) c) a2 (λ s' y1 ls c2.
    at_end (λ z. Kept (ReadsCall ns) bare_call (n' ∷ t' ∷ w' ++ s' ∷ z) c) c2
    (let q = moved ns false r b2 in
    record {
      tree = record { callee = callee.Row (name_at n'); type_argument = None; arguments = q.tree; span = join (at n') (at s') };
      reads = call_row s' (ln.terminal ∙ i) (ap (role_of ns) (ln.named i) ∙ h) (lt.terminal ∙ j) q.reads (ls.terminal ∙ k);
      same = λ k. record { callee = callee.Row (same_name ln i k); type_argument = None; arguments = q.same k; span = nowhere };
    })))))
call_moved {ns} {c} (call_type_row {n} {t} s {u} {w} {c = d} {xs} i h j rc o r k) al =
    at_both (n ∷ t ∷ u ++ w) (s ∷ []) (λ z. Kept (ReadsCall ns) bare_call z c) al (λ x y a1 a2.
    at_both (n ∷ t ∷ u) w (λ z. Kept (ReadsCall ns) bare_call (z ++ y) c) a1 (λ x0 w' a3 a4.
    at_token (λ z. Kept (ReadsCall ns) bare_call (z ++ w' ++ y) c) a3 (λ n' x1 ln b1.
    at_token (λ z. Kept (ReadsCall ns) bare_call (n' ∷ z ++ w' ++ y) c) b1 (λ t' u' lt b2.
    at_token (λ z. Kept (ReadsCall ns) bare_call (n' ∷ t' ∷ u' ++ w' ++ z) c) a2 (λ s' y1 ls c2.
    at_end (λ z. Kept (ReadsCall ns) bare_call (n' ∷ t' ∷ u' ++ w' ++ s' ∷ z) c) c2
    (let q = moved ns false r a4 in let p = type_moved rc b2 in
    record {
      tree = record { callee = callee.Row (name_at n'); type_argument = Some p.tree; arguments = q.tree; span = join (at n') (at s') };
      reads = call_type_row s' (ln.terminal ∙ i) (ap (role_of ns) (ln.named i) ∙ h) (lt.terminal ∙ j) p.reads (same_object p.tree d p.same ∙ o) q.reads (ls.terminal ∙ k);
      same = λ k. record { callee = callee.Row (same_name ln i k); type_argument = Some (p.same k); arguments = q.same k; span = nowhere };
    }))))))

-- 4. Statements

kept : {ns : Names} {w : Word} (l m : Stmt-F Stmt Block) → ReadsStmt ns w (stmt_at l) → bare_stmt (stmt_bare_layer l) ≡ bare_stmt (stmt_bare_layer m) → Kept (ReadsStmt ns) bare_of_stmt w (stmt_at m)
kept l m r e = record { tree = stmt_at l; reads = r; same = stmt_bare l ∙ e ∙ sym (stmt_bare m) }

mutual
  pub stmt_moved : {ns : Names} {w : Word} {s : Stmt} → ReadsStmt ns w s → {z : Word} → Alike w z → Kept (ReadsStmt ns) bare_of_stmt z s
  stmt_moved {ns} {s} (st.assigns t e {u} {w} {a} {b} p i r j) al =
      at_both (u ++ t ∷ w) (e ∷ []) (λ z. Kept (ReadsStmt ns) bare_of_stmt z s) al (λ x y a1 a2.
      at_both u (t ∷ w) (λ z. Kept (ReadsStmt ns) bare_of_stmt (z ++ y) s) a1 (λ u' x1 b1 b2.
      at_token (λ z. Kept (ReadsStmt ns) bare_of_stmt (u' ++ z ++ y) s) b2 (λ t' w' lt c1.
      at_token (λ z. Kept (ReadsStmt ns) bare_of_stmt (u' ++ t' ∷ w' ++ z) s) a2 (λ e' y1 le c2.
      at_end (λ z. Kept (ReadsStmt ns) bare_of_stmt (u' ++ t' ∷ w' ++ e' ∷ z) s) c2
      (let m = place_moved p b1 in let q = value_moved r c1 in
      kept (Stmt-F.Assign m.tree q.tree) (Stmt-F.Assign a b) (st.assigns t' e' m.reads (lt.terminal ∙ i) q.reads (le.terminal ∙ j)) (λ k. stmt.Assign (m.same k) (q.same k)))))))
  stmt_moved {ns} {s} (st.calls e {w} {c} r i) al =
      at_both w (e ∷ []) (λ z. Kept (ReadsStmt ns) bare_of_stmt z s) al (λ x y a1 a2.
      at_token (λ z. Kept (ReadsStmt ns) bare_of_stmt (x ++ z) s) a2 (λ e' y1 le c2.
      at_end (λ z. Kept (ReadsStmt ns) bare_of_stmt (x ++ e' ∷ z) s) c2
      (let m = call_moved r a1 in kept (Stmt-F.Call m.tree) (Stmt-F.Call c) (st.calls e' m.reads (le.terminal ∙ i)) (ap stmt.Call m.same))))
  stmt_moved {ns} {s} (st.stores t e {u} {w} {a} {c} p i r j) al =
      at_both (u ++ t ∷ w) (e ∷ []) (λ z. Kept (ReadsStmt ns) bare_of_stmt z s) al (λ x y a1 a2.
      at_both u (t ∷ w) (λ z. Kept (ReadsStmt ns) bare_of_stmt (z ++ y) s) a1 (λ u' x1 b1 b2.
      at_token (λ z. Kept (ReadsStmt ns) bare_of_stmt (u' ++ z ++ y) s) b2 (λ t' w' lt c1.
      at_token (λ z. Kept (ReadsStmt ns) bare_of_stmt (u' ++ t' ∷ w' ++ z) s) a2 (λ e' y1 le c2.
      at_end (λ z. Kept (ReadsStmt ns) bare_of_stmt (u' ++ t' ∷ w' ++ e' ∷ z) s) c2
      (let m = place_moved p b1 in let q = call_moved r c1 in
      kept (Stmt-F.Store m.tree q.tree) (Stmt-F.Store a c) (st.stores t' e' m.reads (lt.terminal ∙ i) q.reads (le.terminal ∙ j)) (λ k. stmt.Store (m.same k) (q.same k)))))))
  stmt_moved {ns} {s} (st.if_block {i = f} {t} q {u} {w} {a} {b} i j r h rb) al =
      at_both (f ∷ t ∷ u) (q ∷ w) (λ z. Kept (ReadsStmt ns) bare_of_stmt z s) al (λ x y a1 a2.
      at_token (λ z. Kept (ReadsStmt ns) bare_of_stmt (z ++ y) s) a1 (λ f' x1 lf b1.
      at_token (λ z. Kept (ReadsStmt ns) bare_of_stmt (f' ∷ z ++ y) s) b1 (λ t' u' lt b2.
      at_token (λ z. Kept (ReadsStmt ns) bare_of_stmt (f' ∷ t' ∷ u' ++ z) s) a2 (λ q' w' lq c2.
      let m = value_moved r b2 in let n = block_moved rb c2 in
      kept (Stmt-F.If m.tree n.tree None) (Stmt-F.If a b None) (st.if_block q' (lf.terminal ∙ i) (lt.terminal ∙ j) m.reads (lq.terminal ∙ h) n.reads) (λ k. stmt.If (m.same k) (n.same k) None)))))
  stmt_moved {ns} {s} (st.if_else {i = f} {t} q l {u} {w} {x = g} {a} {b} {d} i j r h rb o rd) al =
      at_both (f ∷ t ∷ u ++ q ∷ w) (l ∷ g) (λ z. Kept (ReadsStmt ns) bare_of_stmt z s) al (λ x y a1 a2.
      at_both (f ∷ t ∷ u) (q ∷ w) (λ z. Kept (ReadsStmt ns) bare_of_stmt (z ++ y) s) a1 (λ x0 x2 a3 a4.
      at_token (λ z. Kept (ReadsStmt ns) bare_of_stmt (z ++ x2 ++ y) s) a3 (λ f' x1 lf b1.
      at_token (λ z. Kept (ReadsStmt ns) bare_of_stmt (f' ∷ z ++ x2 ++ y) s) b1 (λ t' u' lt b2.
      at_token (λ z. Kept (ReadsStmt ns) bare_of_stmt (f' ∷ t' ∷ u' ++ z ++ y) s) a4 (λ q' w' lq c2.
      at_token (λ z. Kept (ReadsStmt ns) bare_of_stmt (f' ∷ t' ∷ u' ++ q' ∷ w' ++ z) s) a2 (λ l' g' ll c3.
      let m = value_moved r b2 in let n = block_moved rb c2 in let p = block_moved rd c3 in
      kept (Stmt-F.If m.tree n.tree (Some p.tree)) (Stmt-F.If a b (Some d)) (st.if_else q' l' (lf.terminal ∙ i) (lt.terminal ∙ j) m.reads (lq.terminal ∙ h) n.reads (ll.terminal ∙ o) p.reads) (λ k. stmt.If (m.same k) (n.same k) (Some (p.same k)))))))))
  stmt_moved {ns} {s} (st.if_goto {i = f} {t} q x {u} {w} {a} i j r h g) al =
      at_both (f ∷ t ∷ u) (q ∷ w) (λ z. Kept (ReadsStmt ns) bare_of_stmt z s) al (λ x0 y a1 a2.
      at_token (λ z. Kept (ReadsStmt ns) bare_of_stmt (z ++ y) s) a1 (λ f' x1 lf b1.
      at_token (λ z. Kept (ReadsStmt ns) bare_of_stmt (f' ∷ z ++ y) s) b1 (λ t' u' lt b2.
      at_token (λ z. Kept (ReadsStmt ns) bare_of_stmt (f' ∷ t' ∷ u' ++ z) s) a2 (λ q' w' lq c2.
      let m = value_moved r b2 in let n = goto_moved g c2 in
      kept (Stmt-F.IfGoto m.tree (name_at n.label)) (Stmt-F.IfGoto a (name_at x)) (st.if_goto q' n.label (lf.terminal ∙ i) (lt.terminal ∙ j) m.reads (lq.terminal ∙ h) n.reads) (λ k. stmt.IfGoto (m.same k) (n.same k))))))
  stmt_moved {ns} (st.goes x g) al = let n = goto_moved g al in kept (Stmt-F.Goto (name_at n.label)) (Stmt-F.Goto (name_at x)) (st.goes n.label n.reads) (ap stmt.Goto n.same)
  stmt_moved {ns} {s} (st.labels {n = x} i j h) al =
      at_token (λ z. Kept (ReadsStmt ns) bare_of_stmt z s) al (λ n' y ln b. at_token (λ z. Kept (ReadsStmt ns) bare_of_stmt (n' ∷ z) s) b (λ c' y1 lc c. at_token (λ z. Kept (ReadsStmt ns) bare_of_stmt (n' ∷ c' ∷ z) s) c (λ e' y2 le d.
      at_end (λ z. Kept (ReadsStmt ns) bare_of_stmt (n' ∷ c' ∷ e' ∷ z) s) d (kept (Stmt-F.Label (name_at n')) (Stmt-F.Label (name_at x)) (st.labels (ln.terminal ∙ i) (lc.terminal ∙ j) (le.terminal ∙ h)) (ap stmt.Label (same_name ln i))))))
  stmt_moved {ns} {s} (st.switches {i = f} {t} q l d c o n {u} {w} {x = g} {a} {cs} i j r h m rs y z0 go e) al =
      at_both (f ∷ t ∷ u ++ q ∷ l ∷ w ++ d ∷ c ∷ g) (o ∷ []) (λ z. Kept (ReadsStmt ns) bare_of_stmt z s) al (λ x y9 a1 a2.
      at_both (f ∷ t ∷ u ++ q ∷ l ∷ w) (d ∷ c ∷ g) (λ z. Kept (ReadsStmt ns) bare_of_stmt (z ++ y9) s) a1 (λ x8 y8 b1 b2.
      at_both (f ∷ t ∷ u) (q ∷ l ∷ w) (λ z. Kept (ReadsStmt ns) bare_of_stmt (z ++ y8 ++ y9) s) b1 (λ x7 y7 c1 c2.
      at_token (λ z. Kept (ReadsStmt ns) bare_of_stmt (z ++ y7 ++ y8 ++ y9) s) c1 (λ f' x1 lf d1.
      at_token (λ z. Kept (ReadsStmt ns) bare_of_stmt (f' ∷ z ++ y7 ++ y8 ++ y9) s) d1 (λ t' u' lt d2.
      at_token (λ z. Kept (ReadsStmt ns) bare_of_stmt (f' ∷ t' ∷ u' ++ z ++ y8 ++ y9) s) c2 (λ q' x2 lq d3.
      at_token (λ z. Kept (ReadsStmt ns) bare_of_stmt (f' ∷ t' ∷ u' ++ q' ∷ z ++ y8 ++ y9) s) d3 (λ l' w' ll d4.
      at_token (λ z. Kept (ReadsStmt ns) bare_of_stmt (f' ∷ t' ∷ u' ++ q' ∷ l' ∷ w' ++ z ++ y9) s) b2 (λ d' x3 ld d5.
      at_token (λ z. Kept (ReadsStmt ns) bare_of_stmt (f' ∷ t' ∷ u' ++ q' ∷ l' ∷ w' ++ d' ∷ z ++ y9) s) d5 (λ c' g' lc d6.
      at_token (λ z. Kept (ReadsStmt ns) bare_of_stmt (f' ∷ t' ∷ u' ++ q' ∷ l' ∷ w' ++ d' ∷ c' ∷ g' ++ z) s) a2 (λ o' x4 lo d7.
      at_end (λ z. Kept (ReadsStmt ns) bare_of_stmt (f' ∷ t' ∷ u' ++ q' ∷ l' ∷ w' ++ d' ∷ c' ∷ g' ++ o' ∷ z) s) d7
      (let p = value_moved r d2 in let k1 = cases_moved rs d4 in let k2 = goto_moved go d6 in
      kept (Stmt-F.Switch p.tree k1.tree (name_at k2.label)) (Stmt-F.Switch a cs (name_at n))
      (st.switches q' l' d' c' o' k2.label (lf.terminal ∙ i) (lt.terminal ∙ j) p.reads (lq.terminal ∙ h) (ll.terminal ∙ m) k1.reads (ld.terminal ∙ y) (lc.terminal ∙ z0) k2.reads (lo.terminal ∙ e))
      (λ k. stmt.Switch (p.same k) (k1.same k) (k2.same k)))))))))))))
  stmt_moved {ns} {s} (st.returns {t} i j) al =
      at_token (λ z. Kept (ReadsStmt ns) bare_of_stmt z s) al (λ t' y lt b. at_token (λ z. Kept (ReadsStmt ns) bare_of_stmt (t' ∷ z) s) b (λ e' y1 le c.
      at_end (λ z. Kept (ReadsStmt ns) bare_of_stmt (t' ∷ e' ∷ z) s) c (kept (Stmt-F.Return (at t') None) (Stmt-F.Return (at t) None) (st.returns (lt.terminal ∙ i) (le.terminal ∙ j)) refl)))
  stmt_moved {ns} {s} (st.returns_value {t} e {w} {a} i r j) al =
      at_both (t ∷ w) (e ∷ []) (λ z. Kept (ReadsStmt ns) bare_of_stmt z s) al (λ x y a1 a2.
      at_token (λ z. Kept (ReadsStmt ns) bare_of_stmt (z ++ y) s) a1 (λ t' w' lt b1.
      at_token (λ z. Kept (ReadsStmt ns) bare_of_stmt (t' ∷ w' ++ z) s) a2 (λ e' y1 le b2.
      at_end (λ z. Kept (ReadsStmt ns) bare_of_stmt (t' ∷ w' ++ e' ∷ z) s) b2
      (let m = value_moved r b1 in kept (Stmt-F.Return (at t') (Some m.tree)) (Stmt-F.Return (at t) (Some a)) (st.returns_value e' (lt.terminal ∙ i) m.reads (le.terminal ∙ j)) (λ k. stmt.Return nowhere (Some (m.same k)))))))
  stmt_moved {ns} (st.blocks {b} r) al = let m = block_moved r al in kept (Stmt-F.Block m.tree) (Stmt-F.Block b) (st.blocks m.reads) (ap stmt.Block m.same)

  stmts_moved : {ns : Names} {w : Word} {ss : List Stmt} → ReadsStmts ns w ss → {z : Word} → Alike w z → Kept (ReadsStmts ns) (map bare_of_stmt) z ss
  stmts_moved {ns} st.no_stmt al = at_end (λ z. Kept (ReadsStmts ns) (map bare_of_stmt) z []) al (record { tree = []; reads = st.no_stmt; same = refl })
  stmts_moved {ns} {ss} (st.more_stmts {u} {w} r rest) al = at_both u w (λ z. Kept (ReadsStmts ns) (map bare_of_stmt) z ss) al (λ x y a1 a2.
      let m = stmt_moved r a1 in let q = stmts_moved rest a2 in record { tree = m.tree ∷ q.tree; reads = st.more_stmts m.reads q.reads; same = λ k. m.same k ∷ q.same k })

  pub block_moved : {ns : Names} {w : Word} {b : Block} → ReadsBlock ns w b → {z : Word} → Alike w z → Kept (ReadsBlock ns) bare_block z b
  block_moved {ns} {b} (st.block_is {t} s {u} {w} {ls} {ss} i rl rs j) al =
      at_both (t ∷ u ++ w) (s ∷ []) (λ z. Kept (ReadsBlock ns) bare_block z b) al (λ x y a1 a2.
      at_both (t ∷ u) w (λ z. Kept (ReadsBlock ns) bare_block (z ++ y) b) a1 (λ x0 w' a3 a4.
      at_token (λ z. Kept (ReadsBlock ns) bare_block (z ++ w' ++ y) b) a3 (λ t' u' lt b1.
      at_token (λ z. Kept (ReadsBlock ns) bare_block (t' ∷ u' ++ w' ++ z) b) a2 (λ s' y1 lq b2.
      at_end (λ z. Kept (ReadsBlock ns) bare_block (t' ∷ u' ++ w' ++ s' ∷ z) b) b2
      (let m = locals_moved rl b1 in let q = stmts_moved rs a4 in
      record {
        tree = block m.tree q.tree (join (at t') (at s'));
        reads = st.block_is s' (lt.terminal ∙ i) m.reads (subst (λ n. ReadsStmts n w' q.tree) (sym (sym (same_scope ns m.tree) ∙ ap (with_locals ns) m.same ∙ same_scope ns ls)) q.reads) (lq.terminal ∙ j);
        same = block_bare m.tree q.tree (join (at t') (at s')) ∙ (λ k. block (m.same k) (q.same k) nowhere) ∙ sym (block_bare ls ss (join (at t) (at s)));
      })))))
