-- The text literals of a body and the names of its locals begin with tokens of its own, in order.
use Rattle.std.proofs.Common.{◌≡◌, refl, sym, subst, List, [], ◌∷◌, ◌++◌, map, Some, None}
use Rattle.c_tree.specs.declared.code.Expr.{Expr}
use Rattle.c_tree.specs.declared.code.Local.{Local}
use Rattle.c_tree.specs.declared.code.Call.{Call}
use Rattle.c_tree.specs.declared.code.Stmt.{Stmt}
use Rattle.c_tree.specs.declared.code.Stmt.TheOpen.{Stmt-F}
use Rattle.c_tree.specs.declared.code.Block.{Block}
use Rattle.c_tree.specs.Names.{Names}
use Rattle.c_tree.specs.Words.{Word, at, join}
use Rattle.c_tree.specs.Make.{name_at}
use Rattle.c_tree.specs.Statements as st
use Rattle.c_tree.specs.Statements.{ReadsLocal, local_is, ReadsLocals, no_local, more_locals, ReadsCall, call_value, call_row, call_type_row, ReadsPlace, place_is, ReadsStmt, ReadsStmts, ReadsBlock}
use Rattle.c_meaning.specs.State.{Literal}
use Rattle.c_meaning.specs.Code.{link_texts, call_texts, texts_of, block_texts, flat_locals, locals_of}
use Rattle.c_places.proofs.Picks.{Picks, none, take, pass, append, nothing, behind, and_none, local_place}
use Rattle.c_places.proofs.Unfold.{stmt_literals, stmt_texts_at, block_texts_at, locals_in, stmt_locals_at, block_locals_at}
use Rattle.c_places.proofs.Values.{Stand, value_stands}

-- 1. Text literals

by : {xs ys : List Literal} {w : Word} → xs ≡ ys → Stand ys w → Stand xs w
by {w} e s = subst (λ (z : List Literal). Stand z w) (sym e) s

place_stands : {ns : Names} {w : Word} {a : Expr} → ReadsPlace ns w a → Stand (texts_of a) w
place_stands (place_is r h) = value_stands r

call_stands : {ns : Names} {w : Word} {c : Call} → ReadsCall ns w c → Stand (call_texts texts_of c) w
call_stands (call_value t s ra i rx j) = behind (append (value_stands ra) (pass t (value_stands rx))) (s ∷ [])
call_stands (call_row {n} {t} s i h j rx l) = behind (pass n (pass t (value_stands rx))) (s ∷ [])
call_stands (call_type_row {n} {t} s {u} i h j rc o rx l) = behind (append (nothing (n ∷ t ∷ u)) (value_stands rx)) (s ∷ [])

mutual
  stmt_stands : {ns : Names} {w : Word} {s : Stmt} → ReadsStmt ns w s → Stand (stmt_literals s) w
  stmt_stands (st.assigns t e {a} {b} ra i rb j) = by (stmt_texts_at (Stmt-F.Assign a b)) (behind (append (place_stands ra) (pass t (value_stands rb))) (e ∷ []))
  stmt_stands (st.calls e {c} rc j) = by (stmt_texts_at (Stmt-F.Call c)) (behind (call_stands rc) (e ∷ []))
  stmt_stands (st.stores t e {a} {c} ra i rc j) = by (stmt_texts_at (Stmt-F.Store a c)) (behind (append (place_stands ra) (pass t (call_stands rc))) (e ∷ []))
  stmt_stands (st.if_block {i} {t} s {a} {b} h j ra k rb) =
      by (stmt_texts_at (Stmt-F.If a b None)) (and_none (append (pass i (pass t (value_stands ra))) (pass s (block_stands rb))))
  stmt_stands (st.if_else {i} {t} s l {a} {b} {d} h j ra k rb m rd) =
      by (stmt_texts_at (Stmt-F.If a b (Some d))) (append (append (pass i (pass t (value_stands ra))) (pass s (block_stands rb))) (pass l (block_stands rd)))
  stmt_stands (st.if_goto {i} {t} s n {w} {a} h j ra k rg) = by (stmt_texts_at (Stmt-F.IfGoto a (name_at n))) (behind (pass i (pass t (value_stands ra))) (s ∷ w))
  stmt_stands (st.goes n {w} rg) = by (stmt_texts_at (Stmt-F.Goto (name_at n))) (nothing w)
  stmt_stands (st.labels {n} {c} {e} i j k) = by (stmt_texts_at (Stmt-F.Label (name_at n))) (nothing (n ∷ c ∷ e ∷ []))
  stmt_stands (st.switches {i} {t} s l d c r n {w} {x} {a} {cs} h1 h2 ra h3 h4 rc h5 h6 rg h7) =
      by (stmt_texts_at (Stmt-F.Switch a cs (name_at n))) (behind (behind (behind (pass i (pass t (value_stands ra))) (s ∷ l ∷ w)) (d ∷ c ∷ x)) (r ∷ []))
  stmt_stands (st.returns {t} {e} i j) = by (stmt_texts_at (Stmt-F.Return (at t) None)) (nothing (t ∷ e ∷ []))
  stmt_stands (st.returns_value {t} e {a} i ra j) = by (stmt_texts_at (Stmt-F.Return (at t) (Some a))) (behind (pass t (value_stands ra)) (e ∷ []))
  stmt_stands (st.blocks {b} rb) = by (stmt_texts_at (Stmt-F.Block b)) (block_stands rb)

  stmts_stand : {ns : Names} {w : Word} {ss : List Stmt} → ReadsStmts ns w ss → Stand (link_texts (map stmt_literals ss)) w
  stmts_stand st.no_stmt = none
  stmts_stand (st.more_stmts r rest) = append (stmt_stands r) (stmts_stand rest)

  pub block_stands : {ns : Names} {w : Word} {b : Block} → ReadsBlock ns w b → Stand (block_texts texts_of b) w
  block_stands (st.block_is {t} s {u} {ls} {ss} i rl rs j) =
      by (block_texts_at ls ss (join (at t) (at s))) (behind (append (nothing (t ∷ u)) (stmts_stand rs)) (s ∷ []))

-- 2. Locals

-- the names of locals begin with tokens of a word
abbrev pub NamesStand : List Local → Word → Type 0
NamesStand = Picks local_place

by_name : {xs ys : List Local} {w : Word} → xs ≡ ys → NamesStand ys w → NamesStand xs w
by_name {w} e s = subst (λ (z : List Local). NamesStand z w) (sym e) s

local_named : {ns : Names} {w : Word} {l : Local} → ReadsLocal ns w l → NamesStand (l ∷ []) w
local_named (local_is n e {w} {c} rc o i j) = append (nothing w) (take (record { declared = c; name = name_at n }) n refl (nothing (e ∷ [])))

locals_named : {ns : Names} {w : Word} {ls : List Local} → ReadsLocals ns w ls → NamesStand ls w
locals_named no_local = none
locals_named (more_locals r rest) = append (local_named r) (locals_named rest)

mutual
  stmt_named : {ns : Names} {w : Word} {s : Stmt} → ReadsStmt ns w s → NamesStand (locals_in s) w
  stmt_named (st.assigns t e {u} {w} {a} {b} ra i rb j) = by_name (stmt_locals_at (Stmt-F.Assign a b)) (nothing (u ++ t ∷ w ++ e ∷ []))
  stmt_named (st.calls e {w} {c} rc j) = by_name (stmt_locals_at (Stmt-F.Call c)) (nothing (w ++ e ∷ []))
  stmt_named (st.stores t e {u} {w} {a} {c} ra i rc j) = by_name (stmt_locals_at (Stmt-F.Store a c)) (nothing (u ++ t ∷ w ++ e ∷ []))
  stmt_named (st.if_block {i} {t} s {u} {a} {b} h j ra k rb) =
      by_name (stmt_locals_at (Stmt-F.If a b None)) (and_none (append (nothing (i ∷ t ∷ u)) (pass s (block_named rb))))
  stmt_named (st.if_else {i} {t} s l {u} {a} {b} {d} h j ra k rb m rd) =
      by_name (stmt_locals_at (Stmt-F.If a b (Some d))) (append (append (nothing (i ∷ t ∷ u)) (pass s (block_named rb))) (pass l (block_named rd)))
  stmt_named (st.if_goto {i} {t} s n {u} {w} {a} h j ra k rg) = by_name (stmt_locals_at (Stmt-F.IfGoto a (name_at n))) (nothing (i ∷ t ∷ u ++ s ∷ w))
  stmt_named (st.goes n {w} rg) = by_name (stmt_locals_at (Stmt-F.Goto (name_at n))) (nothing w)
  stmt_named (st.labels {n} {c} {e} i j k) = by_name (stmt_locals_at (Stmt-F.Label (name_at n))) (nothing (n ∷ c ∷ e ∷ []))
  stmt_named (st.switches {i} {t} s l d c r n {u} {w} {x} {a} {cs} h1 h2 ra h3 h4 rc h5 h6 rg h7) =
      by_name (stmt_locals_at (Stmt-F.Switch a cs (name_at n))) (nothing (i ∷ t ∷ u ++ s ∷ l ∷ w ++ d ∷ c ∷ x ++ r ∷ []))
  stmt_named (st.returns {t} {e} i j) = by_name (stmt_locals_at (Stmt-F.Return (at t) None)) (nothing (t ∷ e ∷ []))
  stmt_named (st.returns_value {t} e {w} {a} i ra j) = by_name (stmt_locals_at (Stmt-F.Return (at t) (Some a))) (nothing (t ∷ w ++ e ∷ []))
  stmt_named (st.blocks {b} rb) = by_name (stmt_locals_at (Stmt-F.Block b)) (block_named rb)

  stmts_named : {ns : Names} {w : Word} {ss : List Stmt} → ReadsStmts ns w ss → NamesStand (flat_locals (map locals_in ss)) w
  stmts_named st.no_stmt = none
  stmts_named (st.more_stmts r rest) = append (stmt_named r) (stmts_named rest)

  pub block_named : {ns : Names} {w : Word} {b : Block} → ReadsBlock ns w b → NamesStand (locals_of b) w
  block_named (st.block_is {t} s {ls} {ss} i rl rs j) =
      by_name (block_locals_at ls ss (join (at t) (at s))) (behind (append (pass t (locals_named rl)) (stmts_named rs)) (s ∷ []))
