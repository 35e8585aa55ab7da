-- The calls of a body that was read have code.
use Rattle.std.proofs.Common.{◌≡◌, Bool, true, false, if◌then◌else◌, List, map, Some, None, refl, ap, ◌∙◌}
use Rattle.c_tree.specs.declared.code.Call.{Call}
use Rattle.c_tree.specs.declared.code.Stmt.{Stmt}
use Rattle.c_tree.specs.declared.code.Stmt.TheOpen.{Stmt-F}
use Rattle.c_tree.specs.declared.code.Block.{Block}
use Rattle.c_tree.specs.Names.{Names}
use Rattle.c_tree.specs.Words.{Word, at, join}
use Rattle.c_tree.specs.Make.{name_at}
use Rattle.c_tree.specs.Statements as st
use Rattle.c_tree.specs.Statements.{ReadsCall, call_value, call_row, call_type_row, ReadsStmt, ReadsStmts, ReadsBlock}
use Rattle.c_code.specs.Statements.{has_code}
use Rattle.c_resolver.specs.Plans.{calls_have_code, calls_in_have_code, every}
use Rattle.c_calls.proofs.Names.{Coded, locals_coded}
use Rattle.c_calls.proofs.Unfold.{block_code_at, stmt_code_at}

pub both : {x y : Bool} → x ≡ true → y ≡ true → (if x then y else false) ≡ true
both {y} h k = ap (λ (b : Bool). if b then y else false) h ∙ k

call_coded : {ns : Names} {w : Word} {c : Call} → Coded ns → ReadsCall ns w c → has_code c.callee ≡ true
call_coded h (call_value t s ra i rx j) = refl
call_coded h (call_row {n} {t} s i is_row j rx l) = h n.bytes false is_row
call_coded h (call_type_row {n} {t} s {u} i is_row j rc o rx l) = h n.bytes true is_row

mutual
  stmt_coded : {ns : Names} {w : Word} {s : Stmt} → Coded ns → ReadsStmt ns w s → calls_in_have_code s ≡ true
  stmt_coded known (st.assigns t e {a} {b} ra i rb j) = stmt_code_at (Stmt-F.Assign a b)
  stmt_coded known (st.calls e {c} rc j) = stmt_code_at (Stmt-F.Call c) ∙ call_coded known rc
  stmt_coded known (st.stores t e {a} {c} ra i rc j) = stmt_code_at (Stmt-F.Store a c) ∙ call_coded known rc
  stmt_coded known (st.if_block s {a} {b} h j ra k rb) = stmt_code_at (Stmt-F.If a b None) ∙ both (block_coded known rb) refl
  stmt_coded known (st.if_else s l {a} {b} {d} h j ra k rb m rd) = stmt_code_at (Stmt-F.If a b (Some d)) ∙ both (block_coded known rb) (block_coded known rd)
  stmt_coded known (st.if_goto s n {a} h j ra k rg) = stmt_code_at (Stmt-F.IfGoto a (name_at n))
  stmt_coded known (st.goes n rg) = stmt_code_at (Stmt-F.Goto (name_at n))
  stmt_coded known (st.labels {n} i j k) = stmt_code_at (Stmt-F.Label (name_at n))
  stmt_coded known (st.switches s l d c r n {a} {cs} h1 h2 ra h3 h4 rc h5 h6 rg h7) = stmt_code_at (Stmt-F.Switch a cs (name_at n))
  stmt_coded known (st.returns {t} {e} i j) = stmt_code_at (Stmt-F.Return (at t) None)
  stmt_coded known (st.returns_value {t} e {a} i ra j) = stmt_code_at (Stmt-F.Return (at t) (Some a))
  stmt_coded known (st.blocks {b} rb) = stmt_code_at (Stmt-F.Block b) ∙ block_coded known rb

  stmts_coded : {ns : Names} {w : Word} {ss : List Stmt} → Coded ns → ReadsStmts ns w ss → every (map calls_in_have_code ss) ≡ true
  stmts_coded known st.no_stmt = refl
  stmts_coded known (st.more_stmts r rest) = both (stmt_coded known r) (stmts_coded known rest)

  pub block_coded : {ns : Names} {w : Word} {b : Block} → Coded ns → ReadsBlock ns w b → calls_have_code b ≡ true
  block_coded known (st.block_is {t} s {ns} {ls} {ss} i rl rs j) = block_code_at ls ss (join (at t) (at s)) ∙ stmts_coded (locals_coded ls ns known) rs
