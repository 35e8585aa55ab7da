-- What is asked of a statement and of a block, by one level.
use Rattle.std.proofs.Common.{◌≡◌, Bool, List, map, ap, sym, ◌∙◌}
use Rattle.c_tree.specs.declared.names.Span.{Span}
use Rattle.c_tree.specs.declared.code.Local.{Local}
use Rattle.c_tree.specs.declared.code.Stmt.{Stmt, roll-Stmt}
use Rattle.c_tree.specs.declared.code.Stmt.TheVariants as stmt
use Rattle.c_tree.specs.declared.code.Block.{Block}
use Rattle.c_tree.specs.declared.code.Stmt.TheOpen.{Stmt-F}
use Rattle.c_tree.specs.declared.code.Stmt.TheFolds.{fold-roll-Stmt, fold_out-Block, map-Stmt}
use Rattle.c_tree.specs.Make.{block}
use Rattle.c_resolver.specs.Plans.{block_has_code, calls_have_code, calls_in_have_code, every, stmt_has_code}

-- a statement from one level of it
abbrev pub stmt_at : Stmt-F Stmt Block → Stmt
stmt_at (Stmt-F.Assign a b) = stmt.Assign a b
stmt_at (Stmt-F.Call c) = stmt.Call c
stmt_at (Stmt-F.Store a c) = stmt.Store a c
stmt_at (Stmt-F.If a b o) = stmt.If a b o
stmt_at (Stmt-F.IfGoto a x) = stmt.IfGoto a x
stmt_at (Stmt-F.Goto x) = stmt.Goto x
stmt_at (Stmt-F.Label x) = stmt.Label x
stmt_at (Stmt-F.Switch a cs x) = stmt.Switch a cs x
stmt_at (Stmt-F.Return o e) = stmt.Return o e
stmt_at (Stmt-F.Block b) = stmt.Block b

rolls_at : (l : Stmt-F Stmt Block) → roll-Stmt l ≡ stmt_at l
rolls_at (Stmt-F.Assign a b) = stmt.rolls-Assign a b
rolls_at (Stmt-F.Call c) = stmt.rolls-Call c
rolls_at (Stmt-F.Store a c) = stmt.rolls-Store a c
rolls_at (Stmt-F.If a b o) = stmt.rolls-If a b o
rolls_at (Stmt-F.IfGoto a x) = stmt.rolls-IfGoto a x
rolls_at (Stmt-F.Goto x) = stmt.rolls-Goto x
rolls_at (Stmt-F.Label x) = stmt.rolls-Label x
rolls_at (Stmt-F.Switch a cs x) = stmt.rolls-Switch a cs x
rolls_at (Stmt-F.Return o e) = stmt.rolls-Return o e
rolls_at (Stmt-F.Block b) = stmt.rolls-Block b

-- a level with what is known of its parts
abbrev pub coded_parts : Stmt-F Stmt Block → Stmt-F Bool Bool
coded_parts = map-Stmt Stmt Block Bool Bool calls_in_have_code calls_have_code

pub stmt_code_at : (l : Stmt-F Stmt Block) → calls_in_have_code (stmt_at l) ≡ stmt_has_code (coded_parts l)
stmt_code_at l = ap calls_in_have_code (sym (rolls_at l)) ∙ fold-roll-Stmt Bool Bool stmt_has_code block_has_code l

pub block_code_at : (ls : List Local) (ss : List Stmt) (o : Span) → calls_have_code (block ls ss o) ≡ every (map calls_in_have_code ss)
block_code_at ls ss o = fold_out-Block Bool Bool stmt_has_code block_has_code (block ls ss o)
