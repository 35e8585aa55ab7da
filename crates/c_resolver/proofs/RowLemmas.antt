-- What the code of a block comes to by itself: its labels, what is declared there, and which of its calls have code.
use Rattle.std.proofs.Common.{◌≡◌, ◌∙◌, refl, sym, ap, subst, ℕ, suc, Bool, true, false, if◌then◌else◌, length, map, List, [], ◌∷◌, ◌++◌, Option, Some, None}
use Rattle.std.proofs.lemmas.List.{append-nil, map-append}
use Rattle.c_tree.specs.declared.code.Expr.{Expr}
use Rattle.c_tree.specs.declared.code.Block.{Block, roll-Block}
use Rattle.c_tree.specs.declared.code.Local.{Local}
use Rattle.c_tree.specs.declared.code.Stmt.{Stmt, roll-Stmt}
use Rattle.c_tree.specs.declared.code.Stmt.TheOpen.{Stmt-F, Block-F}
use Rattle.c_tree.specs.declared.code.Stmt.TheFolds.{fold-roll-Stmt, fold-roll-Block, map-Stmt, ind-Block}
use Rattle.c_tree.specs.Library.{Structure}
use Rattle.c_tree.specs.Env.{Env}
use Rattle.c_tree.specs.Rules.{with_local, with_locals}
use Rattle.c_meaning.specs.State as meaning
use Rattle.c_meaning.specs.Code as code
use Rattle.c_meaning.specs.Code.{Coded, all_code, block_code, code_of, stmt_code, with_variables}
use Rattle.c_code.specs.Statements.{act_has_code, all_have_code}
use Rattle.c_resolver.specs.Plans.{
  all_labels,
  block_has_code,
  block_labels,
  calls_have_code,
  calls_in_have_code,
  code_in,
  every,
  labels_in,
  labels_of,
  stmt_has_code,
  stmt_labels,
}

-- 1. Rows

-- the label of a statement
abbrev pub label_in : meaning.Act → Option (List ℕ)
label_in (meaning.Label x) = Some x
label_in a = None

abbrev pub labels_at : List meaning.Statement → List (Option (List ℕ))
labels_at xs = map (λ (x : meaning.Statement). label_in x.act) xs

-- each statement sees these structs
abbrev pub AllSee : List Structure → List meaning.Statement → Type 0
AllSee st [] = Unit {0}
AllSee st (x ∷ xs) = (x.scope.env.structs ≡ st) × AllSee st xs

pub record Row (st : List Structure) (xs : List meaning.Statement) (ls : List (Option (List ℕ))) (k : Bool) : Type 0 where
  pub labels : labels_at xs ≡ ls
  pub structs : AllSee st xs
  pub calls : all_have_code xs ≡ k

see_append : (st : List Structure) (xs ys : List meaning.Statement) → AllSee st xs → AllSee st ys → AllSee st (xs ++ ys)
see_append st [] ys p q = q
see_append st (x ∷ xs) ys p q = (p.0, see_append st xs ys p.1 q)

and_then : (b c : Bool) → Bool
and_then b c = if b then c else false

two : (b c d : Bool) → (if b then (if c then d else false) else false) ≡ (if (if b then c else false) then d else false)
two true c d = refl
two false c d = refl

calls_append : (xs ys : List meaning.Statement) → all_have_code (xs ++ ys) ≡ (if all_have_code xs then all_have_code ys else false)
calls_append [] ys = refl
calls_append (x ∷ xs) ys = ap (λ z. if act_has_code x.act then z else false) (calls_append xs ys)
    ∙ two (act_has_code x.act) (all_have_code xs) (all_have_code ys)

row_append : (st : List Structure) (xs ys : List meaning.Statement) (ls ms : List (Option (List ℕ))) (j k : Bool) → Row st xs ls j → Row st ys ms k
    → Row st (xs ++ ys) (ls ++ ms) (if j then k else false)
row_append st xs ys ls ms j k p q =
    record {
      labels = map-append (λ (x : meaning.Statement). label_in x.act) xs ys ∙ (λ i. p.labels i ++ q.labels i);
      structs = see_append st xs ys p.structs q.structs;
      calls = calls_append xs ys ∙ (λ i. if p.calls i then q.calls i else false);
    }

-- a statement before a row
row_before : (sc : meaning.Scope) (a : meaning.Act) (xs : List meaning.Statement) (ls : List (Option (List ℕ))) (k : Bool) → act_has_code a ≡ true
    → Row sc.env.structs xs ls k
    → Row sc.env.structs (record { scope = sc; act = a } ∷ xs) (label_in a ∷ ls) k
row_before sc a xs ls k e p =
    record { labels = ap (λ z. label_in a ∷ z) p.labels; structs = (refl, p.structs); calls = (λ i. if e i then p.calls i else false) }

-- a row of one statement
row_one : (sc : meaning.Scope) (a : meaning.Act) → Row sc.env.structs (record { scope = sc; act = a } ∷ []) (label_in a ∷ []) (act_has_code a)
row_one sc a = record { labels = refl; structs = (refl, tt); calls = same (act_has_code a) }
  where
    same : (b : Bool) → (if b then true else false) ≡ b
    same true = refl
    same false = refl

-- 2. Statements and blocks

-- the rows of what has code
abbrev Tells : Coded → List (Option (List ℕ)) → Bool → Type 0
Tells c ls k = (ss : List code.Slot) (sc : meaning.Scope) → Row sc.env.structs (c ss sc) ls k

abbrev ForStmt : Stmt → Type 0
ForStmt s = Tells (code_in s) (labels_in s) (calls_in_have_code s)

abbrev ForBlock : Block → Type 0
ForBlock b = Tells (code_of b) (labels_of b) (calls_have_code b)

abbrev SureStmt : Type 0
SureStmt = (s : Stmt) × ForStmt s

abbrev SureBlock : Type 0
SureBlock = (b : Block) × ForBlock b

abbrev bare_stmt : Stmt-F SureStmt SureBlock → Stmt-F Stmt Block
bare_stmt = map-Stmt SureStmt SureBlock Stmt Block (λ e. e.0) (λ e. e.0)

abbrev coded : Stmt-F Stmt Block → Stmt-F Coded Coded
coded = map-Stmt Stmt Block Coded Coded code_in code_of

abbrev labelled : Stmt-F Stmt Block → Stmt-F (List (Option (List ℕ))) (List (Option (List ℕ)))
labelled = map-Stmt Stmt Block (List (Option (List ℕ))) (List (Option (List ℕ))) labels_in labels_of

abbrev called : Stmt-F Stmt Block → Stmt-F Bool Bool
called = map-Stmt Stmt Block Bool Bool calls_in_have_code calls_have_code

-- a test before a block, and before two
test_one : (e : Expr) (sc : meaning.Scope) (xs : List meaning.Statement) (ls : List (Option (List ℕ))) (k : Bool) → Row sc.env.structs xs ls k
    → Row sc.env.structs (code.tested e sc xs None) (None ∷ ls ++ []) (if k then true else false)
test_one e sc xs ls k p =
    let q : Row sc.env.structs (code.tested e sc xs None) (None ∷ ls) k = row_before sc (meaning.Test e (length xs)) xs ls k refl p in
    record { labels = q.labels ∙ ap (λ z. None ∷ z) (sym (append-nil ls)); structs = q.structs; calls = q.calls ∙ same k }
  where
    same : (b : Bool) → b ≡ (if b then true else false)
    same true = refl
    same false = refl

test_two : (e : Expr) (sc : meaning.Scope) (xs ys : List meaning.Statement) (ls ms : List (Option (List ℕ))) (j k : Bool) → Row sc.env.structs xs ls j
    → Row sc.env.structs ys ms k
    → Row sc.env.structs (code.tested e sc xs (Some ys)) (None ∷ ls ++ None ∷ ms) (if j then k else false)
test_two e sc xs ys ls ms j k p q =
    row_before sc (meaning.Test e (suc (length xs))) (xs ++ record { scope = sc; act = meaning.Pass (length ys) } ∷ ys) (ls ++ None ∷ ms)
    (if j then k else false) refl
    (row_append sc.env.structs xs (record { scope = sc; act = meaning.Pass (length ys) } ∷ ys) ls (None ∷ ms) j k p
    (row_before sc (meaning.Pass (length ys)) ys ms k refl q))

stmt_tells : (l : Stmt-F SureStmt SureBlock) → Tells (stmt_code (coded (bare_stmt l))) (stmt_labels (labelled (bare_stmt l))) (stmt_has_code
    (called (bare_stmt l)))
stmt_tells (Stmt-F.Assign a e) ss sc = row_one sc (meaning.Assign a e)
stmt_tells (Stmt-F.Call c) ss sc = row_one sc (meaning.CallOf c)
stmt_tells (Stmt-F.Store a c) ss sc = row_one sc (meaning.Store a c)
stmt_tells (Stmt-F.If a b None) ss sc = test_one a sc _ _ _ (b.1 ss (code.inner sc))
stmt_tells (Stmt-F.If a b (Some o)) ss sc = test_two a sc _ _ _ _ _ _ (b.1 ss (code.inner sc)) (o.1 ss (code.inner sc))
stmt_tells (Stmt-F.IfGoto a x) ss sc = row_one sc (meaning.TestGoto a x.text)
stmt_tells (Stmt-F.Goto x) ss sc = row_one sc (meaning.Goto x.text)
stmt_tells (Stmt-F.Label x) ss sc = row_one sc (meaning.Label x.text)
stmt_tells (Stmt-F.Switch a cs x) ss sc = row_one sc (meaning.Switch a cs x.text)
stmt_tells (Stmt-F.Return s o) ss sc = row_one sc (meaning.Return o)
stmt_tells (Stmt-F.Block b) ss sc = row_before sc meaning.Open _ _ _ refl (b.1 ss (code.inner sc))

stmt_step : (l : Stmt-F SureStmt SureBlock) → ForStmt (roll-Stmt (bare_stmt l))
stmt_step l =
    subst (λ (z : Coded). Tells z (labels_in (roll-Stmt (bare_stmt l))) (calls_in_have_code (roll-Stmt (bare_stmt l)))) (sym
    (fold-roll-Stmt Coded Coded stmt_code block_code (bare_stmt l)))
    (subst (λ (z : List (Option (List ℕ))). Tells (stmt_code (coded (bare_stmt l))) z (calls_in_have_code (roll-Stmt (bare_stmt l))))
    (sym (fold-roll-Stmt (List (Option (List ℕ))) (List (Option (List ℕ))) stmt_labels block_labels (bare_stmt l)))
    (subst (λ (z : Bool). Tells (stmt_code (coded (bare_stmt l))) (stmt_labels (labelled (bare_stmt l))) z)
    (sym (fold-roll-Stmt Bool Bool stmt_has_code block_has_code (bare_stmt l))) (stmt_tells l)))

all_tell : (xs : List SureStmt) (ss : List code.Slot) (sc : meaning.Scope)
    → Row sc.env.structs (all_code (map code_in (map (λ (e : SureStmt). e.0) xs)) ss sc) (all_labels (map labels_in (map (λ (e : SureStmt). e.0) xs))) (every
    (map calls_in_have_code (map (λ (e : SureStmt). e.0) xs)))
all_tell [] ss sc = record { labels = refl; structs = tt; calls = refl }
all_tell (x ∷ xs) ss sc = row_append sc.env.structs _ _ _ _ _ _ (x.1 ss sc) (all_tell xs ss sc)

locals_structs : (env : Env) (ls : List Local) → (with_locals env ls).structs ≡ env.structs
locals_structs env [] = refl
locals_structs env (l ∷ ls) = locals_structs (with_local env l) ls

abbrev bare_block : Block-F SureStmt SureBlock → Block-F Stmt Block
bare_block l = record { locals = l.locals; body = map (λ (e : SureStmt). e.0) l.body; span = l.span }

block_step : (l : Block-F SureStmt SureBlock) → ForBlock (roll-Block (bare_block l))
block_step l =
    subst (λ (z : Coded). Tells z (labels_of (roll-Block (bare_block l))) (calls_have_code (roll-Block (bare_block l)))) (sym
    (fold-roll-Block Coded Coded stmt_code block_code (bare_block l)))
    (subst (λ (z : List (Option (List ℕ))). Tells (block_code (record { locals = l.locals; body = map code_in (bare_block l).body; span = l.span })) z
    (calls_have_code (roll-Block (bare_block l)))) (sym (fold-roll-Block (List (Option (List ℕ))) (List (Option (List ℕ))) stmt_labels block_labels
    (bare_block l)))
    (subst (λ (z : Bool). Tells (block_code (record { locals = l.locals; body = map code_in (bare_block l).body; span = l.span }))
    (all_labels (map labels_in (bare_block l).body)) z) (sym (fold-roll-Block Bool Bool stmt_has_code block_has_code (bare_block l)))
    (λ ss sc. subst (λ (z : List Structure). Row z (all_code (map code_in (bare_block l).body) ss
    (record { env = with_locals sc.env l.locals; variables = with_variables ss sc.variables l.locals })) (all_labels (map labels_in (bare_block l).body))
    (every (map calls_in_have_code (bare_block l).body)))
    (locals_structs sc.env l.locals) (all_tell l.body ss (record { env = with_locals sc.env l.locals; variables = with_variables ss sc.variables l.locals })))))

-- THE ROW of a block
pub tells : (b : Block) → ForBlock b
tells = ind-Block ForStmt ForBlock (λ x y is. subst (λ z. ForStmt (roll-Stmt z)) is (stmt_step y))
    (λ x y is. subst (λ z. ForBlock (roll-Block z)) is (block_step y))
