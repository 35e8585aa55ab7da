-- The code of blocks, one level after another.
use Rattle.std.proofs.Common.{◌≡◌, ◌∙◌, refl, sym, ap, ℕ, suc, length, map, List, ◌∷◌, ◌++◌, Option, Some, None}
use Rattle.std.proofs.lemmas.List.{length-map, map-append}
use Rattle.std.specs.Option.{option_map}
use Rattle.c_tree.specs.declared.code.Block.{Block, out-Block}
use Rattle.c_tree.specs.declared.code.Expr.{Expr}
use Rattle.c_tree.specs.declared.code.Stmt.{Stmt}
use Rattle.c_tree.specs.declared.code.Stmt.TheVariants as stmt
use Rattle.c_tree.specs.declared.code.Stmt.TheOpen.{Stmt-F}
use Rattle.c_tree.specs.declared.code.Stmt.TheFolds.{fold_out-Block, fold-roll-Stmt}
use Rattle.c_tree.specs.Rules.{with_locals}
use Rattle.c_meaning.specs.State as meaning
use Rattle.c_meaning.specs.Code as code
use Rattle.c_meaning.specs.Code.{Coded, all_code, block_code, code_of, else_code, inner, stmt_code, tested, with_variables}
use Rattle.c_code.specs.declared.program.Statement.{Statement}
use Rattle.c_code.specs.declared.program.Statement.TheVariants as statement
use Rattle.c_code.specs.declared.code.Code.{Code}
use Rattle.c_code.specs.Resolved.{Tables, value_code}
use Rattle.c_code.specs.Statements.{bearings}
use Rattle.c_tree.specs.declared.kinds.Kind.{Kind}
use Rattle.c_resolver.specs.Plans.{code_at, code_in, tested_rows}

-- 1. One level

pub block_coded : (b : Block) (ss : List code.Slot) (sc : meaning.Scope) → code_of b ss sc
    ≡ all_code (map code_in (out-Block b).body) ss (record {
      env = with_locals sc.env (out-Block b).locals;
      variables = with_variables ss sc.variables
          (out-Block b).locals;
    })
block_coded b ss sc = ap (λ (f : Coded). f ss sc) (fold_out-Block Coded Coded stmt_code block_code b)

-- a block in a scope behind declarations
pub block_kept : {A : Type 0} (g : meaning.Statement → A) (b : Block) (ss : List code.Slot) (sc next : meaning.Scope) (body : List Stmt) (row : List A)
    → next ≡ record { env = with_locals sc.env (out-Block b).locals; variables = with_variables ss sc.variables (out-Block b).locals }
    → body ≡ (out-Block b).body
    → row ≡ map g (all_code (map code_in body) ss next) → row ≡ map g (code_of b ss sc)
block_kept g b ss sc next body row en eb er = er ∙ (λ i. map g (all_code (map code_in (eb i)) ss (en i))) ∙ ap (map g) (sym (block_coded b ss sc))

-- 2. Tests

pub tested_one : (k : Kind) (ls : List (Option (List ℕ))) (t : Tables) (e : Expr) (sc : meaning.Scope) (first : List meaning.Statement) (c : Code) (xs row :
    List Statement)
    → c ≡ value_code (bearings t sc) e → xs ≡ map (code_at k ls t) first → row ≡ statement.Test c (length xs) ∷ xs
    → row ≡ map (code_at k ls t) (tested e sc first None)
tested_one k ls t e sc first c xs row ec ex er =
    er ∙ (λ i. statement.Test (ec i) (length (ex i)) ∷ ex i) ∙ ap (λ n. statement.Test (value_code (bearings t sc) e) n ∷ map (code_at k ls t) first)
    (length-map first (code_at k ls t))

pub tested_two : (k : Kind) (ls : List (Option (List ℕ))) (t : Tables) (e : Expr) (sc : meaning.Scope) (first second : List meaning.Statement) (c : Code) (xs
    ys row : List Statement)
    → c ≡ value_code (bearings t sc) e → xs ≡ map (code_at k ls t) first → ys ≡ map (code_at k ls t) second
    → row ≡ statement.Test c (suc (length xs)) ∷ xs ++ statement.Pass (length ys) ∷ ys → row ≡ map (code_at k ls t) (tested e sc first (Some second))
tested_two k ls t e sc first second c xs ys row ec ex ey er =
    er ∙ (λ i. statement.Test (ec i) (suc (length (ex i))) ∷ ex i ++ statement.Pass (length (ey i)) ∷ ey i)
    ∙ (λ i. statement.Test (value_code (bearings t sc) e) (suc (length-map first (code_at k ls t) i)) ∷ map (code_at k ls t) first ++ statement.Pass
    (length-map second (code_at k ls t) i) ∷ map (code_at k ls t) second)
    ∙ ap (λ z. statement.Test (value_code (bearings t sc) e) (suc (length first)) ∷ z)
    (sym (map-append (code_at k ls t) first (record { scope = sc; act = meaning.Pass (length second) } ∷ second)))

-- a test before the rows of blocks
pub tested_told : (k : Kind) (ls : List (Option (List ℕ))) (t : Tables) (e : Expr) (sc : meaning.Scope) (first : List meaning.Statement) (second : Option
    (List meaning.Statement)) (c : Code) (xs : List Statement) (o : Option (List Statement))
    → c ≡ value_code (bearings t sc) e → xs ≡ map (code_at k ls t) first → o ≡ option_map (map (code_at k ls t)) second
    → tested_rows c xs o ≡ map (code_at k ls t) (tested e sc first second)
tested_told k ls t e sc first None c xs o ec ex eo = ap (tested_rows c xs) eo ∙ tested_one k ls t e sc first c xs _ ec ex refl
tested_told k ls t e sc first (Some second) c xs o ec ex eo =
    ap (tested_rows c xs) eo ∙ tested_two k ls t e sc first second c xs (map (code_at k ls t) second) _ ec ex refl refl

-- the code of a test before the code of blocks
pub conditional_told : (k : Kind) (ls : List (Option (List ℕ))) (t : Tables) (ss : List code.Slot) (sc : meaning.Scope) (s : Stmt) (e : Expr) (b :
    Block) (o : Option Block) (c : Code) (xs : List Statement) (ys : Option (List Statement)) (row : List Statement)
    → s ≡ stmt.If e b o → c ≡ value_code (bearings t sc) e → xs ≡ map (code_at k ls t) (code_of b ss (inner sc))
    → ys ≡ option_map (map (code_at k ls t)) (else_code (option_map code_of o) ss sc)
    → row ≡ tested_rows c xs ys → row ≡ map (code_at k ls t) (code_in s ss sc)
conditional_told k ls t ss sc s e b None c xs ys row is ec ex ey er =
    er ∙ tested_told k ls t e sc (code_of b ss (inner sc)) None c xs ys ec ex ey
    ∙ ap (λ (f : Coded). map (code_at k ls t) (f ss sc)) (sym (ap code_in (is ∙ sym (stmt.rolls-If e b None))
    ∙ fold-roll-Stmt Coded Coded stmt_code block_code (Stmt-F.If e b None)))
conditional_told k ls t ss sc s e b (Some o) c xs ys row is ec ex ey er =
    er ∙ tested_told k ls t e sc (code_of b ss (inner sc)) (Some (code_of o ss (inner sc))) c xs ys ec ex ey
    ∙ ap (λ (f : Coded). map (code_at k ls t) (f ss sc)) (sym (ap code_in (is ∙ sym (stmt.rolls-If e b (Some o)))
    ∙ fold-roll-Stmt Coded Coded stmt_code block_code (Stmt-F.If e b (Some o))))
