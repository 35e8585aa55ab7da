-- The code and the literals of a body that is the body of a program, apart from places.
use Rattle.std.proofs.Common.{◌≡◌, ◌∙◌, refl, sym, ap, subst, ℕ, List, [], ◌∷◌, ◌++◌, map, Some}
use Rattle.c_tree.specs.declared.code.Local.{Local}
use Rattle.c_tree.specs.declared.code.Stmt.{Stmt, out-Stmt}
use Rattle.c_tree.specs.declared.code.Stmt.TheOpen.{Stmt-F}
use Rattle.c_tree.specs.declared.code.Stmt.TheFolds.{fold-Stmt, fold_out-Stmt, fold_out-Block, map-Stmt}
use Rattle.c_tree.specs.declared.code.Block.{Block, out-Block, roll-Block}
use Rattle.c_tree.specs.Rules.{with_locals}
use Rattle.c_tree.specs.Bare.{nowhere, bare_local, bare_stmt, bare_block}
use Rattle.c_meaning.specs.State.{Literal, Scope}
use Rattle.c_meaning.specs.Code.{Coded, Slot, stmt_code, block_code, code_of, all_code, texts_of, stmt_texts, texts_in, block_texts, link_texts, with_variables}
use Rattle.c_emit.specs.Program.{Program as Texts}
use Rattle.c_emit.specs.Emission.{print_stmt, return_zero, main_body}
use Rattle.c_emit.proofs.Steps.{Prints, returns, prints, format_at}
use Rattle.c_emit.proofs.Trees.{bare_of_stmt, PrintsOne, print_is, ReturnsZero, return_is, head_same, tail_same, empty_not, more_not}

-- 1. Statements

abbrev code_of_stmt : Stmt → Coded
code_of_stmt = fold-Stmt Coded Coded stmt_code block_code

abbrev texts_of_stmt : Stmt → List Literal
texts_of_stmt = fold-Stmt (List Literal) (List Literal) (stmt_texts texts_of) texts_in

code_level : (s : Stmt) (l : Stmt-F Stmt Block) → out-Stmt s ≡ l → code_of_stmt s ≡ stmt_code (map-Stmt Stmt Block Coded Coded code_of_stmt code_of l)
code_level s l h = fold_out-Stmt Coded Coded stmt_code block_code s ∙ ap (λ x. stmt_code (map-Stmt Stmt Block Coded Coded code_of_stmt code_of x)) h

texts_level : (s : Stmt) (l : Stmt-F Stmt Block) → out-Stmt s ≡ l
    → texts_of_stmt s ≡ stmt_texts texts_of (map-Stmt Stmt Block (List Literal) (List Literal) texts_of_stmt (block_texts texts_of) l)
texts_level s l h = fold_out-Stmt (List Literal) (List Literal) (stmt_texts texts_of) texts_in s
    ∙ ap (λ x. stmt_texts texts_of (map-Stmt Stmt Block (List Literal) (List Literal) texts_of_stmt (block_texts texts_of) x)) h

-- statements that print these texts and return 0
record AreCoded (texts : Texts) (ss : List Stmt) : Type 0 where
  literals : List Literal
  stand : link_texts (map texts_of_stmt ss) ≡ literals
  code : (slots : List Slot) (sc : Scope) → Prints sc texts literals (all_code (map code_of_stmt ss) slots sc)

last_coded : (s : Stmt) → ReturnsZero s → AreCoded [] (s ∷ [])
last_coded s r =
    record {
      literals = [];
      stand = ap (λ (x : List Literal). x ++ []) (texts_level s (Stmt-F.Return r.span (Some r.zero)) r.is_return ∙ r.texts);
      code = λ slots sc. subst (λ (x : Coded). Prints sc [] [] (all_code (x ∷ []) slots sc))
          (sym (code_level s (Stmt-F.Return r.span (Some r.zero)) r.is_return)) (returns r.zero r.is_zero);
    }

more_coded : (text : List ℕ) (texts : Texts) (s : Stmt) (ss : List Stmt) → PrintsOne text s → AreCoded texts ss → AreCoded (text ∷ texts) (s ∷ ss)
more_coded text texts s ss p r =
    record {
      literals = format_at p.start text ∷ r.literals;
      stand = ap (λ (x : List Literal). x ++ link_texts (map texts_of_stmt ss)) (texts_level s (Stmt-F.Call p.call) p.is_call ∙ p.texts)
          ∙ ap (λ (x : List Literal). format_at p.start text ∷ x) r.stand;
      code = λ slots sc. subst
          (λ (x : Coded). Prints sc (text ∷ texts) (format_at p.start text ∷ r.literals) (all_code (x ∷ map code_of_stmt ss) slots sc))
          (sym (code_level s (Stmt-F.Call p.call) p.is_call))
          (prints text p.start p.call p.is_print (r.code slots sc));
    }

coded : (texts : Texts) (ss : List Stmt) → map bare_of_stmt ss ≡ map bare_of_stmt (map print_stmt texts ++ return_zero ∷ []) → AreCoded texts ss
coded [] [] h = absurd (empty_not (bare_of_stmt return_zero) [] h)
coded [] (s ∷ []) h = last_coded s (return_is s (head_same (bare_of_stmt s) (bare_of_stmt return_zero) [] [] h))
coded [] (s ∷ t ∷ ss) h =
    absurd (more_not (bare_of_stmt t) (map bare_of_stmt ss) (tail_same (bare_of_stmt s) (bare_of_stmt return_zero) (bare_of_stmt t ∷ map bare_of_stmt ss) [] h))
coded (text ∷ texts) [] h = absurd (empty_not (bare_of_stmt (print_stmt text)) (map bare_of_stmt (map print_stmt texts ++ return_zero ∷ [])) h)
coded (text ∷ texts) (s ∷ ss) h =
    more_coded text texts s ss
    (print_is s text (head_same (bare_of_stmt s) (bare_of_stmt (print_stmt text)) (map bare_of_stmt ss)
    (map bare_of_stmt (map print_stmt texts ++ return_zero ∷ [])) h))
    (coded texts ss (tail_same (bare_of_stmt s) (bare_of_stmt (print_stmt text)) (map bare_of_stmt ss)
    (map bare_of_stmt (map print_stmt texts ++ return_zero ∷ [])) h))

-- 2. Blocks

no_locals : (ls : List Local) → map bare_local ls ≡ [] → ls ≡ []
no_locals [] h = refl
no_locals (l ∷ ls) h = absurd (more_not (bare_local l) (map bare_local ls) h)

abbrev bare_whole : Block → Block
bare_whole b = roll-Block (record { locals = map bare_local (out-Block b).locals; body = map bare_of_stmt (out-Block b).body; span = nowhere })

bare_body : (b : Block) → bare_block b ≡ bare_whole b
bare_body b = fold_out-Block Stmt Block bare_stmt (λ b. roll-Block (record { locals = map bare_local b.locals; body = b.body; span = nowhere })) b

-- what is in scope in a body
abbrev pub scope_in : List Slot → Scope → List Local → Scope
scope_in slots sc ls = record { env = with_locals sc.env ls; variables = with_variables slots sc.variables ls }

-- a body whose statements print these texts and return 0
pub record IsCoded (texts : Texts) (b : Block) : Type 0 where
  pub literals : List Literal
  pub stand : block_texts texts_of b ≡ literals
  pub code : (slots : List Slot) (sc : Scope) → Prints (scope_in slots sc (out-Block b).locals) texts literals (code_of b slots sc)

pub body_is : (texts : Texts) (b : Block) → bare_block b ≡ bare_block (main_body texts) → IsCoded texts b
body_is texts b h =
    let same : bare_whole b ≡ bare_whole (main_body texts) = sym (bare_body b) ∙ h ∙ bare_body (main_body texts) in
    let r = coded texts (out-Block b).body (ap (λ (x : Block). (out-Block x).body) same) in
    record {
      literals = r.literals;
      stand = fold_out-Block (List Literal) (List Literal) (stmt_texts texts_of) texts_in b ∙ r.stand;
      code = λ slots sc. subst (λ (x : Coded). Prints (scope_in slots sc (out-Block b).locals) texts r.literals (x slots sc))
          (sym (fold_out-Block Coded Coded stmt_code block_code b)) (r.code slots (scope_in slots sc (out-Block b).locals));
    }
