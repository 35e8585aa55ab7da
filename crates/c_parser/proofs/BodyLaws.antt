-- Blocks by their steps.
use Rattle.std.proofs.Common.{◌≡◌, ℕ, suc, ◌-◌, ◌≤◌, Bool, true, false, ◌&&◌, if◌then◌else◌, List, [], ◌∷◌, ◌++◌, length, drop, Some, None}
use Rattle.std.proofs.Common.{refl, sym, ap, ◌∙◌, append_assoc, append-nil, arith}
use Rattle.mending_readers.specs.Mending.{mend_then, next_in}
use Rattle.c_lexer.specs.declared.token.Sign.TheVariants as sign
use Rattle.c_tree.specs.declared.code.Local.{Local}
use Rattle.c_tree.specs.declared.code.Stmt.{Stmt}
use Rattle.c_tree.specs.Make.{block}
use Rattle.c_tree.specs.Names.{Names, Declared, role_of}
use Rattle.c_tree.specs.Types.{can_be_type}
use Rattle.c_tree.specs.Words.{Token, at, join}
use Rattle.c_grammar.specs.Sorts.{Name, kind, on}
use Rattle.c_grammar.specs.Tests.{is, begins_type, begins_key_type, goes_on_type}
use Rattle.c_grammar.specs.Parts as part
use Rattle.c_grammar.specs.Trees as tree
use Rattle.c_grammar.specs.Grammar as grammar
use Rattle.c_grammar.specs.Grammar.{C, form}
use Rattle.c_nodes.specs.Rows.{type_in_rows}
use Rattle.c_nodes.proofs.RowLaws.{type_rows}
use Rattle.c_cursor.specs.declared.sets.Set.TheVariants as set
use Rattle.c_cursor.specs.Reading.{Read, Place, one, is_next, read, way, first_then, behind}
use Rattle.c_parser.specs.Pieces.{Parts, type_more, local_end, local_then, locals_then, statement_then, local_behind, statement_behind, body_named}
use Rattle.c_parser.specs.Rows.{no_stars}
use Rattle.c_parser.proofs.Thens.{way_same}
use Rattle.c_parser.proofs.TypeRows.{more_law}
use Rattle.c_parser.proofs.Walks.{Free, free_give, free_take, free_part, free_pick, free_where, run, by_form}

pub local_law : (e : ℕ) (ns : Names) (l : ℕ) (s : Place) → read e ns part.LocalOf l s
    ≡ mend_then (read e ns (part.AnyType true true) l s) (λ c z. local_end e ns c l z)
unfolding run form one read local_end
local_law e ns l s = by_form e ns part.LocalOf l s (free_part (λ c. free_take (λ n b. refl) (λ n. free_take (λ n b. refl) (λ x. free_give))))

free_local_rest : (ns : Names) (t : Token) → Free (form ns (part.LocalRest t))
unfolding form
free_local_rest ns t = free_pick (free_part (λ c. free_take (λ n b. refl) (λ n. free_take (λ n b. refl) (λ x. free_give))))
    (free_take (λ n b. refl) (λ n. free_take (λ n b. refl) (λ x. free_give)))

pub local_rest_law : (e : ℕ) (ns : Names) (t : Token) (l : ℕ) (s : Place) → read e ns (part.LocalRest t) l s
    ≡ way ns set.TypeMore s (mend_then (type_more e ns None t l s) (λ c z. local_end e ns c l z)) (local_end e ns (type_in_rows None t None no_stars) l s)
unfolding run form one is_next read local_end
local_rest_law e ns t l s = by_form e ns (part.LocalRest t) l s (free_local_rest ns t)
    ∙ way_same (next_in kind (on ns goes_on_type) s) (ap (λ o. mend_then o (λ c z. local_end e ns c l z)) (more_law e ns [] t l s))
    (ap (λ c. local_end e ns c l s) (type_rows [] t [] tree.no_stars))

pub fields_law : (e : ℕ) (ns : Names) (l : ℕ) (s : Place) → read e ns part.Fields l s
    ≡ way ns (set.Type true) s (mend_then (mend_then (read e ns (part.AnyType true true) l s) (λ c z. local_end e ns c l z))
    (λ x z. first_then x (read e ns part.Fields l z))) (Some ([], s))
unfolding run form is_next read first_then
fields_law e ns l s = by_form e ns part.Fields l s (free_pick (free_part (λ x. free_part (λ xs. free_give))) free_give)
    ∙ way_same (next_in kind (on ns (begins_type true)) s) (ap (λ o. mend_then o (λ x z. first_then x (read e ns part.Fields l z))) (local_law e ns l s)) refl

pub statements_law : (e : ℕ) (ns : Names) (l : ℕ) (s : Place) → read e ns part.Statements l s
    ≡ way ns set.Statement s (mend_then (read e ns part.Statement l s) (λ x z. first_then x (read e ns part.Statements l z))) (Some ([], s))
unfolding run form is_next read first_then
statements_law e ns l s = by_form e ns part.Statements l s (free_pick (free_part (λ x. free_part (λ xs. free_give))) free_give)

pub first_is : {A : Type 0} (x : A) (o : Read (List A)) → first_then x o ≡ behind (x ∷ []) o
unfolding first_then behind
first_is x None = refl
first_is x (Some y) = refl

pub block_law : (e : ℕ) (ns : Names) (l : ℕ) (s : Place) → read e ns part.BlockOf l s
    ≡ mend_then (one e ns (set.Sign sign.OpenBrace) (suc l) s)
    (λ t z. mend_then (read e ns part.Body (suc l) z) (λ r y. mend_then (one e ns (set.Sign sign.CloseBrace) l y)
    (λ x w. Some (block r.0 r.1 (join (at t) (at x)), w))))
unfolding run form one read
block_law e ns l s = by_form e ns part.BlockOf l s (free_take (λ n b. refl) (λ t. free_part (λ r. free_take (λ n b. refl) (λ x. free_give))))

-- 1. What a body begins with

free_by_name : (ns : Names) (t : Token) (b : Bool) → Free (grammar.body_named ns t b)
free_by_name ns t true = free_pick (free_part (λ x. free_part (λ r. free_give))) (free_part (λ x. free_part (λ r. free_give)))
free_by_name ns t false = free_part (λ x. free_part (λ r. free_give))

run_by_name : (e : ℕ) (ns : Names) (t : Token) (b : Bool) (l : ℕ) (s : Place) → run e (grammar.body_named ns t b) l s
    ≡ (if b && is_next ns set.LocalMore s then mend_then (read e ns (part.LocalRest t) l s) (λ x z. local_behind e ns x l z)
    else mend_then (read e ns (part.NamedStmt t) l s) (λ x z. statement_behind e ns x l z))
unfolding run is_next read local_then statement_then
run_by_name e ns t true l s = refl
run_by_name e ns t false l s = refl

free_body : (ns : Names) → Free (form ns part.Body)
unfolding form
free_body ns = free_pick (free_part (λ c. free_take (λ n b. refl) (λ n. free_take (λ n b. refl) (λ x. free_part (λ r. free_give)))))
    (free_where (λ t. free_by_name ns t (can_be_type true (role_of ns t.bytes)))
    (free_pick (free_part (λ x. free_part (λ r. free_give))) free_give))

pub body_law : (e : ℕ) (ns : Names) (l : ℕ) (s : Place) → read e ns part.Body l s
    ≡ way ns set.KeyType s (mend_then (read e ns part.KeyType l s) (λ c z. mend_then (local_end e ns c l z) (λ x y. local_behind e ns x l y)))
    (way ns set.Name s (mend_then (one e ns set.Name l s) (λ t z. body_named e ns t l z))
    (way ns set.Plain s (mend_then (read e ns part.PlainStmt l s) (λ x z. statement_behind e ns x l z)) (Some (([], []), s))))
unfolding run form one is_next read local_end local_then statement_then body_named
body_law e ns l s = by_form e ns part.Body l s (free_body ns)
    ∙ way_same (next_in kind (on ns begins_key_type) s) refl
    (way_same (next_in kind (on ns (is Name)) s) (run_by_name e ns _ (can_be_type true (role_of ns _)) l _) refl)

-- 2. What stands behind declarations

pub locals_start : (o : Read Parts) → locals_then [] o ≡ o
unfolding locals_then
locals_start None = refl
locals_start (Some x) = refl

pub locals_more : (xs : List Local) (x : Local) (o : Read Parts) → locals_then xs (local_then x o) ≡ locals_then (xs ++ x ∷ []) o
unfolding locals_then local_then
locals_more xs x None = refl
locals_more xs x (Some r) = ap (λ ys. Some ((ys, r.0.1), r.1)) (sym (append_assoc xs (x ∷ []) r.0.0))

pub locals_end : (xs : List Local) (z : Place) → locals_then xs (Some (([], []), z)) ≡ Some ((xs, []), z)
unfolding locals_then
locals_end xs z = ap (λ ys. Some ((ys, []), z)) (append-nil xs)

pub locals_behind : (xs : List Local) (x : Stmt) (o : Read (List Stmt)) (ys : List Stmt) (z : Place) → first_then x o ≡ Some (ys, z)
    → locals_then xs (statement_then x o) ≡ Some ((xs, ys), z)
unfolding locals_then statement_then first_then
locals_behind xs x None ys z h = absurd cc
locals_behind xs x (Some r) ys z h = ap (λ us. Some ((us, x ∷ r.0), r.1)) (append-nil xs) ∙ ap (λ o. mend_then o (λ us w. Some ((xs, us), w))) h

pub ruleset locals_laws = (locals_start, locals_more, locals_end, locals_behind)

-- 3. Scopes

pub drop_more : (a b : Names) (d : Declared) → length a ≤ length b → drop (suc (length b) - length a) (d ∷ b) ≡ drop (length b - length a) b
drop_more a b d le = let e : suc (length b) - length a ≡ suc (length b - length a) = omega arith in ap (λ n. drop n (d ∷ b)) e

pub drop_none : (b : Names) → drop (length b - length b) b ≡ b
drop_none b = let e : length b - length b ≡ 0 = omega arith in ap (λ n. drop n b) e

pub ruleset scope_laws = (drop_more, drop_none)
