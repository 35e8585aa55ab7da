-- Statements by their steps.
use Rattle.std.proofs.Common.{◌≡◌, ℕ, suc, true, false, List, [], ◌∷◌, ◌++◌, Some, None, refl, sym, ap, ◌∙◌}
use Rattle.std.proofs.Common.{append_assoc, append-nil}
use Rattle.mending_readers.specs.Mending.{mend_then, mend_token, next_in}
use Rattle.c_lexer.specs.declared.token.Keyword.TheVariants as keyword
use Rattle.c_lexer.specs.declared.token.Sign.TheVariants as sign
use Rattle.c_tree.specs.declared.code.Case.{Case}
use Rattle.c_tree.specs.declared.code.Expr.{Expr}
use Rattle.c_tree.specs.declared.code.Block.{Block}
use Rattle.c_tree.specs.declared.code.Stmt.{Stmt}
use Rattle.c_tree.specs.declared.code.Stmt.TheVariants as stmt
use Rattle.c_tree.specs.declared.operators.PrefixOperator.{PrefixOperator}
use Rattle.c_tree.specs.Names.{Names, Role, TypeName, RowName, VariableName, FunctionName, MemberName, Unknown, role_of}
use Rattle.c_tree.specs.Words as words
use Rattle.c_tree.specs.Words.{Token, Of}
use Rattle.c_tree.specs.Make.{name_at}
use Rattle.predictive_grammar.specs.Forms.{Form, give as done, pick}
use Rattle.c_grammar.specs.Sorts.{Name, kind, on}
use Rattle.c_grammar.specs.Tests.{is, sign_is, word_is, begins_unnamed}
use Rattle.c_grammar.specs.Laws.{c_limits}
use Rattle.c_grammar.specs.Mending.{made_up}
use Rattle.c_grammar.specs.Parts as part
use Rattle.c_grammar.specs.Parts.{at}
use Rattle.c_grammar.specs.Trees as tree
use Rattle.c_grammar.specs.Grammar as grammar
use Rattle.c_grammar.specs.Grammar.{C, form, named_behind, just, here, where_token, sign_here, token, opening, inner}
use Rattle.c_cursor.specs.declared.sets.Set.TheVariants as set
use Rattle.c_cursor.specs.Reading.{Read, Place, one, is_next, read, way}
use Rattle.c_cursor.specs.Sets.{is_in}
use Rattle.c_parser.specs.Pieces.{bracketed_of, is_address, value_inside, operand_of, prefixed_of, starred_of, row_behind, label_behind, named}
use Rattle.c_parser.specs.Pieces.{with_cases, case_then, cases_then, default_of, else_of, if_behind, switch_behind, return_behind, word_stmt}
use Rattle.c_parser.specs.Statements.{star_behind}
use Rattle.c_parser.proofs.Thens.{then_just, then_assoc, way_same}
use Rattle.c_parser.proofs.Walks.{Free, free_give, free_take, free_part, free_pick, free_where, run, then_same, by_form}

pub signed_law : (e : ℕ) (ns : Names) (l : ℕ) (s : Place) → read e ns part.SignedNumberOf l s
    ≡ way ns (set.Sign sign.Minus) s (mend_then (one e ns (set.Sign sign.Minus) l s)
    (λ m z. mend_then (one e ns set.Number l z) (λ t y. Some (tree.signed true t, y))))
    (mend_then (one e ns set.Number l s) (λ t z. Some (tree.signed false t, z)))
unfolding run form one is_next
signed_law e ns l s = by_form e ns part.SignedNumberOf l s
    (free_where (λ m. free_take (λ n b. refl) (λ t. free_give)) (free_take (λ n b. refl) (λ t. free_give)))

pub goto_law : (e : ℕ) (ns : Names) (l : ℕ) (s : Place) → read e ns part.GotoOf l s
    ≡ mend_then (one e ns (set.Word keyword.Goto) l s) (λ t z. mend_then (one e ns set.Name l z)
    (λ n y. mend_then (one e ns (set.Sign sign.Semicolon) l y) (λ x w. Some (n, w))))
unfolding run form one
goto_law e ns l s = by_form e ns part.GotoOf l s (free_take (λ n b. refl) (λ t. free_take (λ n b. refl) (λ n'. free_take (λ n b. refl) (λ x. free_give))))

-- 1. Names

free_label : (ns : Names) (t : Token) → Free (grammar.label_behind ns t)
free_label ns t = free_take (λ n b. refl) (λ c. free_take (λ n b. refl) (λ x. free_give))

free_named : (ns : Names) (t : Token) (r : Role) → Free (named_behind ns t r)
free_named ns t (TypeName m) = free_label ns t
free_named ns t (RowName false) =
    free_pick (free_label ns t) (free_take (λ n b. refl) (λ o. free_part (λ xs. free_take (λ n b. refl) (λ x. free_take (λ n b. refl) (λ q. free_give)))))
free_named ns t (RowName true) =
    free_pick (free_label ns t) (free_take (λ n b. refl) (λ o. free_part
    (λ c. free_part (λ xs. free_take (λ n b. refl) (λ x. free_take (λ n b. refl) (λ q. free_give))))))
free_named ns t VariableName = free_pick (free_label ns t) (free_part (λ x. free_give))
free_named ns t FunctionName = free_pick (free_label ns t) (free_part (λ x. free_give))
free_named ns t MemberName = free_pick (free_label ns t) (free_part (λ x. free_give))
free_named ns t Unknown = free_pick (free_label ns t) (free_part (λ x. free_give))

run_named : (e : ℕ) (ns : Names) (t : Token) (r : Role) (l : ℕ) (s : Place) → run e (named_behind ns t r) l s ≡ named e ns t r l s
unfolding run one is_next read named label_behind row_behind
run_named e ns t (TypeName m) l s = refl
run_named e ns t (RowName false) l s = refl
run_named e ns t (RowName true) l s = refl
run_named e ns t VariableName l s = way_same (next_in kind (on ns (sign_is sign.Colon)) s) refl
    (then_just (read e ns (part.ValueStmt (tree.name_value ns t)) l s))
run_named e ns t FunctionName l s = way_same (next_in kind (on ns (sign_is sign.Colon)) s) refl
    (then_just (read e ns (part.ValueStmt (tree.name_value ns t)) l s))
run_named e ns t MemberName l s = way_same (next_in kind (on ns (sign_is sign.Colon)) s) refl
    (then_just (read e ns (part.ValueStmt (tree.name_value ns t)) l s))
run_named e ns t Unknown l s = way_same (next_in kind (on ns (sign_is sign.Colon)) s) refl (then_just (read e ns (part.ValueStmt (tree.name_value ns t)) l s))

pub named_law : (e : ℕ) (ns : Names) (t : Token) (l : ℕ) (s : Place) → read e ns (part.NamedStmt t) l s ≡ named e ns t (role_of ns t.bytes) l s
unfolding form
named_law e ns t l s = by_form e ns (part.NamedStmt t) l s (free_named ns t (role_of ns t.bytes)) ∙ run_named e ns t (role_of ns t.bytes) l s

pub statement_law : (e : ℕ) (ns : Names) (l : ℕ) (s : Place) → read e ns part.Statement l s
    ≡ way ns set.Name s (mend_then (one e ns set.Name l s) (λ t z. read e ns (part.NamedStmt t) l z)) (read e ns part.PlainStmt l s)
unfolding run form one is_next read
statement_law e ns l s = by_form e ns part.Statement l s (free_where (λ t. free_part (λ x. free_give)) (free_part (λ x. free_give)))
    ∙ way_same (next_in kind (on ns (is Name)) s) (then_just _) (then_just (read e ns part.PlainStmt l s))

-- 2. The cases of a `switch`

pub cases_law : (e : ℕ) (ns : Names) (l : ℕ) (s : Place) → read e ns part.Cases l s
    ≡ way ns (set.Word keyword.Case) s (mend_then (one e ns (set.Word keyword.Case) l s)
    (λ t z. mend_then (read e ns part.SignedNumberOf l z) (λ x y. mend_then (one e ns (set.Sign sign.Colon) l y)
    (λ c w. mend_then (read e ns part.GotoOf l w) (λ n v. case_then (tree.one_case x n) (read e ns part.Cases l v))))))
    (with_cases [] (default_of e ns l s))
unfolding run form one is_next read case_then with_cases default_of
cases_law e ns l s = by_form e ns part.Cases l s
    (free_where (λ t. free_part (λ x. free_take (λ n b. refl) (λ c. free_part (λ n. free_part (λ r. free_give)))))
    (free_take (λ n b. refl) (λ d. free_take (λ n b. refl) (λ c. free_part (λ x. free_give)))))

pub cases_start : (o : Read (List Case × Token)) → cases_then [] o ≡ o
unfolding cases_then
cases_start None = refl
cases_start (Some x) = refl

pub cases_more : (cs : List Case) (c : Case) (o : Read (List Case × Token)) → cases_then cs (case_then c o) ≡ cases_then (cs ++ c ∷ []) o
unfolding cases_then case_then
cases_more cs c None = refl
cases_more cs c (Some x) = ap (λ ds. Some ((ds, x.0.1), x.1)) (sym (append_assoc cs (c ∷ []) x.0.0))

pub cases_end : (cs : List Case) (o : Read Token) → cases_then cs (with_cases [] o) ≡ with_cases cs o
unfolding cases_then with_cases
cases_end cs None = refl
cases_end cs (Some x) = ap (λ ds. Some ((ds, x.0), x.1)) (append-nil cs)

pub with_some : (cs : List Case) (t : Token) (z : Place) → with_cases cs (Some (t, z)) ≡ Some ((cs, t), z)
unfolding with_cases
with_some cs t z = refl

pub ruleset case_laws = (cases_law, cases_start, cases_more, cases_end)

-- 3. Statements without a name in front

pub star_law : (e : ℕ) (ns : Names) (p : PrefixOperator) (l : ℕ) (s : Place) → is_address p.prefix ≡ false
    → prefixed_of e ns false p l s ≡ starred_of e ns p l s
unfolding prefixed_of starred_of
star_law e ns p l s h = ap (λ b. mend_then (operand_of e ns b false l s) (λ r z. Some (tree.with_prefixes (tree.one_prefix p r), z))) h

else_law : (e : ℕ) (ns : Names) (a : Expr) (b : Block) (l : ℕ) (s : Place) → read e ns (part.ElseOf a b) l s ≡ else_of e ns a b l s
unfolding run form one is_next read else_of
else_law e ns a b l s = by_form e ns (part.ElseOf a b) l s (free_where (λ t. free_part (λ d. free_give)) free_give)

-- the ways of PlainStmt that begin with a keyword
abbrev word_form : (ns : Names) → Form C (at ns part.PlainStmt)
word_form ns =
    where_token ns (word_is keyword.If) (λ i. grammar.value_inside ns
    (λ a. pick (on ns (word_is keyword.Goto)) (just ns part.GotoOf (λ n. stmt.IfGoto a (name_at n)))
    (here ns part.BlockOf (λ b. just ns (part.ElseOf a b) (λ s. s)))))
    (pick (on ns (word_is keyword.Goto)) (just ns part.GotoOf (λ n. stmt.Goto (name_at n)))
    (where_token ns (word_is keyword.Switch) (λ i. grammar.value_inside ns
    (λ a. opening ns sign.OpenBrace (λ l. inner ns part.Cases (λ r. sign_here ns sign.CloseBrace (λ s. done (stmt.Switch a r.0 (name_at r.1)))))))
    (token ns (word_is keyword.Return) (λ t.
    where_token ns (sign_is sign.Semicolon) (λ e. done (stmt.Return (words.at t) None))
    (here ns (part.Value false) (λ a. sign_here ns sign.Semicolon (λ e. done (stmt.Return (words.at t) (Some a)))))))))

free_word : (ns : Names) → Free {r = at ns part.PlainStmt} (word_form ns)
free_word ns =
    free_where (λ i. free_take (λ n b. refl) (λ o. free_part
    (λ a. free_take (λ n b. refl) (λ x. free_pick (free_part (λ n. free_give)) (free_part (λ b. free_part (λ d. free_give)))))))
    (free_pick (free_part (λ n. free_give))
    (free_where (λ i. free_take (λ n b. refl) (λ o. free_part
    (λ a. free_take (λ n b. refl) (λ x. free_take (λ n b. refl) (λ m. free_part (λ r. free_take (λ n b. refl) (λ y. free_give)))))))
    (free_take (λ n b. refl) (λ t. free_where (λ x. free_give) (free_part (λ a. free_take (λ n b. refl) (λ x. free_give)))))))

free_plain : (ns : Names) → Free (form ns part.PlainStmt)
unfolding form
free_plain ns =
    free_where (λ t. free_part (λ r. free_take (λ n b. refl) (λ x. free_part (λ a. free_give))))
    (free_where (λ t. free_part (λ a. free_take (λ n b. refl) (λ x. free_part (λ y. free_give))))
    (free_pick (free_part (λ a. free_part (λ x. free_give)))
    (free_pick (free_part (λ b. free_give)) (free_word ns))))

-- what follows `if` and a value
abbrev if_form : (ns : Names) → Expr → Form C (at ns part.PlainStmt)
if_form ns a = pick (on ns (word_is keyword.Goto)) (just ns part.GotoOf (λ n. stmt.IfGoto a (name_at n)))
    (here ns part.BlockOf (λ b. just ns (part.ElseOf a b) (λ s. s)))

run_if : (e : ℕ) (ns : Names) (a : Expr) (l : ℕ) (s : Place) → run e (if_form ns a) l s ≡ if_behind e ns a l s
unfolding run is_next read if_behind
run_if e ns a l s = way_same (next_in kind (on ns (word_is keyword.Goto)) s) refl
    (then_same (read e ns part.BlockOf l s) (λ b y. mend_then (read e ns (part.ElseOf a b) l y) (λ x z. Some (x, z))) (λ b y. else_of e ns a b l y)
    (λ b y. then_just (read e ns (part.ElseOf a b) l y) ∙ else_law e ns a b l y))

-- a value in brackets and what goes on with it
inside_go : {D : Type 0} (e : ℕ) (ns : Names) (l : ℕ) (s : Place) (k : Expr → Place → Read D)
    → mend_then (one e ns (set.Sign sign.OpenParen) (suc l) s)
    (λ o z. mend_then (read e ns (part.Value false) (suc l) z) (λ a y. mend_then (one e ns (set.Sign sign.CloseParen) l y) (λ x w. k a w)))
    ≡ mend_then (value_inside e ns l s) k
unfolding one value_inside
inside_go e ns l s k =
    let z : Place = (mend_token C (made_up e) c_limits (suc l) 0 (is_in (set.Sign sign.OpenParen) ns) [] s).1 in
    sym (then_assoc (read e ns (part.Value false) (suc l) z) (λ a y. mend_then (one e ns (set.Sign sign.CloseParen) l y) (λ x w. Some (a, w))) k)

abbrev if_inside : ℕ → Names → ℕ → Place → Read Stmt
if_inside e ns l s = mend_then (one e ns (set.Sign sign.OpenParen) (suc l) s)
    (λ o z. mend_then (read e ns (part.Value false) (suc l) z) (λ a y. mend_then (one e ns (set.Sign sign.CloseParen) l y) (λ x w. run e (if_form ns a) l w)))

if_go : (e : ℕ) (ns : Names) (l : ℕ) (s : Place) → if_inside e ns l s ≡ mend_then (value_inside e ns l s) (λ a y. if_behind e ns a l y)
if_go e ns l s = inside_go e ns l s (λ a w. run e (if_form ns a) l w)
    ∙ then_same (value_inside e ns l s) (λ a w. run e (if_form ns a) l w) (λ a w. if_behind e ns a l w) (λ a w. run_if e ns a l w)

run_word : (e : ℕ) (ns : Names) (l : ℕ) (s : Place) → run e (word_form ns) l s ≡ word_stmt e ns l s
unfolding run one is_next read word_stmt switch_behind return_behind
run_word e ns l s =
    way_same (next_in kind (on ns (word_is keyword.If)) s) (if_go e ns l (mend_token C (made_up e) c_limits l 0 (is_in (set.Word keyword.If) ns) [] s).1)
    (way_same (next_in kind (on ns (word_is keyword.Goto)) s) refl
    (way_same (next_in kind (on ns (word_is keyword.Switch)) s)
    (inside_go e ns l (mend_token C (made_up e) c_limits l 0 (is_in (set.Word keyword.Switch) ns) [] s).1 (λ a y. switch_behind e ns a l y)) refl))

pub plain_law : (e : ℕ) (ns : Names) (l : ℕ) (s : Place) → read e ns part.PlainStmt l s
    ≡ way ns (set.Sign sign.Star) s (mend_then (one e ns (set.Sign sign.Star) l s) (λ t z. star_behind e ns t l z))
    (way ns (set.Sign sign.OpenParen) s (mend_then (one e ns (set.Sign sign.OpenParen) (suc l) s)
    (λ t z. mend_then (bracketed_of e ns false t l z) (λ a y. read e ns (part.ValueStmt a) l y)))
    (way ns set.Unnamed s (mend_then (read e ns part.Unnamed l s) (λ a z. read e ns (part.ValueStmt a) l z))
    (way ns (set.Sign sign.OpenBrace) s (mend_then (read e ns part.BlockOf l s) (λ b z. Some (stmt.Block b, z))) (word_stmt e ns l s))))
unfolding run form one is_next read star_behind starred_of bracketed_of
plain_law e ns l s = by_form e ns part.PlainStmt l s (free_plain ns)
    ∙ way_same (next_in kind (on ns (sign_is sign.Star)) s)
    (then_same (read e ns (part.Prefixed false) l _) _ _ (λ r z. then_just _) ∙ sym (then_assoc (read e ns (part.Prefixed false) l _) _ _))
    (way_same (next_in kind (on ns (sign_is sign.OpenParen)) s)
    (then_same (read e ns (part.Value false) (suc l) _) _ _ (λ r z. then_just _) ∙ sym (then_assoc (read e ns (part.Value false) (suc l) _) _ _))
    (way_same (next_in kind (on ns begins_unnamed) s) (then_same (read e ns part.Unnamed l s) _ _ (λ a z. then_just _))
    (way_same (next_in kind (on ns (sign_is sign.OpenBrace)) s) refl (run_word e ns l s))))
