-- Calls, and what is stored, by their steps.
use Rattle.std.proofs.Common.{◌≡◌, ℕ, suc, ◌&&◌, ◌||◌, not, Bool, true, false, if◌then◌else◌, List, [], ◌∷◌, ◌++◌, Option, Some, None, refl, sym, ap, ◌∙◌}
use Rattle.mending_readers.specs.Mending.{Going, Stopped, mend_then, next_in}
use Rattle.c_lexer.specs.declared.token.Sign.TheVariants as sign
use Rattle.c_tree.specs.declared.code.Expr.{Expr}
use Rattle.c_tree.specs.declared.code.Stmt.{Stmt}
use Rattle.c_tree.specs.declared.code.Stmt.TheVariants as stmt
use Rattle.c_tree.specs.declared.code.Suffix.{Suffix}
use Rattle.c_tree.specs.Names.{Names, Role, TypeName, RowName, VariableName, FunctionName, MemberName, Unknown, role_of}
use Rattle.c_tree.specs.Make.{bracketed, conditional, suffixed}
use Rattle.c_tree.specs.Values.{is_place, prefix_of}
use Rattle.c_tree.specs.Words as words
use Rattle.c_tree.specs.Words.{Token, join}
use Rattle.c_grammar.specs.Sorts.{Sort, Name, OfSign, class, kind, on, same, sort_of}
use Rattle.c_grammar.specs.Tests.{is, sign_is, sign_with, begins_type, is_callee_role, is_value_role}
use Rattle.c_grammar.specs.Tests.{is_there, name_with}
use Rattle.c_grammar.specs.Parts as part
use Rattle.c_grammar.specs.Parts.{What, at, tree_of}
use Rattle.c_grammar.specs.Trees as tree
use Rattle.c_grammar.specs.Grammar as grammar
use Rattle.c_grammar.specs.Grammar.{C, form}
use Rattle.c_grammar.proofs.Tokens.{is_name_with}
use Rattle.c_cursor.specs.declared.sets.Set.TheVariants as set
use Rattle.c_cursor.specs.Reading.{Read, Place, one, is_next, read, way, give, first_then, behind}
use Rattle.c_cursor.specs.Sets.{is_in, is_row, is_any_prefix}
use Rattle.c_parser.specs.declared.prefixes.Step.TheVariants as step
use Rattle.c_parser.specs.Pieces.{is_address, operand_of, prefixed_of, row_behind, bracketed_of}
use Rattle.c_parser.specs.Values.{suffixed_of, operand_step, cast_step, bracket_step, step_of, choosing_of, call_behind, row_inside}
use Rattle.c_parser.specs.Values.{stored_of, assigned_value, assigned_step, takes_type}
use Rattle.c_parser.proofs.Thens.{then_just, then_assoc, way_same, behind_start, behind_more, behind_end}
use Rattle.c_parser.proofs.TokenLaws.{give_then, behind_nothing, behind_one, taken, same_taken, taken_kind}
use Rattle.c_parser.proofs.OperandLaws.{primary_law}
use Rattle.c_parser.proofs.PrefixLaws.{prefix_ways, bracket_go, cast_go, suffixes_go, plain_go, behind_bracket_go, step_go}
use Rattle.c_parser.proofs.Walks.{Free, free_give, free_take, free_part, free_pick, free_where, run, then_same, by_form}

-- 1. Arguments

free_arguments : (ns : Names) → Free (form ns part.Arguments)
unfolding form
free_arguments ns = free_pick (free_part (λ a. free_part (λ xs. free_give))) free_give

abbrev arguments_by : ℕ → Names → ℕ → Place → Bool → Read (List Expr)
arguments_by e ns l s b = if b then mend_then (read e ns (part.Value false) l s) (λ a z. first_then a (read e ns part.MoreArguments l z)) else Some ([], s)

arguments_law : (e : ℕ) (ns : Names) (l : ℕ) (s : Place) → read e ns part.Arguments l s ≡ arguments_by e ns l s (is_next ns (set.Value false) s)
unfolding run form one is_next read first_then
arguments_law e ns l s = by_form e ns part.Arguments l s (free_arguments ns)

pub first_argument_law : (e : ℕ) (ns : Names) (l : ℕ) (s : Place) → read e ns part.Arguments l s
    ≡ way ns (set.Value false) s (mend_then (read e ns (part.Value false) l s) (λ a z. behind (a ∷ []) (read e ns part.MoreArguments l z))) (Some ([], s))
first_argument_law e ns l s = arguments_law e ns l s
    ∙ way_same (is_next ns (set.Value false) s) (then_same (read e ns (part.Value false) l s) _ _ (λ a z. behind_one a (read e ns part.MoreArguments l z))) refl

free_more : (ns : Names) → Free (form ns part.MoreArguments)
unfolding form
free_more ns = free_where (λ t. free_part (λ a. free_part (λ xs. free_give))) free_give

abbrev behind_comma : ℕ → Names → ℕ → Place → Read (List Expr)
behind_comma e ns l z = mend_then (read e ns (part.Value false) l z) (λ a y. first_then a (read e ns part.MoreArguments l y))

abbrev more_by : ℕ → Names → ℕ → Place → Bool → Read (List Expr)
more_by e ns l s b = if b then mend_then (one e ns (set.Sign sign.Comma) l s) (λ t z. behind_comma e ns l z) else Some ([], s)

more_law : (e : ℕ) (ns : Names) (l : ℕ) (s : Place) → read e ns part.MoreArguments l s ≡ more_by e ns l s (is_next ns (set.Sign sign.Comma) s)
unfolding run form one is_next read first_then
more_law e ns l s = by_form e ns part.MoreArguments l s (free_more ns)

go_more : (e : ℕ) (ns : Names) (l : ℕ) (xs : List Expr) (o : Read Expr)
    → behind xs (mend_then o (λ a y. first_then a (read e ns part.MoreArguments l y)))
    ≡ mend_then o (λ a y. behind (xs ++ a ∷ []) (read e ns part.MoreArguments l y))
go_more e ns l xs None = behind_nothing xs
go_more e ns l xs (Some x) = behind_more xs x.0 (read e ns part.MoreArguments l x.1)

go_on : (e : ℕ) (ns : Names) (l : ℕ) (s : Place) (xs : List Expr) (b : Bool) → behind xs (more_by e ns l s b)
    ≡ (if b then mend_then (one e ns (set.Sign sign.Comma) l s)
    (λ t z. mend_then (read e ns (part.Value false) l z) (λ a y. behind (xs ++ a ∷ []) (read e ns part.MoreArguments l y))) else Some (xs, s))
unfolding one
go_on e ns l s xs true = go_more e ns l xs (read e ns (part.Value false) l (taken e l (is_in (set.Sign sign.Comma) ns) s).1)
go_on e ns l s xs false = behind_end xs s

pub more_arguments_law : (e : ℕ) (ns : Names) (l : ℕ) (s : Place) (xs : List Expr) → behind xs (read e ns part.MoreArguments l s)
    ≡ way ns (set.Sign sign.Comma) s (mend_then (one e ns (set.Sign sign.Comma) l s)
    (λ t z. mend_then (read e ns (part.Value false) l z) (λ a y. behind (xs ++ a ∷ []) (read e ns part.MoreArguments l y)))) (Some (xs, s))
more_arguments_law e ns l s xs = ap (λ o. behind xs o) (more_law e ns l s) ∙ go_on e ns l s xs (is_next ns (set.Sign sign.Comma) s)

pub ruleset argument_laws = (first_argument_law, more_arguments_law, behind_start)

-- 2. Functions of the library

pub row_law : (e : ℕ) (ns : Names) (b : Option Expr) (n : Token) (takes : Bool) (l : ℕ) (s : Place) → row_behind e ns b n takes l s
    ≡ mend_then (one e ns (set.Sign sign.OpenParen) (suc l) s)
    (λ o z. mend_then (row_inside e ns n takes l z) (λ k y. mend_then (one e ns (set.Sign sign.Semicolon) l y) (λ q w. Some (tree.call_stmt b k, w))))
unfolding one row_behind row_inside
row_law e ns b n false l s = sym (then_assoc (read e ns part.Arguments (suc l) _) _ _)
row_law e ns b n true l s =
    sym (then_assoc (read e ns (part.AnyType true true) (suc l) _) _ _
    ∙ then_same (read e ns (part.AnyType true true) (suc l) _) _ _ (λ c z. then_assoc (read e ns part.MoreArguments (suc l) z) _ _))

-- 3. Statements that begin with a value

free_call : {w : What} (ns : Names) (o : Option Expr) (a : Expr) (f : Stmt → tree_of w) → Free {r = at ns w} (grammar.call_behind ns o a f)
free_call ns o a f = free_take (λ n b. refl) (λ t. free_part (λ xs. free_take (λ n b. refl) (λ s. free_take (λ n b. refl) (λ e. free_give))))

free_stored : (ns : Names) (a b : Expr) (p : Bool) → Free {r = at ns (part.ValueStmt a)} (grammar.stored_behind ns p b (λ s. s))
free_stored ns a b true = free_where (λ t. free_part (λ s. free_give)) (free_call ns None b (λ s. s))
free_stored ns a b false = free_call ns None b (λ s. s)

free_stmt : (ns : Names) (a : Expr) → Free (form ns (part.ValueStmt a))
unfolding form
free_stmt ns a = free_part (λ xs. free_stored ns a (suffixed a xs) (is_place (suffixed a xs)))

-- `=` and what is stored where it is a place, or a call
abbrev pub stored_by : ℕ → Names → Expr → Bool → ℕ → Place → Read Stmt
stored_by e ns b true l s = stored_of e ns b l s
stored_by e ns b false l s = call_behind e ns None b l s

run_stored : (e : ℕ) (ns : Names) (a b : Expr) (p : Bool) (l : ℕ) (s : Place)
    → run e {r = at ns (part.ValueStmt a)} (grammar.stored_behind ns p b (λ s. s)) l s ≡ stored_by e ns b p l s
unfolding run read one is_next stored_of call_behind
run_stored e ns a b true l s = way_same (next_in kind (on ns (sign_is sign.Assign)) s) (then_just (read e ns (part.Assigned b) l _)) refl
run_stored e ns a b false l s = refl

pub stmt_law : (e : ℕ) (ns : Names) (a : Expr) (l : ℕ) (s : Place)
    → read e ns (part.ValueStmt a) l s ≡ mend_then (suffixed_of e ns false a l s) (λ b z. stored_by e ns b (is_place b) l z)
unfolding run form read suffixed_of
stmt_law e ns a l s = by_form e ns (part.ValueStmt a) l s (free_stmt ns a)
    ∙ then_same (read e ns (part.Suffixes (is_place a) false) l s) _ _ (λ xs z. run_stored e ns a (suffixed a xs) (is_place (suffixed a xs)) l z)
    ∙ sym (give_then (λ xs. suffixed a xs) (read e ns (part.Suffixes (is_place a) false) l s) (λ b z. stored_by e ns b (is_place b) l z))

-- 4. What is stored

-- the value, behind its first operand
free_value_end : (ns : Names) (b a : Expr) → Free {r = at ns (part.Assigned b)} (grammar.value_behind ns a)
free_value_end ns b a = free_part (λ r. free_take (λ n b. refl) (λ e. free_give))

run_value_end : (e : ℕ) (ns : Names) (b a : Expr) (l : ℕ) (s : Place)
    → run e {r = at ns (part.Assigned b)} (grammar.value_behind ns a) l s ≡ assigned_value e ns b a l s
unfolding run read one assigned_value choosing_of
run_value_end e ns b a l s =
    sym (give_then (λ r. conditional r.0 r.1) (read e ns (part.ChoosingTail false a) l s)
    (λ v z. mend_then (one e ns (set.Sign sign.Semicolon) l z) (λ q y. Some (stmt.Assign b v, y))))

free_tail : (ns : Names) (b a : Expr) → Free (form ns (part.AssignedTail b a))
unfolding form
free_tail ns b a = free_part (λ xs. free_pick (free_call ns (Some b) (suffixed a xs) (λ s. s)) (free_part (λ r. free_take (λ n b. refl) (λ e. free_give))))

-- the brackets of a call, or the rest of a value
run_called : (e : ℕ) (ns : Names) (b a : Expr) (xs : List Suffix) (l : ℕ) (s : Place)
    → run e (grammar.called_or_value ns b a xs) l s ≡ assigned_step e ns b (step.Operand (suffixed a xs)) l s
unfolding run read one is_next call_behind assigned_value choosing_of assigned_step
run_called e ns b a xs l s = way_same (next_in kind (on ns (sign_is sign.OpenParen)) s) refl
    (sym (give_then (λ r. conditional r.0 r.1) (read e ns (part.ChoosingTail false (suffixed a xs)) l s)
    (λ v z. mend_then (one e ns (set.Sign sign.Semicolon) l z) (λ q y. Some (stmt.Assign b v, y)))))

pub tail_law : (e : ℕ) (ns : Names) (b a : Expr) (l : ℕ) (s : Place)
    → read e ns (part.AssignedTail b a) l s ≡ mend_then (operand_step e ns false false a l s) (λ x z. assigned_step e ns b x l z)
unfolding run form read
tail_law e ns b a l s = by_form e ns (part.AssignedTail b a) l s (free_tail ns b a)
    ∙ then_same (read e ns (part.Suffixes (is_place a) false) l s) _ _ (λ xs z. run_called e ns b a xs l z)
    ∙ suffixes_go e ns false a l s (λ x z. assigned_step e ns b x l z)

-- behind an operator, by whether it is `&`
operator_go : (e : ℕ) (ns : Names) (b : Expr) (t : Token) (l : ℕ) (s : Place) (place : Bool) → is_address (tree.sign_prefix t).prefix ≡ place
    → mend_then (operand_of e ns place false l s) (λ r z. run e {r = at ns (part.Assigned b)}
    (grammar.value_behind ns (tree.with_prefixes (tree.one_prefix (tree.sign_prefix t) r))) l z)
    ≡ assigned_step e ns b (step.Operator (tree.sign_prefix t)) l s
unfolding assigned_step prefixed_of
operator_go e ns b t l s place h =
    then_same (operand_of e ns place false l s) _ _ (λ r z. run_value_end e ns b (tree.with_prefixes (tree.one_prefix (tree.sign_prefix t) r)) l z)
    ∙ sym (give_then (λ r. tree.with_prefixes (tree.one_prefix (tree.sign_prefix t) r)) (operand_of e ns place false l s) (λ a z. assigned_value e ns b a l z))
    ∙ ap (λ q. mend_then (give (λ r. tree.with_prefixes (tree.one_prefix (tree.sign_prefix t) r)) (operand_of e ns q false l s))
    (λ a z. assigned_value e ns b a l z)) (sym h)

-- a cast
run_cast : (e : ℕ) (ns : Names) (b : Expr) (t : Token) (l : ℕ) (s : Place)
    → run e {r = at ns (part.Assigned b)} (grammar.cast_behind ns false t (λ r. grammar.value_behind ns (tree.with_prefixes r))) l s
    ≡ mend_then (cast_step e ns t l s) (λ x z. assigned_step e ns b x l z)
unfolding run read one assigned_step prefixed_of
run_cast e ns b t l s =
    then_same (read e ns (part.AnyType false true) (suc l) s) _ _ (λ c z. cast_end c (taken e l (is_in (set.Sign sign.CloseParen) ns) z))
    ∙ cast_go e ns t l s (λ x z. assigned_step e ns b x l z)
  where
    cast_end : (c : tree_of (part.AnyType false true)) (x : Token × Place)
        → mend_then (read e ns (part.Prefixed false) l x.1) (λ r z. run e {r = at ns (part.Assigned b)}
        (grammar.value_behind ns (tree.with_prefixes (tree.one_prefix (tree.cast_prefix t c x.0) r))) l z)
        ≡ assigned_step e ns b (step.Operator (tree.cast_prefix t c x.0)) l x.1
    cast_end c x =
        then_same (read e ns (part.Prefixed false) l x.1) _ _
        (λ r z. run_value_end e ns b (tree.with_prefixes (tree.one_prefix (tree.cast_prefix t c x.0) r)) l z)
        ∙ sym (give_then (λ r. tree.with_prefixes (tree.one_prefix (tree.cast_prefix t c x.0) r)) (read e ns (part.Prefixed false) l x.1)
        (λ a z. assigned_value e ns b a l z))

run_bracket : (e : ℕ) (ns : Names) (b : Expr) (t : Token) (l : ℕ) (s : Place)
    → run e {r = at ns (part.Assigned b)} (grammar.bracket_end ns false t (λ a. grammar.just ns (part.AssignedTail b a) (λ s. s))) l s
    ≡ mend_then (bracketed_of e ns false t l s) (λ a z. mend_then (operand_step e ns false false a l z) (λ x y. assigned_step e ns b x l y))
unfolding run read one
run_bracket e ns b t l s =
    then_same (read e ns (part.Value false) (suc l) s) _ _ (λ a z. behind_value a (taken e l (is_in (set.Sign sign.CloseParen) ns) z))
    ∙ bracket_go e ns false t l s (λ a z. mend_then (operand_step e ns false false a l z) (λ x y. assigned_step e ns b x l y))
  where
    behind_value : (a : Expr) (x : Token × Place) → mend_then (read e ns (part.AssignedTail b (bracketed (join (words.at t) (words.at x.0)) a)) l x.1)
        (λ s z. Some (s, z))
        ≡ mend_then (operand_step e ns false false (bracketed (join (words.at t) (words.at x.0)) a) l x.1) (λ x y. assigned_step e ns b x l y)
    behind_value a x =
        then_just (read e ns (part.AssignedTail b (bracketed (join (words.at t) (words.at x.0)) a)) l x.1)
        ∙ tail_law e ns b (bracketed (join (words.at t) (words.at x.0)) a) l x.1

-- 5. What stands behind `=`, by its first token

free_row : {w : What} (ns : Names) (o : Option Expr) (t : Token) (takes : Bool) (f : Stmt → tree_of w) → Free {r = at ns w} (grammar.row_behind ns o t takes f)
free_row ns o t false f = free_take (λ n b. refl) (λ x. free_part (λ xs. free_take (λ n b. refl) (λ s. free_take (λ n b. refl) (λ e. free_give))))
free_row ns o t true f = free_take (λ n b. refl) (λ x. free_part
    (λ c. free_part (λ xs. free_take (λ n b. refl) (λ s. free_take (λ n b. refl) (λ e. free_give)))))

free_named : (ns : Names) (b : Expr) (t : Token) (r : Role) → Free (grammar.assigned_named {b = b} ns t r)
free_named ns b t (RowName takes) = free_row ns (Some b) t takes (λ s. s)
free_named ns b t (TypeName m) = free_part (λ s. free_give)
free_named ns b t VariableName = free_part (λ s. free_give)
free_named ns b t FunctionName = free_part (λ s. free_give)
free_named ns b t MemberName = free_part (λ s. free_give)
free_named ns b t Unknown = free_part (λ s. free_give)

free_assigned : (ns : Names) (b : Expr) → Free (form ns (part.Assigned b))
unfolding form
free_assigned ns b = free_where (λ t. free_named ns b t (role_of ns t.bytes))
    (free_where (λ t. free_part (λ r. free_value_end ns b (tree.with_prefixes (tree.one_prefix (tree.sign_prefix t) r))))
    (free_where (λ t. free_part (λ r. free_value_end ns b (tree.with_prefixes (tree.one_prefix (tree.sign_prefix t) r))))
    (free_where
    (λ t. free_pick (free_part (λ y. free_take (λ n b. refl)
    (λ s. free_part (λ r. free_value_end ns b (tree.with_prefixes (tree.one_prefix (tree.cast_prefix t y s) r))))))
    (free_part (λ a. free_take (λ n b. refl) (λ s. free_part (λ x. free_give)))))
    (free_part (λ a. free_part (λ s. free_give))))))

-- a name that is stored or called
run_row : (e : ℕ) (ns : Names) (b : Expr) (t : Token) (r : Role) (l : ℕ) (s : Place) → is_row r ≡ true
    → run e (grammar.assigned_named {b = b} ns t r) l s ≡ row_behind e ns (Some b) t (takes_type r) l s
unfolding run read one row_behind
run_row e ns b t (RowName false) l s h = refl
run_row e ns b t (RowName true) l s h = refl
run_row e ns b t (TypeName m) l s h = absurd cc
run_row e ns b t VariableName l s h = absurd cc
run_row e ns b t FunctionName l s h = absurd cc
run_row e ns b t MemberName l s h = absurd cc
run_row e ns b t Unknown l s h = absurd cc

run_value : (e : ℕ) (ns : Names) (b : Expr) (t : Token) (r : Role) (l : ℕ) (s : Place) → is_value_role false r ≡ true
    → run e (grammar.assigned_named {b = b} ns t r) l s ≡ mend_then (operand_step e ns false false (tree.name_value ns t) l s)
    (λ x z. assigned_step e ns b x l z)
unfolding run read
run_value e ns b t (RowName takes) l s h = absurd cc
run_value e ns b t (TypeName m) l s h = absurd cc
run_value e ns b t VariableName l s h = then_just (read e ns (part.AssignedTail b (tree.name_value ns t)) l s) ∙ tail_law e ns b (tree.name_value ns t) l s
run_value e ns b t FunctionName l s h = then_just (read e ns (part.AssignedTail b (tree.name_value ns t)) l s) ∙ tail_law e ns b (tree.name_value ns t) l s
run_value e ns b t MemberName l s h = then_just (read e ns (part.AssignedTail b (tree.name_value ns t)) l s) ∙ tail_law e ns b (tree.name_value ns t) l s
run_value e ns b t Unknown l s h = then_just (read e ns (part.AssignedTail b (tree.name_value ns t)) l s) ∙ tail_law e ns b (tree.name_value ns t) l s

-- what follows where no name stands there
abbrev nameless : ℕ → Names → Expr → ℕ → Place → Read Stmt
nameless e ns b l s = way ns (set.Prefix false) s (mend_then (one e ns (set.Prefix false) l s)
    (λ t z. assigned_step e ns b (step.Operator (tree.sign_prefix t)) l z))
    (way ns (set.Sign sign.OpenParen) s (mend_then (one e ns (set.Sign sign.OpenParen) (suc l) s)
    (λ t z. mend_then (bracket_step e ns false false t l z) (λ x y. assigned_step e ns b x l y)))
    (mend_then (read e ns part.Unnamed l s) (λ a z. mend_then (operand_step e ns false false a l z) (λ x y. assigned_step e ns b x l y))))

-- what follows a name
abbrev named_by : ℕ → Names → Expr → ℕ → Token → Place → Read Stmt
named_by e ns b l t z = run e (grammar.assigned_named {b = b} ns t (role_of ns t.bytes)) l z

run_open : (e : ℕ) (ns : Names) (b : Expr) (l : ℕ) (x : Token × Place)
    → (if next_in kind (on ns (begins_type false)) x.1 then run e {r = at ns (part.Assigned b)}
    (grammar.cast_behind ns false x.0 (λ r. grammar.value_behind ns (tree.with_prefixes r))) l x.1
    else run e {r = at ns (part.Assigned b)} (grammar.bracket_end ns false x.0 (λ a. grammar.just ns (part.AssignedTail b a) (λ s. s))) l x.1)
    ≡ mend_then (bracket_step e ns false false x.0 l x.1) (λ y z. assigned_step e ns b y l z)
unfolding is_next
run_open e ns b l x =
    way_same (next_in kind (on ns (begins_type false)) x.1) (run_cast e ns b x.0 l x.1) (run_bracket e ns b x.0 l x.1)
    ∙ behind_bracket_go e ns false x.0 l x.1 (λ y z. assigned_step e ns b y l z)

form_law : (e : ℕ) (ns : Names) (b : Expr) (l : ℕ) (s : Place) → read e ns (part.Assigned b) l s
    ≡ (if next_in kind (on ns (name_with is_callee_role)) s then named_by e ns b l (taken e l (on ns (name_with is_callee_role)) s).0
    (taken e l (on ns (name_with is_callee_role)) s).1 else nameless e ns b l s)
unfolding run form read one is_next
form_law e ns b l s = by_form e ns (part.Assigned b) l s (free_assigned ns b)
    ∙ way_same (next_in kind (on ns (name_with is_callee_role)) s) refl
    (prefix_ways e ns l s (λ t z. assigned_step e ns b (step.Operator (tree.sign_prefix t)) l z)
    (λ t z. mend_then (read e ns (part.Prefixed false) l z) (λ r y. run e {r = at ns (part.Assigned b)}
    (grammar.value_behind ns (tree.with_prefixes (tree.one_prefix (tree.sign_prefix t) r))) l y))
    (λ t z. mend_then (read e ns part.Place l z) (λ r y. run e {r = at ns (part.Assigned b)}
    (grammar.value_behind ns (tree.with_prefixes (tree.one_prefix (tree.sign_prefix t) r))) l y))
    _ (λ t z h. operator_go e ns b t l z false h) (λ t z h. operator_go e ns b t l z true h)
    ∙ way_same (next_in kind (on ns (is_any_prefix false)) s) refl
    (way_same (next_in kind (on ns (sign_is sign.OpenParen)) s) (run_open e ns b l (taken e (suc l) (on ns (sign_is sign.OpenParen)) s))
    (then_same (read e ns part.Unnamed l s) _ _ (λ a z. then_just (read e ns (part.AssignedTail b a) l z) ∙ tail_law e ns b a l z))))

-- 6. By steps

-- a name of a callee is one of a function of the library or of a value
callee_role : (n : Bool) (r : Role) → (n && is_callee_role r) ≡ ((n && is_row r) || (n && is_value_role false r))
callee_role false r = refl
callee_role true (TypeName m) = refl
callee_role true (RowName takes) = refl
callee_role true VariableName = refl
callee_role true FunctionName = refl
callee_role true MemberName = refl
callee_role true Unknown = refl

next_callee : (ns : Names) (s : Place) → next_in kind (on ns (name_with is_callee_role)) s
    ≡ (next_in kind (on ns (name_with is_row)) s || next_in kind (on ns (name_with (is_value_role false))) s)
next_callee ns (Going []) = refl
next_callee ns (Going (t ∷ ts)) = callee_role (is Name (class ns (kind t))) (class ns (kind t)).role
next_callee ns (Stopped ts) = refl

both_left : (a b : Bool) → (a && b) ≡ true → a ≡ true
both_left true b e = refl
both_left false b e = absurd cc

-- a name is no sign
no_prefix : (x : Sort) → same Name x ≡ true → ((sign_with (λ s. is_there (prefix_of false s)) x && not (same (OfSign sign.Ampersand) x))
    || (true && same (OfSign sign.Ampersand) x)) ≡ false
no_prefix Name h = refl
no_prefix x h = absurd cc

no_open : (x : Sort) → same Name x ≡ true → same (OfSign sign.OpenParen) x ≡ false
no_open Name h = refl
no_open x h = absurd cc

value_no_prefix : (ns : Names) (s : Place) → next_in kind (on ns (name_with (is_value_role false))) s ≡ true
    → next_in kind (on ns (is_any_prefix false)) s ≡ false
value_no_prefix ns (Going []) h = refl
value_no_prefix ns (Going (t ∷ ts)) h = no_prefix (sort_of t.terminal) (both_left (is Name (class ns (kind t))) _ h)
value_no_prefix ns (Stopped ts) h = refl

value_no_open : (ns : Names) (s : Place) → next_in kind (on ns (name_with (is_value_role false))) s ≡ true
    → next_in kind (on ns (sign_is sign.OpenParen)) s ≡ false
value_no_open ns (Going []) h = refl
value_no_open ns (Going (t ∷ ts)) h = no_open (sort_of t.terminal) (both_left (is Name (class ns (kind t))) _ h)
value_no_open ns (Stopped ts) h = refl

-- a step, and what follows it
abbrev steps : ℕ → Names → Expr → ℕ → Place → Read Stmt
steps e ns b l s = mend_then (step_of e ns false false l s) (λ x z. assigned_step e ns b x l z)

-- what follows an operand
abbrev operand_go : ℕ → Names → Expr → ℕ → Expr → Place → Read Stmt
operand_go e ns b l a z = mend_then (operand_step e ns false false a l z) (λ x y. assigned_step e ns b x l y)

abbrev steps_by : ℕ → Names → Expr → ℕ → Place → Bool → Bool → Read Expr → Read Stmt
steps_by e ns b l s p o r = if p then mend_then (one e ns (set.Prefix false) l s) (λ t z. assigned_step e ns b (step.Operator (tree.sign_prefix t)) l z)
    else if o then mend_then (one e ns (set.Sign sign.OpenParen) (suc l) s)
    (λ t z. mend_then (bracket_step e ns false false t l z) (λ x y. assigned_step e ns b x l y))
    else mend_then r (λ a z. operand_go e ns b l a z)

steps_are : (e : ℕ) (ns : Names) (b : Expr) (l : ℕ) (s : Place)
    → steps e ns b l s ≡ steps_by e ns b l s (is_next ns (set.Prefix false) s) (is_next ns (set.Sign sign.OpenParen) s) (read e ns (part.Primary false) l s)
steps_are e ns b l s =
    sym (way_same (is_next ns (set.Prefix false) s) refl (plain_go e ns false false l s (λ x z. assigned_step e ns b x l z))
    ∙ step_go e ns false false l s (λ x z. assigned_step e ns b x l z))

abbrev primary_by : ℕ → Names → ℕ → Place → Bool → Read Expr
primary_by e ns l s v = if v then mend_then (one e ns (set.ValueName false) l s) (λ t z. Some (tree.name_value ns t, z)) else read e ns part.Unnamed l s

-- a name
named_steps : (e : ℕ) (ns : Names) (b : Expr) (l : ℕ) (s : Place) → next_in kind (on ns (name_with (is_value_role false))) s ≡ true
    → steps e ns b l s ≡ operand_go e ns b l (tree.name_value ns (taken e l (on ns (name_with (is_value_role false))) s).0)
    (taken e l (on ns (name_with (is_value_role false))) s).1
unfolding one is_next
named_steps e ns b l s h =
    steps_are e ns b l s ∙ ap (λ p. steps_by e ns b l s p (is_next ns (set.Sign sign.OpenParen) s) (read e ns (part.Primary false) l s))
    (value_no_prefix ns s h)
    ∙ ap (λ o. steps_by e ns b l s false o (read e ns (part.Primary false) l s)) (value_no_open ns s h)
    ∙ ap (λ r. steps_by e ns b l s false false r) (primary_law e ns false l s ∙ ap (λ v. primary_by e ns l s v) h)

-- no name
nameless_steps : (e : ℕ) (ns : Names) (b : Expr) (l : ℕ) (s : Place) → next_in kind (on ns (name_with (is_value_role false))) s ≡ false
    → nameless e ns b l s ≡ steps e ns b l s
unfolding is_next
nameless_steps e ns b l s h =
    sym (steps_are e ns b l s ∙ ap (λ r. steps_by e ns b l s (is_next ns (set.Prefix false) s) (is_next ns (set.Sign sign.OpenParen) s) r)
    (primary_law e ns false l s ∙ ap (λ v. primary_by e ns l s v) h))

abbrev form_by : ℕ → Names → Expr → ℕ → Place → Bool → Read Stmt
form_by e ns b l s c = if c then named_by e ns b l (taken e l (on ns (name_with is_callee_role)) s).0
    (taken e l (on ns (name_with is_callee_role)) s).1 else nameless e ns b l s

-- the name of a function of the library and what follows it, or a step and what follows it
abbrev rows_by : ℕ → Names → Expr → ℕ → Place → Bool → Read Stmt
rows_by e ns b l s r = if r then mend_then (one e ns set.RowName l s) (λ t z. row_behind e ns (Some b) t (takes_type (role_of ns t.bytes)) l z)
    else steps e ns b l s

taken_value : (e : ℕ) (ns : Names) (b : Expr) (l : ℕ) (x : Token × Place) → on ns (name_with (is_value_role false)) (kind x.0) ≡ true
    → named_by e ns b l x.0 x.1 ≡ operand_go e ns b l (tree.name_value ns x.0) x.1
taken_value e ns b l x h = run_value e ns b x.0 (role_of ns x.0.bytes) l x.1 (is_name_with ns (is_value_role false) x.0 h).1

taken_row : (e : ℕ) (ns : Names) (b : Expr) (l : ℕ) (x : Token × Place) → on ns (name_with is_row) (kind x.0) ≡ true
    → named_by e ns b l x.0 x.1 ≡ row_behind e ns (Some b) x.0 (takes_type (role_of ns x.0.bytes)) l x.1
taken_row e ns b l x h = run_row e ns b x.0 (role_of ns x.0.bytes) l x.1 (is_name_with ns is_row x.0 h).1

assigned_is : (e : ℕ) (ns : Names) (b : Expr) (l : ℕ) (s : Place) → read e ns (part.Assigned b) l s ≡ rows_by e ns b l s (is_next ns set.RowName s)
unfolding one is_next
assigned_is e ns b l s = go (next_in kind (on ns (name_with is_row)) s) (next_in kind (on ns (name_with (is_value_role false))) s) refl refl
  where
    go : (r v : Bool) → next_in kind (on ns (name_with is_row)) s ≡ r → next_in kind (on ns (name_with (is_value_role false))) s ≡ v
        → read e ns (part.Assigned b) l s ≡ rows_by e ns b l s r
    go true v x y =
        let callee : next_in kind (on ns (name_with is_callee_role)) s ≡ true = next_callee ns s
        ∙ ap (λ q. q || next_in kind (on ns (name_with (is_value_role false))) s) x in
        form_law e ns b l s ∙ ap (λ c. form_by e ns b l s c) callee
        ∙ ap (λ (t : Token × Place). named_by e ns b l t.0 t.1) (same_taken e l (on ns (name_with is_callee_role)) (on ns (name_with is_row)) s callee x)
        ∙ taken_row e ns b l (taken e l (on ns (name_with is_row)) s) (taken_kind e l (on ns (name_with is_row)) s x)
    go false true x y =
        let callee : next_in kind (on ns (name_with is_callee_role)) s ≡ true = next_callee ns s
        ∙ ap (λ q. q || next_in kind (on ns (name_with (is_value_role false))) s) x ∙ y in
        form_law e ns b l s ∙ ap (λ c. form_by e ns b l s c) callee
        ∙ ap (λ (t : Token × Place). named_by e ns b l t.0 t.1)
        (same_taken e l (on ns (name_with is_callee_role)) (on ns (name_with (is_value_role false))) s callee y)
        ∙ taken_value e ns b l (taken e l (on ns (name_with (is_value_role false))) s) (taken_kind e l (on ns (name_with (is_value_role false))) s y)
        ∙ sym (named_steps e ns b l s y)
    go false false x y =
        let callee : next_in kind (on ns (name_with is_callee_role)) s ≡ false = next_callee ns s
        ∙ ap (λ q. q || next_in kind (on ns (name_with (is_value_role false))) s) x ∙ y in
        form_law e ns b l s ∙ ap (λ c. form_by e ns b l s c) callee ∙ nameless_steps e ns b l s y

pub assigned_law : (e : ℕ) (ns : Names) (b : Expr) (l : ℕ) (s : Place) → read e ns (part.Assigned b) l s
    ≡ way ns set.RowName s (mend_then (one e ns set.RowName l s) (λ t z. row_behind e ns (Some b) t (takes_type (role_of ns t.bytes)) l z))
    (mend_then (step_of e ns false false l s) (λ x z. assigned_step e ns b x l z))
assigned_law e ns b l s = assigned_is e ns b l s

pub ruleset call_laws = (row_law, stmt_law, assigned_law)
