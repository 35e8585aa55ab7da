-- Operators before an operand by their steps.
use Rattle.std.proofs.Common.{◌≡◌, ℕ, suc, ◌&&◌, ◌||◌, not, Bool, true, false, if◌then◌else◌, List, [], ◌∷◌, ◌++◌, Option, Some, None}
use Rattle.std.proofs.Common.{IfSome, refl, sym, ap, ◌∙◌, append_assoc, append-nil}
use Rattle.mending_readers.specs.Mending.{Going, Stopped, mend_then, next_in}
use Rattle.c_lexer.specs.declared.token.Sign.TheVariants as sign
use Rattle.c_lexer.specs.declared.token.TokenKind.TheVariants as k
use Rattle.c_tree.specs.declared.code.Expr.{Expr}
use Rattle.c_tree.specs.declared.operators.PrefixOperator.{PrefixOperator}
use Rattle.c_tree.specs.Names.{Names}
use Rattle.c_tree.specs.Make.{bracketed, prefixed, suffixed}
use Rattle.c_tree.specs.Values.{is_place}
use Rattle.c_tree.specs.Words as words
use Rattle.c_tree.specs.Words.{Terminal, Of, Token, join}
use Rattle.predictive_grammar.specs.Forms.{give as done}
use Rattle.c_grammar.specs.Sorts.{kind, on, OfSign, same, sort_of}
use Rattle.c_grammar.specs.Tests.{sign_is, is_prefix, begins_type}
use Rattle.c_grammar.specs.Parts as part
use Rattle.c_grammar.specs.Parts.{at, tree_of}
use Rattle.c_grammar.specs.Trees as tree
use Rattle.c_grammar.specs.Grammar as grammar
use Rattle.c_grammar.specs.Grammar.{C, form, inner, sign_here}
use Rattle.c_grammar.proofs.Tokens.{is_sign}
use Rattle.c_nodes.specs.declared.token.Token.{Token as SeenToken}
use Rattle.c_nodes.specs.Seen.{seen}
use Rattle.c_cursor.specs.declared.parser.Parser.{Parser}
use Rattle.c_cursor.specs.declared.sets.Set.TheVariants as set
use Rattle.c_cursor.specs.Gives.{state}
use Rattle.c_cursor.specs.Scopes.{names_of}
use Rattle.c_cursor.specs.Steps.{Took}
use Rattle.c_cursor.specs.Reading.{Read, Place, one, is_next, read, way, give}
use Rattle.c_cursor.specs.Sets.{is_in, is_any_prefix}
use Rattle.c_parser.specs.declared.prefixes.Step.{Step}
use Rattle.c_parser.specs.declared.prefixes.Step.TheVariants as step
use Rattle.c_parser.specs.Pieces.{bracketed_of, is_address, operand_of, prefixed_of}
use Rattle.c_parser.specs.Values.{suffixed_of, prefixes, behind_step, operand_step, cast_of, cast_step, bracket_step, plain_step}
use Rattle.c_parser.specs.Values.{step_of, operators_of, prefixed_value, value_behind}
use Rattle.c_parser.proofs.Thens.{then_assoc, way_same}
use Rattle.c_parser.proofs.TypeLaws.{some_same}
use Rattle.c_parser.proofs.TokenLaws.{way_then, give_then, give_twice, give_same, taken, same_taken, taken_kind, taken_as}
use Rattle.c_parser.proofs.Walks.{Free, free_give, free_take, free_part, free_pick, free_where, run, then_same, by_form}

-- 1. `&` among the operators

-- no other sign is `&`
pub address_sign : (x : Terminal) → same (OfSign sign.Ampersand) (sort_of x) ≡ false → is_address (tree.prefix_in x) ≡ false
address_sign (Of (k.Sign sign.Ampersand)) h = absurd cc
address_sign (Of (k.Sign s)) h = refl
address_sign x h = refl

both_right : (a b : Bool) → (a && not b) ≡ true → b ≡ false
both_right true true h = absurd cc
both_right true false h = refl
both_right false b h = absurd cc

or_left : (a b : Bool) → a ≡ true → (a || b) ≡ true
or_left true b h = refl
or_left false b h = absurd cc

-- an operator that is not `&`
pub no_address : (c : Bool) (ns : Names) (t : Token) → on ns (is_prefix c) (kind t) ≡ true → is_address (tree.sign_prefix t).prefix ≡ false
no_address c ns t h = address_sign t.terminal (both_right _ (on ns (sign_is sign.Ampersand) (kind t)) h)

pub some_address : (ns : Names) (t : Token) → on ns (sign_is sign.Ampersand) (kind t) ≡ true → is_address (tree.sign_prefix t).prefix ≡ true
some_address ns t h = ap (λ (x : Terminal). is_address (tree.prefix_in x)) (is_sign ns sign.Ampersand t h)

-- the operators and `&`
next_any : (c : Bool) (ns : Names) (s : Place) → next_in kind (on ns (is_any_prefix c)) s
    ≡ (next_in kind (on ns (is_prefix c)) s || (not c && next_in kind (on ns (sign_is sign.Ampersand)) s))
next_any true ns (Going []) = refl
next_any false ns (Going []) = refl
next_any c ns (Going (t ∷ ts)) = refl
next_any true ns (Stopped ts) = refl
next_any false ns (Stopped ts) = refl

-- a constant has no `&` before its operands
constant_taken : (e : ℕ) (ns : Names) (l : ℕ) (s z : Place) (t : Token) → is_next ns (set.Prefix true) s ≡ true
    → one e ns (set.Prefix true) l s ≡ Some (t, z) → is_address (tree.sign_prefix t).prefix ≡ false
unfolding one is_next
constant_taken e ns l s z t is took =
    let pair : taken e l (on ns (is_any_prefix true)) s ≡ (t, z) = some_same (taken e l (on ns (is_any_prefix true)) s) (t, z) took in
    let token : (taken e l (on ns (is_any_prefix true)) s).0 ≡ t = ap (λ (x : Token × Place). x.0) pair in
    ap (λ (x : Token). is_address (tree.sign_prefix x).prefix) (sym token)
    ∙ no_address true ns (taken e l (on ns (is_any_prefix true)) s).0
    (taken_as e l (on ns (is_any_prefix true)) (on ns (is_prefix true)) s is (go (next_in kind (on ns (is_prefix true)) s) (sym (next_any true ns s) ∙ is)))
  where
    go : (b : Bool) → (b || false) ≡ true → b ≡ true
    go true h = refl
    go false h = absurd cc

-- the same of what was taken
pub constant_address : (c place : Bool) (l : ℕ) (p q : Parser) (o : Option SeenToken) → (c ≡ true → place ≡ false) → Took (prefixes c place) l p o q
    → IfSome o (λ t. c ≡ true → is_address (tree.sign_prefix (seen t)).prefix ≡ false)
constant_address c place l p q None h took = tt
constant_address false place l p q (Some t) h took = λ e. absurd cc
constant_address true false l p q (Some t) h took = λ e. constant_taken p.end (names_of p.names) l (state p) (state q) (seen t) took.0 took.1
constant_address true true l p q (Some t) h took = absurd (go (h refl))
  where
    go : true ≡ false → ⊥
    go e = absurd cc

-- the way of any operator
abbrev any_by : {A : Type 0} → ℕ → Names → Bool → ℕ → Place → (Token → Place → Read A) → Read A → Bool → Read A
any_by e ns c l s k r b = if b then mend_then (Some (taken e l (on ns (is_any_prefix c)) s)) k else r

-- the ways of `&` and of the other operators are one
pub prefix_ways : {A : Type 0} (e : ℕ) (ns : Names) (l : ℕ) (s : Place) (k f g : Token → Place → Read A) (r : Read A)
    → ((t : Token) (z : Place) → is_address (tree.sign_prefix t).prefix ≡ false → f t z ≡ k t z)
    → ((t : Token) (z : Place) → is_address (tree.sign_prefix t).prefix ≡ true → g t z ≡ k t z)
    → (if next_in kind (on ns (is_prefix false)) s then mend_then (Some (taken e l (on ns (is_prefix false)) s)) f
    else if next_in kind (on ns (sign_is sign.Ampersand)) s then mend_then (Some (taken e l (on ns (sign_is sign.Ampersand)) s)) g else r)
    ≡ (if next_in kind (on ns (is_any_prefix false)) s then mend_then (Some (taken e l (on ns (is_any_prefix false)) s)) k else r)
prefix_ways e ns l s k f g r other address = go (next_in kind (on ns (is_prefix false)) s) (next_in kind (on ns (sign_is sign.Ampersand)) s) refl refl
  where
    go : (a b : Bool) → next_in kind (on ns (is_prefix false)) s ≡ a → next_in kind (on ns (sign_is sign.Ampersand)) s ≡ b
        → (if a then mend_then (Some (taken e l (on ns (is_prefix false)) s)) f else if b
        then mend_then (Some (taken e l (on ns (sign_is sign.Ampersand)) s)) g else r)
        ≡ any_by e ns false l s k r (next_in kind (on ns (is_any_prefix false)) s)
    go true b x y =
        let is : next_in kind (on ns (is_any_prefix false)) s ≡ true = next_any false ns s ∙ or_left (next_in kind (on ns (is_prefix false)) s) _ x in
        let token : Token × Place = taken e l (on ns (is_prefix false)) s in
        other token.0 token.1 (no_address false ns token.0 (taken_kind e l (on ns (is_prefix false)) s x))
        ∙ ap (λ (t : Token × Place). k t.0 t.1) (same_taken e l (on ns (is_prefix false)) (on ns (is_any_prefix false)) s x is)
        ∙ sym (ap (λ (b : Bool). any_by e ns false l s k r b) is)
    go false true x y =
        let is : next_in kind (on ns (is_any_prefix false)) s ≡ true = next_any false ns s
        ∙ ap (λ (p : Bool). p || (true && next_in kind (on ns (sign_is sign.Ampersand)) s)) x ∙ y in
        let token : Token × Place = taken e l (on ns (sign_is sign.Ampersand)) s in
        address token.0 token.1 (some_address ns token.0 (taken_kind e l (on ns (sign_is sign.Ampersand)) s y))
        ∙ ap (λ (t : Token × Place). k t.0 t.1) (same_taken e l (on ns (sign_is sign.Ampersand)) (on ns (is_any_prefix false)) s y is)
        ∙ sym (ap (λ (b : Bool). any_by e ns false l s k r b) is)
    go false false x y =
        let is : next_in kind (on ns (is_any_prefix false)) s ≡ false = next_any false ns s
        ∙ ap (λ (p : Bool). p || (true && next_in kind (on ns (sign_is sign.Ampersand)) s)) x ∙ y in
        sym (ap (λ (b : Bool). any_by e ns false l s k r b) is)

-- 2. What stands behind the operators

-- a value in brackets and what goes on with it
pub bracket_go : {D : Type 0} (e : ℕ) (ns : Names) (c : Bool) (t : Token) (l : ℕ) (s : Place) (k : Expr → Place → Read D)
    → mend_then (read e ns (part.Value c) (suc l) s) (λ a z. mend_then (one e ns (set.Sign sign.CloseParen) l z)
    (λ x y. k (bracketed (join (words.at t) (words.at x)) a) y)) ≡ mend_then (bracketed_of e ns c t l s) k
unfolding one bracketed_of
bracket_go e ns c t l s k = sym (then_assoc (read e ns (part.Value c) (suc l) s) _ k)

-- a cast and what goes on with it
pub cast_go : {D : Type 0} (e : ℕ) (ns : Names) (t : Token) (l : ℕ) (s : Place) (k : Step → Place → Read D)
    → mend_then (read e ns (part.AnyType false true) (suc l) s)
    (λ c z. mend_then (one e ns (set.Sign sign.CloseParen) l z) (λ x y. k (step.Operator (tree.cast_prefix t c x)) y)) ≡ mend_then (cast_step e ns t l s) k
unfolding one cast_of
cast_go e ns t l s k = sym (give_then step.Operator (cast_of e ns t l s) k
    ∙ then_assoc (read e ns (part.AnyType false true) (suc l) s) _ (λ p z. k (step.Operator p) z))

-- suffixes behind a value and what goes on with it
pub suffixes_go : {D : Type 0} (e : ℕ) (ns : Names) (place : Bool) (a : Expr) (l : ℕ) (s : Place) (k : Step → Place → Read D)
    → mend_then (read e ns (part.Suffixes (is_place a) (place && not (is_place a))) l s) (λ xs z. k (step.Operand (suffixed a xs)) z)
    ≡ mend_then (operand_step e ns false place a l s) k
unfolding suffixed_of
suffixes_go e ns place a l s k = sym (ap (λ o. mend_then o k)
    (give_twice step.Operand (λ xs. suffixed a xs) (read e ns (part.Suffixes (is_place a) (place && not (is_place a))) l s))
    ∙ give_then (λ xs. step.Operand (suffixed a xs)) (read e ns (part.Suffixes (is_place a) (place && not (is_place a))) l s) k)

-- an operand without operators and what goes on with it, by what goes on with each way
pub plain_go : {D : Type 0} (e : ℕ) (ns : Names) (c place : Bool) (l : ℕ) (s : Place) (k : Step → Place → Read D)
    → way ns (set.Sign sign.OpenParen) s (mend_then (one e ns (set.Sign sign.OpenParen) (suc l) s) (λ t z. mend_then (bracket_step e ns c place t l z) k))
    (mend_then (read e ns (part.Primary c) l s) (λ a z. mend_then (operand_step e ns c place a l z) k))
    ≡ mend_then (plain_step e ns c place l s) k
unfolding one plain_step
plain_go e ns c place l s k =
    way_same (is_next ns (set.Sign sign.OpenParen) s) refl (sym (then_assoc (read e ns (part.Primary c) l s) _ k))
    ∙ sym (way_then (is_next ns (set.Sign sign.OpenParen) s) _ _ k)

-- the same of what follows `(`
pub behind_bracket_go : {D : Type 0} (e : ℕ) (ns : Names) (c : Bool) (t : Token) (l : ℕ) (s : Place) (k : Step → Place → Read D)
    → (if is_next ns (set.Type false) s then mend_then (cast_step e ns t l s) k
    else mend_then (bracketed_of e ns c t l s) (λ a z. mend_then (operand_step e ns c false a l z) k))
    ≡ mend_then (bracket_step e ns c false t l s) k
unfolding bracket_step
behind_bracket_go e ns c t l s k =
    way_same (is_next ns (set.Type false) s) refl (sym (then_assoc (bracketed_of e ns c t l s) _ k)) ∙ sym (way_then (is_next ns (set.Type false) s) _ _ k)

pub place_bracket_go : {D : Type 0} (e : ℕ) (ns : Names) (c : Bool) (t : Token) (l : ℕ) (s : Place) (k : Step → Place → Read D)
    → mend_then (bracketed_of e ns c t l s) (λ a z. mend_then (operand_step e ns c true a l z) k) ≡ mend_then (bracket_step e ns c true t l s) k
unfolding bracket_step
place_bracket_go e ns c t l s k = sym (then_assoc (bracketed_of e ns c t l s) _ k)

-- 3. Operands

free_tail : {w : part.What} (ns : Names) (c : Bool) (a : Expr) (f : Expr → tree_of w) → Free {r = at ns w} (grammar.suffixes_behind ns c a f)
free_tail ns true a f = free_give
free_tail ns false a f = free_part (λ xs. free_give)

free_operand : (ns : Names) (c : Bool) → Free (grammar.cast_or_operand ns c)
free_operand ns c = free_where
    (λ t. free_pick (free_part (λ y. free_take (λ n b. refl) (λ s. free_part (λ r. free_give))))
    (free_part (λ a. free_take (λ n b. refl) (λ s. free_tail ns c (bracketed (join (words.at t) (words.at s)) a) (λ b. ([], b))))))
    (free_part (λ a. free_tail ns c a (λ b. ([], b))))

-- suffixes behind an operand
run_tail : (e : ℕ) (ns : Names) (c : Bool) (a : Expr) (l : ℕ) (s : Place)
    → run e {r = at ns (part.Prefixed c)} (grammar.suffixes_behind ns c a (λ b. ([], b))) l s
    ≡ mend_then (operand_step e ns c false a l s) (λ x z. behind_step e ns c x l z)
unfolding run read
run_tail e ns true a l s = refl
run_tail e ns false a l s = suffixes_go e ns false a l s (λ x z. behind_step e ns false x l z)

run_cast : (e : ℕ) (ns : Names) (c : Bool) (t : Token) (l : ℕ) (s : Place)
    → run e {r = at ns (part.Prefixed c)} (grammar.cast_behind ns c t (λ r. done r)) l s ≡ mend_then (cast_step e ns t l s) (λ x z. behind_step e ns c x l z)
unfolding run read one
run_cast e ns c t l s = cast_go e ns t l s (λ x z. behind_step e ns c x l z)

run_bracket : (e : ℕ) (ns : Names) (c : Bool) (t : Token) (l : ℕ) (s : Place)
    → run e {r = at ns (part.Prefixed c)} (grammar.bracket_end ns c t (λ a. grammar.suffixes_behind ns c a (λ b. ([], b)))) l s
    ≡ mend_then (bracketed_of e ns c t l s) (λ a z. mend_then (operand_step e ns c false a l z) (λ x y. behind_step e ns c x l y))
unfolding run read one
run_bracket e ns c t l s =
    then_same (read e ns (part.Value c) (suc l) s) _ _ (λ a z. run_tail e ns c
    (bracketed (join (words.at t) (words.at (taken e l (is_in (set.Sign sign.CloseParen) ns) z).0)) a) l
    (taken e l (is_in (set.Sign sign.CloseParen) ns) z).1)
    ∙ bracket_go e ns c t l s (λ a z. mend_then (operand_step e ns c false a l z) (λ x y. behind_step e ns c x l y))

run_operand : (e : ℕ) (ns : Names) (c : Bool) (l : ℕ) (s : Place)
    → run e (grammar.cast_or_operand ns c) l s ≡ mend_then (plain_step e ns c false l s) (λ x z. behind_step e ns c x l z)
unfolding run read one is_next
run_operand e ns c l s =
    way_same (next_in kind (on ns (sign_is sign.OpenParen)) s)
    (let z : Token × Place = taken e (suc l) (on ns (sign_is sign.OpenParen)) s in
    way_same (next_in kind (on ns (begins_type false)) z.1) (run_cast e ns c z.0 l z.1) (run_bracket e ns c z.0 l z.1)
    ∙ behind_bracket_go e ns c z.0 l z.1 (λ x y. behind_step e ns c x l y))
    (then_same (read e ns (part.Primary c) l s) _ _ (λ a z. run_tail e ns c a l z))
    ∙ plain_go e ns c false l s (λ x z. behind_step e ns c x l z)

-- an operator or an operand, and what goes on with it
pub step_go : {D : Type 0} (e : ℕ) (ns : Names) (c place : Bool) (l : ℕ) (s : Place) (k : Step → Place → Read D)
    → way ns (prefixes c place) s (mend_then (one e ns (prefixes c place) l s) (λ t z. k (step.Operator (tree.sign_prefix t)) z))
    (mend_then (plain_step e ns c place l s) k) ≡ mend_then (step_of e ns c place l s) k
unfolding one step_of
step_go e ns c place l s k = sym (way_then (is_next ns (prefixes c place) s) _ _ k)

free_constant : (ns : Names) → Free (form ns (part.Prefixed true))
unfolding form
free_constant ns = free_where (λ t. free_part (λ r. free_give)) (free_operand ns true)

free_value : (ns : Names) → Free (form ns (part.Prefixed false))
unfolding form
free_value ns = free_where (λ t. free_part (λ r. free_give)) (free_where (λ t. free_part (λ r. free_give)) (free_operand ns false))

-- what follows an operator, by whether it is `&`
behind_other : (e : ℕ) (ns : Names) (c : Bool) (p : PrefixOperator) (l : ℕ) (s : Place) → is_address p.prefix ≡ false
    → give (tree.one_prefix p) (read e ns (part.Prefixed c) l s) ≡ behind_step e ns c (step.Operator p) l s
behind_other e ns c p l s h = ap (λ (b : Bool). give (tree.one_prefix p) (operand_of e ns b c l s)) (sym h)

behind_address : (e : ℕ) (ns : Names) (c : Bool) (p : PrefixOperator) (l : ℕ) (s : Place) → is_address p.prefix ≡ true
    → give (tree.one_prefix p) (read e ns part.Place l s) ≡ behind_step e ns c (step.Operator p) l s
behind_address e ns c p l s h = ap (λ (b : Bool). give (tree.one_prefix p) (operand_of e ns b c l s)) (sym h)

-- a constant has no `&`: its operators are those without
constant_ways : {A : Type 0} (e : ℕ) (ns : Names) (l : ℕ) (s : Place) (k f : Token → Place → Read A) (r : Read A)
    → ((t : Token) (z : Place) → is_address (tree.sign_prefix t).prefix ≡ false → f t z ≡ k t z)
    → (if next_in kind (on ns (is_prefix true)) s then mend_then (Some (taken e l (on ns (is_prefix true)) s)) f else r)
    ≡ (if next_in kind (on ns (is_any_prefix true)) s then mend_then (Some (taken e l (on ns (is_any_prefix true)) s)) k else r)
constant_ways e ns l s k f r other = go (next_in kind (on ns (is_prefix true)) s) refl
  where
    go : (a : Bool) → next_in kind (on ns (is_prefix true)) s ≡ a
        → (if a then mend_then (Some (taken e l (on ns (is_prefix true)) s)) f else r) ≡ any_by e ns true l s k r (next_in kind (on ns (is_any_prefix true)) s)
    go true x =
        let is : next_in kind (on ns (is_any_prefix true)) s ≡ true = next_any true ns s ∙ or_left (next_in kind (on ns (is_prefix true)) s) _ x in
        let token : Token × Place = taken e l (on ns (is_prefix true)) s in
        other token.0 token.1 (no_address true ns token.0 (taken_kind e l (on ns (is_prefix true)) s x))
        ∙ ap (λ (t : Token × Place). k t.0 t.1) (same_taken e l (on ns (is_prefix true)) (on ns (is_any_prefix true)) s x is)
        ∙ sym (ap (λ (b : Bool). any_by e ns true l s k r b) is)
    go false x =
        let is : next_in kind (on ns (is_any_prefix true)) s ≡ false = next_any true ns s
        ∙ ap (λ (p : Bool). p || (false && next_in kind (on ns (sign_is sign.Ampersand)) s)) x in
        sym (ap (λ (b : Bool). any_by e ns true l s k r b) is)

constant_law : (e : ℕ) (ns : Names) (l : ℕ) (s : Place) → read e ns (part.Prefixed true) l s
    ≡ mend_then (step_of e ns true false l s) (λ x z. behind_step e ns true x l z)
unfolding run form read one is_next
constant_law e ns l s = by_form e ns (part.Prefixed true) l s (free_constant ns)
    ∙ way_same (next_in kind (on ns (is_prefix true)) s) refl (run_operand e ns true l s)
    ∙ constant_ways e ns l s (λ t z. behind_step e ns true (step.Operator (tree.sign_prefix t)) l z)
    (λ t z. give (tree.one_prefix (tree.sign_prefix t)) (read e ns (part.Prefixed true) l z))
    (mend_then (plain_step e ns true false l s) (λ x z. behind_step e ns true x l z)) (λ t z h. behind_other e ns true (tree.sign_prefix t) l z h)
    ∙ step_go e ns true false l s (λ x z. behind_step e ns true x l z)

value_law : (e : ℕ) (ns : Names) (l : ℕ) (s : Place) → read e ns (part.Prefixed false) l s
    ≡ mend_then (step_of e ns false false l s) (λ x z. behind_step e ns false x l z)
unfolding run form read one is_next
value_law e ns l s = by_form e ns (part.Prefixed false) l s (free_value ns)
    ∙ way_same (next_in kind (on ns (is_prefix false)) s) refl (way_same (next_in kind (on ns (sign_is sign.Ampersand)) s) refl (run_operand e ns false l s))
    ∙ prefix_ways e ns l s (λ t z. behind_step e ns false (step.Operator (tree.sign_prefix t)) l z)
    (λ t z. give (tree.one_prefix (tree.sign_prefix t)) (read e ns (part.Prefixed false) l z))
    (λ t z. give (tree.one_prefix (tree.sign_prefix t)) (read e ns part.Place l z))
    (mend_then (plain_step e ns false false l s) (λ x z. behind_step e ns false x l z))
    (λ t z h. behind_other e ns false (tree.sign_prefix t) l z h) (λ t z h. behind_address e ns false (tree.sign_prefix t) l z h)
    ∙ step_go e ns false false l s (λ x z. behind_step e ns false x l z)

-- 4. Places

free_place : (ns : Names) → Free (form ns part.Place)
unfolding form
free_place ns = free_where (λ t. free_part (λ r. free_give))
    (free_where (λ t. free_part (λ a. free_take (λ n b. refl) (λ s. free_part (λ xs. free_give)))) (free_part (λ a. free_part (λ xs. free_give))))

star_other : (ns : Names) (t : Token) → on ns (sign_is sign.Star) (kind t) ≡ true → is_address (tree.sign_prefix t).prefix ≡ false
star_other ns t h = ap (λ (x : Terminal). is_address (tree.prefix_in x)) (is_sign ns sign.Star t h)

star_go : (e : ℕ) (ns : Names) (l : ℕ) (s : Place) (r : Read (List PrefixOperator × Expr))
    → (if next_in kind (on ns (sign_is sign.Star)) s then give (tree.one_prefix (tree.sign_prefix (taken e l (on ns (sign_is sign.Star)) s).0))
    (read e ns (part.Prefixed false) l (taken e l (on ns (sign_is sign.Star)) s).1) else r)
    ≡ (if next_in kind (on ns (sign_is sign.Star)) s then behind_step e ns false
    (step.Operator (tree.sign_prefix (taken e l (on ns (sign_is sign.Star)) s).0)) l (taken e l (on ns (sign_is sign.Star)) s).1 else r)
star_go e ns l s r = go (next_in kind (on ns (sign_is sign.Star)) s) refl
  where
    go : (b : Bool) → next_in kind (on ns (sign_is sign.Star)) s ≡ b
        → (if b then give (tree.one_prefix (tree.sign_prefix (taken e l (on ns (sign_is sign.Star)) s).0))
        (read e ns (part.Prefixed false) l (taken e l (on ns (sign_is sign.Star)) s).1) else r)
        ≡ (if b then behind_step e ns false (step.Operator (tree.sign_prefix (taken e l (on ns (sign_is sign.Star)) s).0)) l
        (taken e l (on ns (sign_is sign.Star)) s).1 else r)
    go true is = behind_other e ns false (tree.sign_prefix (taken e l (on ns (sign_is sign.Star)) s).0) l (taken e l (on ns (sign_is sign.Star)) s).1
        (star_other ns (taken e l (on ns (sign_is sign.Star)) s).0 (taken_kind e l (on ns (sign_is sign.Star)) s is))
    go false is = refl

place_tail : (e : ℕ) (ns : Names) (a : Expr) (l : ℕ) (s : Place)
    → mend_then (read e ns (part.Suffixes (is_place a) (not (is_place a))) l s) (λ xs z. Some (([], suffixed a xs), z))
    ≡ mend_then (operand_step e ns false true a l s) (λ x z. behind_step e ns false x l z)
place_tail e ns a l s = suffixes_go e ns true a l s (λ x z. behind_step e ns false x l z)

place_law : (e : ℕ) (ns : Names) (l : ℕ) (s : Place) → read e ns part.Place l s ≡ mend_then (step_of e ns false true l s) (λ x z. behind_step e ns false x l z)
unfolding run form read one is_next
place_law e ns l s = by_form e ns part.Place l s (free_place ns)
    ∙ way_same (next_in kind (on ns (sign_is sign.Star)) s) refl
    (way_same (next_in kind (on ns (sign_is sign.OpenParen)) s)
    (let z : Token × Place = taken e (suc l) (on ns (sign_is sign.OpenParen)) s in
    then_same (read e ns (part.Value false) (suc l) z.1) _ _
    (λ a y. place_tail e ns (bracketed (join (words.at z.0) (words.at (taken e l (is_in (set.Sign sign.CloseParen) ns) y).0)) a) l
    (taken e l (is_in (set.Sign sign.CloseParen) ns) y).1)
    ∙ bracket_go e ns false z.0 l z.1 (λ a z. mend_then (operand_step e ns false true a l z) (λ x y. behind_step e ns false x l y))
    ∙ place_bracket_go e ns false z.0 l z.1 (λ x y. behind_step e ns false x l y))
    (then_same (read e ns (part.Primary false) l s) _ _ (λ a z. place_tail e ns a l z))
    ∙ plain_go e ns false true l s (λ x z. behind_step e ns false x l z))
    ∙ star_go e ns l s (mend_then (plain_step e ns false true l s) (λ x z. behind_step e ns false x l z))
    ∙ step_go e ns false true l s (λ x z. behind_step e ns false x l z)

-- 5. By steps

pub operand_law : (e : ℕ) (ns : Names) (c place : Bool) (l : ℕ) (s : Place) → (c ≡ true → place ≡ false)
    → operand_of e ns place c l s ≡ mend_then (step_of e ns c place l s) (λ x z. behind_step e ns c x l z)
operand_law e ns true true l s h = absurd (go (h refl))
  where
    go : true ≡ false → ⊥
    go e = absurd cc
operand_law e ns true false l s h = constant_law e ns l s
operand_law e ns false true l s h = place_law e ns l s
operand_law e ns false false l s h = value_law e ns l s

pub operators_start : (e : ℕ) (ns : Names) (c : Bool) (p : PrefixOperator) (l : ℕ) (s : Place)
    → prefixed_of e ns c p l s ≡ operators_of e ns (p ∷ []) (is_address p.prefix) c l s
unfolding operators_of prefixed_of
operators_start e ns c p l s = refl

-- the operand behind operators and a step
abbrev pub operators_after : ℕ → Names → List PrefixOperator → Bool → Step → ℕ → Place → Read Expr
operators_after e ns ps c (step.Operator p) l s = operators_of e ns (ps ++ p ∷ []) (is_address p.prefix) c l s
operators_after e ns ps c (step.Operand a) l s = Some (prefixed ps a, s)

-- operators before an operand, by a step
abbrev with_operators : List PrefixOperator → Read (List PrefixOperator × Expr) → Read Expr
with_operators ps o = give (λ r. prefixed (ps ++ r.0) r.1) o

go_on : (e : ℕ) (ns : Names) (ps : List PrefixOperator) (c : Bool) (l : ℕ) (x : Step) (z : Place)
    → with_operators ps (behind_step e ns c x l z) ≡ operators_after e ns ps c x l z
unfolding operators_of
go_on e ns ps c l (step.Operator p) z =
    give_twice (λ r. prefixed (ps ++ r.0) r.1) (tree.one_prefix p) (operand_of e ns (is_address p.prefix) c l z)
    ∙ give_same (λ r. prefixed (ps ++ p ∷ r.0) r.1) (λ r. prefixed ((ps ++ p ∷ []) ++ r.0) r.1) (operand_of e ns (is_address p.prefix) c l z)
    (λ r. ap (λ qs. prefixed qs r.1) (sym (append_assoc ps (p ∷ []) r.0)))
go_on e ns ps c l (step.Operand a) z = ap (λ qs. Some (prefixed qs a, z)) (append-nil ps)

pub operators_law : (e : ℕ) (ns : Names) (ps : List PrefixOperator) (place c : Bool) (l : ℕ) (s : Place) → (c ≡ true → place ≡ false)
    → operators_of e ns ps place c l s ≡ mend_then (step_of e ns c place l s) (λ x z. operators_after e ns ps c x l z)
unfolding operators_of
operators_law e ns ps place c l s h =
    ap (λ (o : Read (List PrefixOperator × Expr)). with_operators ps o) (operand_law e ns c place l s h)
    ∙ then_assoc (step_of e ns c place l s) (λ x z. behind_step e ns c x l z) (λ r z. Some (prefixed (ps ++ r.0) r.1, z))
    ∙ then_same (step_of e ns c place l s) _ _ (λ x z. go_on e ns ps c l x z)

pub ruleset operator_laws = (operators_start, operators_law)

-- the operand that a step begins
begins : (e : ℕ) (ns : Names) (c : Bool) (l : ℕ) (x : Step) (z : Place) → give tree.with_prefixes (behind_step e ns c x l z) ≡ value_behind e ns c x l z
unfolding prefixed_of
begins e ns c l (step.Operator p) z = give_twice tree.with_prefixes (tree.one_prefix p) (operand_of e ns (is_address p.prefix) c l z)
begins e ns c l (step.Operand a) z = refl

pub prefixed_law : (e : ℕ) (ns : Names) (c : Bool) (l : ℕ) (s : Place)
    → prefixed_value e ns c l s ≡ mend_then (step_of e ns c false l s) (λ x z. value_behind e ns c x l z)
unfolding prefixed_value
prefixed_law e ns c l s =
    ap (λ (o : Read (List PrefixOperator × Expr)). give tree.with_prefixes o) (operand_law e ns c false l s (λ h. refl))
    ∙ then_assoc (step_of e ns c false l s) (λ x z. behind_step e ns c x l z) (λ r z. Some (tree.with_prefixes r, z))
    ∙ then_same (step_of e ns c false l s) _ _ (λ x z. begins e ns c l x z)
