-- Steps of values by the parsers before and behind them.
use Rattle.std.proofs.Common.{◌≡◌, ◌<◌, ◌≤◌, ℕ, suc, ◌+◌, ◌&&◌, Bool, true, false, if◌then◌else◌, List, Option, Some, None, IfSome}
use Rattle.std.proofs.Common.{refl, sym, ap, ◌∙◌, arith}
use Rattle.mending_readers.specs.Mending.{mend_then}
use Rattle.c_lexer.specs.declared.token.Sign.TheVariants as sign
use Rattle.c_tree.specs.declared.code.Suffix.{Suffix}
use Rattle.c_tree.specs.declared.operators.PrefixOperator.{PrefixOperator}
use Rattle.c_tree.specs.Names.{Names}
use Rattle.c_tree.specs.Words as words
use Rattle.c_grammar.specs.Trees as tree
use Rattle.c_nodes.specs.declared.token.Token.{Token}
use Rattle.c_nodes.specs.Seen.{seen}
use Rattle.c_cursor.specs.declared.parser.Parser.{Parser}
use Rattle.c_cursor.specs.declared.sets.Set.TheVariants as set
use Rattle.c_cursor.specs.Gives.{state}
use Rattle.c_cursor.specs.Reading.{Read, Place, one, is_next, give}
use Rattle.c_cursor.specs.Scopes.{names_of}
use Rattle.c_cursor.specs.Steps.{Took}
use Rattle.c_parser.specs.Pieces.{is_address}
use Rattle.c_parser.specs.Values.{index_behind, index_of, index_option, step_of, operators_of}
use Rattle.c_parser.proofs.PrefixLaws.{constant_address, operators_start, operators_law, operators_after}

pub less_by : (a b c : ℕ) → a < b → c ≤ a → c < b
less_by a b c h g = omega (arith, h, g)

-- where a constant is read, no place is asked for
and_off : (c p : Bool) → (c && p) ≡ false → c ≡ true → p ≡ false
and_off true p h e = h
and_off false p h e = absurd cc

off_and : (c p : Bool) → (c ≡ true → p ≡ false) → (c && p) ≡ false
off_and true p h = h refl
off_and false p h = refl

-- operators before an operand, by a step
pub operators_go : (e : ℕ) (ns : Names) (ps : List PrefixOperator) (place c : Bool) (l : ℕ) (s : Place) → (c && place) ≡ false
    → operators_of e ns ps place c l s ≡ mend_then (step_of e ns c place l s) (λ x z. operators_after e ns ps c x l z)
operators_go e ns ps place c l s h = operators_law e ns ps place c l s (and_off c place h)

pub ruleset operator_steps = (operators_start, operators_go)

-- a sign that was taken before the operand of a constant is not `&`
pub no_address_taken : (c : Bool) (l : ℕ) (p q : Parser) (o : Option Token) → Took (set.Prefix c) l p o q
    → IfSome o (λ t. (c && is_address (tree.sign_prefix (seen t)).prefix) ≡ false)
no_address_taken c l p q None took = tt
no_address_taken c l p q (Some t) took = off_and c (is_address (tree.sign_prefix (seen t)).prefix) (constant_address c false l p q (Some t) (λ e. refl) took)

-- `[`, a value and `]`
option_by : (e : ℕ) (ns : Names) (l : ℕ) (s z y : Place) (t : words.Token) (x : Suffix) → is_next ns (set.Sign sign.OpenBracket) s ≡ true
    → one e ns (set.Sign sign.OpenBracket) (suc l) s ≡ Some (t, z)
    → index_behind e ns t l z ≡ Some (x, y) → index_option e ns l s ≡ Some (Some x, y)
unfolding index_option index_of
option_by e ns l s z y t x is took index =
    ap (λ b. if b then give Some (mend_then (one e ns (set.Sign sign.OpenBracket) (suc l) s) (λ t z. index_behind e ns t l z)) else Some (None, s)) is
    ∙ ap (λ (o : Read words.Token). give Some (mend_then o (λ t z. index_behind e ns t l z))) took
    ∙ ap (λ (o : Read Suffix). give Some o) index

one_up : (l : ℕ) → suc l ≡ l + 1
one_up l = omega arith

pub index_taken : (l : ℕ) (p q : Parser) (y : Place) (t : Token) (x : Suffix) → Took (set.Sign sign.OpenBracket) (l + 1) p (Some t) q
    → q.names ≡ p.names → q.end ≡ p.end
    → index_behind q.end (names_of q.names) (seen t) l (state q) ≡ Some (x, y) → index_option p.end (names_of p.names) l (state p) ≡ Some (Some x, y)
index_taken l p q y t x took names ends index =
    option_by p.end (names_of p.names) l (state p) (state q) y (seen t) x took.0
    (ap (λ n. one p.end (names_of p.names) (set.Sign sign.OpenBracket) n (state p)) (one_up l) ∙ took.1)
    (sym (ap (λ e. index_behind e (names_of q.names) (seen t) l (state q)) ends
    ∙ ap (λ ns. index_behind p.end (names_of ns) (seen t) l (state q)) names) ∙ index)
