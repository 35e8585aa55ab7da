-- What follows an operand by its steps.
use Rattle.std.proofs.Common.{◌≡◌, ℕ, suc, Bool, true, false, ◌&&◌, ◌||◌, List, [], ◌∷◌, if◌then◌else◌, Ok, Err, refl, ap, ◌∙◌}
use Rattle.predictive_grammar.specs.Forms.{give}
use Rattle.predictive_grammar.specs.Steps.{Outcome, Parser, LeftOut, and_then, ◌>>=◌, pure}
use Rattle.predictive_grammar.specs.Reading.{walk}
use Rattle.vala_lexer.specs.Tokens.{Lexeme}
use Rattle.vala_tree.specs.declared.code.Expr.{Expr}
use Rattle.vala_grammar.specs.declared.sort.Sort.{Sort}
use Rattle.vala_grammar.specs.declared.sort.Sort.TheVariants as s
use Rattle.vala_grammar.specs.declared.parts.Chain.{Chain}
use Rattle.vala_grammar.specs.declared.parts.Last.{Last}
use Rattle.vala_grammar.specs.Parts as p
use Rattle.vala_grammar.specs.Grammar.{forms}
use Rattle.vala_grammar.specs.Read.{vala_reader}
use Rattle.vala_grammar.specs.Tests.{is, is_plain}
use Rattle.vala_grammar.specs.Trees as tree
use Rattle.vala_grammar.proofs.Readers.{reader_unfolds}
use Rattle.vala_cursor.specs.Gets.{got, leave, next, one, way}
use Rattle.vala_cursor.proofs.Steps.{after_one, after_two}
use Rattle.vala_expressions.specs.Chains.{links, one_link}
use Rattle.vala_expressions.proofs.ChainLaws.{by_if}
use Rattle.vala_grammar.specs.Label.{Label}

-- what is read in three steps before the last of which nothing may be left out
after_bar : {A B C D E : Type 0} (p : Parser Label Lexeme A) (q : Parser Label Lexeme B) (f : Sort → Bool) (r : Parser Label Lexeme C) (k : B → C → D) (h : D → Parser Label Lexeme E) (i : List Lexeme)
    → (p >>= λ a. q >>= λ b. way f leave (r >>= λ c. h (k b c))) i ≡ ((p >>= λ a. q >>= λ b. way f leave (r >>= λ c. pure (k b c))) >>= h) i
after_bar {A = A} {B = B} {C = C} p q f r k h i = go (p i)
  where
    third : (b : B) (o : Outcome Label Lexeme C) → and_then o (λ c. h (k b c)) ≡ and_then (and_then o (λ c. pure (k b c))) h
    third b (Ok x) = refl
    third b (Err e) = refl

    barred : (b : B) (bad : Bool) (j : List Lexeme) → (if bad then leave j else (r >>= λ c. h (k b c)) j) ≡ and_then (if bad then leave j else (r >>= λ c. pure (k b c)) j) h
    barred b true j = refl
    barred b false j = third b (r j)

    second : (o : Outcome Label Lexeme B) → and_then o (λ b. way f leave (r >>= λ c. h (k b c))) ≡ and_then (and_then o (λ b. way f leave (r >>= λ c. pure (k b c)))) h
    second (Ok x) = barred x.0 (next f x.1) x.1
    second (Err e) = refl

    go : (o : Outcome Label Lexeme A) → and_then o (λ a. q >>= λ b. way f leave (r >>= λ c. h (k b c))) ≡ and_then (and_then o (λ a. q >>= λ b. way f leave (r >>= λ c. pure (k b c)))) h
    go (Ok x) = second (q x.1)
    go (Err e) = refl

-- four ways under one test, the last of which stands under another
join_ways : {A B : Type 0} (a b c plain d : Bool) (x y z w : Outcome Label Lexeme A) (h : A → Parser Label Lexeme B) (x1 y1 z1 w1 none : Outcome Label Lexeme B)
    → x1 ≡ and_then x h → y1 ≡ and_then y h → z1 ≡ and_then z h → w1 ≡ and_then w h
    → (if a then x1 else if b then y1 else if c then z1 else if plain then (if d then w1 else none) else none)
    ≡ (if a || (b || (c || (plain && d))) then and_then (if a then x else if b then y else if c then z else w) h else none)
join_ways true b c plain d x y z w h x1 y1 z1 w1 none e f g k = e
join_ways false true c plain d x y z w h x1 y1 z1 w1 none e f g k = f
join_ways false false true plain d x y z w h x1 y1 z1 w1 none e f g k = g
join_ways false false false true true x y z w h x1 y1 z1 w1 none e f g k = k
join_ways false false false true false x y z w h x1 y1 z1 w1 none e f g k = refl
join_ways false false false false d x y z w h x1 y1 z1 w1 none e f g k = refl

next_link : (l : Last) (i : List Lexeme) → (next (is s.Dot) i || (next (is s.OpenBracket) i || (next (is s.Step) i || (is_plain l && next (is s.OpenParen) i)))) ≡ next (links l) i
next_link l [] = go (is_plain l)
  where
    go : (b : Bool) → (false || (false || (false || (b && false)))) ≡ false
    go true = refl
    go false = refl
next_link l (t ∷ ts) = refl

pub suffix_law : (c : Chain) (l : ℕ) (i : List Lexeme) → vala_reader (p.Suffix c) l i
    ≡ way (links c.last) (one_link c.value l >>= λ e. vala_reader (p.Suffix e) (suc l) >>= pure) (pure c) i
unfolding walk forms got
suffix_law c l i =
    let h : Chain → Parser Label Lexeme Chain = λ e. vala_reader (p.Suffix e) (suc l) >>= pure in
    reader_unfolds (p.Suffix c) l i
    ∙ ap (λ (o : Outcome Label Lexeme Chain). if next (is s.Dot) i then (one s.Dot l >>= λ d. one s.Identifier l >>= λ t. h (tree.plain (tree.member c.value (tree.identifier t)))) i
    else if next (is s.OpenBracket) i then (one s.OpenBracket l >>= λ b. vala_reader p.Whole (suc l) >>= λ x. way (is s.Colon) leave (one s.CloseBracket (suc l) >>= λ k. h (tree.plain (tree.index c.value x k)))) i
    else if next (is s.Step) i then (one s.Step l >>= λ t. h (tree.plain (tree.step c.value t))) i else o) (by_if {r = p.Suffix c} (is_plain c.last) _ (give c) l i)
    ∙ join_ways (next (is s.Dot) i) (next (is s.OpenBracket) i) (next (is s.Step) i) (is_plain c.last) (next (is s.OpenParen) i) _ _ _ _ h _ _ _ _ (Ok (c, i))
    (after_two (one s.Dot l) (λ d. one s.Identifier l) (λ d t. tree.plain (tree.member c.value (tree.identifier t))) h i)
    (after_bar (one s.OpenBracket l) (vala_reader p.Whole (suc l)) (is s.Colon) (one s.CloseBracket (suc l)) (λ x k. tree.plain (tree.index c.value x k)) h i)
    (after_one (one s.Step l) (λ t. tree.plain (tree.step c.value t)) h i)
    (after_two (one s.OpenParen l) (λ o. vala_reader p.Args (suc l)) (λ o xs. tree.plain (tree.call c.value xs)) h i)
    ∙ ap (λ (b : Bool). if b then and_then (one_link c.value l i) h else Ok (c, i)) (next_link c.last i)
