-- What is left behind what was read.
use Rattle.std.proofs.Common.{◌≡◌, ℕ, suc, ◌<◌, ◌≤◌, Bool, true, false, List, [], ◌∷◌, length, Ok, Err, refl, sym, subst, ◌∙◌, nat_lt, if◌then◌else◌, arith}
use Rattle.predictive_grammar.specs.Steps.{Outcome, Parser, and_then, ◌>>=◌, pure}
use Rattle.predictive_grammar.proofs.Sound as sound
use Rattle.predictive_grammar.proofs.Law as steps
use Rattle.vala_lexer.specs.Tokens.{Lexeme}
use Rattle.vala_tree.specs.declared.code.Expr.{Expr}
use Rattle.vala_tree.specs.declared.code.Label.{Label as CaseLabel}
use Rattle.vala_tree.specs.declared.code.Catch.{Catch}
use Rattle.vala_tree.specs.declared.code.Declarator.{Declarator}
use Rattle.vala_grammar.specs.declared.sort.Sort.{Sort}
use Rattle.vala_grammar.specs.declared.sort.Sort.TheVariants as s
use Rattle.vala_grammar.specs.declared.parts.Ended.{Ended}
use Rattle.vala_grammar.specs.Parts as p
use Rattle.vala_grammar.specs.Parts.{Part, tree_of}
use Rattle.vala_grammar.specs.Grammar.{G, forms}
use Rattle.vala_grammar.specs.Tables.{tables}
use Rattle.vala_grammar.specs.Tests.{is}
use Rattle.vala_grammar.specs.Answer.{limits}
use Rattle.vala_grammar.specs.Read.{vala_reader}
use Rattle.vala_grammar.proofs.Predictive.{predictive}
use Rattle.vala_cursor.specs.Gets.{one, next}
use Rattle.vala_grammar.specs.Label.{Label}
use Rattle.vala_expressions.proofs.Progress.{got_moves}
use Rattle.vala_parse_expr.specs.declared.if_chain.Head.{Head}
use Rattle.vala_parse_expr.specs.declared.if_chain.Behind.{Behind}
use Rattle.vala_parse_expr.specs.declared.if_chain.Behind.TheVariants as behind
use Rattle.vala_parse_expr.specs.Statements.{test_in, head_of, behind_else}

-- a part that has tokens takes some
moves : (q : Part) (l : ℕ) (i : List Lexeme) (a : tree_of q) (r : List Lexeme) → (tables.none q a → ⊥) → vala_reader q l i ≡ Ok (a, r) → length r < length i
moves q l i a r null e = steps.strict G forms tables predictive q l i a r null
    (subst (λ (o : Outcome Label Lexeme (tree_of q)). sound.Told G forms q (forms q) l i o) e (sound.reader_told G forms tables.top tables.rank limits q l i))

pub statement_moves : (l : ℕ) (i : List Lexeme) (a : Ended) (r : List Lexeme) → vala_reader p.AnyStmt l i ≡ Ok (a, r) → length r < length i
statement_moves l i a r e = moves p.AnyStmt l i a r (λ x. x) e

pub label_moves : (l : ℕ) (i : List Lexeme) (a : CaseLabel) (r : List Lexeme) → vala_reader p.AnyLabel l i ≡ Ok (a, r) → length r < length i
label_moves l i a r e = moves p.AnyLabel l i a r (λ x. x) e

pub catch_moves : (l : ℕ) (i : List Lexeme) (a : Catch) (r : List Lexeme) → vala_reader p.CatchOf l i ≡ Ok (a, r) → length r < length i
catch_moves l i a r e = moves p.CatchOf l i a r (λ x. x) e

pub whole_moves : (l : ℕ) (i : List Lexeme) (a : Expr) (r : List Lexeme) → vala_reader p.Whole l i ≡ Ok (a, r) → length r < length i
whole_moves l i a r e = moves p.Whole l i a r (λ x. x) e

pub local_moves : (l : ℕ) (i : List Lexeme) (a : Declarator) (r : List Lexeme) → vala_reader p.OneLocal l i ≡ Ok (a, r) → length r < length i
local_moves l i a r e = moves p.OneLocal l i a r (λ x. x) e

-- ---- what stands behind `else`

-- no more tokens are left, unless a fault was found
abbrev AtMost : {A : Type 0} → List Lexeme → Outcome Label Lexeme A → Type 0
AtMost i (Ok x) = length x.1 ≤ length i
AtMost i (Err e) = Unit {0}

-- a parser that adds no tokens
abbrev Takes : {A : Type 0} → Parser Label Lexeme A → Type 0
Takes reads = (i : List Lexeme) → AtMost i (reads i)

takes_then : {A B : Type 0} (reads : Parser Label Lexeme A) (f : A → Parser Label Lexeme B) → Takes reads → ((a : A) → Takes (f a)) → Takes (reads >>= f)
takes_then {A} {B} reads f first more i = go (reads i) (first i)
  where
    join : (k : List Lexeme) (o : Outcome Label Lexeme B) → length k ≤ length i → AtMost k o → AtMost i o
    join k (Ok y) less even_less = omega arith
    join k (Err e) less even_less = tt

    go : (o : Outcome Label Lexeme A) → AtMost i o → AtMost i (and_then o f)
    go (Ok x) less = join x.1 (f x.0 x.1) less (more x.0 x.1)
    go (Err e) less = tt

takes_pure : {A : Type 0} (a : A) → Takes {A = A} (λ i. Ok (a, i))
takes_pure a i = omega arith

takes_one : (x : Sort) (l : ℕ) → Takes (one x l)
takes_one x l i = go (one x l i) refl
  where
    go : (o : Outcome Label Lexeme Lexeme) → one x l i ≡ o → AtMost i o
    go (Ok t) e = let less : length t.1 < length i = got_moves (is x) 0 l i t.0 t.1 e in omega arith
    go (Err f) e = tt

takes_part : (q : Part) (l : ℕ) → ((a : tree_of q) → tables.none q a → ⊥) → Takes (vala_reader q l)
takes_part q l null i = go (vala_reader q l i) refl
  where
    go : (o : Outcome Label Lexeme (tree_of q)) → vala_reader q l i ≡ o → AtMost i o
    go (Ok x) e = let less : length x.1 < length i = moves q l i x.0 x.1 (null x.0) e in omega arith
    go (Err f) e = tt

takes_test : (l : ℕ) → Takes (test_in l)
unfolding test_in
takes_test l = takes_then (one s.OpenParen l) (λ o. vala_reader p.Whole (suc l) >>= λ c. one s.CloseParen (suc l) >>= λ q. pure c) (takes_one s.OpenParen l)
    (λ o. takes_then (vala_reader p.Whole (suc l)) (λ c. one s.CloseParen (suc l) >>= λ q. pure c) (takes_part p.Whole (suc l) (λ a x. x))
    (λ c. takes_then (one s.CloseParen (suc l)) (λ q. pure c) (takes_one s.CloseParen (suc l)) (λ q. takes_pure c)))

abbrev head_from : Expr → Ended → Head
head_from c a = record { test = c; yes = a }

takes_head : (l : ℕ) → Takes (head_of l)
unfolding head_of
takes_head l = takes_then (test_in l) (λ c. vala_reader p.Body l >>= λ a. pure (head_from c a)) (takes_test l)
    (λ c. takes_then (vala_reader p.Body l) (λ a. pure (head_from c a)) (takes_part p.Body l (λ a x. x)) (λ a. takes_pure (head_from c a)))

takes_behind : (l : ℕ) → Takes (behind_else l)
unfolding behind_else
takes_behind l i = go (next (is s.If) i)
  where
    chained : Takes (one s.If l >>= λ t. head_of l >>= λ h. pure (behind.Chained h))
    chained = takes_then (one s.If l) (λ t. head_of l >>= λ h. pure (behind.Chained h)) (takes_one s.If l)
        (λ t. takes_then (head_of l) (λ h. pure (behind.Chained h)) (takes_head l) (λ h. takes_pure (behind.Chained h)))

    last : Takes (vala_reader p.Body l >>= λ b. pure (behind.Last b))
    last = takes_then (vala_reader p.Body l) (λ b. pure (behind.Last b)) (takes_part p.Body l (λ a x. x)) (λ b. takes_pure (behind.Last b))

    go : (c : Bool)
        → AtMost i (if c then and_then (one s.If l i) (λ t. head_of l >>= λ h. pure (behind.Chained h)) else and_then (vala_reader p.Body l i) (λ b. pure (behind.Last b)))
    go true = chained i
    go false = last i

pub behind_takes : (l : ℕ) (i : List Lexeme) (b : Behind) (r : List Lexeme) → behind_else l i ≡ Ok (b, r) → length r ≤ length i
behind_takes l i b r e = subst (λ (o : Outcome Label Lexeme Behind). AtMost i o) e (takes_behind l i)

pub ruleset chain_moves = (got_moves, behind_takes)
