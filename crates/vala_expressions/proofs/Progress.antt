-- What is left behind what was read.
use Rattle.std.proofs.Common.{◌≡◌, ℕ, suc, ◌<◌, Bool, List, [], ◌∷◌, ◌++◌, length, Ok, Err, refl, subst, arith}
use Rattle.predictive_grammar.specs.Steps.{Outcome, and_then, pure}
use Rattle.predictive_grammar.proofs.Sound as sound
use Rattle.predictive_grammar.proofs.Law as steps
use Rattle.predictive_grammar.proofs.Taking.{Expected, expected, other, high, many, comes}
use Rattle.vala_lexer.specs.Tokens.{Lexeme}
use Rattle.vala_tree.specs.declared.code.Expr.{Expr}
use Rattle.vala_tree.specs.declared.names.Identifier.{Identifier}
use Rattle.vala_grammar.specs.declared.sort.Sort.{Sort}
use Rattle.vala_grammar.specs.declared.sort.Sort.TheVariants as s
use Rattle.vala_grammar.specs.Parts as p
use Rattle.vala_grammar.specs.Parts.{Part, tree_of}
use Rattle.vala_grammar.specs.Grammar.{G, forms}
use Rattle.vala_grammar.specs.Tables.{tables}
use Rattle.vala_grammar.specs.Answer.{limits}
use Rattle.vala_grammar.specs.Tests.{is}
use Rattle.vala_grammar.specs.Trees as tree
use Rattle.vala_grammar.specs.Read.{vala_reader}
use Rattle.vala_grammar.proofs.Predictive.{predictive}
use Rattle.vala_cursor.specs.Gets.{got}
use Rattle.vala_expressions.specs.Brackets.{one_more_parameter}
use Rattle.vala_grammar.specs.Label.{Label}

-- a part that has tokens takes some
moves : (q : Part) (l : ℕ) (i : List Lexeme) (a : tree_of q) (r : List Lexeme) → (tables.none q a → ⊥) → vala_reader q l i ≡ Ok (a, r) → length r < length i
moves q l i a r null e = steps.strict G forms tables predictive q l i a r null
    (subst (λ (o : Outcome Label Lexeme (tree_of q)). sound.Told G forms q (forms q) l i o) e (sound.reader_told G forms tables.top tables.rank limits q l i))

pub whole_moves : (l : ℕ) (i : List Lexeme) (a : Expr) (r : List Lexeme) → vala_reader p.Whole l i ≡ Ok (a, r) → length r < length i
whole_moves l i a r e = moves p.Whole l i a r (λ x. x) e

-- fewer tokens are left, unless a fault was found
abbrev Fewer : {A : Type 0} → List Lexeme → Outcome Label Lexeme A → Type 0
Fewer i (Ok x) = length x.1 < length i
Fewer i (Err e) = Unit {0}

-- a token that is taken is no longer left
pub got_moves : (test : Sort → Bool) (items l : ℕ) (i : List Lexeme) (t : Lexeme) (r : List Lexeme) → got test items l i ≡ Ok (t, r) → length r < length i
unfolding got
got_moves test items l i t r e = subst (λ (o : Outcome Label Lexeme Lexeme). Fewer i o) e (go i _ (expected G limits l items test i))
  where
    go : (i : List Lexeme) (o : Outcome Label Lexeme Lexeme) → Expected G limits l items test i o → Fewer i o
    go _ _ (other _) = tt
    go _ _ (high _ _) = tt
    go _ _ (many _ _ _) = tt
    go _ _ (comes {t = t} {ts = ts} _ _ _) = omega arith

pub ruleset list_moves = (got_moves, whole_moves)

-- what is made of what was read leaves as much
made : {A B : Type 0} (k : A → B) (i : List Lexeme) (o : Outcome Label Lexeme A) → ((a : A) (r : List Lexeme) → o ≡ Ok (a, r) → length r < length i) → Fewer i (and_then o (λ a. pure (k a)))
made k i (Ok x) moved = moved x.0 x.1 refl
made k i (Err e) moved = tt

-- a parameter that is read is no longer left
pub parameter_moves : (xs : List Identifier) (l : ℕ) (i : List Lexeme) (ys : List Identifier) (r : List Lexeme) → one_more_parameter xs l i ≡ Ok (ys, r) → length r < length i
parameter_moves xs l i ys r e = subst (λ (o : Outcome Label Lexeme (List Identifier)). Fewer i o) e
    (made (λ (t : Lexeme). xs ++ tree.identifier t ∷ []) i (got (is s.Identifier) 0 l i) (λ t r h. got_moves (is s.Identifier) 0 l i t r h))
