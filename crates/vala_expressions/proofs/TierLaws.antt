-- The operators up to a tier and the operands of a tier, by the next tighter tier.
use Rattle.std.proofs.Common.{◌≡◌, ℕ, List, Option, Some, None, Result, Ok, Err, refl, sym, ap, subst, ◌∙◌}
use Rattle.predictive_grammar.specs.Steps.{Outcome, Parser, and_then, ◌>>=◌, pure}
use Rattle.vala_lexer.specs.Tokens.{Lexeme}
use Rattle.vala_grammar.specs.Label.{Label}
use Rattle.vala_grammar.specs.Parts as p
use Rattle.vala_grammar.specs.Read.{vala_reader}
use Rattle.vala_grammar.specs.Tests.{tighter}
use Rattle.vala_grammar.specs.declared.parts.Chain.{Chain}
use Rattle.vala_grammar.specs.declared.parts.Signs.TheVariants as signs
use Rattle.vala_grammar.specs.declared.parts.Tier.{Tier}
use Rattle.vala_cursor.specs.Gets.{Gets}
use Rattle.vala_cursor.specs.declared.stop.Stop.{Stop}
use Rattle.vala_cursor.specs.declared.stop.Stop.TheVariants.{Memory, Flawed}
use Rattle.vala_cursor.proofs.Steps.{just}
use Rattle.vala_expressions.proofs.ChainLaws.{operand_tightest, operand_looser, upto_looser}

-- behind the operators of the tighter tiers come those of the tier
pub upto_joined : (d : ℕ) (t u : Tier) (c e : Chain) (l : ℕ) (i j : List Lexeme) → tighter t ≡ Some u → vala_reader (p.Upto d u c) l i ≡ Ok (e, j)
    → vala_reader (p.Upto d t c) l i ≡ vala_reader (p.Rest d t e) l j
upto_joined d t u c e l i j tight h =
    upto_looser d t u c l i tight
    ∙ ap (λ (o : Outcome Label Lexeme Chain). and_then o (λ a. vala_reader (p.Rest d t a) l >>= pure)) h
    ∙ just (vala_reader (p.Rest d t e) l j)

-- what the operators of the tier give is what those up to it give
pub upto_further : (d : ℕ) (t u : Tier) (c e : Chain) (l : ℕ) (i j k : List Lexeme) (r : Result Chain Stop) → tighter t ≡ Some u
    → vala_reader (p.Upto d u c) l i ≡ Ok (e, j) → Gets (vala_reader (p.Rest d t e) l j) r k → Gets (vala_reader (p.Upto d t c) l i) r k
upto_further d t u c e l i j k r tight h = subst (λ (o : Outcome Label Lexeme Chain). Gets o r k) (sym (upto_joined d t u c e l i j tight h))

-- what stops the tighter tiers stops the tier
pub upto_stops : (d : ℕ) (t u : Tier) (c : Chain) (l : ℕ) (i k : List Lexeme) (s : Stop) → tighter t ≡ Some u
    → Gets {A = Chain} (vala_reader (p.Upto d u c) l i) (Err s) k → Gets {A = Chain} (vala_reader (p.Upto d t c) l i) (Err s) k
upto_stops d t u c l i k Memory tight h = tt
upto_stops d t u c l i k (Flawed f) tight h =
    upto_looser d t u c l i tight ∙ ap (λ (o : Outcome Label Lexeme Chain). and_then o (λ a. vala_reader (p.Rest d t a) l >>= pure)) h

-- what stands behind a tier's first operand
abbrev pub operand_by : ℕ → Option Tier → Chain → ℕ → Parser Label Lexeme Chain
operand_by d None c l = pure c
operand_by d (Some u) c l = vala_reader (p.Upto d u c) l >>= pure

pub operand_law : (d : ℕ) (t : Tier) (l : ℕ) (i : List Lexeme) → vala_reader (p.Operand d t) l i ≡ (vala_reader (p.Prefix signs.All) l >>= λ c. operand_by d (tighter t) c l) i
operand_law d t l i = go (tighter t) refl
  where
    go : (o : Option Tier) → tighter t ≡ o → vala_reader (p.Operand d t) l i ≡ (vala_reader (p.Prefix signs.All) l >>= λ c. operand_by d o c l) i
    go None e = operand_tightest d t l i e
    go (Some u) e = operand_looser d t u l i e
