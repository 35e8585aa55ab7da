-- Further locals where what is next ends them.
use Rattle.std.proofs.Common.{◌≡◌, ℕ, true, false, List, [], ◌∷◌, ◌++◌, Ok, Err, ap, ◌∙◌}
use Rattle.predictive_grammar.specs.Steps.{Fault, Outcome, Parser, and_then, ◌>>=◌, pure}
use Rattle.vg_base.specs.declared.event.Span.{Span}
use Rattle.vala_lexer.specs.Tokens.{Lexeme}
use Rattle.vala_tree.specs.declared.code.Declarator.{Declarator}
use Rattle.vala_tree.specs.declared.code.DeclaredType.{DeclaredType}
use Rattle.vala_grammar.specs.declared.sort.Sort.TheVariants as s
use Rattle.vala_grammar.specs.declared.parts.Beginning.{Beginning}
use Rattle.vala_grammar.specs.Label.{Label}
use Rattle.vala_grammar.specs.Parts as p
use Rattle.vala_grammar.specs.Tests.{is}
use Rattle.vala_grammar.specs.Trees as tree
use Rattle.vala_grammar.specs.Read.{vala_reader}
use Rattle.vala_cursor.specs.Gets.{one, next}
use Rattle.vala_cursor.proofs.Steps.{first_way, other_way}
use Rattle.vala_parse_expr.proofs.LocalLaws.{more_locals_law}

-- what follows a local
abbrev behind_local : DeclaredType → Span → List Declarator → ℕ → Declarator → Parser Label Lexeme Beginning
behind_local y x ds l d = vala_reader (p.MoreLocals (y, x) (ds ++ d ∷ [])) l >>= pure

-- what follows a comma
abbrev behind_comma : DeclaredType → Span → List Declarator → ℕ → Lexeme → Parser Label Lexeme Beginning
behind_comma y x ds l t = vala_reader p.OneLocal l >>= behind_local y x ds l

pub locals_end : (y : DeclaredType) (x : Span) (ds : List Declarator) (l : ℕ) (i : List Lexeme) → next (is s.Comma) i ≡ false
    → vala_reader (p.MoreLocals (y, x) ds) l i ≡ Ok (tree.declared_locals y x ds, i)
locals_end y x ds l i e = more_locals_law y x ds l i ∙ other_way (next (is s.Comma) i) _ _ e

pub locals_no_comma : (y : DeclaredType) (x : Span) (ds : List Declarator) (l : ℕ) (i : List Lexeme) (f : Fault Label × List Lexeme) → next (is s.Comma) i ≡ true
    → one s.Comma l i ≡ Err f → vala_reader (p.MoreLocals (y, x) ds) l i ≡ Err f
locals_no_comma y x ds l i f e g = more_locals_law y x ds l i ∙ first_way (next (is s.Comma) i) _ _ e ∙ ap (λ (o : Outcome Label Lexeme Lexeme). and_then o (behind_comma y x ds l)) g

pub locals_no_local : (y : DeclaredType) (x : Span) (ds : List Declarator) (l : ℕ) (i j : List Lexeme) (t : Lexeme) (f : Fault Label × List Lexeme) → next (is s.Comma) i ≡ true
    → one s.Comma l i ≡ Ok (t, j) → vala_reader p.OneLocal l j ≡ Err f → vala_reader (p.MoreLocals (y, x) ds) l i ≡ Err f
locals_no_local y x ds l i j t f e g h = more_locals_law y x ds l i ∙ first_way (next (is s.Comma) i) _ _ e ∙ ap (λ (o : Outcome Label Lexeme Lexeme). and_then o (behind_comma y x ds l)) g
    ∙ ap (λ (o : Outcome Label Lexeme Declarator). and_then o (behind_local y x ds l)) h

pub ruleset more_locals_laws = (more_locals_law, locals_end, locals_no_comma, locals_no_local)
