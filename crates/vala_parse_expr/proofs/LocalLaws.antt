-- Declarations of locals by their steps.
use Rattle.std.proofs.Common.{◌≡◌, ℕ, suc, Bool, true, false, List, [], ◌∷◌, ◌++◌, length, if◌then◌else◌, Option, Some, None, Ok, Err, refl, sym, ap, ◌∙◌}
use Rattle.predictive_grammar.specs.Steps.{Outcome, Parser, and_then, ◌>>=◌, pure}
use Rattle.predictive_grammar.specs.Reading.{walk}
use Rattle.vg_base.specs.declared.event.Span.{Span}
use Rattle.vala_lexer.specs.Tokens.{Lexeme}
use Rattle.vala_tree.specs.declared.names.NameTree.{NameTree}
use Rattle.vala_tree.specs.declared.names.TypeTree.{TypeTree}
use Rattle.vala_tree.specs.declared.code.Expr.{Expr}
use Rattle.vala_tree.specs.declared.code.Declarator.{Declarator}
use Rattle.vala_tree.specs.declared.code.DeclaredType.{DeclaredType}
use Rattle.vala_tree.specs.declared.code.DeclaredType.TheVariants as declared
use Rattle.vala_grammar.specs.declared.sort.Sort.TheVariants as s
use Rattle.vala_grammar.specs.declared.parts.Beginning.TheVariants as beginning
use Rattle.vala_grammar.specs.declared.parts.Opening.TheVariants as opening
use Rattle.vala_grammar.specs.declared.parts.Context.TheVariants as context
use Rattle.vala_grammar.specs.Parts as p
use Rattle.vala_grammar.specs.Parts.{Part, tree_of}
use Rattle.vala_grammar.specs.Grammar.{G, forms, begins, written}
use Rattle.vala_grammar.specs.Trees as tree
use Rattle.vala_grammar.specs.Tests.{is, is_ownership, is_type_sign}
use Rattle.vala_grammar.specs.Read.{vala_reader}
use Rattle.vala_cursor.specs.Ahead.{reads}
use Rattle.vala_cursor.specs.Gets.{got, one, next, way, leave}
use Rattle.vala_parse_expr.specs.Statements.{plain_form}
use Rattle.vala_grammar.proofs.Readers.{reader_unfolds}

pub begin_law : (l : ℕ) (i : List Lexeme) → vala_reader p.Begin l i
    ≡ way (is s.Var) (one s.Var l >>= λ t. vala_reader (p.Locals (declared.Var, t.span)) l >>= pure)
    (way is_ownership (got is_ownership 0 l >>= λ o. vala_reader (p.TypeBody (Some o)) l >>= λ y. reads (written y) l)
    (way (is s.Void) (one s.Void l >>= λ t. reads (written (tree.void_type None t)) l) (reads plain_form l))) i
unfolding walk forms got
begin_law l i = reader_unfolds p.Begin l i

pub plain_law : (l : ℕ) (i : List Lexeme) → reads plain_form l i
    ≡ way (is s.Identifier) (vala_reader (p.OpeningName context.Statement) l >>= λ r. reads (begins r) l)
    (way (is s.Slash) leave (vala_reader p.Immediate l >>= λ e. pure (beginning.Expression e))) i
unfolding walk got
plain_law l i = refl

pub begins_value : (e : Expr) (l : ℕ) (i : List Lexeme) → reads (begins (opening.Value e)) l i ≡ Ok (beginning.Expression e, i)
unfolding walk
begins_value e l i = refl

pub begins_names : (n : NameTree) (l : ℕ) (i : List Lexeme) → reads (begins (opening.Names n)) l i
    ≡ way (is s.Identifier) (vala_reader (p.Locals (declared.Written (tree.single_type None n None), n.span)) l >>= pure) (pure (beginning.Expression (tree.names n))) i
unfolding walk
begins_names n l i = refl

pub written_law : (y : TypeTree) (l : ℕ) (i : List Lexeme) → reads (written y) l i ≡ way is_type_sign leave (vala_reader (p.Locals (declared.Written y, y.span)) l >>= pure) i
unfolding walk
written_law y l i = refl

pub locals_law : (y : DeclaredType × Span) (l : ℕ) (i : List Lexeme) → vala_reader (p.Locals y) l i ≡ (vala_reader p.OneLocal l >>= λ d. vala_reader (p.MoreLocals y (d ∷ [])) l >>= pure) i
unfolding walk forms
locals_law y l i = reader_unfolds (p.Locals y) l i

pub more_locals_law : (y : DeclaredType) (x : Span) (ds : List Declarator) (l : ℕ) (i : List Lexeme) → vala_reader (p.MoreLocals (y, x) ds) l i
    ≡ way (is s.Comma) (one s.Comma l >>= λ t. vala_reader p.OneLocal l >>= λ d. vala_reader (p.MoreLocals (y, x) (ds ++ d ∷ [])) l >>= pure) (pure (tree.declared_locals y x ds)) i
unfolding walk forms got
more_locals_law y x ds l i = reader_unfolds (p.MoreLocals (y, x) ds) l i

pub one_local_law : (l : ℕ) (i : List Lexeme) → vala_reader p.OneLocal l i
    ≡ (one s.Identifier l >>= λ t. way (is s.Assign) (one s.Assign l >>= λ a. vala_reader p.Init l >>= λ e. pure (tree.declarator_with t e)) (pure (tree.declarator t))) i
unfolding walk forms got
one_local_law l i = reader_unfolds p.OneLocal l i
