-- Names and types by their steps.
use Rattle.std.proofs.Common.{◌≡◌, ℕ, suc, Bool, List, if◌then◌else◌, Option, Some, None, Ok, refl, ◌∙◌}
use Rattle.predictive_grammar.specs.Steps.{Outcome, Parser, LeftOut, and_then, ◌>>=◌, pure, fail}
use Rattle.predictive_grammar.specs.Reading.{walk}
use Rattle.vg_base.specs.declared.event.Span.{Span}
use Rattle.vala_lexer.specs.Tokens.{Lexeme}
use Rattle.vala_tree.specs.declared.names.NameTree.{NameTree}
use Rattle.vala_grammar.specs.declared.sort.Sort.TheVariants as s
use Rattle.vala_grammar.specs.declared.parts.TypeName.TheVariants as type_name
use Rattle.vala_grammar.specs.Parts as p
use Rattle.vala_grammar.specs.Grammar.{G, forms, type_behind}
use Rattle.vala_grammar.specs.Trees as tree
use Rattle.vala_grammar.specs.Tests.{is, is_ownership}
use Rattle.vala_cursor.specs.Ahead.{reads}
use Rattle.vala_cursor.specs.Gets.{got, one, way, leave}
use Rattle.vala_grammar.specs.Read.{vala_reader}
use Rattle.vala_grammar.proofs.Readers.{reader_unfolds}

pub name_law : (l : ℕ) (i : List Lexeme) → vala_reader p.Name l i ≡ (one s.Identifier l >>= λ t. vala_reader (p.NameMore (tree.one_word t)) l >>= pure) i
unfolding walk forms got
name_law l i = reader_unfolds p.Name l i

pub name_more_law : (n : NameTree) (l : ℕ) (i : List Lexeme) → vala_reader (p.NameMore n) l i
    ≡ way (is s.Dot) (one s.Dot l >>= λ d. one s.Identifier l >>= λ t. vala_reader (p.NameMore (tree.one_more_word n t)) (suc l) >>= pure) (pure n) i
unfolding walk forms got
name_more_law n l i = reader_unfolds (p.NameMore n) l i

pub any_type_law : (l : ℕ) (i : List Lexeme) → vala_reader p.AnyType l i
    ≡ way is_ownership (got is_ownership 0 l >>= λ o. vala_reader (p.TypeBody (Some o)) l >>= pure) (vala_reader (p.TypeBody None) l >>= pure) i
unfolding walk forms got
any_type_law l i = reader_unfolds p.AnyType l i

pub type_body_law : (o : Option Lexeme) (l : ℕ) (i : List Lexeme) → vala_reader (p.TypeBody o) l i
    ≡ way (is s.Void) (one s.Void l >>= λ t. pure (tree.void_type o t)) (vala_reader p.NameInType l >>= λ n. reads (type_behind o n) l) i
unfolding walk forms got
type_body_law o l i = reader_unfolds (p.TypeBody o) l i

pub single_behind : (o : Option Lexeme) (n : NameTree) (l : ℕ) (i : List Lexeme) → reads (type_behind o (type_name.Single n)) l i
    ≡ way (is s.Question)
    (one s.Question l >>= λ q. way (is s.OpenBracket)
    (one s.OpenBracket l >>= λ b. way (is s.Comma) leave (one s.CloseBracket (suc l) >>= λ c. way (is s.Question)
    (one s.Question l >>= λ r. pure (tree.array_type o n (Some q.span) c.span (Some r.span))) (pure (tree.array_type o n (Some q.span) c.span None))))
    (pure (tree.single_type o n (Some q.span))))
    (pure (tree.single_type o n None)) i
unfolding walk got
single_behind o n l i = refl

pub array_behind : (o : Option Lexeme) (n : NameTree) (c : Span) (l : ℕ) (i : List Lexeme) → reads (type_behind o (type_name.Array n c)) l i
    ≡ way (is s.Question) (one s.Question l >>= λ q. pure (tree.array_type o n None c (Some q.span))) (pure (tree.array_type o n None c None)) i
unfolding walk got
array_behind o n c l i = refl

pub name_in_type_law : (l : ℕ) (i : List Lexeme) → vala_reader p.NameInType l i ≡ (one s.Identifier l >>= λ t. vala_reader (p.NameInTypeMore (tree.one_word t)) l >>= pure) i
unfolding walk forms got
name_in_type_law l i = reader_unfolds p.NameInType l i

pub name_in_type_more_law : (n : NameTree) (l : ℕ) (i : List Lexeme) → vala_reader (p.NameInTypeMore n) l i
    ≡ way (is s.Dot) (one s.Dot l >>= λ d. one s.Identifier l >>= λ t. vala_reader (p.NameInTypeMore (tree.one_more_word n t)) (suc l) >>= pure)
    (way (is s.OpenBracket) (one s.OpenBracket l >>= λ b. way (is s.Comma) leave (one s.CloseBracket (suc l) >>= λ c. pure (type_name.Array n c.span))) (pure (type_name.Single n))) i
unfolding walk forms got
name_in_type_more_law n l i = reader_unfolds (p.NameInTypeMore n) l i

pub ruleset behind_laws = (single_behind, array_behind)
