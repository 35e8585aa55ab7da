-- Names and texts that are told by their letters.
use Rattle.std.specs.Prelude.{ℕ, not, ◌&&◌, Option, Some, None}
use Rattle.vg_base.specs.declared.event.Span.{Span}
use Rattle.static_rules.specs.declared.rules.Rule.TheVariants as rule
use Rattle.predictive_grammar.specs.Steps.{Parser}
use Rattle.vala_lexer.specs.Tokens.{Lexeme}
use Rattle.vala_grammar.specs.declared.sort.Sort.TheVariants as s
use Rattle.vala_grammar.specs.Label.{Label, Earlier}
use Rattle.vala_file_grammar.specs.Kinds.{sorted, is_c_text}
use Rattle.vala_file_grammar.specs.Grammar.{is_type_sign, is_main, is_other_text}
use Rattle.vala_parse.specs.Steps.{got, one, way, leave, refuse}

-- a text that is a C identifier
unfoldable pub c_text_of : ℕ → Parser Label Lexeme Lexeme
c_text_of l = way is_other_text leave (got is_c_text 0 l)

-- a name that is not `main`, for then the word there is the fault
unfoldable pub but_main : Span → ℕ → Parser Label Lexeme Lexeme
but_main x l = way is_main (refuse (Earlier rule.U1 x)) (got (λ y. sorted s.Identifier y && not (is_main y)) 0 l)

-- The name behind a type. Where `async` stands in front, it is not `main`.
unfoldable pub name_of : Option Span → ℕ → Parser Label Lexeme Lexeme
name_of None l = way is_type_sign leave (one s.Identifier l)
name_of (Some x) l = way is_type_sign leave (but_main x l)
