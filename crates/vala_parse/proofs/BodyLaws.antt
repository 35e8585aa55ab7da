-- Bodies by their steps.
use Rattle.std.proofs.Common.{◌≡◌, ℕ, List, Some, refl}
use Rattle.predictive_grammar.specs.Steps.{◌>>=◌, pure}
use Rattle.predictive_grammar.specs.Reading.{walk}
use Rattle.vala_lexer.specs.Tokens.{Lexeme}
use Rattle.vala_grammar.specs.declared.sort.Sort.TheVariants as s
use Rattle.vala_grammar.specs.Parts as c
use Rattle.vala_file_grammar.specs.Kinds.{sorted}
use Rattle.vala_file_grammar.specs.Parts as p
use Rattle.vala_file_grammar.specs.Grammar.{forms, block_or_semicolon}
use Rattle.vala_file_grammar.specs.Read.{file_reader}
use Rattle.vala_parse.specs.Steps.{got, leave, reads, way}
use Rattle.vala_parse.specs.Declarations as rest
use Rattle.vala_parse.proofs.Unfolds.{law}

pub method_law : (l : ℕ) (i : List Lexeme) → file_reader (p.BodyOf p.Method) l i ≡ reads (block_or_semicolon {b = p.Method}) l i
unfolding forms
method_law l i = law (p.BodyOf p.Method) l i

pub interface_law : (l : ℕ) (i : List Lexeme) → file_reader (p.BodyOf p.InterfaceMethod) l i ≡ way (sorted s.OpenBrace) leave (rest.semicolon_of l) i
unfolding walk forms got rest.semicolon_of
interface_law l i = law (p.BodyOf p.InterfaceMethod) l i

pub accessing_law : (l : ℕ) (i : List Lexeme) → file_reader (p.BodyOf p.Accessing) l i ≡ way (sorted s.Throws) leave (reads (block_or_semicolon {b = p.Accessing}) l) i
unfolding walk forms
accessing_law l i = law (p.BodyOf p.Accessing) l i

pub block_law : (b : p.Bodied) (l : ℕ) (i : List Lexeme) → reads (block_or_semicolon {b = b}) l i
    ≡ way (sorted s.Semicolon) (rest.semicolon_of l) (file_reader (p.Code c.BlockOf) l >>= λ b. pure (record { block = Some b; last = b.span })) i
unfolding walk got rest.semicolon_of
block_law b l i = refl

pub ruleset body_laws = (method_law, interface_law, accessing_law)
