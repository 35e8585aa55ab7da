-- A reader is the walk of its form, and those of expressions, types and statements are as they were.
use Rattle.std.proofs.Common.{◌≡◌, ℕ, List}
use Rattle.predictive_grammar.specs.Reading.{walk}
use Rattle.vala_lexer.specs.Tokens.{Lexeme}
use Rattle.vala_grammar.specs.Parts.{Part}
use Rattle.vala_grammar.specs.Answer.{limits}
use Rattle.vala_grammar.specs.Read.{vala_reader}
use Rattle.vala_file_grammar.specs.Parts.{FilePart, Code}
use Rattle.vala_file_grammar.specs.Embed.{F}
use Rattle.vala_file_grammar.specs.Grammar.{forms}
use Rattle.vala_file_grammar.specs.Read.{file_reader}
use Rattle.vala_file_grammar.proofs.Readers as readers

pub law : (p : FilePart) (l : ℕ) (i : List Lexeme) → file_reader p l i ≡ walk F file_reader limits p (forms p) l i
law p l i = readers.reader_unfolds_file p l i

pub reads_code : (p : Part) (l : ℕ) (i : List Lexeme) → file_reader (Code p) l i ≡ vala_reader p l i
reads_code p l i = readers.reads_code p l i
