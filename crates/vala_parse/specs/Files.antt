-- A file as the grammar sees it, and what stands behind it.
use Rattle.std.specs.Prelude.{Bool, true, false, None, Ok}
use Rattle.vala_lexer.specs.Tokens.{Answer, left, next_of}
use Rattle.vala_cursor.specs.declared.cursor.Cursor.{Cursor}
use Rattle.vala_file_grammar.specs.Trees as tree
use Rattle.vala_parse.specs.declared.files.FileText.{FileText}

abbrev pub file_in : FileText → tree.FileText
file_in a = record { usings = a.usings; members = a.members }

-- the next token, or what stops the tokens
abbrev pub ahead : Cursor → Answer
ahead c = next_of (left c.front)

abbrev pub is_end : Answer → Bool
is_end (Ok None) = true
is_end _ = false
