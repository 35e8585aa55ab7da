-- Tokens as the grammar has them: without where their text lies in memory, the escapes of a text as the bytes that they stand for.
use Rattle.std.specs.Prelude.{ℕ, List, []}
use Rattle.c_tree.specs.declared.unit.Include.{Include}
use Rattle.c_tree.specs.declared.unit.Include.TheVariants as include
use Rattle.c_tree.specs.Words as words
use Rattle.c_tree.specs.Words.{meant}
use Rattle.c_nodes.specs.declared.token.IncludedFile.{IncludedFile}
use Rattle.c_nodes.specs.declared.token.IncludedFile.TheVariants as file
use Rattle.c_nodes.specs.declared.token.Terminal.{Terminal}
use Rattle.c_nodes.specs.declared.token.Terminal.TheVariants as terminal
use Rattle.c_nodes.specs.declared.token.Token.{Token}

-- an included file; one of its own by its name
abbrev pub file_of : IncludedFile → List ℕ → Include
file_of file.Glib w = include.Glib
file_of file.GlibObject w = include.GlibObject
file_of file.Gio w = include.Gio
file_of file.String w = include.String
file_of file.Stdlib w = include.Stdlib
file_of file.Own w = include.Own w

-- what a token is
abbrev pub terminal_of : Terminal → List ℕ → words.Terminal
terminal_of (terminal.Of k) w = words.Of k
terminal_of (terminal.File f) w = words.Header (file_of f w)

-- the bytes of its word or text
abbrev pub bytes_of : Terminal → List ℕ → List ℕ
bytes_of (terminal.Of k) w = meant k w
bytes_of (terminal.File f) w = []

-- a token as the grammar has it
abbrev pub seen : Token → words.Token
seen t = record { terminal = terminal_of t.terminal t.text.now; bytes = bytes_of t.terminal t.text.now; start = t.start; end = t.end; begins_line = t.begins_line }
