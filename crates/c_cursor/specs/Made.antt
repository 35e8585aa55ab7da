-- What is made up for each set that the grammar asks for.
use Rattle.std.specs.Prelude.{ℕ, Bool, List, [], false, codes}
use Rattle.c_lexer.specs.declared.token.Constant.TheVariants as constant
use Rattle.c_lexer.specs.declared.token.Keyword.TheVariants as keyword
use Rattle.c_lexer.specs.declared.token.NumberType.TheVariants as number_type
use Rattle.c_lexer.specs.declared.token.TokenKind.TheVariants as k
use Rattle.c_tree.specs.declared.unit.Include.TheVariants as include
use Rattle.c_tree.specs.Words.{Token, Of, Header}
use Rattle.c_grammar.specs.Mending.{made, made_name, made_sign, made_word}
use Rattle.c_nodes.specs.declared.token.Terminal.{Terminal}
use Rattle.c_nodes.specs.Seen.{terminal_of, bytes_of}
use Rattle.c_cursor.specs.declared.sets.Set.{Set}
use Rattle.c_cursor.specs.declared.sets.Set.TheVariants as set

-- a token without length, by how it is written
abbrev pub made_from : Terminal → List ℕ → ℕ → Bool → Token
made_from x w n line = record { terminal = terminal_of x w; bytes = bytes_of x w; start = n; «end» = n; begins_line = line }

-- a token of a set, at a place
abbrev pub made_for : ℕ → Set → Token
made_for n (set.Sign s) = made_sign n s
made_for n (set.Word w) = made_word n w
made_for n set.Number = made n (Of (k.Number 0 number_type.Gint)) [] false
made_for n set.Null = made n (Of (k.Constant constant.Null)) [] false
made_for n set.File = made n (Header include.Glib) [] false
made_for n set.IncludeWord = made_name n (codes "include")
made_for n set.InitFunc = made_name n (codes "GInterfaceInitFunc")
made_for n set.Tag = made_name n (codes "_")
made_for n (set.NameOf w) = made_name n w.now
made_for n set.CharBase = made_word n keyword.Char
made_for n (set.Base anyhow) = made_word n keyword.Int
made_for n (set.BaseOnLine line) = made_word n keyword.Int
made_for n set.KeyBase = made_word n keyword.Int
made_for n set.OtherBase = made_word n keyword.Int
made_for n set.IntBase = made_word n keyword.Int
made_for n x = made_name n []
