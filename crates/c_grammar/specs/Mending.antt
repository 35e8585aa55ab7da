-- The reader that always gives a tree: what it makes up behind the place where a text stops.
use Rattle.std.specs.Prelude.{ℕ, suc, Bool, true, false, List, [], ◌∷◌, ◌++◌, codes}
use Rattle.predictive_grammar.specs.Steps.{Limits}
use Rattle.mending_readers.specs.Mending.{State, Mended, Supply, mender}
use Rattle.c_lexer.specs.declared.token.Constant.TheVariants as constant
use Rattle.c_lexer.specs.declared.token.TokenKind.TheVariants as k
use Rattle.c_lexer.specs.declared.token.Keyword.{Keyword}
use Rattle.c_lexer.specs.declared.token.Keyword.TheVariants as keyword
use Rattle.c_lexer.specs.declared.token.NumberType.TheVariants as number_type
use Rattle.c_lexer.specs.declared.token.Sign.{Sign}
use Rattle.c_lexer.specs.declared.token.Sign.TheVariants as sign
use Rattle.c_tree.specs.declared.unit.Include.TheVariants as include
use Rattle.c_tree.specs.Words.{Terminal, Of, Header, Token, Word, start_of}
use Rattle.c_grammar.specs.Trees.{behind_first}
use Rattle.c_grammar.specs.Parts.{Part, tree_of}
use Rattle.c_grammar.specs.Grammar.{C, forms}
use Rattle.c_grammar.specs.Tables.{tables}

-- 1. What is made up

-- a token without length, at a place
abbrev pub made : ℕ → Terminal → List ℕ → Bool → Token
made n x w line = record { terminal = x; bytes = w; start = n; «end» = n; begins_line = line }

-- a name of these letters
abbrev pub made_name : ℕ → List ℕ → Token
made_name n w = made n (Of k.Identifier) w false

-- a sign
abbrev pub made_sign : ℕ → Sign → Token
made_sign n s = made n (Of (k.Sign s)) [] false

-- a keyword at the beginning of a line, where a type may begin an item
abbrev pub made_word : ℕ → Keyword → Token
made_word n w = made n (Of (k.Keyword w)) [] true

-- the signs that are asked for
abbrev pub made_signs : ℕ → Word
made_signs n =
    made_sign n sign.Semicolon ∷ made_sign n sign.CloseParen ∷ made_sign n sign.CloseBrace ∷ made_sign n sign.CloseBracket
    ∷ made_sign n sign.OpenParen ∷ made_sign n sign.OpenBrace ∷ made_sign n sign.OpenBracket ∷ made_sign n sign.Comma ∷ made_sign n sign.Colon ∷ made_sign n sign.Assign ∷ made_sign n sign.Star ∷ []

-- the keywords: `int` for a type
abbrev pub made_words : ℕ → Word
made_words n =
    made_word n keyword.Int ∷ made_word n keyword.Char ∷ made_word n keyword.Return ∷ made_word n keyword.Goto ∷ made_word n keyword.Default
    ∷ made_word n keyword.StructOffset ∷ []

-- the number 0, `NULL`, a file, and names: one without letters, a tag, and the words that are names
abbrev pub made_others : ℕ → Word
made_others n =
    made n (Of (k.Number 0 number_type.Gint)) [] false ∷ made n (Of (k.Constant constant.Null)) [] false ∷ made n (Header include.Glib) [] false
    ∷ made_name n [] ∷ made_name n (codes "_") ∷ made_name n (codes "include") ∷ made_name n (codes "GInterfaceInitFunc") ∷ []

-- the letters behind the first of the last token: the name of a struct by its tag
abbrev pub by_tag : Word → List ℕ
by_tag [] = []
by_tag (g ∷ before) = behind_first g.bytes

-- where what is made up stands: behind the place where the text stops, which is that of its next token, or its end
abbrev pub behind_stop : ℕ → Word → ℕ
behind_stop «end» rest = suc (start_of «end» rest)

-- the same token at another place
abbrev pub moved_to : ℕ → Token → Token
moved_to n t = record { terminal = t.terminal; bytes = t.bytes; start = n; «end» = n; begins_line = t.begins_line }

-- what is made up in a text with this end
abbrev pub made_up : ℕ → Supply C
made_up «end» = record {
  offers = λ rest. made_signs (behind_stop «end» rest) ++ made_words (behind_stop «end» rest) ++ made_others (behind_stop «end» rest);
  otherwise = λ rest before. made_name (behind_stop «end» rest) (by_tag before);
  moved = λ rest t. moved_to (behind_stop «end» rest) t;
}

-- 2. The reader

-- how many parts ask for one another at most where all is made up
abbrev pub tallest : ℕ
tallest = 20

-- a part, in a text with this end
abbrev pub c_mender : (end : ℕ) → Limits → (p : Part) → ℕ → State Token → Mended Token (tree_of p.what)
c_mender «end» limits = mender C forms (made_up «end») tables.top tallest tables.rank limits
