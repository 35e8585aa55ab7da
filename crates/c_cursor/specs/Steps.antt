-- What is known of tokens that are taken.
use Rattle.std.specs.Prelude.{◌≡◌, ℕ, Bool, true, false, Option, Some, None}
use Rattle.c_lexer.specs.declared.token.TokenKind.TheVariants as k
use Rattle.c_lexer.specs.declared.token.Keyword.TheVariants as keyword
use Rattle.c_tree.specs.Words.{Terminal, Of}
use Rattle.c_nodes.specs.declared.token.Token.{Token}
use Rattle.c_nodes.specs.Seen.{seen}
use Rattle.c_cursor.specs.declared.parser.Parser.{Parser}
use Rattle.c_cursor.specs.declared.sets.Set.{Set}
use Rattle.c_cursor.specs.declared.sets.Set.TheVariants as set
use Rattle.c_cursor.specs.Gives.{is_asked_sign, is_asked_word, state}
use Rattle.c_cursor.specs.Reading.{is_next, one}
use Rattle.c_cursor.specs.Scopes.{names_of}

-- a fact that counts where the test holds
abbrev pub Where : Bool → Type 0 → Type 0
Where true P = P
Where false P = Unit {0}

-- whether a set is asked for, whatever stands before
abbrev pub is_asked : Set → Bool
is_asked (set.Sign s) = is_asked_sign s
is_asked (set.Word w) = is_asked_word w
is_asked set.Name = true
is_asked set.Number = true
is_asked set.Null = true
is_asked set.File = true
is_asked set.IncludeWord = true
is_asked set.Tag = true
is_asked set.InitFunc = true
is_asked (set.FreeName main) = true
is_asked (set.Base anyhow) = true
is_asked (set.BaseOnLine line) = true
is_asked set.KeyBase = true
is_asked set.OtherBase = true
is_asked set.IntBase = true
is_asked set.CharBase = true
is_asked x = false

-- a keyword or a name that can be the base of a type
abbrev pub is_base_token : Terminal → Bool
is_base_token (Of (k.Keyword keyword.Void)) = true
is_base_token (Of (k.Keyword keyword.Int)) = true
is_base_token (Of (k.Keyword keyword.Char)) = true
is_base_token (Of k.Identifier) = true
is_base_token x = false

-- what a token of a set is known to be
abbrev pub Bears : Set → Token → Type 0
Bears (set.Sign s) t = (seen t).terminal ≡ Of (k.Sign s)
Bears set.Name t = (seen t).bytes ≡ t.text.now
Bears set.Tag t = (seen t).bytes ≡ t.text.now
Bears (set.NameOf w) t = (seen t).bytes ≡ t.text.now
Bears (set.FreeName main) t = (seen t).bytes ≡ t.text.now
Bears set.InfoOrType t = (seen t).bytes ≡ t.text.now
Bears set.RowName t = (seen t).bytes ≡ t.text.now
Bears (set.Base anyhow) t = is_base_token (seen t).terminal ≡ true
Bears (set.BaseOnLine line) t = is_base_token (seen t).terminal ≡ true
Bears x t = Unit {0}

-- the next token was taken where it is in a set
abbrev pub Took : Set → ℕ → Parser → Option Token → Parser → Type 0
Took x l p None q = (is_next (names_of p.names) x (state p) ≡ false) × (state q ≡ state p)
Took x l p (Some t) q = (is_next (names_of p.names) x (state p) ≡ true) × (one p.end (names_of p.names) x l (state p) ≡ Some (seen t, state q)) × Bears x t
