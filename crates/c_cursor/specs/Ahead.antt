-- The next token, cut in advance, and what stands behind it.
use Rattle.std.specs.Prelude.{ℕ, [], ◌∷◌, Option, Some, None, Result, Ok, Err}
use Rattle.c_lexer.specs.declared.token.BadToken.{BadToken}
use Rattle.c_tree.specs.Words.{Word}
use Rattle.c_nodes.specs.declared.token.Token.{Token}
use Rattle.c_nodes.specs.Seen.{seen}

-- a token, if there is one, and those behind it
abbrev pub with_ahead : Result (Option Token) BadToken → Word → Word
with_ahead (Ok (Some t)) w = seen t ∷ w
with_ahead (Ok None) w = []
with_ahead (Err b) w = []

-- the bad token where they stop
abbrev pub bad_ahead : Result (Option Token) BadToken → Option BadToken → Option BadToken
bad_ahead (Ok (Some t)) o = o
bad_ahead (Ok None) o = None
bad_ahead (Err b) o = Some b

-- where a token begins, if there is one
abbrev pub start_ahead : Result (Option Token) BadToken → ℕ
start_ahead (Ok (Some t)) = t.start
start_ahead (Ok None) = 0
start_ahead (Err b) = 0
