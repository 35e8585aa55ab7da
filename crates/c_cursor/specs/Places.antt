-- Where what is made up stands.
use Rattle.std.specs.Prelude.{ℕ, suc, Option, Some, None}
use Rattle.c_tree.specs.Words.{Token}
use Rattle.c_grammar.specs.Mending.{moved_to}

-- where what is made up stands behind this token, or behind the end
abbrev pub place_of : ℕ → Option Token → ℕ
place_of «end» None = suc «end»
place_of «end» (Some t) = suc t.start

-- a token that may be missing, at another place
abbrev pub moved_option : ℕ → Option Token → Option Token
moved_option n None = None
moved_option n (Some t) = Some (moved_to n t)
