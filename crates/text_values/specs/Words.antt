-- Words.
use Rattle.std.specs.Prelude.{ℕ, ◌==◌, if◌then◌else◌, List, [], ◌∷◌}

-- a word, without the `@` that makes a keyword one
abbrev pub word : List ℕ → List ℕ
word [] = []
word (b ∷ w) = if b == 64 then w else b ∷ w
