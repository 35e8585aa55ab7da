-- Where the reader of the grammar stops.
use Rattle.std.specs.Prelude.{◌≡◌, ℕ, true, false, List, [], ◌∷◌, ◌++◌, Ok, Err}
use Rattle.predictive_grammar.specs.Steps.{Outcome}
use Rattle.c_tree.specs.declared.unit.Item.{Item}
use Rattle.c_tree.specs.Words.{Token, Word, is_shallow}
use Rattle.c_tree.specs.Names.{library_names}
use Rattle.c_tree.specs.Items.{ReadsUnit}
use Rattle.c_tree.specs.Answers.{Stops, Whole, syntax_at}
use Rattle.c_grammar.specs.Parts.{at, ItemsOf}
use Rattle.c_grammar.specs.Laws.{c_reader, c_limits}

-- the place of the next token, or of the end
abbrev pub place_of : ℕ → Word → ℕ
place_of n [] = n
place_of n (t ∷ w) = t.start

-- The text stops in front of what is left, and no more than 64 brackets are open up to there.
abbrev pub StopsBefore : Word → Word → Type 0
StopsBefore text rest = (w : Word) × (text ≡ w ++ rest) × (is_shallow [] w ≡ true) × ((n : ℕ) → Stops text (Whole n) w (syntax_at (place_of n rest)))

-- what an outcome of the reader says of the text: its unit, or where it stops
abbrev pub ReadOrStopped : Word → Outcome ⊥ Token (List Item) → Type 0
ReadOrStopped text (Ok (is, [])) = ReadsUnit text (record { items = is })
ReadOrStopped text (Ok (is, t ∷ rest)) = StopsBefore text (t ∷ rest)
ReadOrStopped text (Err (f, rest)) = StopsBefore text rest

-- The reader of the grammar reads each text that is a unit, and stops where any other text does.
abbrev pub ReaderStopsWhereTextsDo : Type 0
ReaderStopsWhereTextsDo = (text : Word) → ReadOrStopped text (c_reader c_limits (at library_names (ItemsOf false)) 0 text)
