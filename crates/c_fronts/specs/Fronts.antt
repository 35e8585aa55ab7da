-- That what is known of a front hangs on the front alone.
use Rattle.std.specs.Prelude.{◌≡◌, ℕ, ◌<◌, ◌≤◌, List, [], ◌∷◌, ◌++◌, Some, Err}
use Rattle.c_tree.specs.declared.kinds.Fault.{Fault}
use Rattle.c_tree.specs.declared.kinds.Refusal.{Refusal}
use Rattle.c_tree.specs.declared.unit.Item.{Item}
use Rattle.c_tree.specs.Words.{Word}
use Rattle.c_tree.specs.Answers.{Made, AreItems, Ending, Stops, Begins, Says, faults_of, first_of, known_behind}

-- Tokens in order, in front of a place: each starts before it ends, and ends no later than the next starts.
abbrev pub InOrder : ℕ → Word → Type 0
InOrder n [] = Unit {0}
InOrder n (t ∷ []) = (t.start < t.end) × (t.end ≤ n)
InOrder n (t ∷ s ∷ w) = (t.start < t.end) × (t.end ≤ s.start) × InOrder n (s ∷ w)

-- Any two lists of items whose tokens begin with the same front, and go on behind the place of what stops there, have the same first refusal that is known in front of it.
abbrev pub FrontsAreKnown : Type 0
FrontsAreKnown = (own : Fault) (w v v' : Word) (is is' : List Item) → InOrder own.place w → Made own.place v → Made own.place v'
    → AreItems (w ++ v) is → AreItems (w ++ v') is'
    → first_of (Some own) (known_behind w (faults_of is)) ≡ first_of (Some own) (known_behind w (faults_of is'))

-- Tokens that stop are refused: by what any one text that begins so has.
abbrev pub StoppedTextsAreRefused : Type 0
StoppedTextsAreRefused = (text : Word) (e : Ending) (w : Word) (own : Fault) → InOrder own.place w → Stops text e w own → (b : Begins own.place w)
    → (r : Refusal) × (first_of (Some own) (known_behind w (faults_of b.items)) ≡ Some r) × Says text e (Err r)
