-- The numbers that a walk over bases met.
use Rattle.std.specs.Prelude.{◌≡◌, ℕ, ◌++◌, Bool, true, false, if◌then◌else◌, List, [], ◌∷◌, length, slice_index_or, slice_set}
use Rattle.std.specs.List.{sum_by}
use Rattle.vala_types.specs.declared.walk.Found.{Found}

abbrev pub value_of : Bool → ℕ
value_of true = 1
value_of false = 0

-- how many of the marks are set
abbrev pub count_marks : List Bool → ℕ
count_marks marks = sum_by value_of marks

-- each number that is listed has set one mark
abbrev pub IsCounted : Found → Type 0
IsCounted found = length found.list.items ≡ count_marks found.marks

-- a number without its mark is marked, and put behind the others; one past the marks is left out
abbrev pub add : ℕ → Found → Found
add number found =
    if slice_index_or found.marks number true then found
    else record { marks = slice_set found.marks number true; list = record { items = found.list.items ++ number ∷ [] } }

-- one number after the other
abbrev pub add_all : List ℕ → Found → Found
add_all [] found = found
add_all (number ∷ others) found = add_all others (add number found)
