-- The programs that are carried to C so far.
use Rattle.std.specs.Prelude.{ℕ, ◌<◌, List}
use Rattle.std.specs.List.{AllByRecursion}

-- A program: the texts that its calls of `print` print, in order.
abbrev pub Program : Type 0
Program = List (List ℕ)

-- the bytes of a text, none of which is zero
abbrev pub IsText : List ℕ → Type 0
IsText bytes = AllByRecursion (λ b. (0 < b) × (b < 256)) bytes

-- all texts of a program
abbrev pub AreTexts : Program → Type 0
AreTexts program = AllByRecursion IsText program
