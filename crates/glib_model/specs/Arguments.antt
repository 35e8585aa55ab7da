-- Arguments by their number.
use Rattle.std.specs.Prelude.{List, [], ◌∷◌, Option, Some, None}
use Rattle.c_meaning.specs.declared.cell.Cell.{Cell}

abbrev pub one_of : List Cell → Option Cell
one_of (a ∷ []) = Some a
one_of cs = None

abbrev pub two_of : List Cell → Option (Cell × Cell)
two_of (a ∷ b ∷ []) = Some (a, b)
two_of cs = None

abbrev pub three_of : List Cell → Option (Cell × Cell × Cell)
three_of (a ∷ b ∷ c ∷ []) = Some (a, b, c)
three_of cs = None
