-- Which values go into which places by themselves.
use Rattle.std.specs.Prelude.{◌≡◌, ℕ, ◌≤◌, Option, Some, None}
use Rattle.vala_types.specs.declared.types.IntKind.{IntKind}
use Rattle.vala_types.specs.declared.types.IntKind.TheVariants.{Int32}
use Rattle.vala_types.specs.declared.types.Item.{Item}
use Rattle.vala_types.specs.declared.types.Shape.{Shape}
use Rattle.vala_types.specs.declared.types.Shape.TheVariants.{Int, Text, Enum, Class, Interface, Delegate, Error, Array, Null}
use Rattle.vala_types.specs.declared.types.VType.{VType}
use Rattle.vala_types.specs.declared.ties.Ties.{Ties}
use Rattle.vala_types.specs.Ranks.{rank}
use Rattle.vala_types.specs.Ties.{HasBase}

-- The table, a case for each row: the shape of the value and that of the place.
pub data ShapeFits (ties : Ties) : Shape → Shape → Type 0 where
  -- the shapes are equal; the mark of an array's elements does not count
  same : (shape : Shape) → ShapeFits ties shape shape
  same_items : (from to : Item) → from.shape ≡ to.shape → ShapeFits ties (Array from) (Array to)
  -- an integer goes to the same or a later type, and an enum to what `int` goes to
  integer : (from to : IntKind) → rank from ≤ rank to → ShapeFits ties (Int from) (Int to)
  enum : (number : ℕ) (to : IntKind) → rank Int32 ≤ rank to → ShapeFits ties (Enum number) (Int to)
  -- null goes into texts, classes, interfaces, delegates, errors and arrays
  null_text : ShapeFits ties Null Text
  null_class : (number : ℕ) → ShapeFits ties Null (Class number)
  null_interface : (number : ℕ) → ShapeFits ties Null (Interface number)
  null_delegate : (number : ℕ) → ShapeFits ties Null (Delegate number)
  null_error : (domain : Option ℕ) → ShapeFits ties Null (Error domain)
  null_array : (of : Item) → ShapeFits ties Null (Array of)
  -- a class fits its bases and its interfaces
  base : (number base : ℕ) → HasBase ties number base → ShapeFits ties (Class number) (Class base)
  interface : (number base : ℕ) → HasBase ties number base → ShapeFits ties (Class number) (Interface base)
  -- an interface fits `Object`
  object : (number : ℕ) → ShapeFits ties (Interface number) (Class ties.object)
  -- an error domain fits `Error`
  domain : (number : ℕ) → ShapeFits ties (Error (Some number)) (Error None)

-- A value of one type fits a place of another. Neither the mark `?` nor who owns hinders it.
abbrev pub Fits : Ties → VType → VType → Type 0
Fits ties from to = ShapeFits ties from.shape to.shape

-- a value of the one type fits a place of the other in some program
abbrev pub GoesInto : VType → VType → Type 0
GoesInto from to = (ties : Ties) × Fits ties from to
