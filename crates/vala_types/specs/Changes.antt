-- What happens to the ownership of a value that goes into a place.
use Rattle.std.specs.Prelude.{◌≡◌, ℕ, Bool, true, false, not, ◌&&◌, ◌||◌, if◌then◌else◌, Option, Some, None}
use Rattle.vg_base.specs.declared.event.ThingKind.{ThingKind}
use Rattle.vg_base.specs.declared.event.ThingKind.TheVariants as thing
use Rattle.vala_types.specs.declared.types.Item.{Item}
use Rattle.vala_types.specs.declared.types.Shape.{Shape}
use Rattle.vala_types.specs.declared.types.Shape.TheVariants.{Void, Bool as Truth, Int, Text, Enum, Struct, Class, Interface, Delegate, Error, Array, Null, AsyncResult, ParamSpec}
use Rattle.vala_types.specs.declared.types.VType.{VType}
use Rattle.vala_types.specs.declared.owners.Change.{Change}
use Rattle.vala_types.specs.declared.owners.Change.TheVariants.{Keep, Move, CopyText, CopyArray, CopyStruct, CopyError, AddOwner, NotCopied}

-- Values that have no owner: numbers, enums and null, what is no value, and the two that are only passed on.
abbrev pub is_plain : Shape → Bool
is_plain Void = true
is_plain Truth = true
is_plain (Int _) = true
is_plain (Enum _) = true
is_plain Null = true
is_plain AsyncResult = true
is_plain ParamSpec = true
is_plain _ = false

abbrev pub is_struct : Shape → Bool
is_struct (Struct _) = true
is_struct _ = false

-- whether a place owns what it holds; a place of struct type always does
abbrev pub owns : VType → Bool
owns place = place.owned || is_struct place.shape

-- The table, two cases for each row: the shape of the value, whether it is fresh, whether the place owns, and the change.
pub data Row : Shape → Bool → Bool → Change → Type 0 where
  -- a fresh value is moved; where the place does not own, whoever passes the value keeps it
  fresh_to_owner : (shape : Shape) → is_plain shape ≡ false → Row shape true true Move
  fresh_to_other : (shape : Shape) → is_plain shape ≡ false → Row shape true false Keep
  -- texts, arrays, structs and errors are copied; a struct always is
  text_to_owner : Row Text false true CopyText
  text_to_other : Row Text false false Keep
  array_to_owner : (of : Item) → Row (Array of) false true CopyArray
  array_to_other : (of : Item) → Row (Array of) false false Keep
  struct_to_owner : (number : ℕ) → Row (Struct number) false true CopyStruct
  struct_to_other : (number : ℕ) → Row (Struct number) false false CopyStruct
  error_to_owner : (domain : Option ℕ) → Row (Error domain) false true CopyError
  error_to_other : (domain : Option ℕ) → Row (Error domain) false false Keep
  -- an object gets one more owner, whether it is known by its class or by an interface
  class_to_owner : (number : ℕ) → Row (Class number) false true AddOwner
  class_to_other : (number : ℕ) → Row (Class number) false false Keep
  interface_to_owner : (number : ℕ) → Row (Interface number) false true AddOwner
  interface_to_other : (number : ℕ) → Row (Interface number) false false Keep
  -- a delegate has no copy
  delegate_to_owner : (number : ℕ) → Row (Delegate number) false true NotCopied
  delegate_to_other : (number : ℕ) → Row (Delegate number) false false Keep
  -- numbers, enums, null
  plain : (shape : Shape) (is_fresh is_owner : Bool) → is_plain shape ≡ true → Row shape is_fresh is_owner Keep

-- What is done to a value of one type that goes into a place of another. A value is fresh where its type owns.
abbrev pub Changes : VType → VType → Change → Type 0
Changes from to change = Row from.shape from.owned (owns to) change

-- what a change makes, if it makes a thing; a struct is none
abbrev pub made_by : Change → Option ThingKind
made_by CopyText = Some thing.Text
made_by CopyArray = Some thing.Array
made_by CopyError = Some thing.Error
made_by _ = None

-- the thing that a value of this shape is, where a copy of it is a new thing
abbrev pub copied_thing : Shape → Option ThingKind
copied_thing Text = Some thing.Text
copied_thing (Array _) = Some thing.Array
copied_thing (Error _) = Some thing.Error
copied_thing _ = None

-- the thing that a value which goes into a place is copied into, if it is
abbrev pub thing_made : VType → VType → Option ThingKind
thing_made from to = if not from.owned && owns to then copied_thing from.shape else None
