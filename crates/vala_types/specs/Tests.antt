-- The table of fits as tests, by the shape of the value.
use Rattle.std.specs.Prelude.{ℕ, ◌==◌, ◌||◌, nat_le, length, Bool, true, false, Option, Some, None}
use Rattle.vala_types.specs.declared.types.IntKind.{IntKind}
use Rattle.vala_types.specs.declared.types.IntKind.TheVariants.{Int32}
use Rattle.vala_types.specs.declared.types.ItemShape.{ItemShape}
use Rattle.vala_types.specs.declared.types.ItemShape.TheVariants as item
use Rattle.vala_types.specs.declared.types.Shape.{Shape}
use Rattle.vala_types.specs.declared.types.Shape.TheVariants.{Void, Bool as Truth, Int, Text, Enum, Struct, Class, Interface, Delegate, Error, Array, Null, AsyncResult, ParamSpec}
use Rattle.vala_types.specs.declared.ties.Ties.{Ties}
use Rattle.vala_types.specs.Ranks.{rank}
use Rattle.vala_types.specs.Ties.{is_within}

-- a chain without repetition has no more steps than there are rows
abbrev pub has_base : Ties → ℕ → ℕ → Bool
has_base ties number base = is_within ties (length ties.rows) number base

abbrev pub int_goes : IntKind → Shape → Bool
int_goes from (Int to) = nat_le (rank from) (rank to)
int_goes from _ = false

abbrev pub enum_goes : ℕ → Shape → Bool
enum_goes from (Enum to) = from == to
enum_goes from (Int to) = nat_le (rank Int32) (rank to)
enum_goes from _ = false

abbrev pub class_goes : Ties → ℕ → Shape → Bool
class_goes ties from (Class to) = from == to || has_base ties from to
class_goes ties from (Interface to) = has_base ties from to
class_goes ties from _ = false

abbrev pub interface_goes : Ties → ℕ → Shape → Bool
interface_goes ties from (Interface to) = from == to
interface_goes ties from (Class to) = to == ties.object
interface_goes ties from _ = false

abbrev pub same_option : Option ℕ → Option ℕ → Bool
same_option None None = true
same_option (Some a) (Some b) = a == b
same_option _ _ = false

abbrev pub error_goes : Option ℕ → Shape → Bool
error_goes from (Error None) = true
error_goes (Some domain) (Error (Some other)) = domain == other
error_goes _ _ = false

abbrev pub null_goes : Shape → Bool
null_goes Null = true
null_goes Text = true
null_goes (Class _) = true
null_goes (Interface _) = true
null_goes (Delegate _) = true
null_goes (Error _) = true
null_goes (Array _) = true
null_goes _ = false

abbrev pub same_item : ItemShape → ItemShape → Bool
same_item item.Bool item.Bool = true
same_item item.Text item.Text = true
same_item (item.Int a) (item.Int b) = rank a == rank b
same_item (item.Error a) (item.Error b) = same_option a b
same_item (item.Enum a) (item.Enum b) = a == b
same_item (item.Struct a) (item.Struct b) = a == b
same_item (item.Class a) (item.Class b) = a == b
same_item (item.Interface a) (item.Interface b) = a == b
same_item (item.Delegate a) (item.Delegate b) = a == b
same_item _ _ = false

-- the whole table
abbrev pub shape_goes : Ties → Shape → Shape → Bool
shape_goes ties (Int kind) to = int_goes kind to
shape_goes ties (Enum number) to = enum_goes number to
shape_goes ties (Class number) to = class_goes ties number to
shape_goes ties (Interface number) to = interface_goes ties number to
shape_goes ties (Error domain) to = error_goes domain to
shape_goes ties Null to = null_goes to
shape_goes ties (Array of) (Array other) = same_item of.shape other.shape
shape_goes ties (Struct a) (Struct b) = a == b
shape_goes ties (Delegate a) (Delegate b) = a == b
shape_goes ties Void Void = true
shape_goes ties Truth Truth = true
shape_goes ties Text Text = true
shape_goes ties AsyncResult AsyncResult = true
shape_goes ties ParamSpec ParamSpec = true
shape_goes ties _ _ = false
