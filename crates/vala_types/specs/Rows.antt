-- The columns of the table of changes, as they are computed.
use Rattle.std.specs.Prelude.{Bool, true, false}
use Rattle.vala_types.specs.declared.types.Shape.{Shape}
use Rattle.vala_types.specs.declared.types.Shape.TheVariants.{Void, Bool as Truth, Int, Text, Enum, Struct, Class, Interface, Delegate, Error, Array, Null, AsyncResult, ParamSpec}
use Rattle.vala_types.specs.declared.owners.Change.{Change}
use Rattle.vala_types.specs.declared.owners.Change.TheVariants.{Keep, Move, CopyText, CopyArray, CopyStruct, CopyError, AddOwner, NotCopied}

abbrev pub into_owner : Shape → Bool → Change
into_owner Void is_fresh = Keep
into_owner Truth is_fresh = Keep
into_owner (Int _) is_fresh = Keep
into_owner (Enum _) is_fresh = Keep
into_owner Null is_fresh = Keep
into_owner AsyncResult is_fresh = Keep
into_owner ParamSpec is_fresh = Keep
into_owner _ true = Move
into_owner Text false = CopyText
into_owner (Array _) false = CopyArray
into_owner (Struct _) false = CopyStruct
into_owner (Error _) false = CopyError
into_owner (Class _) false = AddOwner
into_owner (Interface _) false = AddOwner
into_owner (Delegate _) false = NotCopied

abbrev pub into_other : Shape → Bool → Change
into_other (Struct _) false = CopyStruct
into_other _ _ = Keep
