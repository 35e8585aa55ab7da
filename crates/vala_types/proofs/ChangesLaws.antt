-- The columns of the table of changes, and what the table says of owners.
use Rattle.std.proofs.Common.{◌≡◌, Bool, true, false, not, ◌&&◌, ◌||◌, if◌then◌else◌, None, refl, sym, ◌∙◌}
use Rattle.vala_types.specs.declared.types.Shape.{Shape}
use Rattle.vala_types.specs.declared.types.Shape.TheVariants.{Void, Bool as Truth, Int, Text, Enum, Struct, Class, Interface, Delegate, Error, Array, Null, AsyncResult, ParamSpec}
use Rattle.vala_types.specs.declared.types.VType.{VType}
use Rattle.vala_types.specs.declared.ties.Ties.{Ties}
use Rattle.vala_types.specs.declared.owners.Change.{Change}
use Rattle.vala_types.specs.declared.owners.Change.TheVariants.{Keep, Move}
use Rattle.vala_types.specs.Fits.{ShapeFits, Fits, same}
use Rattle.vala_types.specs.Changes.{is_plain, is_struct, owns, Row, fresh_to_owner, fresh_to_other, text_to_owner, text_to_other, array_to_owner, array_to_other, struct_to_owner, struct_to_other, error_to_owner, error_to_other, class_to_owner, class_to_other, interface_to_owner, interface_to_other, delegate_to_owner, delegate_to_other, plain, Changes, made_by, copied_thing, thing_made}
use Rattle.vala_types.specs.Rows.{into_owner, into_other}

-- each column is in the table
pub owner_row : (s : Shape) (f : Bool) → Row s f true (into_owner s f)
owner_row Void f = plain Void f true refl
owner_row Truth f = plain Truth f true refl
owner_row (Int k) f = plain (Int k) f true refl
owner_row (Enum n) f = plain (Enum n) f true refl
owner_row Null f = plain Null f true refl
owner_row AsyncResult f = plain AsyncResult f true refl
owner_row ParamSpec f = plain ParamSpec f true refl
owner_row Text false = text_to_owner
owner_row (Array of) false = array_to_owner of
owner_row (Struct n) false = struct_to_owner n
owner_row (Error d) false = error_to_owner d
owner_row (Class n) false = class_to_owner n
owner_row (Interface n) false = interface_to_owner n
owner_row (Delegate n) false = delegate_to_owner n
owner_row s true = fresh_to_owner s refl

pub other_row : (s : Shape) (f : Bool) → Row s f false (into_other s f)
other_row Void f = plain Void f false refl
other_row Truth f = plain Truth f false refl
other_row (Int k) f = plain (Int k) f false refl
other_row (Enum n) f = plain (Enum n) f false refl
other_row Null f = plain Null f false refl
other_row AsyncResult f = plain AsyncResult f false refl
other_row ParamSpec f = plain ParamSpec f false refl
other_row Text false = text_to_other
other_row (Array of) false = array_to_other of
other_row (Struct n) false = struct_to_other n
other_row (Error d) false = error_to_other d
other_row (Class n) false = class_to_other n
other_row (Interface n) false = interface_to_other n
other_row (Delegate n) false = delegate_to_other n
other_row s true = fresh_to_other s refl

-- and the table is these two columns
at : Shape → Bool → Bool → Change
at s f true = into_owner s f
at s f false = into_other s f

fresh_moves : (s : Shape) → is_plain s ≡ false → into_owner s true ≡ Move
fresh_moves Void h = cc
fresh_moves Truth h = cc
fresh_moves (Int k) h = cc
fresh_moves (Enum n) h = cc
fresh_moves Null h = cc
fresh_moves AsyncResult h = cc
fresh_moves ParamSpec h = cc
fresh_moves s h = refl

fresh_stays : (s : Shape) → into_other s true ≡ Keep
fresh_stays (Struct n) = refl
fresh_stays s = refl

plain_stays : (s : Shape) (f p : Bool) → is_plain s ≡ true → at s f p ≡ Keep
unfolding at
plain_stays Text f p h = cc
plain_stays (Array of) f p h = cc
plain_stays (Struct n) f p h = cc
plain_stays (Error d) f p h = cc
plain_stays (Class n) f p h = cc
plain_stays (Interface n) f p h = cc
plain_stays (Delegate n) f p h = cc
plain_stays s f true h = refl
plain_stays s true false h = refl
plain_stays s false false h = refl

at_row : (s : Shape) (f p : Bool) (c : Change) → Row s f p c → at s f p ≡ c
unfolding at
at_row _ _ _ _ (fresh_to_owner s h) = fresh_moves s h
at_row _ _ _ _ (fresh_to_other s h) = fresh_stays s
at_row _ _ _ _ text_to_owner = refl
at_row _ _ _ _ text_to_other = refl
at_row _ _ _ _ (array_to_owner of) = refl
at_row _ _ _ _ (array_to_other of) = refl
at_row _ _ _ _ (struct_to_owner n) = refl
at_row _ _ _ _ (struct_to_other n) = refl
at_row _ _ _ _ (error_to_owner d) = refl
at_row _ _ _ _ (error_to_other d) = refl
at_row _ _ _ _ (class_to_owner n) = refl
at_row _ _ _ _ (class_to_other n) = refl
at_row _ _ _ _ (interface_to_owner n) = refl
at_row _ _ _ _ (interface_to_other n) = refl
at_row _ _ _ _ (delegate_to_owner n) = refl
at_row _ _ _ _ (delegate_to_other n) = refl
at_row _ _ _ _ (plain s f p h) = plain_stays s f p h

row_at : (s : Shape) (f p : Bool) → Row s f p (at s f p)
unfolding at
row_at s f true = owner_row s f
row_at s f false = other_row s f

pub one_change : (from to : VType) (c d : Change) → Changes from to c → Changes from to d → c ≡ d
one_change from to c d r q = sym (at_row from.shape from.owned (owns to) c r) ∙ at_row from.shape from.owned (owns to) d q

pub some_change : (from to : VType) → (c : Change) × Changes from to c
some_change from to = (at from.shape from.owned (owns to), row_at from.shape from.owned (owns to))

-- what the changes make
plain_makes : (s : Shape) (f p : Bool) → is_plain s ≡ true → None ≡ (if not f && p then copied_thing s else None)
plain_makes Text f p h = cc
plain_makes (Array of) f p h = cc
plain_makes (Struct n) f p h = cc
plain_makes (Error d) f p h = cc
plain_makes (Class n) f p h = cc
plain_makes (Interface n) f p h = cc
plain_makes (Delegate n) f p h = cc
plain_makes s true p h = refl
plain_makes s false true h = refl
plain_makes s false false h = refl

row_makes : (s : Shape) (f p : Bool) (c : Change) → Row s f p c → made_by c ≡ (if not f && p then copied_thing s else None)
row_makes _ _ _ _ (fresh_to_owner s h) = refl
row_makes _ _ _ _ (fresh_to_other s h) = refl
row_makes _ _ _ _ text_to_owner = refl
row_makes _ _ _ _ text_to_other = refl
row_makes _ _ _ _ (array_to_owner of) = refl
row_makes _ _ _ _ (array_to_other of) = refl
row_makes _ _ _ _ (struct_to_owner n) = refl
row_makes _ _ _ _ (struct_to_other n) = refl
row_makes _ _ _ _ (error_to_owner d) = refl
row_makes _ _ _ _ (error_to_other d) = refl
row_makes _ _ _ _ (class_to_owner n) = refl
row_makes _ _ _ _ (class_to_other n) = refl
row_makes _ _ _ _ (interface_to_owner n) = refl
row_makes _ _ _ _ (interface_to_other n) = refl
row_makes _ _ _ _ (delegate_to_owner n) = refl
row_makes _ _ _ _ (delegate_to_other n) = refl
row_makes _ _ _ _ (plain s f p h) = plain_makes s f p h

pub things_made : (from to : VType) (c : Change) → Changes from to c → made_by c ≡ thing_made from to
things_made from to c r = row_makes from.shape from.owned (owns to) c r

-- what goes into a place that owns has an owner there, or never has one
kept_plain : (s : Shape) (f p : Bool) (c : Change) → Row s f p c → p ≡ true → c ≡ Keep → is_plain s ≡ true
kept_plain _ _ _ _ (plain s f p h) e k = h
kept_plain _ _ _ _ r e k = cc

pub kept : (from to : VType) → Changes from to Keep → owns to ≡ true → is_plain from.shape ≡ true
kept from to r e = kept_plain from.shape from.owned (owns to) Keep r e refl

moved_fresh : (s : Shape) (f p : Bool) (c : Change) → Row s f p c → c ≡ Move → (f ≡ true) × (p ≡ true)
moved_fresh _ _ _ _ (fresh_to_owner s h) k = (refl, refl)
moved_fresh _ _ _ _ r k = absurd cc

pub moved : (from to : VType) → Changes from to Move → (from.owned ≡ true) × (owns to ≡ true)
moved from to r = moved_fresh from.shape from.owned (owns to) Move r refl

-- what goes into a place that does not own is left as it is
struct_fits : (ties : Ties) (s t : Shape) → ShapeFits ties s t → is_struct s ≡ true → is_struct t ≡ true
struct_fits ties _ _ (same s) h = h
struct_fits ties _ _ r h = cc

other_keeps : (s : Shape) (f p : Bool) (c : Change) → Row s f p c → p ≡ false → (is_struct s ≡ true → ⊥) → c ≡ Keep
other_keeps _ _ _ _ (struct_to_other n) e none = absurd (none refl)
other_keeps _ _ _ _ r e none = cc

or_no : (a b : Bool) → (a || b) ≡ false → b ≡ true → ⊥
or_no true b h g = cc
or_no false b h g = cc

pub borrowed : (ties : Ties) (from to : VType) (c : Change) → Fits ties from to → owns to ≡ false → Changes from to c → c ≡ Keep
borrowed ties from to c h e r =
    other_keeps from.shape from.owned (owns to) c r e (λ s. or_no to.owned (is_struct to.shape) e (struct_fits ties from.shape to.shape h s))
