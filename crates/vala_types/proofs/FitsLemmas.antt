-- The tests of fits are the table.
use Rattle.std.proofs.Common.{◌≡◌, ℕ, ◌==◌, ◌||◌, Bool, true, false, cond, Option, Some, None, refl, sym, ap, ◌∙◌, subst, arith}
use Rattle.std.proofs.lemmas.Bool.{eq-eqb, eqb-true, le-leb, leb-true}
use Rattle.std.specs.Bool.{Decides}
use Rattle.vala_types.specs.declared.types.IntKind.{IntKind}
use Rattle.vala_types.specs.declared.types.IntKind.TheVariants as kind
use Rattle.vala_types.specs.declared.types.ItemShape.{ItemShape}
use Rattle.vala_types.specs.declared.types.ItemShape.TheVariants as item
use Rattle.vala_types.specs.declared.types.Shape.{Shape}
use Rattle.vala_types.specs.declared.types.Shape.TheVariants.{Void, Bool as Truth, Int, Text, Enum, Struct, Class, Interface, Delegate, Error, Array, Null, AsyncResult, ParamSpec}
use Rattle.vala_types.specs.declared.ties.Ties.{Ties}
use Rattle.vala_types.specs.Ranks.{rank}
use Rattle.vala_types.specs.Fits.{ShapeFits, same, same_items, integer, enum, null_text, null_class, null_interface, null_delegate, null_error, null_array, base, interface, object, domain}
use Rattle.vala_types.specs.Tests.{has_base, int_goes, enum_goes, class_goes, interface_goes, same_option, error_goes, null_goes, same_item, shape_goes}
use Rattle.vala_types.proofs.TiesLemmas.{decides_base}

-- a rank is that of one kind
kind_of : ℕ → IntKind
kind_of n =
    cond (n == 0) kind.Int8 (cond (n == 1) kind.Char (cond (n == 2) kind.Uint8 (cond (n == 3) kind.Int16 (cond (n == 4) kind.Uint16 (cond (n == 5) kind.Int32
    (cond (n == 6) kind.Uint32 (cond (n == 7) kind.Long (cond (n == 8) kind.Ulong (cond (n == 9) kind.Int64 kind.Uint64)))))))))

kind_of-rank : (k : IntKind) → kind_of (rank k) ≡ k
unfolding kind_of
kind_of-rank kind.Int8 = refl
kind_of-rank kind.Char = refl
kind_of-rank kind.Uint8 = refl
kind_of-rank kind.Int16 = refl
kind_of-rank kind.Uint16 = refl
kind_of-rank kind.Int32 = refl
kind_of-rank kind.Uint32 = refl
kind_of-rank kind.Long = refl
kind_of-rank kind.Ulong = refl
kind_of-rank kind.Int64 = refl
kind_of-rank kind.Uint64 = refl

same_rank : (j k : IntKind) → rank j ≡ rank k → j ≡ k
same_rank j k e = sym (kind_of-rank j) ∙ ap kind_of e ∙ kind_of-rank k

-- the test of options is equality
option_same : (a b : Option ℕ) → same_option a b ≡ true → a ≡ b
option_same None None h = refl
option_same (Some a) (Some b) h = ap Some (eqb-true a b h)
option_same None (Some b) h = cc
option_same (Some a) None h = cc

same_option_self : (a : Option ℕ) → same_option a a ≡ true
same_option_self None = refl
same_option_self (Some a) = eq-eqb a a refl

-- and so is the test of the elements' shapes
item_same : (a b : ItemShape) → same_item a b ≡ true → a ≡ b
item_same item.Bool item.Bool h = refl
item_same item.Text item.Text h = refl
item_same (item.Int a) (item.Int b) h = ap item.Int (same_rank a b (eqb-true (rank a) (rank b) h))
item_same (item.Error a) (item.Error b) h = ap item.Error (option_same a b h)
item_same (item.Enum a) (item.Enum b) h = ap item.Enum (eqb-true a b h)
item_same (item.Struct a) (item.Struct b) h = ap item.Struct (eqb-true a b h)
item_same (item.Class a) (item.Class b) h = ap item.Class (eqb-true a b h)
item_same (item.Interface a) (item.Interface b) h = ap item.Interface (eqb-true a b h)
item_same (item.Delegate a) (item.Delegate b) h = ap item.Delegate (eqb-true a b h)
item_same _ _ h = cc

same_item_self : (a : ItemShape) → same_item a a ≡ true
same_item_self item.Bool = refl
same_item_self item.Text = refl
same_item_self (item.Int a) = eq-eqb (rank a) (rank a) refl
same_item_self (item.Error a) = same_option_self a
same_item_self (item.Enum a) = eq-eqb a a refl
same_item_self (item.Struct a) = eq-eqb a a refl
same_item_self (item.Class a) = eq-eqb a a refl
same_item_self (item.Interface a) = eq-eqb a a refl
same_item_self (item.Delegate a) = eq-eqb a a refl

-- What passes is a row of the table.
same_at : (ties : Ties) (s t : Shape) → s ≡ t → ShapeFits ties s t
same_at ties s t e = let P : Shape → Type 0 = λ u. ShapeFits ties s u in subst P e (same s)

int_row : (ties : Ties) (k : IntKind) (to : Shape) → int_goes k to ≡ true → ShapeFits ties (Int k) to
int_row ties k (Int to) h = integer k to (leb-true (rank k) (rank to) h)
int_row ties k _ h = cc

enum_row : (ties : Ties) (n : ℕ) (to : Shape) → enum_goes n to ≡ true → ShapeFits ties (Enum n) to
enum_row ties n (Enum to) h = same_at ties (Enum n) (Enum to) (ap Enum (eqb-true n to h))
enum_row ties n (Int to) h = enum n to (leb-true (rank kind.Int32) (rank to) h)
enum_row ties n _ h = cc

class_or : (ties : Ties) (n to : ℕ) (t : Bool) → (n == to) ≡ t → (t || has_base ties n to) ≡ true → ShapeFits ties (Class n) (Class to)
class_or ties n to true e h = same_at ties (Class n) (Class to) (ap Class (eqb-true n to e))
class_or ties n to false e h = base n to ((decides_base ties n to).0 h)

class_row : (ties : Ties) (n : ℕ) (to : Shape) → class_goes ties n to ≡ true → ShapeFits ties (Class n) to
class_row ties n (Class to) h = class_or ties n to (n == to) refl h
class_row ties n (Interface to) h = interface n to ((decides_base ties n to).0 h)
class_row ties n _ h = cc

object_at : (ties : Ties) (n to : ℕ) → to ≡ ties.object → ShapeFits ties (Interface n) (Class to)
object_at ties n to e = let P : ℕ → Type 0 = λ m. ShapeFits ties (Interface n) (Class m) in subst P (sym e) (object n)

interface_row : (ties : Ties) (n : ℕ) (to : Shape) → interface_goes ties n to ≡ true → ShapeFits ties (Interface n) to
interface_row ties n (Interface to) h = same_at ties (Interface n) (Interface to) (ap Interface (eqb-true n to h))
interface_row ties n (Class to) h = object_at ties n to (eqb-true to ties.object h)
interface_row ties n _ h = cc

error_row : (ties : Ties) (d : Option ℕ) (to : Shape) → error_goes d to ≡ true → ShapeFits ties (Error d) to
error_row ties None (Error None) h = same (Error None)
error_row ties (Some d) (Error None) h = domain d
error_row ties (Some d) (Error (Some to)) h = same_at ties (Error (Some d)) (Error (Some to)) (ap (λ m. Error (Some m)) (eqb-true d to h))
error_row ties _ _ h = cc

null_row : (ties : Ties) (to : Shape) → null_goes to ≡ true → ShapeFits ties Null to
null_row ties Null h = same Null
null_row ties Text h = null_text
null_row ties (Class n) h = null_class n
null_row ties (Interface n) h = null_interface n
null_row ties (Delegate n) h = null_delegate n
null_row ties (Error d) h = null_error d
null_row ties (Array of) h = null_array of
null_row ties _ h = cc

row_of : (ties : Ties) (s t : Shape) → shape_goes ties s t ≡ true → ShapeFits ties s t
row_of ties (Int kind) to h = int_row ties kind to h
row_of ties (Enum number) to h = enum_row ties number to h
row_of ties (Class number) to h = class_row ties number to h
row_of ties (Interface number) to h = interface_row ties number to h
row_of ties (Error d) to h = error_row ties d to h
row_of ties Null to h = null_row ties to h
row_of ties (Array of) (Array other) h = same_items of other (item_same of.shape other.shape h)
row_of ties (Struct a) (Struct b) h = same_at ties (Struct a) (Struct b) (ap Struct (eqb-true a b h))
row_of ties (Delegate a) (Delegate b) h = same_at ties (Delegate a) (Delegate b) (ap Delegate (eqb-true a b h))
row_of ties Void Void h = same Void
row_of ties Truth Truth h = same Truth
row_of ties Text Text h = same Text
row_of ties AsyncResult AsyncResult h = same AsyncResult
row_of ties ParamSpec ParamSpec h = same ParamSpec
row_of ties _ _ h = cc

-- A row of the table passes.
goes_self : (ties : Ties) (s : Shape) → shape_goes ties s s ≡ true
goes_self ties Void = refl
goes_self ties Truth = refl
goes_self ties (Int k) = le-leb (rank k) (rank k) (omega arith)
goes_self ties Text = refl
goes_self ties (Enum n) = eq-eqb n n refl
goes_self ties (Struct n) = eq-eqb n n refl
goes_self ties (Class n) = rw (eq-eqb n n refl) refl
goes_self ties (Interface n) = eq-eqb n n refl
goes_self ties (Delegate n) = eq-eqb n n refl
goes_self ties (Error None) = refl
goes_self ties (Error (Some n)) = eq-eqb n n refl
goes_self ties (Array of) = same_item_self of.shape
goes_self ties Null = refl
goes_self ties AsyncResult = refl
goes_self ties ParamSpec = refl

or_second : (a b : Bool) → b ≡ true → (a || b) ≡ true
or_second true b h = refl
or_second false b h = h

pub row_goes : (ties : Ties) (s t : Shape) → ShapeFits ties s t → shape_goes ties s t ≡ true
row_goes ties _ _ (same shape) = goes_self ties shape
row_goes ties _ _ (same_items from to e) = let P : ItemShape → Type 0 = λ u. same_item from.shape u ≡ true in subst P e (same_item_self from.shape)
row_goes ties _ _ (integer from to h) = le-leb (rank from) (rank to) h
row_goes ties _ _ (enum number to h) = le-leb (rank kind.Int32) (rank to) h
row_goes ties _ _ null_text = refl
row_goes ties _ _ (null_class number) = refl
row_goes ties _ _ (null_interface number) = refl
row_goes ties _ _ (null_delegate number) = refl
row_goes ties _ _ (null_error d) = refl
row_goes ties _ _ (null_array of) = refl
row_goes ties _ _ (base number to h) = or_second (number == to) (has_base ties number to) ((decides_base ties number to).1 h)
row_goes ties _ _ (interface number to h) = (decides_base ties number to).1 h
row_goes ties _ _ (object number) = eq-eqb ties.object ties.object refl
row_goes ties _ _ (domain number) = refl

pub decides_fit : (ties : Ties) (s t : Shape) → Decides (shape_goes ties s t) (ShapeFits ties s t)
decides_fit ties s t = (row_of ties s t, row_goes ties s t)
