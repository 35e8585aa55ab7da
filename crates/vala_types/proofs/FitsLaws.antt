-- What the table of fits says as a whole.
use Rattle.std.proofs.Common.{◌≡◌, ℕ, ◌<◌, ◌≤◌, true, false, [], ◌∷◌, Option, Some, None, refl, ◌∙◌, subst, arith, lit<, ◌↔◌, Bool, IsTrue, sym}
use Rattle.std.proofs.lemmas.Bool.{eqb-true, leb-true}
use Rattle.vala_types.specs.declared.types.IntKind.{IntKind}
use Rattle.vala_types.specs.declared.types.IntKind.TheVariants.{Int32}
use Rattle.vala_types.specs.declared.types.Item.{Item}
use Rattle.vala_types.specs.declared.types.Shape.{Shape}
use Rattle.vala_types.specs.declared.types.Shape.TheVariants.{Int, Text, Enum, Struct, Class, Interface, Delegate, Error, Array, Null}
use Rattle.vala_types.specs.declared.types.VType.{VType}
use Rattle.vala_types.specs.declared.ties.Ties.{Ties}
use Rattle.vala_types.specs.Ranks.{rank}
use Rattle.vala_types.specs.Ties.{HasBase, direct, beyond}
use Rattle.vala_types.specs.Fits.{ShapeFits, Fits, same, same_items, integer, enum, null_text, null_class, null_interface, null_delegate, null_error, null_array, base, interface, object, domain}
use Rattle.vala_types.specs.Laws.{ObjectIsOnTop, IsObject, Breaks}
use Rattle.vala_types.proofs.FitsLemmas.{row_goes}

pub itself : (ties : Ties) (a : VType) → Fits ties a a
itself ties a = same a.shape

pub without_marks : (ties : Ties) (a b c d : VType) → a.shape ≡ c.shape → b.shape ≡ d.shape → Fits ties a b → Fits ties c d
without_marks ties a b c d e f h =
    let P : Shape → Type 0 = λ s. ShapeFits ties s b.shape in
    let Q : Shape → Type 0 = λ s. ShapeFits ties c.shape s in
    subst Q f (subst P e h)

pub join : (ties : Ties) (a b c : ℕ) → HasBase ties a b → HasBase ties b c → HasBase ties a c
join ties _ _ c (direct a b d) h = beyond a b c d h
join ties _ _ c (beyond a next b d rest) h = beyond a next c d (join ties next b c rest h)

-- each row, and what the place's shape fits in turn
after_int : (ties : Ties) (k l : IntKind) (c : Shape) → rank k ≤ rank l → ShapeFits ties (Int l) c → ShapeFits ties (Int k) c
after_int ties k l _ h (same _) = integer k l h
after_int ties k l _ h (integer _ m g) = integer k m (omega arith)

after_enum : (ties : Ties) (n : ℕ) (l : IntKind) (c : Shape) → rank Int32 ≤ rank l → ShapeFits ties (Int l) c → ShapeFits ties (Enum n) c
after_enum ties n l _ h (same _) = enum n l h
after_enum ties n l _ h (integer _ m g) = enum n m (omega arith)

after_array : (ties : Ties) (a b : Item) (c : Shape) → a.shape ≡ b.shape → ShapeFits ties (Array b) c → ShapeFits ties (Array a) c
after_array ties a b _ e (same _) = same_items a b e
after_array ties a b _ e (same_items _ d f) = same_items a d (e ∙ f)

after_text : (ties : Ties) (c : Shape) → ShapeFits ties Text c → ShapeFits ties Null c
after_text ties _ (same _) = null_text

after_delegate : (ties : Ties) (n : ℕ) (c : Shape) → ShapeFits ties (Delegate n) c → ShapeFits ties Null c
after_delegate ties n _ (same _) = null_delegate n

after_null_array : (ties : Ties) (of : Item) (c : Shape) → ShapeFits ties (Array of) c → ShapeFits ties Null c
after_null_array ties of _ (same _) = null_array of
after_null_array ties of _ (same_items _ to e) = null_array to

after_null_class : (ties : Ties) (n : ℕ) (c : Shape) → ShapeFits ties (Class n) c → ShapeFits ties Null c
after_null_class ties n _ (same _) = null_class n
after_null_class ties n _ (base _ to h) = null_class to
after_null_class ties n _ (interface _ to h) = null_interface to

after_null_interface : (ties : Ties) (n : ℕ) (c : Shape) → ShapeFits ties (Interface n) c → ShapeFits ties Null c
after_null_interface ties n _ (same _) = null_interface n
after_null_interface ties n _ (object _) = null_class ties.object

after_null_error : (ties : Ties) (d : Option ℕ) (c : Shape) → ShapeFits ties (Error d) c → ShapeFits ties Null c
after_null_error ties d _ (same _) = null_error d
after_null_error ties d _ (domain _) = null_error None

after_base : (ties : Ties) (n b : ℕ) (c : Shape) → HasBase ties n b → ShapeFits ties (Class b) c → ShapeFits ties (Class n) c
after_base ties n b _ h (same _) = base n b h
after_base ties n b _ h (base _ to g) = base n to (join ties n b to h g)
after_base ties n b _ h (interface _ to g) = interface n to (join ties n b to h g)

after_interface : (ties : Ties) (n b : ℕ) (c : Shape) → IsObject ties (Class n) → HasBase ties n b → ShapeFits ties (Interface b) c → ShapeFits ties (Class n) c
after_interface ties n b _ is h (same _) = interface n b h
after_interface ties n b _ is h (object _) = is b (interface n b h)

after_object : (ties : Ties) (n : ℕ) (c : Shape) → ObjectIsOnTop ties → ShapeFits ties (Class ties.object) c → ShapeFits ties (Interface n) c
after_object ties n _ top (same _) = object n
after_object ties n _ top (base _ to h) = absurd (top to h)
after_object ties n _ top (interface _ to h) = absurd (top to h)

after_domain : (ties : Ties) (n : ℕ) (c : Shape) → ShapeFits ties (Error None) c → ShapeFits ties (Error (Some n)) c
after_domain ties n _ (same _) = domain n

through_shapes : (ties : Ties) (a b c : Shape) → ObjectIsOnTop ties → IsObject ties a → ShapeFits ties a b → ShapeFits ties b c → ShapeFits ties a c
through_shapes ties _ _ c top is (same _) q = q
through_shapes ties _ _ c top is (same_items a b e) q = after_array ties a b c e q
through_shapes ties _ _ c top is (integer k l h) q = after_int ties k l c h q
through_shapes ties _ _ c top is (enum n l h) q = after_enum ties n l c h q
through_shapes ties _ _ c top is null_text q = after_text ties c q
through_shapes ties _ _ c top is (null_class n) q = after_null_class ties n c q
through_shapes ties _ _ c top is (null_interface n) q = after_null_interface ties n c q
through_shapes ties _ _ c top is (null_delegate n) q = after_delegate ties n c q
through_shapes ties _ _ c top is (null_error d) q = after_null_error ties d c q
through_shapes ties _ _ c top is (null_array of) q = after_null_array ties of c q
through_shapes ties _ _ c top is (base n b h) q = after_base ties n b c h q
through_shapes ties _ _ c top is (interface n b h) q = after_interface ties n b c is h q
through_shapes ties _ _ c top is (object n) q = after_object ties n c top q
through_shapes ties _ _ c top is (domain n) q = after_domain ties n c q

pub through : (ties : Ties) (a b c : VType) → ObjectIsOnTop ties → IsObject ties a.shape → Fits ties a b → Fits ties b c → Fits ties a c
through ties a b c = through_shapes ties a.shape b.shape c.shape

-- a class 1 that lists the interface 2 alone
lone : Ties
lone = record { object = 0; rows = [] ∷ (2 ∷ []) ∷ [] }

pub class_breaks : (ties : Ties) × (a b : ℕ) × Breaks ties (Class a) (Interface b) (Class ties.object)
unfolding lone
class_breaks = (lone, 1, 2, (interface 1 2 (direct 1 2 (0, lit< tt, refl)), object 2, λ h. let g : false ≡ true = row_goes lone (Class 1) (Class 0) h in absurd cc))

-- `Object` with a base
low : Ties
low = record { object = 0; rows = (1 ∷ []) ∷ [] }

pub top_breaks : (ties : Ties) × (a c : ℕ) × Breaks ties (Interface a) (Class ties.object) (Class c)
unfolding low
top_breaks = (low, 2, 1, (object 2, base 0 1 (direct 0 1 (0, lit< tt, refl)), λ h. let g : false ≡ true = row_goes low (Interface 2) (Class 1) h in absurd cc))

-- what the table leaves out
pub no_narrower : (ties : Ties) (a b : IntKind) → rank b < rank a → ShapeFits ties (Int a) (Int b) → ⊥
no_narrower ties a b h p = let g : rank a ≤ rank b = leb-true (rank a) (rank b) (row_goes ties (Int a) (Int b) p) in omega arith

pub no_other_interface : (ties : Ties) (a b : ℕ) → ShapeFits ties (Interface a) (Interface b) → a ≡ b
no_other_interface ties a b p = eqb-true a b (row_goes ties (Interface a) (Interface b) p)

pub no_domain : (ties : Ties) (a : ℕ) → ShapeFits ties (Error None) (Error (Some a)) → ⊥
no_domain ties a p = let g : false ≡ true = row_goes ties (Error None) (Error (Some a)) p in cc

pub no_null_number : (ties : Ties) (a : IntKind) → ShapeFits ties Null (Int a) → ⊥
no_null_number ties a p = let g : false ≡ true = row_goes ties Null (Int a) p in cc

pub no_null_struct : (ties : Ties) (a : ℕ) → ShapeFits ties Null (Struct a) → ⊥
no_null_struct ties a p = let g : false ≡ true = row_goes ties Null (Struct a) p in cc

-- two answers that are both as the table says are the same
pub one_answer : (ties : Ties) (from to : VType) (a b : Bool) → (IsTrue a ↔ Fits ties from to) → (IsTrue b ↔ Fits ties from to) → a ≡ b
one_answer ties from to true b f g = sym (g.1 (f.0 refl))
one_answer ties from to false true f g = f.1 (g.0 refl)
one_answer ties from to false false f g = refl
