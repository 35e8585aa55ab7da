-- What the laws on types speak of.
use Rattle.std.specs.Prelude.{ℕ}
use Rattle.vala_types.specs.declared.types.Shape.{Shape}
use Rattle.vala_types.specs.declared.types.Shape.TheVariants.{Class, Interface}
use Rattle.vala_types.specs.declared.ties.Ties.{Ties}
use Rattle.vala_types.specs.Ties.{HasBase}
use Rattle.vala_types.specs.Fits.{ShapeFits}

-- `Object` has no bases
abbrev pub ObjectIsOnTop : Ties → Type 0
ObjectIsOnTop ties = (base : ℕ) → HasBase ties ties.object base → ⊥

-- what fits an interface fits `Object` too
abbrev pub IsObject : Ties → Shape → Type 0
IsObject ties shape = (number : ℕ) → ShapeFits ties shape (Interface number) → ShapeFits ties shape (Class ties.object)

-- three shapes of which each fits the next, and the first does not fit the last
abbrev pub Breaks : Ties → Shape → Shape → Shape → Type 0
Breaks ties a b c = ShapeFits ties a b × ShapeFits ties b c × (ShapeFits ties a c → ⊥)
