-- Refusals in their order.
use Rattle.std.specs.Prelude.{if◌then◌else◌, List, [], ◌∷◌}
use Rattle.static_rules.specs.declared.rules.Refusal.{Refusal}
use Rattle.static_rules.specs.Order.{is_earlier}

-- a refusal stands behind the ones that are earlier
abbrev pub put_in : Refusal → List Refusal → List Refusal
put_in r [] = r ∷ []
put_in r (q ∷ qs) = if is_earlier q r then q ∷ put_in r qs else r ∷ q ∷ qs

-- THE SAME REFUSALS, each behind the earlier ones
abbrev pub in_order : List Refusal → List Refusal
in_order [] = []
in_order (r ∷ rs) = put_in r (in_order rs)
