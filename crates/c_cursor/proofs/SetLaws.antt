-- Sets that are told in another order than they are tested.
use Rattle.std.proofs.Common.{◌≡◌, Bool, true, false, ◌&&◌, ◌||◌, refl, ◌∙◌}

-- either of two
pub or_first : (a b x : Bool) → x ≡ a → x ≡ true → x ≡ (a || b)
or_first true b x e h = h
or_first false b x e h = absurd cc

pub or_second : (a b x y : Bool) → x ≡ a → x ≡ false → y ≡ b → y ≡ (a || b)
or_second true b x y e h f = absurd cc
or_second false b x y e h f = f

-- both of two
pub and_second : (a b x y : Bool) → x ≡ a → x ≡ true → y ≡ b → y ≡ (a && b)
and_second true b x y e h f = f
and_second false b x y e h f = absurd cc

pub and_first : (a b x : Bool) → x ≡ a → x ≡ false → x ≡ (a && b)
and_first true b x e h = absurd cc
and_first false b x e h = h

-- one of the first two
pub value_first : (p a r x : Bool) → x ≡ (p || a) → x ≡ true → x ≡ (p || (a || r))
value_first true a r x e h = e
value_first false true r x e h = e
value_first false false r x e h = absurd cc

-- neither of them
pub value_others : (p a r x y : Bool) → x ≡ (p || a) → x ≡ false → y ≡ r → y ≡ (p || (a || r))
value_others true a r x y e h f = absurd cc
value_others false true r x y e h f = absurd cc
value_others false false r x y e h f = f

-- what must stand at the beginning of a line, each by itself
on_each : (a b c d l : Bool) → ((a || (b || (c || d))) && l) ≡ ((a && l) || ((b && l) || ((c && l) || (d && l))))
on_each true b c d true = refl
on_each false true c d true = refl
on_each false false true d true = refl
on_each false false false true true = refl
on_each false false false false true = refl
on_each true true true true false = refl
on_each true true true false false = refl
on_each true true false true false = refl
on_each true true false false false = refl
on_each true false true true false = refl
on_each true false true false false = refl
on_each true false false true false = refl
on_each true false false false false = refl
on_each false true true true false = refl
on_each false true true false false = refl
on_each false true false true false = refl
on_each false true false false false = refl
on_each false false true true false = refl
on_each false false true false false = refl
on_each false false false true false = refl
on_each false false false false false = refl

pub item_others : (h a b c d l x y : Bool) → x ≡ h → x ≡ false → y ≡ ((a || (b || (c || d))) && l)
    → y ≡ (h || ((a && l) || ((b && l) || ((c && l) || (d && l)))))
item_others true a b c d l x y e h f = absurd cc
item_others false a b c d l x y e h f = f ∙ on_each a b c d l

pub ruleset set_laws = (or_first, or_second, and_second, and_first)

pub ruleset value_laws = (value_first, value_others)

pub ruleset item_laws = (or_first, item_others)
