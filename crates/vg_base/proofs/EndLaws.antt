-- Which ends are mates.
use Rattle.std.proofs.Common.{◌≡◌, ◌≢◌, ℕ, ◌+◌, Option, Some, None, refl, sym, ap, ◌∙◌, subst, arith}
use Rattle.vg_base.specs.declared.event.VEnd.{VEnd}
use Rattle.vg_base.specs.declared.event.VEnd.TheVariants as v
use Rattle.vg_base.specs.declared.event.CEnd.{CEnd}
use Rattle.vg_base.specs.declared.event.CEnd.TheVariants as c
use Rattle.vg_base.specs.declared.event.UndefKind.{UndefKind}
use Rattle.vg_base.specs.declared.event.UndefKind.TheVariants as u
use Rattle.vg_base.specs.Run.{Run, Limits, Agrees}
use Rattle.vg_base.specs.World.{Mates}
use Rattle.vg_base.specs.Headline.{Said, Observed, WithinLimits, Headline}
use Rattle.vg_base.specs.Laws.{EndStays}
use Rattle.vg_base.proofs.RunLaws.{never_ends}

-- the one end of a C run that is a mate of this one
abbrev mate_of : VEnd → CEnd
mate_of (v.Ended n) = c.Ended n
mate_of (v.Trapped k) = c.Aborted k
mate_of v.Waiting = c.Waiting
mate_of v.Dead = c.Undefined u.Freed

-- the one end of a Vala run that is a mate of this one, if there is one
abbrev mate_back : CEnd → Option VEnd
mate_back (c.Ended n) = Some (v.Ended n)
mate_back (c.Aborted k) = Some (v.Trapped k)
mate_back c.Waiting = Some v.Waiting
mate_back (c.Undefined u.Freed) = Some v.Dead
mate_back (c.Undefined k) = None

mates_to : (x : VEnd) (y : CEnd) → Mates x y → mate_of x ≡ y
mates_to (v.Ended n) (c.Ended m) h = ap c.Ended h
mates_to (v.Trapped k) (c.Aborted l) h = ap c.Aborted h
mates_to v.Waiting c.Waiting h = refl
mates_to v.Dead (c.Undefined u.Freed) h = refl
mates_to x y h = absurd h

mates_from : (x : VEnd) (y : CEnd) → Mates x y → mate_back y ≡ Some x
mates_from (v.Ended n) (c.Ended m) h = ap (λ z. Some (v.Ended z)) (sym h)
mates_from (v.Trapped k) (c.Aborted l) h = ap (λ z. Some (v.Trapped z)) (sym h)
mates_from v.Waiting c.Waiting h = refl
mates_from v.Dead (c.Undefined u.Freed) h = refl
mates_from x y h = absurd h

pub one_vala_mate : (x y : VEnd) (z : CEnd) → Mates x z → Mates y z → x ≡ y
one_vala_mate x y z h g = let e : Some x ≡ Some y = sym (mates_from x z h) ∙ mates_from y z g in cc

pub one_c_mate : (x : VEnd) (y z : CEnd) → Mates x y → Mates x z → y ≡ z
one_c_mate x y z h g = sym (mates_to x y h) ∙ mates_to x z g

pub undefined_has_no_mate : (x : VEnd) (k : UndefKind) → k ≢ u.Freed → Mates x (c.Undefined k) → ⊥
undefined_has_no_mate v.Dead u.Freed ne h = ne refl
undefined_has_no_mate x k ne h = absurd h

-- so no C run that agrees with a Vala run ends in that way
pub agreeing_is_defined : (l : Limits) (X : Run Said VEnd) (Y : Run Said CEnd) → Agrees Mates l X Y → (m : ℕ) (k : UndefKind) → k ≢ u.Freed → Y.ended m ≢ Some (c.Undefined k)
agreeing_is_defined l X Y a m k ne e = never_ends Mates l X Y a (c.Undefined k) (λ x h. undefined_has_no_mate x k ne h) m e

pub headline_is_defined : (V : Observed VEnd) (C : Observed CEnd) → Headline V C → (m : ℕ) (k : UndefKind) → WithinLimits C m → k ≢ u.Freed → C.ended m ≢ Some (c.Undefined k)
headline_is_defined V C h m k within ne e = let g = (h.backward m within).2 (c.Undefined k) e in undefined_has_no_mate g.0 k ne g.2

-- where the headline holds, the ends of the two runs are mates
pub headline_ends : (V : Observed VEnd) (C : Observed CEnd) → EndStays C → Headline V C → (n m : ℕ) (e : VEnd) (f : CEnd) → WithinLimits V n → V.ended n ≡ Some e → C.ended m ≡ Some f → Mates e f
headline_ends V C stays h n m e f within ev ec =
    let g = h.forward n within in
    let u = g.2 e ev in
    let same : Some u.0 ≡ Some f = sym (stays g.0 (g.0 + m) u.0 (omega arith) u.1) ∙ stays m (g.0 + m) f (omega arith) ec in
    let is : u.0 ≡ f = cc in
    subst (λ z. Mates e z) is u.2
