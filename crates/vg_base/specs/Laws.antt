-- What the laws on runs speak of.
use Rattle.std.specs.Prelude.{◌≡◌, ℕ, ◌+◌, ◌*◌, ◌^◌, ◌≤◌, ◌<◌, ◌⊎◌, Bool, List, [], ◌++◌, Some, IsSome, IsTrue}
use Rattle.vg_base.specs.declared.event.Stream.{Stream}
use Rattle.vg_base.specs.declared.event.VEnd.{VEnd}
use Rattle.vg_base.specs.declared.event.CEnd.{CEnd}
use Rattle.vg_base.specs.Run.{Run, IsRun, Limits, SameEnd, SameEndAs, Agrees}
use Rattle.vg_base.specs.Machine.{Machine, move, moves, said, run_from, Answers}
use Rattle.vg_base.specs.Matched.{Matched}
use Rattle.vg_base.specs.World.{Mates}
use Rattle.vg_base.specs.Headline.{Said, Meaning, events, printed, Observed, observed, WithinLimits, Headline}

-- two ends with one between that is a mate of both
abbrev pub joined : {F G H : Type 0} → (F → G → Type 0) → (G → H → Type 0) → F → H → Type 0
joined {F} {G} m1 m2 f h = (g : G) × m1 f g × m2 g h

-- how far the first and the last of three runs may be apart
abbrev pub joined_limits : Limits → Limits → Limits
joined_limits l k =
    record { bounded = l.bounded; s = l.s + k.s; a = k.a * l.a; b = k.a * l.b + k.b; c = l.c * k.c; d = l.c * k.d + l.d }

-- a part of a list that is the parts of its two halves, one after the other
abbrev pub Parts : {E D : Type 0} → (List E → List D) → Type 0
Parts {E} cut = (xs ys : List E) → cut (xs ++ ys) ≡ cut xs ++ cut ys

-- a run of which only a part of the trace is looked at
abbrev pub cut_run : {E D F : Type 0} → (List E → List D) → Run E F → Run D F
cut_run cut X = record { trace = λ n. cut (X.trace n); ended = X.ended; peak = X.peak }

-- the bytes that were printed on a stream
abbrev pub printed_by : Stream → List Said → List ℕ
printed_by s xs = printed s (events xs)

-- an end stays
abbrev pub EndStays : {F : Type 0} → Observed F → Type 0
EndStays {F} X = (n m : ℕ) (e : F) → n ≤ m → X.ended n ≡ Some e → X.ended m ≡ Some e

-- runs that go in step agree in both directions
abbrev pub MatchedRunsAgree : Type 0
MatchedRunsAgree =
    (l : Limits) (X : Run Said VEnd) (Y : Run Said CEnd) → IsRun X → IsRun Y → Y.peak 0 ≤ X.peak 0 + l.s → X.peak 0 ≤ Y.peak 0 + l.s
    → Matched Mates l X Y → Agrees Mates l X Y

-- a run that agrees with one of the same ends agrees with what that one agrees with
abbrev pub AgreementComposes : Type 0
AgreementComposes =
    (l k : Limits) (X Y : Run Said VEnd) (Z : Run Said CEnd) → l.bounded ≡ k.bounded
    → Agrees SameEndAs l X Y → Agrees Mates k Y Z → Agrees Mates (joined_limits l k) X Z

-- runs that agree agree in a part of what they say
abbrev pub AgreeInPart : {D : Type 0} → (List Said → List D) → Type 0
AgreeInPart cut = (l : Limits) (X : Run Said VEnd) (Y : Run Said CEnd) → Agrees Mates l X Y → Agrees Mates l (cut_run cut X) (cut_run cut Y)

-- the ends of both are mates, where the first is within the limits
abbrev pub EndsAreMates : Observed VEnd → Observed CEnd → Type 0
EndsAreMates V C = (n m : ℕ) (e : VEnd) (f : CEnd) → WithinLimits V n → V.ended n ≡ Some e → C.ended m ≡ Some f → Mates e f

-- how far two runs may be apart that go in blocks of at most w steps
abbrev pub limits : Bool → ℕ → ℕ → Limits
limits bounded s w = record { bounded = bounded; s = s; a = w; b = 0; c = w; d = 0 }

-- Two machines go in step from related states on, and so agree, if blocks of steps with bounds keep the relation.
-- The relation is a test here, as a clause cannot speak of all relations.
abbrev pub BlocksAgree : Type 0 → Type 0 → Type 0
BlocksAgree S T =
    (M : Machine S Said VEnd) (N : Machine T Said CEnd) (test : S → T → Bool) (bounded : Bool) (s w : ℕ)
    → ((x : S) (y : T) → IsTrue (test x y) → SameEnd Mates (M.ended x) (N.ended y))
    → ((x : S) (y : T) → IsTrue (test x y) → Answers bounded s w M N (λ x y. IsTrue (test x y)) x y)
    → (x : S) (y : T) → IsTrue (test x y) → M.top x ≤ N.top y + s → N.top y ≤ M.top x + s
    → Matched Mates (limits bounded s w) (run_from M x) (run_from N y) × Agrees Mates (limits bounded s w) (run_from M x) (run_from N y)

-- A block of steps on either side that says the same and keeps the relation, however long it is and whatever is counted in it.
pub record Meets {S T E F G : Type 0} (M : Machine S E F) (N : Machine T E G) (R : S → T → Type 0) (x : S) (y : T) : Type 0 where
  pub n : ℕ
  pub j : ℕ
  pub some : 0 < n
  pub some_too : 0 < j
  pub said : said M n x ≡ said N j y
  pub kept : R (moves M n x) (moves N j y)

-- A step of the first machine that the other does not make: it says nothing, and a measure falls.
pub record Alone {S T E F : Type 0} (M : Machine S E F) (R : S → T → Type 0) (size : S → ℕ) (x : S) (y : T) : Type 0 where
  pub quiet : (move M x).1 ≡ []
  pub falls : size (move M x).0 < size x
  pub kept : R (move M x).0 y

-- related states end in mates, and the same lives in both
abbrev pub EndsMeet : {S T : Type 0} → Meaning S VEnd → Meaning T CEnd → (S → T → Type 0) → Type 0
EndsMeet {S} {T} V C R =
    (x : S) (y : T) → R x y
    → SameEnd Mates (V.machine.ended x) (C.machine.ended y) × (IsSome (V.machine.ended x) → V.live x ≡ C.live y)

-- from related states on, if one of them is within the limits, blocks of steps lead to related states
abbrev pub BlocksMeet : {S T : Type 0} → Meaning S VEnd → Meaning T CEnd → (S → T → Type 0) → Type 0
BlocksMeet {S} {T} V C R =
    (x : S) (y : T) → R x y → (V.machine.top x < 2 ^ 63) ⊎ (C.machine.top y < 2 ^ 63) → Meets V.machine C.machine R x y

-- The headline holds from related states on, if such states end alike and blocks of steps keep the relation.
-- The relation is a test here too.
abbrev pub BlocksGiveHeadline : Type 0 → Type 0 → Type 0
BlocksGiveHeadline S T =
    (V : Meaning S VEnd) (C : Meaning T CEnd) (test : S → T → Bool)
    → EndsMeet V C (λ x y. IsTrue (test x y)) → BlocksMeet V C (λ x y. IsTrue (test x y))
    → (x : S) (y : T) → IsTrue (test x y) → Headline (observed V x) (observed C y)
