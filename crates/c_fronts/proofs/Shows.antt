-- What a question finds among the faults that are known where a token begins.
use Rattle.std.proofs.Common.{◌≡◌, ◌∙◌, refl, ap, ap₂, ℕ, suc, ◌<◌, ◌≤◌, nat_le, nat_lt, Bool, true, false, ◌&&◌, ◌||◌, if◌then◌else◌, List, [], ◌∷◌}
use Rattle.std.proofs.Common.{◌++◌, Option, Some, None, arith}
use Rattle.c_tree.specs.declared.kinds.Cause.{Cause}
use Rattle.c_tree.specs.declared.kinds.Fault.{Fault}
use Rattle.c_tree.specs.declared.kinds.Kind.{Kind}
use Rattle.c_tree.specs.declared.names.Name.{Name}
use Rattle.c_tree.specs.declared.names.Span.{Span}
use Rattle.c_tree.specs.Faults.{Outcome, Gives, Wrong, Silent, outcome, outcome_faults, on, is_known, misfit, undeclared, twice, unless, later}
use Rattle.c_tree.specs.Faults.{behind_first, fault}

-- A question: whether it is asked at all, and of which places and causes.
pub record Probe : Type 0 where
  pub on : Bool
  pub asks : ℕ → Cause → Bool

-- whether a fault that is known is one that is asked for
abbrev pub finds : ℕ → Probe → Fault → Bool
finds last p f = p.on && (is_known last f && p.asks f.place f.cause)

-- whether one of these is
abbrev pub shows : ℕ → Probe → List Fault → Bool
shows last p [] = false
shows last p (f ∷ fs) = finds last p f || shows last p fs

-- asked only where a place lies in front of the last token
abbrev pub gated : ℕ → ℕ → Probe → Probe
gated last start p = record { on = p.on && nat_lt start last; asks = p.asks }

-- 1. Alternatives

pub or_none : (a : Bool) → (a || false) ≡ a
or_none true = refl
or_none false = refl

pub or_both : (a b c : Bool) → (a || (b || c)) ≡ ((a || b) || c)
or_both true b c = refl
or_both false b c = refl

pub or_turn : (a b : Bool) → (a || b) ≡ (b || a)
or_turn true true = refl
or_turn true false = refl
or_turn false true = refl
or_turn false false = refl

-- two by two
pub or_pairs : (a b c d : Bool) → ((a || b) || (c || d)) ≡ ((a || c) || (b || d))
or_pairs true b c d = refl
or_pairs false true true d = refl
or_pairs false true false d = refl
or_pairs false false true d = refl
or_pairs false false false d = refl

-- a second alternative that is none
pub or_drop : (a b : Bool) → b ≡ false → (a || b) ≡ a
or_drop a b e = ap (λ x. a || x) e ∙ or_none a

pub and_none : (a : Bool) → (a && false) ≡ false
and_none true = refl
and_none false = refl

-- 2. Lists

pub shows_append : (n : ℕ) (p : Probe) (a b : List Fault) → shows n p (a ++ b) ≡ (shows n p a || shows n p b)
shows_append n p [] b = refl
shows_append n p (f ∷ a) b = ap (λ x. finds n p f || x) (shows_append n p a b) ∙ or_both (finds n p f) (shows n p a) (shows n p b)

-- three
pub shows_three : (n : ℕ) (p : Probe) (a b c : List Fault) → shows n p (a ++ b ++ c) ≡ ((shows n p a || shows n p b) || shows n p c)
shows_three n p a b c = shows_append n p (a ++ b) c ∙ ap (λ x. x || shows n p c) (shows_append n p a b)

-- a last one of which nothing is found
pub shows_drop : (n : ℕ) (p : Probe) (a b : List Fault) → shows n p b ≡ false → shows n p (a ++ b) ≡ shows n p a
shows_drop n p a b e = shows_append n p a b ∙ or_drop (shows n p a) (shows n p b) e

-- 3. Faults that are not known yet

not_within : (a b : ℕ) → b < a → nat_le a b ≡ false
not_within a b h = grind arith

pub late_fault : (n : ℕ) (p : Probe) (f : Fault) → n < f.since → finds n p f ≡ false
late_fault n p f h = ap (λ x. p.on && (x && p.asks f.place f.cause)) (not_within f.since n h) ∙ and_none p.on

pub late_one : (n : ℕ) (p : Probe) (c : Cause) (place since : ℕ) → n < since → shows n p (fault c place since) ≡ false
late_one n p c place since h = ap (λ x. x || false) (late_fault n p (record { place = place; cause = c; since = since }) h)

pub late_misfit : (n : ℕ) (p : Probe) (s : Span) → n < s.end → shows n p (misfit s) ≡ false
late_misfit n p s h = late_one n p _ s.start s.end h

pub late_undeclared : (n : ℕ) (p : Probe) (x : Name) → n < x.span.start → shows n p (undeclared x) ≡ false
late_undeclared n p x h = late_one n p _ x.span.start x.span.start h

pub late_twice : (n : ℕ) (p : Probe) (x : Name) → n < x.span.start → shows n p (twice x) ≡ false
late_twice n p x h = late_one n p _ x.span.start x.span.start h

pub late_unless : (n : ℕ) (p : Probe) (b : Bool) (fs : List Fault) → shows n p fs ≡ false → shows n p (unless b fs) ≡ false
late_unless n p true fs h = refl
late_unless n p false fs h = h

-- an outcome that lacks no field
pub data IsPlain : Outcome → Type 0 where
  plain_gives : {k : Kind} → IsPlain (Gives k)
  plain_wrong : IsPlain Wrong
  plain_silent : IsPlain Silent

pub plain_outcome : (o : Option Kind) → IsPlain (outcome o)
plain_outcome None = plain_wrong
plain_outcome (Some k) = plain_gives

pub plain_on : (o : Option Kind) (f : Kind → Outcome) → ((k : Kind) → IsPlain (f k)) → IsPlain (on o f)
plain_on None f h = plain_silent
plain_on (Some k) f h = h k

pub plain_if : (b : Bool) (o q : Outcome) → IsPlain o → IsPlain q → IsPlain (if b then o else q)
plain_if true o q h g = h
plain_if false o q h g = g

pub late_outcome : (n : ℕ) (p : Probe) {o : Outcome} (s : Span) → IsPlain o → n < s.end → shows n p (outcome_faults o s) ≡ false
late_outcome n p s plain_gives h = refl
late_outcome n p s plain_wrong h = late_misfit n p s h
late_outcome n p s plain_silent h = refl

-- 4. Behind the first token

not_on : (a b : ℕ) → a ≤ b → nat_lt b a ≡ false
not_on a b h = grind arith

-- nothing is asked while the first token is the last
pub gate_shut : (n start : ℕ) (p : Probe) (fs : List Fault) → n ≤ start → shows n (gated n start p) fs ≡ false
gate_shut n start p [] h = refl
gate_shut n start p (f ∷ fs) h =
    ap (λ x. ((p.on && x) && (is_known n f && p.asks f.place f.cause)) || shows n (gated n start p) fs) (not_on n start h)
    ∙ ap (λ x. (x && (is_known n f && p.asks f.place f.cause)) || shows n (gated n start p) fs) (and_none p.on) ∙ gate_shut n start p fs h

later_known : (n start since : ℕ) → (if nat_le (suc start) since then nat_le since n else nat_le (suc start) n) ≡ (nat_lt start n && nat_le since n)
later_known n start since = by_test (nat_le (suc start) since) refl
  where
    by_test : (b : Bool) → nat_le (suc start) since ≡ b → (if b then nat_le since n else nat_le (suc start) n) ≡ (nat_lt start n && nat_le since n)
    by_test true e = grind arith
    by_test false e = grind arith

gate_known : (o g k a : Bool) → (o && ((g && k) && a)) ≡ ((o && g) && (k && a))
gate_known true true k a = refl
gate_known true false k a = refl
gate_known false g k a = refl

pub later_finds : (n start : ℕ) (p : Probe) (f : Fault) → finds n p (later (suc start) f) ≡ finds n (gated n start p) f
later_finds n start p f = by_test (nat_le (suc start) f.since) (later_known n start f.since)
  where
    by_test : (b : Bool) → (if b then nat_le f.since n else nat_le (suc start) n) ≡ (nat_lt start n && nat_le f.since n)
        → finds n p (if b then f else record f { since = suc start }) ≡ finds n (gated n start p) f
    by_test true e = ap (λ x. p.on && (x && p.asks f.place f.cause)) e ∙ gate_known p.on (nat_lt start n) (nat_le f.since n) (p.asks f.place f.cause)
    by_test false e = ap (λ x. p.on && (x && p.asks f.place f.cause)) e ∙ gate_known p.on (nat_lt start n) (nat_le f.since n) (p.asks f.place f.cause)

pub shows_behind : (n start : ℕ) (p : Probe) (fs : List Fault) → shows n p (behind_first start fs) ≡ shows n (gated n start p) fs
shows_behind n start p [] = refl
shows_behind n start p (f ∷ fs) = ap₂ (λ x y. x || y) (later_finds n start p f) (shows_behind n start p fs)
