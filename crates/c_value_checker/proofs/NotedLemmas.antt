-- Faults one after another.
use Rattle.std.proofs.Math.Seq.{drop-cons}
use Rattle.std.proofs.Common.{Result, Ok, Err, OnOk, ◌≡◌, ◌∙◌, refl, sym, ap, ℕ, suc, ◌+◌, ◌<◌, length, get_or, drop, arith, nat_le, nat_lt, Bool, true, false, if◌then◌else◌, List, [], ◌∷◌, ◌++◌, Option, Some, None}
use Rattle.c_tree.specs.declared.kinds.Fault.{Fault}
use Rattle.c_tree.specs.declared.kinds.Cause.{Cause}
use Rattle.c_tree.specs.Faults.{fault, least, lesser, known, is_known, later, behind_first}
use Rattle.c_value_checker.specs.declared.faults.Findings.{Findings}
use Rattle.c_value_checker.specs.Noted.{begun, known_from, noted, raised}

least_append : (o : Option Fault) (a b : List Fault) → least o (a ++ b) ≡ least (least o a) b
least_append o [] b = refl
least_append o (f ∷ a) b = least_append (lesser o f) a b

known_if : (t : Bool) (f : Fault) (last : ℕ) (a b : List Fault) → known last (a ++ b) ≡ known last a ++ known last b
    → (if t then f ∷ known last (a ++ b) else known last (a ++ b)) ≡ (if t then f ∷ known last a else known last a) ++ known last b
known_if true f last a b e = ap (λ z. f ∷ z) e
known_if false f last a b e = e

known_append : (last : ℕ) (a b : List Fault) → known last (a ++ b) ≡ known last a ++ known last b
known_append last [] b = refl
known_append last (f ∷ a) b = known_if (is_known last f) f last a b (known_append last a b)

raised_append : (n : ℕ) (a b : List Fault) → raised n (a ++ b) ≡ raised n a ++ raised n b
raised_append n [] b = refl
raised_append n (f ∷ a) b = ap (λ z. later n f ∷ z) (raised_append n a b)

pub noted_append : (f : Findings) (a b : List Fault) → noted f (a ++ b) ≡ noted (noted f a) b
noted_append f a b = ap (λ o. record f { first = o })
    (ap (λ l. least f.first (known f.last l)) (raised_append f.floor a b) ∙ ap (least f.first) (known_append f.last (raised f.floor a) (raised f.floor b))
    ∙ least_append f.first (known f.last (raised f.floor a)) (known f.last (raised f.floor b)))

-- from where on a fault is known that is not known before a place
abbrev since_behind : ℕ → ℕ → ℕ
since_behind n s = if nat_le n s then s else n

later_by : (t : Bool) (n : ℕ) (f : Fault) → (if t then f else record f { since = n }) ≡ record f { since = if t then f.since else n }
later_by true n f = refl
later_by false n f = refl

later_is : (n : ℕ) (f : Fault) → later n f ≡ record f { since = since_behind n f.since }
later_is n f = later_by (nat_le n f.since) n f

some_if : (b : Bool) (s t : ℕ) → Some s ≡ (if b then Some t else None) → s ≡ t
some_if true s t h = cc
some_if false s t h = absurd (let n : ⊥ = cc in n)

none_if : (b : Bool) (t : ℕ) → None ≡ (if b then Some t else None) → b ≡ false
none_if true t h = absurd (let n : ⊥ = cc in n)
none_if false t h = refl

-- a fault that is known
pub note_known : (f : Findings) (c : Cause) (place since s : ℕ) → Some s ≡ known_from f.floor f.last since
    → least f.first (known f.last (fault c place s)) ≡ least f.first (known f.last (raised f.floor (fault c place since)))
note_known f c place since s h =
    ap (λ x. least f.first (known f.last (x ∷ []))) (ap (λ n. record { place = place; cause = c; since = n }) (some_if (nat_le (since_behind f.floor since) f.last) s (since_behind f.floor since) h)
    ∙ sym (later_is f.floor (record { place = place; cause = c; since = since })))

-- a fault that is not known yet
pub note_late : (f : Findings) (c : Cause) (place since : ℕ) → None ≡ known_from f.floor f.last since
    → f.first ≡ least f.first (known f.last (raised f.floor (fault c place since)))
note_late f c place since h =
    sym (ap (λ x. least f.first (known f.last (x ∷ []))) (later_is f.floor (record { place = place; cause = c; since = since }))
    ∙ ap (λ b. least f.first (if b then record { place = place; cause = c; since = since_behind f.floor since } ∷ [] else [])) (none_if (nat_le (since_behind f.floor since) f.last) (since_behind f.floor since) h))

since_twice : (n m s : ℕ) → since_behind n (since_behind m s) ≡ since_behind (if nat_lt n m then m else n) s
since_twice n m s = grind arith

later_twice : (n m : ℕ) (f : Fault) → later n (later m f) ≡ later (if nat_lt n m then m else n) f
later_twice n m f = ap (later n) (later_is m f) ∙ later_is n (record f { since = since_behind m f.since }) ∙ ap (λ s. record f { since = s }) (since_twice n m f.since)
    ∙ sym (later_is (if nat_lt n m then m else n) f)

raised_behind : (n start : ℕ) (fs : List Fault) → raised n (behind_first start fs) ≡ raised (if nat_lt n (suc start) then suc start else n) fs
raised_behind n start [] = refl
raised_behind n start (f ∷ fs) = (λ i. later_twice n (suc start) f i ∷ raised_behind n start fs i)

-- what is noted between the beginning of a statement and its end
pub noted_behind : (f : Findings) (start : ℕ) (fs : List Fault) → record (noted (begun f start) fs) { floor = f.floor } ≡ noted f (behind_first start fs)
noted_behind f start fs = ap (λ l. record f { first = least f.first (known f.last l) }) (sym (raised_behind f.floor start fs))

-- two lists of faults, one after the other
pub noted_both : (f g h : Findings) (a b : List Fault) → g ≡ noted f a → h ≡ noted g b → h ≡ noted f (a ++ b)
noted_both f g h a b p q = q ∙ ap (λ x. noted x b) p ∙ sym (noted_append f a b)

-- the rest of a list behind one of it
pub dropped : {A : Type 0} (xs : List A) (i : ℕ) (x : A) → i < length xs → x ≡ get_or xs i x → drop i xs ≡ x ∷ drop (i + 1) xs
dropped xs i x h is = drop-cons xs i x h ∙ (λ k. sym is k ∷ drop ((let e : suc i ≡ i + 1 = omega arith in e) k) xs)

-- one more of a list of which each has faults
pub noted_step : {A : Type 0} (f : A → List Fault) (all : List A → List Fault) → ((x : A) (l : List A) → all (x ∷ l) ≡ f x ++ all l) → (xs : List A) (i : ℕ) (x : A) (t u z : Findings)
    → i < length xs → x ≡ get_or xs i x → u ≡ noted t (f x) → noted t (all (drop i xs)) ≡ z → noted u (all (drop (i + 1) xs)) ≡ z
noted_step {A} f all step xs i x t u z h is e given =
    ap (λ y. noted y (all (drop (i + 1) xs))) e ∙ sym (noted_append t (f x) (all (drop (i + 1) xs))) ∙ ap (noted t) (sym (step x (drop (i + 1) xs))) ∙ ap (λ l. noted t (all l)) (sym (dropped xs i x h is)) ∙ given

-- what is noted within a statement
pub behind_step : (f g h : Findings) (start n : ℕ) (fs : List Fault) → g ≡ begun f start → n ≡ f.floor → h ≡ noted g fs → record h { floor = n } ≡ noted f (behind_first start fs)
behind_step f g h start n fs eg en eh =
    ap (λ (x : Findings). record x { floor = n }) (eh ∙ ap (λ x. noted x fs) eg) ∙ ap (λ m. record (noted (begun f start) fs) { floor = m }) en ∙ noted_behind f start fs

-- what follows where a call went well
pub on_ok : {T E A B : Type 0} (r : Result T E) → OnOk r A → (A → B) → OnOk r B
on_ok (Ok x) h f = f h
on_ok (Err e) h f = h
