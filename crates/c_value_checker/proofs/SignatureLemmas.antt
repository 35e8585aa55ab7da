-- The numbers of signatures, by their index.
use Rattle.std.proofs.Common.{◌≡◌, ◌∙◌, refl, sym, ap, arith, ℕ, suc, ◌+◌, Bool, true, false, if◌then◌else◌, cond, is_some, length, map, List, [], ◌∷◌, ◌++◌, Option, Some, None}
use Rattle.std.proofs.lemmas.List.{length-map, map-append, same_from_push}
use Rattle.std.specs.Borrow.{Bor}
use Rattle.std.specs.HashMap.{HashMap, IsUnchanged, get_by}
use Rattle.std.specs.Map.{lookup}
use Rattle.std.specs.Option.{MatchOption, option_copied}
use Rattle.c_tree.specs.Library as rule
use Rattle.c_tree.specs.Env.{same_takes, signature_number}
use Rattle.c_value_checker.specs.declared.takes.Takes.{Takes}
use Rattle.c_value_checker.specs.Takes.{takes_seen}
use Rattle.c_value_checker.specs.Signatures.{IsIndexed, first_place}
use Rattle.c_value_checker.proofs.StructLemmas.{or_number, or_if, old_case, new_case}
use Rattle.c_value_checker.specs.TakesLaws.{takes_same}

-- 1. What the index has is the number

-- a number, or another
abbrev place_or : Option ℕ → ℕ → ℕ
place_or (Some n) m = n
place_or None m = m

place_if : (b : Bool) (n m : ℕ) (o : Option ℕ) → place_or (if b then Some n else o) m ≡ (if b then n else place_or o m)
place_if true n m o = refl
place_if false n m o = refl

number_is : (n : ℕ) (ts : List rule.Takes) (x : rule.Takes) → place_or (first_place n ts x) (n + length ts) ≡ signature_number n ts x
number_is n [] x = let e : n + 0 ≡ n = omega arith in e
number_is n (t ∷ ts) x =
    place_if (same_takes t x) n (n + suc (length ts)) (first_place (suc n) ts x)
    ∙ ap (λ k. if same_takes t x then n else k) (ap (place_or (first_place (suc n) ts x)) (let e : n + suc (length ts) ≡ suc n + length ts = omega arith in e) ∙ number_is (suc n) ts x)

-- a signature that is there
pub number_there : {S : Type 0} (index : HashMap Takes ℕ S) (ts : List Takes) (t : Takes) (n : ℕ) → IsIndexed index (map takes_seen ts)
    → Some n ≡ get_by (λ k. same_takes (takes_seen t) (takes_seen k)) index → n ≡ signature_number 0 (map takes_seen ts) (takes_seen t)
number_there index ts t n p e = ap (λ o. place_or o (0 + length (map takes_seen ts))) (e ∙ p t) ∙ number_is 0 (map takes_seen ts) (takes_seen t)

-- a new one
pub number_next : {S : Type 0} (index : HashMap Takes ℕ S) (ts : List Takes) (t : Takes) → IsIndexed index (map takes_seen ts)
    → None ≡ get_by (λ k. same_takes (takes_seen t) (takes_seen k)) index → length ts ≡ signature_number 0 (map takes_seen ts) (takes_seen t)
number_next index ts t p e =
    sym (length-map ts takes_seen)
    ∙ (let z : length (map takes_seen ts) ≡ 0 + length (map takes_seen ts) = omega arith in z)
    ∙ ap (λ o. place_or o (0 + length (map takes_seen ts))) (e ∙ p t)
    ∙ number_is 0 (map takes_seen ts) (takes_seen t)

-- 2. One more signature

-- one more at the end
place_last : (n : ℕ) (ts : List rule.Takes) (t x : rule.Takes)
    → first_place n (ts ++ t ∷ []) x ≡ or_number (first_place n ts x) (if same_takes t x then Some (n + length ts) else None)
place_last n [] t x = ap (λ k. if same_takes t x then Some k else None) (let e : n ≡ n + 0 = omega arith in e)
place_last n (u ∷ ts) t x =
    ap (λ o. if same_takes u x then Some n else o)
    (place_last (suc n) ts t x ∙ ap (λ k. or_number (first_place (suc n) ts x) (if same_takes t x then Some k else None)) (let e : suc n + length ts ≡ n + suc (length ts) = omega arith in e))
    ∙ sym (or_if (same_takes u x) n (first_place (suc n) ts x) (if same_takes t x then Some (n + length (u ∷ ts)) else None))

more_seen : (ts us : List Takes) (t : Takes) → us ≡ ts ++ t ∷ [] → map takes_seen us ≡ map takes_seen ts ++ takes_seen t ∷ []
more_seen ts us t e = ap (map takes_seen) e ∙ map-append takes_seen ts (t ∷ [])

-- a signature that is there
pub indexed_old : {S : Type 0} (index : HashMap Takes ℕ S) (ts us : List Takes) (t : Takes) → IsIndexed index (map takes_seen ts)
    → is_some (get_by (λ k. same_takes (takes_seen t) (takes_seen k)) index) ≡ true → us ≡ ts ++ t ∷ [] → IsIndexed index (map takes_seen us)
indexed_old index ts us t p h e x =
    p x
    ∙ old_case (same_takes (takes_seen t) (takes_seen x)) (first_place 0 (map takes_seen ts) (takes_seen x)) (0 + length (map takes_seen ts))
    (λ same. ap is_some (ap (first_place 0 (map takes_seen ts)) (sym (takes_same (takes_seen t) (takes_seen x) same)) ∙ sym (p t)) ∙ h)
    ∙ sym (place_last 0 (map takes_seen ts) (takes_seen t) (takes_seen x))
    ∙ ap (λ l. first_place 0 l (takes_seen x)) (sym (more_seen ts us t e))

not_there : (o : Option ℕ) → is_some o ≡ false → o ≡ None
not_there None h = refl
not_there (Some n) h = absurd (let x : ⊥ = cc in x)

-- a new one
pub indexed_new : {S : Type 0} (index more : HashMap Takes ℕ S) (ts us : List Takes) (t key : Takes) (n : ℕ) → IsIndexed index (map takes_seen ts)
    → is_some (get_by (λ k. same_takes (takes_seen t) (takes_seen k)) index) ≡ false → key ≡ t → n ≡ length ts
    → ((x : Takes) → get_by (λ k. same_takes (takes_seen x) (takes_seen k)) more ≡ cond (same_takes (takes_seen key) (takes_seen x)) (Some n) (get_by (λ k. same_takes (takes_seen x) (takes_seen k)) index))
    → us ≡ ts ++ t ∷ [] → IsIndexed more (map takes_seen us)
indexed_new index more ts us t key n p h ek en put e x =
    let long : n ≡ 0 + length (map takes_seen ts) = en ∙ sym (length-map ts takes_seen) ∙ (let z : length (map takes_seen ts) ≡ 0 + length (map takes_seen ts) = omega arith in z) in
    put x
    ∙ (λ i. cond (same_takes (takes_seen (ek i)) (takes_seen x)) (Some (long i)) (p x i))
    ∙ new_case (same_takes (takes_seen t) (takes_seen x)) (first_place 0 (map takes_seen ts) (takes_seen x)) (0 + length (map takes_seen ts))
    (λ same. ap (first_place 0 (map takes_seen ts)) (sym (takes_same (takes_seen t) (takes_seen x) same)) ∙ sym (p t) ∙ not_there (get_by (λ k. same_takes (takes_seen t) (takes_seen k)) index) h)
    ∙ sym (place_last 0 (map takes_seen ts) (takes_seen t) (takes_seen x))
    ∙ ap (λ l. first_place 0 l (takes_seen x)) (sym (more_seen ts us t e))

-- what is found by a reference
pub found_is : (o : Option (Bor ℕ)) → is_some (option_copied o) ≡ is_some o
found_is None = refl
found_is (Some n) = refl

-- 3. The one more signature that goes again

-- no list is empty that one more ends
one_ends : (ts : List Takes) (t : Takes) → ts ++ t ∷ [] ≡ [] → ⊥
one_ends [] t e = cc
one_ends (u ∷ ts) t e = cc

pub popped : (o : Option Takes) (ts us more : List Takes) (t : Takes) → more ≡ ts ++ t ∷ [] → MatchOption o ((more ≡ []) × (us ≡ [])) (λ last. more ≡ us ++ last ∷ []) → us ≡ ts
popped None ts us more t e h = absurd (one_ends ts t (sym e ∙ h.0))
popped (Some last) ts us more t e h = (same_from_push us ts last t (sym h ∙ e)).0

pub indexed_kept : {S : Type 0} (index more : HashMap Takes ℕ S) (ts us : List Takes) → IsIndexed index (map takes_seen ts) → IsUnchanged index more → us ≡ ts → IsIndexed more (map takes_seen us)
indexed_kept index more ts us p e eu x =
    ap (lookup (λ k. same_takes (takes_seen x) (takes_seen k))) e ∙ p x ∙ ap (λ l. first_place 0 (map takes_seen l) (takes_seen x)) (sym eu)
