-- Structs and signatures, as the tables keep them.
use Rattle.std.proofs.Common.{◌≡◌, ◌∙◌, refl, sym, ap, arith, ℕ, ◌+◌, ◌-◌, ◌^◌, min, nat_lt, Bool, true, false, if◌then◌else◌, length, map, List, [], ◌∷◌, ◌++◌, None}
use Rattle.std.proofs.lemmas.List.{length-map, map-append}
use Rattle.c_tree.specs.declared.names.Name.{Name}
use Rattle.c_tree.specs.declared.kinds.KindBase.TheVariants.{Struct}
use Rattle.c_tree.specs.declared.kinds.Sort.TheVariants as sort
use Rattle.c_tree.specs.Kinds.{plain}
use Rattle.c_tree.specs.Library as rule
use Rattle.c_tree.specs.Env.{Env, declare, number_of, with_signature}
use Rattle.c_tree.specs.Unit.{new_struct}
use Rattle.c_value_checker.specs.declared.environment.Environment.{Environment}
use Rattle.c_value_checker.specs.declared.takes.Takes.{Takes}
use Rattle.c_value_checker.specs.Seen.{seen, takes_seen}

-- 1. Structs

-- one more struct
pub struct_declared : (e d : Env) (x : Name) (n : ℕ) (ss : List rule.Structure) → ss ≡ e.structs ++ record { name = x.text; fields = None; cells = 0 } ∷ [] → n ≡ length e.structs
    → d ≡ declare (record e { structs = ss }) x (sort.Type (plain (Struct n))) → d ≡ new_struct e x
struct_declared e d x n ss es en ed = ed ∙ (λ i. declare (record e { structs = es i }) x (sort.Type (plain (Struct (en i)))))

-- the cells of one more field
pub more_cells : (a b r c s : ℕ) → min (a + (b + r)) (2 ^ 62) ≡ s → c ≡ min (a + b) (2 ^ 64 - 1) → min (c + r) (2 ^ 62) ≡ s
more_cells a b r c s e ec = omega arith

-- 2. Signatures

with_if : (b : Bool) (d e : Env) → b ≡ true → (if b then d else e) ≡ d
with_if true d e h = refl
with_if false d e h = absurd (let x : ⊥ = cc in x)

with_not : (b : Bool) (d e : Env) → b ≡ false → (if b then d else e) ≡ e
with_not true d e h = absurd (let x : ⊥ = cc in x)
with_not false d e h = refl

-- a signature that is there
pub signature_kept : (a : Environment) (t : Takes) (n : ℕ) → n ≡ number_of (seen a) (takes_seen t) → nat_lt n (length a.signatures) ≡ true → seen a ≡ with_signature (seen a) (takes_seen t)
signature_kept a t n en h =
    sym (with_if (nat_lt (number_of (seen a) (takes_seen t)) (length (map takes_seen a.signatures))) (seen a) (record (seen a) { signatures = map takes_seen a.signatures ++ takes_seen t ∷ [] })
    ((λ i. nat_lt (sym en i) (length-map a.signatures takes_seen i)) ∙ h))

-- a new signature
pub signature_added : (a : Environment) (t : Takes) (n : ℕ) (ts : List Takes) → n ≡ number_of (seen a) (takes_seen t) → nat_lt n (length a.signatures) ≡ false → ts ≡ a.signatures ++ t ∷ []
    → seen (record a { signatures = ts }) ≡ with_signature (seen a) (takes_seen t)
signature_added a t n ts en h et =
    ap (λ z. record (seen a) { signatures = z }) (ap (map takes_seen) et ∙ map-append takes_seen a.signatures (t ∷ []))
    ∙ sym (with_not (nat_lt (number_of (seen a) (takes_seen t)) (length (map takes_seen a.signatures))) (seen a) (record (seen a) { signatures = map takes_seen a.signatures ++ takes_seen t ∷ [] })
    ((λ i. nat_lt (sym en i) (length-map a.signatures takes_seen i)) ∙ h))
