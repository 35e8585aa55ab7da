-- Kinds and signatures that are equal by their parts are one, and are hashed alike.
use Rattle.std.proofs.Common.{◌≡◌, ◌∙◌, refl, sym, ap, true≢false, ℕ, ◌==◌, ◌&&◌, Bool, true, false, if◌then◌else◌, List, [], ◌∷◌, ◌++◌, Option, Some, None}
use Rattle.std.specs.Bool.{Decides}
use Rattle.std.specs.Cmp.{IsEquivalence, IsPartialEquivalence, decided, first_so, second_so, partial_equiv_from_equiv, unsigned_Decides}
use Rattle.std.specs.List.{flat_map}
use Rattle.c_tree.specs.declared.kinds.Width.{Width}
use Rattle.c_tree.specs.declared.kinds.Width.TheVariants.{Eight, Sixteen, ThirtyTwo, SixtyFour}
use Rattle.c_tree.specs.declared.kinds.Kind.{Kind}
use Rattle.c_tree.specs.declared.kinds.KindBase.{KindBase}
use Rattle.c_tree.specs.declared.kinds.KindBase.TheVariants.{Void, Integer, Struct, Function}
use Rattle.c_tree.specs.Kinds.{bits, same, same_base, same_bool, same_known, same_list}
use Rattle.c_tree.specs.Library as rule
use Rattle.c_tree.specs.Env.{same_takes}
use Rattle.c_value_checker.specs.declared.takes.Takes.{Takes}
use Rattle.c_value_checker.specs.Takes.{kind_fed, takes_seen}

-- 1. Kinds

never : {A : Type 0} → false ≡ true → A
never e = absurd (true≢false (sym e))

and_both : (a b : Bool) → a ≡ true → b ≡ true → (a && b) ≡ true
and_both true b h k = k
and_both false b h k = h

number_same : (n m : ℕ) → (n == m) ≡ true → n ≡ m
number_same n m = (unsigned_Decides n m).0

number_itself : (n : ℕ) → (n == n) ≡ true
number_itself n = (unsigned_Decides n n).1 refl

-- the width of so many bits
abbrev width_of : ℕ → Width
width_of n = if n == 8 then Eight else (if n == 16 then Sixteen else (if n == 32 then ThirtyTwo else SixtyFour))

width_back : (w : Width) → width_of (bits w) ≡ w
width_back Eight = refl
width_back Sixteen = refl
width_back ThirtyTwo = refl
width_back SixtyFour = refl

width_same : (w v : Width) → (bits w == bits v) ≡ true → w ≡ v
width_same w v e = sym (width_back w) ∙ ap width_of (number_same (bits w) (bits v) e) ∙ width_back v

bool_same : (s t : Bool) → same_bool s t ≡ true → s ≡ t
bool_same true t e = sym e
bool_same false true e = never e
bool_same false false e = refl

bool_itself : (s : Bool) → same_bool s s ≡ true
bool_itself true = refl
bool_itself false = refl

base_same : (a b : KindBase) → same_base a b ≡ true → a ≡ b
base_same Void Void e = refl
base_same Void (Integer v t) e = never e
base_same Void (Struct m) e = never e
base_same Void (Function m) e = never e
base_same (Integer w s) Void e = never e
base_same (Integer w s) (Integer v t) e =
    λ i. Integer (width_same w v (first_so (bits w == bits v) (same_bool s t) e) i) (bool_same s t (second_so (bits w == bits v) (same_bool s t) e) i)
base_same (Integer w s) (Struct m) e = never e
base_same (Integer w s) (Function m) e = never e
base_same (Struct n) Void e = never e
base_same (Struct n) (Integer v t) e = never e
base_same (Struct n) (Struct m) e = ap Struct (number_same n m e)
base_same (Struct n) (Function m) e = never e
base_same (Function n) Void e = never e
base_same (Function n) (Integer v t) e = never e
base_same (Function n) (Struct m) e = never e
base_same (Function n) (Function m) e = ap Function (number_same n m e)

base_itself : (a : KindBase) → same_base a a ≡ true
base_itself Void = refl
base_itself (Integer w s) = and_both (bits w == bits w) (same_bool s s) (number_itself (bits w)) (bool_itself s)
base_itself (Struct n) = number_itself n
base_itself (Function n) = number_itself n

kind_same : (a b : Kind) → same a b ≡ true → a ≡ b
kind_same a b e =
    λ i. record { base = base_same a.base b.base (first_so (same_base a.base b.base) (a.stars == b.stars) e) i; stars = number_same a.stars b.stars (second_so (same_base a.base b.base) (a.stars == b.stars) e) i }

kind_itself : (a : Kind) → same a a ≡ true
kind_itself a = and_both (same_base a.base a.base) (a.stars == a.stars) (base_itself a.base) (number_itself a.stars)

known_same : (a b : Option Kind) → same_known a b ≡ true → a ≡ b
known_same None None e = refl
known_same None (Some b) e = never e
known_same (Some a) None e = never e
known_same (Some a) (Some b) e = ap (λ k. let o : Option Kind = Some k in o) (kind_same a b e)

known_itself : (a : Option Kind) → same_known a a ≡ true
known_itself None = refl
known_itself (Some a) = kind_itself a

list_same : (ks js : List (Option Kind)) → same_list ks js ≡ true → ks ≡ js
list_same [] [] e = refl
list_same [] (j ∷ js) e = never e
list_same (k ∷ ks) [] e = never e
list_same (k ∷ ks) (j ∷ js) e = λ i. known_same k j (first_so (same_known k j) (same_list ks js) e) i ∷ list_same ks js (second_so (same_known k j) (same_list ks js) e) i

list_itself : (ks : List (Option Kind)) → same_list ks ks ≡ true
list_itself [] = refl
list_itself (k ∷ ks) = and_both (same_known k k) (same_list ks ks) (known_itself k) (list_itself ks)

-- 2. Signatures

pub takes_same : (a b : rule.Takes) → same_takes a b ≡ true → a ≡ b
takes_same a b e = λ i. record {
  result = known_same a.result b.result (first_so (same_known a.result b.result) (same_list a.parameters b.parameters) e) i;
  parameters = list_same a.parameters b.parameters (second_so (same_known a.result b.result) (same_list a.parameters b.parameters) e) i;
}

pub takes_itself : (a : rule.Takes) → same_takes a a ≡ true
takes_itself a = and_both (same_known a.result a.result) (same_list a.parameters a.parameters) (known_itself a.result) (list_itself a.parameters)

takes_decides : (x y : Takes) → Decides (same_takes (takes_seen x) (takes_seen y)) (x ≡ y)
takes_decides x y = (
  λ e. ap (λ (t : rule.Takes). let r : Takes = record { result = t.result; parameters = t.parameters } in r) (takes_same (takes_seen x) (takes_seen y) e),
  λ e. ap (λ (z : Takes). same_takes (takes_seen x) (takes_seen z)) (sym e) ∙ takes_itself (takes_seen x),
)

pub takes_equal : IsEquivalence (λ (x : Takes) (y : Takes). same_takes (takes_seen x) (takes_seen y))
takes_equal = decided (λ (x : Takes) (y : Takes). same_takes (takes_seen x) (takes_seen y)) takes_decides

pub takes_equal_in_part : IsPartialEquivalence (λ (x : Takes) (y : Takes). same_takes (takes_seen x) (takes_seen y))
takes_equal_in_part = partial_equiv_from_equiv takes_equal

pub takes_fed : (x y : Takes) → same_takes (takes_seen x) (takes_seen y) ≡ true → (kind_fed x.result ++ flat_map kind_fed x.parameters) ≡ (kind_fed y.result ++ flat_map kind_fed y.parameters)
takes_fed x y e = ap (λ (t : Takes). kind_fed t.result ++ flat_map kind_fed t.parameters) ((takes_decides x y).0 e)
