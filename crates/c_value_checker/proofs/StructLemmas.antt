-- Structs and signatures by their numbers, and structs by their names.
use Rattle.std.proofs.Common.{◌≡◌, ◌∙◌, refl, sym, ap, arith, ℕ, zero, suc, ◌+◌, Bool, true, false, if◌then◌else◌, is_some, List, [], ◌∷◌, ◌++◌, length, map, set, slice_get, Option, Some, None}
use Rattle.std.proofs.lemmas.List.{length-map, map-append}
use Rattle.std.proofs.lemmas.Slice.Eq.{bytes_eq-Decides}
use Rattle.std.specs.Option.{option_map}
use Rattle.std.specs.Str.{bytes_eq}
use Rattle.name_table.specs.declared.found.Found.{Found}
use Rattle.name_table.specs.Names.{latest}
use Rattle.c_tree.specs.Env.{structure_at, structure_named, signature_at}
use Rattle.c_tree.specs.Library as rule
use Rattle.c_tree.specs.Unit.{with_fields}
use Rattle.c_value_checker.specs.declared.structures.Structure.{Structure as StructureRow}
use Rattle.c_value_checker.specs.declared.takes.Takes.{Takes as TakesRow}
use Rattle.c_value_checker.specs.Takes.{takes_seen}
use Rattle.c_value_checker.specs.Structures.{IsNumbered, structure_seen}

-- 1. By numbers

pub structure_number : (ss : List StructureRow) (n : ℕ) → structure_at (map structure_seen ss) n ≡ option_map structure_seen (slice_get ss n)
structure_number [] n = refl
structure_number (s ∷ ss) zero = refl
structure_number (s ∷ ss) (suc n) = structure_number ss n

pub takes_number : (ts : List TakesRow) (n : ℕ) → signature_at (map takes_seen ts) n ≡ option_map takes_seen (slice_get ts n)
takes_number [] n = refl
takes_number (t ∷ ts) zero = refl
takes_number (t ∷ ts) (suc n) = takes_number ts n

-- no struct gets the fields
pub fields_nowhere : (ss : List StructureRow) (n : ℕ) (fs : List rule.Field) (m : ℕ) → slice_get ss n ≡ None → map structure_seen ss ≡ with_fields (map structure_seen ss) n fs m
fields_nowhere [] n fs m e = refl
fields_nowhere (s ∷ ss) zero fs m e = absurd (let x : ⊥ = cc in x)
fields_nowhere (s ∷ ss) (suc n) fs m e = ap (λ z. structure_seen s ∷ z) (fields_nowhere ss n fs m e)

-- a struct gets them
pub fields_there : (ss : List StructureRow) (n : ℕ) (s t : StructureRow) (fs : List rule.Field) (m : ℕ) → slice_get ss n ≡ Some s → structure_seen t ≡ record (structure_seen s) { fields = Some fs; cells = m }
    → map structure_seen (set ss n t) ≡ with_fields (map structure_seen ss) n fs m
fields_there [] n s t fs m e et = absurd (let x : ⊥ = cc in x)
fields_there (r ∷ ss) zero s t fs m e et = ap (λ z. z ∷ map structure_seen ss) (et ∙ ap (λ (z : StructureRow). record (structure_seen z) { fields = Some fs; cells = m }) (let q : s ≡ r = cc in q))
fields_there (r ∷ ss) (suc n) s t fs m e et = ap (λ z. structure_seen r ∷ z) (fields_there ss n s t fs m e et)

-- 2. By names

-- a number, or another
abbrev pub or_number : Option ℕ → Option ℕ → Option ℕ
or_number (Some n) o = Some n
or_number None o = o

pub or_if : (b : Bool) (n : ℕ) (o p : Option ℕ) → or_number (if b then Some n else o) p ≡ (if b then Some n else or_number o p)
or_if true n o p = refl
or_if false n o p = refl

-- one more struct at the end
named_last : (n : ℕ) (ss : List rule.Structure) (s : rule.Structure) (x : List ℕ)
    → structure_named n (ss ++ s ∷ []) x ≡ or_number (structure_named n ss x) (if bytes_eq s.name x then Some (n + length ss) else None)
named_last n [] s x = ap (λ k. if bytes_eq s.name x then Some k else None) (let e : n ≡ n + 0 = omega arith in e)
named_last n (t ∷ ss) s x =
    ap (λ o. if bytes_eq t.name x then Some n else o)
    (named_last (suc n) ss s x ∙ ap (λ k. or_number (structure_named (suc n) ss x) (if bytes_eq s.name x then Some k else None)) (let e : suc n + length ss ≡ n + suc (length ss) = omega arith in e))
    ∙ sym (or_if (bytes_eq t.name x) n (structure_named (suc n) ss x) (if bytes_eq s.name x then Some (n + length (t ∷ ss)) else None))

-- what is there counts
pub old_case : (b : Bool) (o : Option ℕ) (k : ℕ) → (b ≡ true → is_some o ≡ true) → o ≡ or_number o (if b then Some k else None)
old_case true None k h = absurd (let q : is_some (let s : Option ℕ = None in s) ≡ true = h refl in let n : ⊥ = cc in n)
old_case true (Some m) k h = refl
old_case false None k h = refl
old_case false (Some m) k h = refl

-- what is not there is new
pub new_case : (b : Bool) (o : Option ℕ) (k : ℕ) → (b ≡ true → o ≡ None) → (if b then Some k else o) ≡ or_number o (if b then Some k else None)
new_case true None k h = refl
new_case true (Some m) k h = absurd (let q : (let s : Option ℕ = Some m in s) ≡ None = h refl in let n : ⊥ = cc in n)
new_case false None k h = refl
new_case false (Some m) k h = refl

-- what an entry that is found means
abbrev meaning_of : Option (Found ℕ) → Option ℕ
meaning_of o = option_map (λ f. f.meaning) o

meaning_if : (b : Bool) (f : Found ℕ) (o : Option (Found ℕ)) → meaning_of (if b then Some f else o) ≡ (if b then Some f.meaning else meaning_of o)
meaning_if true f o = refl
meaning_if false f o = refl

meaning_some : (o : Option (Found ℕ)) → is_some o ≡ true → is_some (meaning_of o) ≡ true
meaning_some None h = absurd (let n : ⊥ = cc in n)
meaning_some (Some f) h = refl

meaning_none : (o : Option (Found ℕ)) → is_some o ≡ false → meaning_of o ≡ None
meaning_none None h = refl
meaning_none (Some f) h = absurd (let n : ⊥ = cc in n)

-- a struct of a name that is there
numbered_old : (ns : List (List ℕ × ℕ)) (ss : List rule.Structure) (s : rule.Structure) → IsNumbered ns ss → is_some (latest s.name ns) ≡ true → IsNumbered ns (ss ++ s ∷ [])
numbered_old ns ss s p h x =
    p x
    ∙ old_case (bytes_eq s.name x) (structure_named 0 ss x) (0 + length ss)
    (λ e. ap is_some (sym (p x) ∙ ap (λ y. meaning_of (latest y ns)) (sym ((bytes_eq-Decides s.name x).0 e))) ∙ meaning_some (latest s.name ns) h)
    ∙ sym (named_last 0 ss s x)

-- a struct of a new name
numbered_new : (ns : List (List ℕ × ℕ)) (ss : List rule.Structure) (s : rule.Structure) (n : ℕ) → IsNumbered ns ss → is_some (latest s.name ns) ≡ false → n ≡ length ss
    → IsNumbered ((s.name, n) ∷ ns) (ss ++ s ∷ [])
numbered_new ns ss s n p h en x =
    meaning_if (bytes_eq s.name x) (record { meaning = n; position = length ns }) (latest x ns)
    ∙ (λ i. if bytes_eq s.name x then Some ((en ∙ (let e : length ss ≡ 0 + length ss = omega arith in e)) i) else p x i)
    ∙ new_case (bytes_eq s.name x) (structure_named 0 ss x) (0 + length ss)
    (λ e. sym (p x) ∙ ap (λ y. meaning_of (latest y ns)) (sym ((bytes_eq-Decides s.name x).0 e)) ∙ meaning_none (latest s.name ns) h)
    ∙ sym (named_last 0 ss s x)

rows_more : (rs qs : List StructureRow) (s : StructureRow) → qs ≡ rs ++ s ∷ [] → map structure_seen rs ++ structure_seen s ∷ [] ≡ map structure_seen qs
rows_more rs qs s e = sym (ap (map structure_seen) e ∙ map-append structure_seen rs (s ∷ []))

-- the same as they are stored
pub stored_old : (ns : List (List ℕ × ℕ)) (rs qs : List StructureRow) (s : StructureRow) → IsNumbered ns (map structure_seen rs) → is_some (latest s.name.now ns) ≡ true → qs ≡ rs ++ s ∷ []
    → IsNumbered ns (map structure_seen qs)
stored_old ns rs qs s p h e x = numbered_old ns (map structure_seen rs) (structure_seen s) p h x ∙ ap (λ l. structure_named 0 l x) (rows_more rs qs s e)

pub stored_new : (ns ms : List (List ℕ × ℕ)) (rs qs : List StructureRow) (s : StructureRow) (n : ℕ) → IsNumbered ns (map structure_seen rs) → is_some (latest s.name.now ns) ≡ false
    → n ≡ length rs → ms ≡ (s.name.now, n) ∷ ns → qs ≡ rs ++ s ∷ [] → IsNumbered ms (map structure_seen qs)
stored_new ns ms rs qs s n p h en em e x =
    ap (λ l. meaning_of (latest x l)) em
    ∙ numbered_new ns (map structure_seen rs) (structure_seen s) n p h (en ∙ sym (length-map rs structure_seen)) x
    ∙ ap (λ l. structure_named 0 l x) (rows_more rs qs s e)

-- fields do not change names
fields_named : (k : ℕ) (ss : List rule.Structure) (n : ℕ) (fs : List rule.Field) (m : ℕ) (x : List ℕ) → structure_named k (with_fields ss n fs m) x ≡ structure_named k ss x
fields_named k [] n fs m x = refl
fields_named k (s ∷ ss) zero fs m x = refl
fields_named k (s ∷ ss) (suc n) fs m x = ap (λ o. if bytes_eq s.name x then Some k else o) (fields_named (suc k) ss n fs m x)

pub numbered_defined : (ns : List (List ℕ × ℕ)) (ss : List rule.Structure) (n : ℕ) (fs : List rule.Field) (m : ℕ) → IsNumbered ns ss → IsNumbered ns (with_fields ss n fs m)
numbered_defined ns ss n fs m p x = p x ∙ sym (fields_named 0 ss n fs m x)
