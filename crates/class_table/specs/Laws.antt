-- What the laws on classes speak of.
use Rattle.std.specs.Prelude.{◌≡◌, ℕ, Bool, true, false, List, [], ◌∷◌, Option, Some, None}
use Rattle.class_table.specs.Trees.{Program, name_at}
use Rattle.symbols.specs.Laws.{IsIn}
use Rattle.class_table.specs.Bases.{base_of, chain, interfaces_of}
use Rattle.class_table.specs.Slots.{is_slot_of, is_overriding, own_named, implementor}

-- THE BASE CLASSES of a class, told one by one: each is the base class of the one in front of it, and the last has none.
pub data Chain (p : Program) : ℕ → List ℕ → Type 0 where
  top : (n : ℕ) → base_of p n ≡ None → Chain p n []
  under : (n b : ℕ) (bs : List ℕ) → base_of p n ≡ Some b → Chain p b bs → Chain p n (b ∷ bs)

-- THE MOST DERIVED OVERRIDE of a slot that a class introduced, among a class, which comes first, and its base classes: the member that
-- introduces it, or what overrides the most derived one of the base classes, or that one where the class has no override of it.
pub data MostDerived (p : Program) (slot : ℕ) : List ℕ → ℕ → Type 0 where
  introduced : (c : ℕ) (cs : List ℕ) → is_slot_of p (c ∷ []) slot ≡ true → MostDerived p slot (c ∷ cs) slot
  overriding : (c : ℕ) (cs : List ℕ) (v m : ℕ) → is_slot_of p (c ∷ []) slot ≡ false → MostDerived p slot cs v → own_named p (is_overriding p c cs v) (name_at p v) c ≡ Some m
      → MostDerived p slot (c ∷ cs) m
  inherited : (c : ℕ) (cs : List ℕ) (v : ℕ) → is_slot_of p (c ∷ []) slot ≡ false → MostDerived p slot cs v → own_named p (is_overriding p c cs v) (name_at p v) c ≡ None
      → MostDerived p slot (c ∷ cs) v

-- a slot that no interface of these classes introduced
abbrev pub IsOfClass : Program → ℕ → List ℕ → Type 0
IsOfClass p slot cs = is_slot_of p (interfaces_of p cs) slot ≡ false

-- no class is among its own base classes
abbrev pub HasNoCycle : Program → Type 0
HasNoCycle p = (n : ℕ) → IsIn n (chain p n) → ⊥

-- a call through a slot reaches a member of the class that is not abstract
pub data HasBody (p : Program) (class slot : ℕ) : Type 0 where
  reached : (m : ℕ) → implementor p class slot ≡ Some m → HasBody p class slot
