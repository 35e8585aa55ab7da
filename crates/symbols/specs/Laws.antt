-- What the laws on names speak of.
use Rattle.std.specs.Prelude.{◌≡◌, ℕ, zero, suc, Bool, true, false, List, [], ◌∷◌, ◌++◌, length, Option, Some, None}
use Rattle.std.specs.List.{AllByRecursion}
use Rattle.vg_base.specs.declared.event.Span.{Span}
use Rattle.symbols.specs.declared.table.Symbol.{Symbol}
use Rattle.symbols.specs.declared.table.Names.{Names}
use Rattle.symbols.specs.Search.{Meaning, Unknown, Ambiguous, Is, first_in, looked_in, in_use, met}

-- a thing stands in a list
pub data IsIn {X : Type 0} (x : X) : List X → Type 0 where
  now : (xs : List X) → IsIn x (x ∷ xs)
  later : (y : X) (xs : List X) → IsIn x xs → IsIn x (y ∷ xs)

-- none of these scopes has a declaration of the name
abbrev pub HasNone : Names → List ℕ → ℕ → List ℕ → Type 0
HasNone ns name place scopes = AllByRecursion (λ scope. first_in ns scope name place ≡ None) scopes

-- THE NEAREST: a scope has the declaration as its first of that name, and no nearer scope has one
pub data Nearest (ns : Names) (name : List ℕ) (place : ℕ) : List ℕ → ℕ → Type 0 where
  here : (scope : ℕ) (farther : List ℕ) (s : ℕ) → first_in ns scope name place ≡ Some s → Nearest ns name place (scope ∷ farther) s
  beyond : (scope : ℕ) (farther : List ℕ) (s : ℕ) → first_in ns scope name place ≡ None → Nearest ns name place farther s → Nearest ns name place (scope ∷ farther) s

-- WHAT A NAME MEANS, by cases: the nearest declaration in the scopes around; or where there is none, the only one in the namespaces in
-- use; or nothing; or two.
pub data Means (ns : Names) (scope : ℕ) (name : List ℕ) (place : Span) : Meaning → Type 0 where
  around : (s : ℕ) → Nearest ns name place.start (looked_in ns scope) s → Means ns scope name place (Is s)
  by_use : (s : ℕ) → HasNone ns name place.start (looked_in ns scope) → IsIn s (met ns name place.start (in_use ns place.file)) → AllByRecursion (λ t. t ≡ s) (met ns name place.start (in_use ns place.file)) → Means ns scope name place (Is s)
  unknown : HasNone ns name place.start (looked_in ns scope) → HasNone ns name place.start (in_use ns place.file) → Means ns scope name place Unknown
  ambiguous : (s t : ℕ) → HasNone ns name place.start (looked_in ns scope) → IsIn s (met ns name place.start (in_use ns place.file)) → IsIn t (met ns name place.start (in_use ns place.file)) → (s ≡ t → ⊥) → Means ns scope name place Ambiguous

-- the table with one declaration more
abbrev pub with_symbol : Symbol → Names → Names
with_symbol s ns = record ns { symbols = ns.symbols ++ s ∷ [] }
