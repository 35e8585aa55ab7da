-- Classes and interfaces, and what they are derived from.
use Rattle.std.specs.Prelude.{ℕ, zero, suc, ◌==◌, ◌||◌, Bool, false, List, [], slice_index_or}
use Rattle.std.specs.List.{Contains, list_any}
use Rattle.vala_types.specs.declared.ties.Ties.{Ties}

-- the direct bases of a class or interface; a number without a row has none
abbrev pub bases_of : Ties → ℕ → List ℕ
bases_of ties number = slice_index_or ties.rows number []

-- one of the direct bases
abbrev pub IsDirectBase : Ties → ℕ → ℕ → Type 0
IsDirectBase ties number base = Contains (bases_of ties number) base

-- A base at any depth: a chain of direct bases leads to it. The chain has one step at least.
pub data HasBase (ties : Ties) : ℕ → ℕ → Type 0 where
  direct : (number base : ℕ) → IsDirectBase ties number base → HasBase ties number base
  beyond : (number next base : ℕ) → IsDirectBase ties number next → HasBase ties next base → HasBase ties number base

-- whether a chain of at most so many direct bases leads there
abbrev pub is_within : Ties → ℕ → ℕ → ℕ → Bool
is_within ties zero number base = false
is_within ties (suc steps) number base = list_any (λ next. next == base || is_within ties steps next base) (bases_of ties number)
