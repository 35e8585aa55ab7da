-- What became of blocks, by their numbers.
use Rattle.std.specs.Prelude.{ℕ, zero, suc, List, Option, Some, None, slice_get, slice_set}
use Rattle.c_run_state.specs.declared.state.Standing.{Standing}
use Rattle.c_run_state.specs.declared.state.Standing.TheVariants.{Freed}

abbrev pub joined : Option Standing → Standing
joined None = Freed
joined (Some x) = x

-- what became of the block with a number, which counts from 1; a number that no block has is that of no live one
abbrev pub standing_at : List Standing → ℕ → Standing
standing_at xs zero = Freed
standing_at xs (suc n) = joined (slice_get xs n)

-- the block with a number is freed
abbrev pub struck : List Standing → ℕ → List Standing
struck xs zero = xs
struck xs (suc n) = slice_set xs n Freed
