-- The functions of the library that have code do what they mean.
use Rattle.std.proofs.Common.{◌≡◌, refl, ap, ℕ, Bool, true, false, List, [], ◌∷◌, ◌++◌, map, codes, Option, Some, None}
use Rattle.std.specs.Prelude.{if◌then◌else◌}
use Rattle.std.specs.Str.{bytes_eq}
use Rattle.c_meaning.specs.declared.cell.Cell.{Cell}
use Rattle.c_meaning.specs.State.{State}
use Rattle.c_meaning.specs.Blocks.{next_pointer}
use Rattle.c_meaning.specs.Texts.{give}
use Rattle.c_meaning.specs.BlockRows.{Does, TypeArgument, slice_thing}
use Rattle.c_meaning.specs.Rows.{LibraryRow, row, block_rows, object_rows, number_rows, number_types, signal_rows, loop_rows, does_in, does}
use Rattle.c_code.specs.declared.program.LibraryFunction.{LibraryFunction}
use Rattle.c_code.specs.declared.program.LibraryFunction.TheVariants as library
use Rattle.c_code.specs.declared.program.Sliced.TheVariants as sliced
use Rattle.c_code.specs.Statements.{Known, functions, function_in, function_named, row_of, sliced_by, first_of}

-- 1. Names

-- what a function that has code is in the library
abbrev row_by : Known → LibraryRow
row_by k = row k.name (row_of k.function)

rows_are : block_rows ≡ map row_by functions
rows_are = refl

-- a name that has code is that of its row
pub data Names (o : Option LibraryFunction) (d : Option Does) : Type 0 where
  named : (f : LibraryFunction) → o ≡ Some f → d ≡ Some (row_of f) → Names o d
  unknown : o ≡ None → Names o d

names_in : (ks : List Known) (rest : List LibraryRow) (x : List ℕ) → Names (function_in ks x) (does_in (map row_by ks ++ rest) x)
names_in [] rest x = unknown refl
names_in (k ∷ ks) rest x =
    elim (bytes_eq k.name x) as (λ b. Names (if b then Some k.function else function_in ks x)
    (if b then Some (row_of k.function) else does_in (map row_by ks ++ rest) x))
    [ true ↦ named k.function refl refl | false ↦ names_in ks rest x ]

pub names_are : (x : List ℕ) → Names (function_named x) (does x)
names_are x = names_in functions (object_rows ++ number_rows number_types ++ signal_rows ++ loop_rows) x

-- 2. Types before arguments

-- a type argument, with the name of a first field that says as much
abbrev pub by_sort : TypeArgument → TypeArgument
by_sort t = record { cells = t.cells; first = first_of (sliced_by t.first) }

slice_by : (s : State) (n : ℕ) (a b : Bool) →
    let x : List ℕ = first_of (if a then sliced.Scope else (if b then sliced.Activation else sliced.Plain)) in
    slice_thing s n (bytes_eq x (codes "_ref_count_")) (bytes_eq x (codes "_state_")) ≡ slice_thing s n a b
slice_by s n true b = refl
slice_by s n false true = refl
slice_by s n false false = refl

pub does_by_sort : (f : LibraryFunction) (s : State) (t : TypeArgument) (cs : List Cell) → row_of f s (by_sort t) cs ≡ row_of f s t cs
does_by_sort library.SliceNew s t cs = ap (λ (z : State). give z (next_pointer s))
    (slice_by s t.cells (bytes_eq t.first (codes "_ref_count_")) (bytes_eq t.first (codes "_state_")))
does_by_sort f s t cs = refl
