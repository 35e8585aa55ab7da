-- Calls by code, in a context.
use Rattle.std.proofs.Common.{◌≡◌, ◌∙◌, refl, ap, Bool, true, false, List, [], ◌∷◌, map, Option, Ok, Err}
use Rattle.std.specs.Prelude.{if◌then◌else◌}
use Rattle.c_tree.specs.declared.code.Expr.{Expr}
use Rattle.c_tree.specs.declared.kinds.Kind.{Kind}
use Rattle.c_tree.specs.Kinds.{widened, is_integer}
use Rattle.c_tree.specs.Library.{RowParameter, Number, Any, Pairs}
use Rattle.c_tree.specs.Checks.{Known}
use Rattle.c_meaning.specs.declared.cell.Cell.{Cell}
use Rattle.c_meaning.specs.State.{Value, Scalar, Struct}
use Rattle.c_meaning.specs.Layout.{known}
use Rattle.c_meaning.specs.Blocks.{Answer, bind}
use Rattle.c_meaning.specs.Numbers.{as_kind, scalar, converted}
use Rattle.c_meaning.specs.Values as meaning
use Rattle.c_meaning.specs.Values.{Context, Program, Here, meant}
use Rattle.c_meaning.specs.Steps as steps
use Rattle.cell_heap.specs.States.{heap_of}
use Rattle.c_code.specs.Coded as coded
use Rattle.c_code.specs.Resolved.{Bearings, value_code, place_code, in_kind, kind_at}
use Rattle.c_code.specs.Laws.{bearings_of}
use Rattle.c_code.specs.Statements.{argument_codes, free_code, row_code, row_codes}
use Rattle.c_code.specs.Machine as machine
use Rattle.c_code.proofs.Moved.{value_is, place_is, convert_on}
use Rattle.c_code.proofs.Values.{alike}

-- a unit with its own meaning, at a place of it
module _ (p : Program) (c : Context) where
  abbrev pub unit : Program
  unit = record p { meant = meant }

  abbrev pub here : Here
  here = record { program = unit; context = c }

  abbrev pub by : Bearings
  by = bearings_of c

  -- 1. Values and places

  pub kind_is : (e : Expr) → kind_at by e ≡ meaning.kind_at here e
  kind_is e = ap (λ (k : Known). known (k.value.kind c.scope.env)) (alike e).known

  pub value_found : (e : Expr) → coded.value_of (value_code by e) (heap_of c.state) c.frame ≡ meaning.value_of here e
  value_found e = value_is c (value_code by e) (meaning.value_of here e) ((alike e).value c)

  pub place_found : (e : Expr) → coded.place_of (place_code by e) (heap_of c.state) c.frame ≡ meaning.place_of here e
  place_found e = place_is c (place_code by e) (meaning.place_of here e) ((alike e).place c)

  pub cell_found : (e : Expr) → coded.cell_of (value_code by e) (heap_of c.state) c.frame ≡ meaning.cell_at here e
  cell_found e = ap (λ (v : Answer Value). bind v scalar) (value_found e)

  pub converted_found : (k : Kind) (e : Expr) → coded.value_of (in_kind k (value_code by e)) (heap_of c.state) c.frame
      ≡ bind (meaning.value_of here e) (converted k)
  converted_found k e = value_is c (in_kind k (value_code by e)) (bind (meaning.value_of here e) (converted k))
      (convert_on c k (value_code by e) (meaning.value_of here e) ((alike e).value c))

  -- the one cell of a converted value is the converted cell
  cell_converted : (k : Kind) (v : Answer Value) → bind (bind v (converted k)) scalar ≡ bind (bind v scalar) (as_kind k)
  cell_converted k (Err u) = refl
  cell_converted k (Ok (Struct cs)) = refl
  cell_converted k (Ok (Scalar x)) = by_cell (as_kind k x)
    where
      by_cell : (a : Answer Cell) → bind (bind a (λ d. Ok (Scalar d))) scalar ≡ a
      by_cell (Ok d) = refl
      by_cell (Err u) = refl

  kind_cell : (k : Kind) (e : Expr) → coded.cell_of (in_kind k (value_code by e)) (heap_of c.state) c.frame ≡ bind (meaning.cell_at here e) (as_kind k)
  kind_cell k e = ap (λ (v : Answer Value). bind v scalar) (converted_found k e) ∙ cell_converted k (meaning.value_of here e)

  -- 2. Arguments

  pub arguments_found : (ks : List (Option Kind)) (es : List Expr) → machine.values_of (argument_codes by ks es) (heap_of c.state) c.frame
      ≡ steps.arguments here ks es
  arguments_found [] [] = refl
  arguments_found (k ∷ ks) [] = refl
  arguments_found [] (e ∷ es) = λ i. bind (value_found e i) (λ v. bind (arguments_found [] es i) (λ vs. Ok (v ∷ vs)))
  arguments_found (k ∷ ks) (e ∷ es) = λ i. bind (converted_found (known k) e i) (λ v. bind (arguments_found ks es i) (λ vs. Ok (v ∷ vs)))

  free_by : (b : Bool) (k : Kind) (e : Expr) → coded.cell_of (if b then in_kind (widened k) (value_code by e) else value_code by e) (heap_of c.state) c.frame
      ≡ if b then bind (meaning.cell_at here e) (as_kind (widened k)) else meaning.cell_at here e
  free_by true k e = kind_cell (widened k) e
  free_by false k e = cell_found e

  free_found : (e : Expr) → coded.cell_of (free_code by e) (heap_of c.state) c.frame ≡ steps.free_cell here e
  free_found e = free_by (is_integer (kind_at by e)) (kind_at by e) e
      ∙ ap (λ (k : Kind). if is_integer k then bind (meaning.cell_at here e) (as_kind (widened k)) else meaning.cell_at here e) (kind_is e)

  frees_found : (es : List Expr) → machine.cells_of (map (free_code by) es) (heap_of c.state) c.frame ≡ steps.free_cells here es
  frees_found [] = refl
  frees_found (e ∷ es) = λ i. bind (free_found e i) (λ x. bind (frees_found es i) (λ xs. Ok (x ∷ xs)))

  row_found : (p : RowParameter) (e : Expr) → coded.cell_of (row_code by p e) (heap_of c.state) c.frame ≡ steps.row_cell here p e
  row_found (Number k) e = kind_cell k e
  row_found p e = cell_found e

  pub rows_found : (ps : List RowParameter) (es : List Expr) → machine.cells_of (row_codes by ps es) (heap_of c.state) c.frame ≡ steps.row_cells here ps es
  rows_found [] es = refl
  rows_found (p ∷ ps) [] = refl
  rows_found (Any ∷ ps) (e ∷ es) = frees_found (e ∷ es)
  rows_found (Pairs ∷ ps) (e ∷ es) = frees_found (e ∷ es)
  rows_found (p ∷ ps) (e ∷ es) = λ i. bind (row_found p e i) (λ x. bind (rows_found ps es i) (λ xs. Ok (x ∷ xs)))
