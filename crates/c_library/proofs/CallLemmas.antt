-- How what functions answer becomes calls.
use Rattle.std.proofs.Common.{◌≡◌, ◌∙◌, refl, sym, ap, subst, ℕ, ◌≤◌, List, [], drop, length, Option, None, Result, Ok, Err, IfOk, OnOk}
use Rattle.std.specs.Prelude.{codes}
use Rattle.std.specs.Str.{bytes_eq}
use Rattle.c_tree.specs.Env.{Env}
use Rattle.c_meaning.specs.declared.cell.Cell.{Cell}
use Rattle.c_meaning.specs.State
use Rattle.c_meaning.specs.Blocks.{next_pointer}
use Rattle.c_meaning.specs.Texts.{give}
use Rattle.c_meaning.specs.BlockRows as rows
use Rattle.c_meaning.specs.BlockRows.{slice_thing}
use Rattle.c_code.specs.declared.program.LibraryFunction.{LibraryFunction}
use Rattle.c_code.specs.declared.program.LibraryFunction.TheVariants as library
use Rattle.c_code.specs.declared.program.Sliced.{Sliced}
use Rattle.c_code.specs.declared.program.Sliced.TheVariants as sliced
use Rattle.c_code.specs.declared.program.TypeArgument.{TypeArgument}
use Rattle.c_code.specs.Statements.{first_of, row_of}
use Rattle.cell_heap.specs.States.{heap_of}
use Rattle.glib_model.specs.declared.kinds.Mark.{Mark}
use Rattle.glib_model.specs.declared.ends.LibEnd.{LibEnd}
use Rattle.glib_model.specs.declared.ends.LibWhat.TheVariants as what
use Rattle.glib_model.specs.Kinds.{Sees}
use Rattle.glib_model.specs.Ends.{Tells, IsRow, IsSliceRow, IsTypedRow}
use Rattle.glib_model.specs.Outside.{IsLine, IsQuark}
use Rattle.glib_model.proofs.Rows.{tells_along}
use Rattle.glib_model.proofs.Telling.{quiet_tells}
use Rattle.c_run_state.specs.declared.state.Run.{Run}
use Rattle.c_run_state.specs.Answers.{Applied, SliceMade, sliced_by}
use Rattle.c_run_state.specs.Shows.{Shows}
use Rattle.c_run_state.proofs.Parts.{other_heap, read_on, with_quarks}
use Rattle.c_library.specs.Calls.{Calls, type_of}

-- 1. What a function of the library sees of a run that is shown

sees_of : (env : Env) (run : Run) (s : State.State) → s.ended ≡ None → Shows env run s → Sees s run.heap run.kinds
sees_of env run s going shows = record { going = going; blocks = shows.heap; things = shows.books.marks }

-- 2. Rows

-- a row is one that takes a type
pub as_typed : {E : Type 0} (f g : LibraryFunction) (size : ℕ) (args : List Cell) (old : List (Option (List Cell))) (marks : List (Option Mark)) (new : List (Option (List Cell))) (r : Result LibEnd E) → f ≡ g
    → IfOk r (IsRow (row_of g) args old marks new) → IfOk r (IsTypedRow (row_of f) size args old marks new)
as_typed f g size args old marks new (Err e) is does = tt
as_typed f g size args old marks new (Ok answer) is does = λ s t of sees. tells_along s (row_of f s t args) (row_of g s t args) new answer (ap (λ h. row_of h s t args) is) (does s t sees)

-- 3. Calls

pub call_along : {A E : Type 0} (f g : LibraryFunction) (argument : TypeArgument) (cells : List Cell) (old new : Run) (r : Result A E) → f ≡ g → OnOk r (Calls g argument cells old new) → OnOk r (Calls f argument cells old new)
call_along f g argument cells old new r is does = let P : LibraryFunction → Type 0 = λ h. OnOk r (Calls h argument cells old new) in subst P (sym is) does

pub row_call : {A E : Type 0} (function : LibraryFunction) (argument : TypeArgument) (cells : List Cell) (old new : Run) (heap : List (Option (List Cell))) (answer : LibEnd) (r : Result A E)
    → IsTypedRow (row_of function) argument.cells cells old.heap old.kinds heap answer → OnOk r (Applied answer (record old { heap = heap }) new) → OnOk r (Calls function argument cells old new)
row_call function argument cells old new heap answer (Err e) does applied = tt
row_call function argument cells old new heap answer (Ok a) does applied = λ env s going shows.
    applied env s (row_of function s (type_of argument) cells) (other_heap env old s heap shows.books) (does s (type_of argument) refl (sees_of env old s going shows))

-- a line is read
line_is : {A E : Type 0} (argument : TypeArgument) (cells : List Cell) (old new : Run) (heap : List (Option (List Cell))) (at : ℕ) (answer : LibEnd) (r : Result A E) → (old.at ≤ length old.input.items → at ≤ length old.input.items)
    → IsLine (drop old.at old.input.items) (drop at old.input.items) cells old.heap old.kinds heap answer → OnOk r (Applied answer (record old { heap = heap; at = at }) new) → OnOk r (Calls library.ReadLine argument cells old new)
line_is argument cells old new heap at answer (Err e) within does applied = tt
line_is argument cells old new heap at answer (Ok a) within does applied = λ env s going shows.
    applied env (record s { input = drop at old.input.items }) (rows.vala_rt_read_line s (type_of argument) cells) (read_on env old s at heap (within shows.books.within) shows.books)
    (does s (type_of argument) (sees_of env old s going shows) (sym shows.books.input))

pub line_call : {A E : Type 0} (argument : TypeArgument) (cells : List Cell) (old new : Run) (heap : List (Option (List Cell))) (at : ℕ) (answer : LibEnd) (r : Result A E) (input : List ℕ) → input ≡ old.input.items
    → (old.at ≤ length input → at ≤ length input) → IsLine (drop old.at input) (drop at input) cells old.heap old.kinds heap answer → OnOk r (Applied answer (record old { heap = heap; at = at }) new)
    → OnOk r (Calls library.ReadLine argument cells old new)
line_call argument cells old new heap at answer r input same within does applied =
    let P : List ℕ → Type 0 = λ xs. old.at ≤ length xs → at ≤ length xs in
    let Q : List ℕ → Type 0 = λ xs. IsLine (drop old.at xs) (drop at xs) cells old.heap old.kinds heap answer in
    line_is argument cells old new heap at answer r (subst P same within) (subst Q same does) applied

-- a text is a quark
pub quark_call : {A E : Type 0} (argument : TypeArgument) (cells : List Cell) (old new : Run) (quarks : List (List ℕ)) (answer : LibEnd) (r : Result A E)
    → IsQuark old.quarks quarks cells old.heap answer → OnOk r (Applied answer (record old { quarks = quarks }) new) → OnOk r (Calls library.Quark argument cells old new)
quark_call argument cells old new quarks answer (Err e) does applied = tt
quark_call argument cells old new quarks answer (Ok a) does applied = λ env s going shows.
    applied env (record s { quarks = quarks }) (rows.g_quark_from_static_string s (type_of argument) cells) (with_quarks env old s quarks shows.books) (does s (type_of argument) shows.heap (sym shows.books.quarks))

-- 4. A struct is made

slice_named : (k : Sliced) (n : ℕ) (s : State.State) → slice_thing s n (bytes_eq (first_of k) (codes "_ref_count_")) (bytes_eq (first_of k) (codes "_state_")) ≡ sliced_by k n s
slice_named sliced.Scope n s = refl
slice_named sliced.Activation n s = refl
slice_named sliced.Plain n s = refl

given_tells : (s x : State.State) (heap : List (Option (List Cell))) (answer : LibEnd) → heap_of x ≡ heap → answer ≡ record { what = what.Value (next_pointer s); notes = [] } → Tells x (give x (next_pointer s)) heap answer
given_tells s x heap answer sees is = let P : LibEnd → Type 0 = λ a. Tells x (give x (next_pointer s)) heap a in subst P (sym is) (quiet_tells x heap (what.Value (next_pointer s)) sees)

pub slice_call : {A E : Type 0} (argument : TypeArgument) (cells : List Cell) (old mid new : Run) (heap : List (Option (List Cell))) (answer : LibEnd) (r : Result A E) → IsSliceRow argument.cells old.heap heap answer
    → SliceMade argument.sliced (record old { heap = heap }) mid → OnOk r (Applied answer mid new) → OnOk r (Calls library.SliceNew argument cells old new)
slice_call argument cells old mid new heap answer (Err e) does slice applied = tt
slice_call argument cells old mid new heap answer (Ok a) does slice applied = λ env s going shows.
    let t : rows.TypeArgument = type_of argument in
    let x : State.State = sliced_by argument.sliced argument.cells s in
    let is = does s t cells refl shows.heap in
    let named = slice_named argument.sliced argument.cells s in
    let made : Shows env mid x = slice env s argument.cells (other_heap env old s heap shows.books) (ap heap_of (sym named) ∙ is.0) in
    applied env x (rows.g_slice_new0 s t cells) made.books
    (tells_along x (rows.g_slice_new0 s t cells) (give x (next_pointer s)) mid.heap answer (ap (λ y. give y (next_pointer s)) named) (given_tells s x mid.heap answer made.heap is.1))
