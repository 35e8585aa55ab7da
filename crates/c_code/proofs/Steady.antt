-- A step by code keeps the places of literals and static variables, and prints at most once.
use Rattle.std.proofs.Common.{◌≡◌, ◌∙◌, refl, sym, ap, ℕ, zero, suc, ◌+◌, ◌*◌, ◌==◌, ◌≤◌, ℤ, Bool, true, false, true≢false, List, [], ◌∷◌, ◌++◌, length, codes, Option, Some, None, Ok, arith}
use Rattle.std.specs.Prelude.{◌-◌, ◌%◌, ◌^◌, if◌then◌else◌, slice_get}
use Rattle.std.specs.Str.{bytes_eq}
use Rattle.vg_base.specs.declared.event.CEnd.{CEnd}
use Rattle.vg_base.specs.declared.event.Stream.{Stream}
use Rattle.vg_base.specs.declared.event.Stream.TheVariants as stream
use Rattle.vg_base.specs.declared.event.CEnd.TheVariants as «end»
use Rattle.vg_base.specs.declared.event.ThingKind.TheVariants as thing
use Rattle.vg_base.specs.declared.event.TrapKind.{TrapKind}
use Rattle.vg_base.specs.declared.event.UndefKind.TheVariants as undef
use Rattle.c_tree.specs.declared.kinds.Kind.{Kind}
use Rattle.c_tree.specs.Kinds.{int, uint}
use Rattle.c_tree.specs.Env.{Env}
use Rattle.vg_base.specs.declared.event.Event.TheVariants as event
use Rattle.c_meaning.specs.declared.cell.Cell.{Cell}
use Rattle.c_meaning.specs.declared.cell.Cell.TheVariants.{Int, Uns, Ptr, Func, Null, Unset}
use Rattle.c_meaning.specs.State.{State, Frame, Item, Run, Enter, Ask, Keep, Finish, Place, Value, Scalar}
use Rattle.c_meaning.specs.Blocks.{Answer, bind, on, stop, undefined, happens, free, set, get_cells, make, unset, next_block, next_pointer}
use Rattle.c_meaning.specs.Numbers.{pointed, number_of, is_false, truth, as_kind, converted, scalar}
use Rattle.c_meaning.specs.Texts.{give, give_nothing, give_text, text_of, text_up_to, optional_text, compared_optional, is_front, is_back, place_in, number_read}
use Rattle.c_meaning.specs.Formats.{formatted}
use Rattle.c_meaning.specs.TypeRows.{push}
use Rattle.c_meaning.specs.BlockRows as rows
use Rattle.c_meaning.specs.BlockRows.{TypeArgument, Found, is_too_long}
use Rattle.c_meaning.specs.Values.{Program}
use Rattle.c_meaning.specs.Steps as steps
use Rattle.c_meaning.specs.Steps.{at_place, onward, leave, store, cells_in}
use Rattle.cell_heap.specs.States.{heap_of}
use Rattle.c_code.specs.declared.code.Code.{Code}
use Rattle.c_code.specs.declared.program.LibraryFunction.{LibraryFunction}
use Rattle.c_code.specs.declared.program.LibraryFunction.TheVariants as library
use Rattle.c_code.specs.declared.program.Callee.{Callee}
use Rattle.c_code.specs.declared.program.Callee.TheVariants as target
use Rattle.c_code.specs.declared.program.Statement.{Statement}
use Rattle.c_code.specs.declared.program.Statement.TheVariants as statement
use Rattle.c_code.specs.declared.program.Body.{Body}
use Rattle.c_code.specs.declared.program.Routine.{Routine}
use Rattle.c_code.specs.Looks.{Heap}
use Rattle.c_code.specs.Coded.{value_of, place_of, cell_of}
use Rattle.c_code.specs.Statements.{row_of, first_of}
use Rattle.c_code.specs.Machine as machine
use Rattle.c_code.specs.Steady.{is_own, all_own, prints, Steady, StepsAreSteady}
use Rattle.c_code.proofs.Moves.{Moves, same, alike, after, behind, stopped, on_moves, if_moves, stuck_moves, happens_moves, make_moves, thing_moves, free_moves, set_moves, given_moves, text_moves}

-- 1. Functions of the library

slice_moves : (s : State) (n : ℕ) (a b : Bool) → Moves 0 s (rows.slice_thing s n a b)
slice_moves s n true b = thing_moves s _ _ _ _
slice_moves s n false true = thing_moves s _ _ _ _
slice_moves s n false false = alike 0 s _ refl refl refl refl

array_moves : (b : Bool) (s : State) (n : ℕ) → Moves 0 s (rows.new_array b s n)
array_moves true s n = stopped 0 s s _ (same 0 s)
array_moves false s n = given_moves 0 s _ _ (thing_moves s _ _ _ _)

renewed_moves : (b : Bool) (s : State) (cells : List Cell) (n : ℕ) → Moves 0 s (rows.renewed b s cells n)
renewed_moves true s cells n = stopped 0 s s _ (same 0 s)
renewed_moves false s cells n = given_moves 0 s _ _ (thing_moves s _ _ _ _)

freed_by : (s : State) (n : ℕ) (o : Option CEnd) → Moves 0 s (elim o as (λ e. State) [ Some e ↦ s | None ↦ free s n ])
freed_by s n (Some e) = same 0 s
freed_by s n None = free_moves s n

error_moves : (b : Bool) (s : State) (d c : Cell) (bytes : List ℕ) → Moves 0 s (rows.new_error b s d c bytes)
error_moves true s d c bytes = stopped 0 s s _ (same 0 s)
error_moves false s d c bytes = given_moves 0 s _ _ (thing_moves s _ _ _ _)

optional_moves : (s : State) (o : Option (List ℕ)) → Moves 0 s (rows.give_optional s o)
optional_moves s None = given_moves 0 s s _ (same 0 s)
optional_moves s (Some bytes) = text_moves s bytes

line_moves : (s : State) (bytes : List ℕ) → Moves 0 s (rows.line_read s bytes)
line_moves s [] = given_moves 0 s s _ (same 0 s)
line_moves s (b ∷ bs) = behind 0 s (record s { input = _ }) _ (alike 0 s _ refl refl refl refl) (text_moves (record s { input = _ }) _)

gives : (s : State) (v : Option Value) → Moves 0 s (record s { given = v })
gives s v = given_moves 0 s s v (same 0 s)

freed_moves : (s : State) (n : ℕ) → Moves 0 s (record (free s n) { given = None })
freed_moves s n = given_moves 0 s (free s n) None (free_moves s n)

freed_on : (s : State) (a : Answer Found) → Moves 0 s (on s a (λ f. give_nothing (free s f.number)))
freed_on s a = on_moves {A = Found} 0 s s a (λ f. give_nothing (free s f.number)) (same 0 s) (λ f. freed_moves s f.number)

given_on : {A : Type 0} (s : State) (a : Answer A) (v : A → Cell) → Moves 0 s (on s a (λ x. give s (v x)))
given_on s a v = on_moves 0 s s a (λ x. give s (v x)) (same 0 s) (λ x. gives s (Some (Scalar (v x))))

both_on : {A B : Type 0} (s : State) (a : Answer A) (b : Answer B) (v : A → B → Cell) → Moves 0 s (on s a (λ x. on s b (λ y. give s (v x y))))
both_on s a b v = on_moves 0 s s a (λ x. on s b (λ y. give s (v x y))) (same 0 s) (λ x. given_on s b (v x))

error_given : (s : State) (d c : Cell) (bytes : List ℕ) → Moves 0 s (rows.give_error s d c bytes)
error_given s d c bytes = error_moves (is_too_long (length bytes)) s d c bytes

error_on : (s : State) (a b : Answer Cell) (x : Answer (List ℕ)) → Moves 0 s (on s a (λ d. on s b (λ c. on s x (λ bytes. rows.give_error s d c bytes))))
error_on s a b x =
    on_moves {A = Cell} 0 s s a (λ d. on s b (λ c. on s x (λ bytes. rows.give_error s d c bytes))) (same 0 s) (λ d.
    on_moves {A = Cell} 0 s s b (λ c. on s x (λ bytes. rows.give_error s d c bytes)) (same 0 s) (λ c.
    on_moves {A = List ℕ} 0 s s x (λ bytes. rows.give_error s d c bytes) (same 0 s) (λ bytes. error_given s d c bytes)))

quark_given : (s : State) (qs : List (List ℕ)) (c : Cell) → Moves 0 s (give (record s { quarks = qs }) c)
quark_given s qs c = given_moves 0 s (record s { quarks = qs }) (Some (Scalar c)) (alike 0 s (record s { quarks = qs }) refl refl refl refl)

slice_new_does : (s : State) (t : TypeArgument) (cs : List Cell) → Moves 0 s (rows.g_slice_new0 s t cs)
slice_new_does s t cs =
    let a : Bool = bytes_eq t.first (codes "_ref_count_") in
    let b : Bool = bytes_eq t.first (codes "_state_") in
    given_moves 0 s (rows.slice_thing s t.cells a b) (Some (Scalar (next_pointer s))) (slice_moves s t.cells a b)

slice_free_does : (s : State) (t : TypeArgument) (cs : List Cell) → Moves 0 s (rows.g_slice_free s t cs)
slice_free_does s t (c ∷ []) = freed_on s (bind (rows.found s c) (λ f. rows.where_it_is f.block.is_sliced f))
slice_free_does s t cs = stuck_moves 0 s

free_does : (s : State) (t : TypeArgument) (cs : List Cell) → Moves 0 s (rows.g_free s t cs)
free_does s t (Null ∷ []) = gives s None
free_does s t (c ∷ []) = freed_on s (bind (rows.found s c) (λ f. rows.where_it_is (rows.is_freed_by_g_free f.block) f))
free_does s t cs = stuck_moves 0 s

new_does : (s : State) (t : TypeArgument) (cs : List Cell) → Moves 0 s (rows.g_new0 s t cs)
new_does s t (Uns n ∷ []) = array_moves (is_too_long n) s (n * t.cells)
new_does s t cs = stuck_moves 0 s

renew_does : (s : State) (t : TypeArgument) (cs : List Cell) → Moves 0 s (rows.g_renew s t cs)
renew_does s t (Null ∷ Uns n ∷ []) = renewed_moves (is_too_long n) s [] (n * t.cells)
renew_does s t (c ∷ Uns n ∷ []) =
    on_moves {A = Found} 0 s s (rows.thing_of s thing.Array c)
    (λ f. rows.freed_after (rows.renewed (is_too_long n) s f.block.cells (n * t.cells)) f.number) (same 0 s) (λ f.
    let u : State = rows.renewed (is_too_long n) s f.block.cells (n * t.cells) in
    behind 0 s u (rows.freed_after u f.number) (renewed_moves (is_too_long n) s f.block.cells (n * t.cells)) (freed_by u f.number u.ended))
renew_does s t cs = stuck_moves 0 s

duplicate_does : (s : State) (t : TypeArgument) (cs : List Cell) → Moves 0 s (rows.g_strdup s t cs)
duplicate_does s t (c ∷ []) = on_moves {A = Option (List ℕ)} 0 s s (optional_text s c) (rows.give_optional s) (same 0 s) (optional_moves s)
duplicate_does s t cs = stuck_moves 0 s

front_does : (s : State) (t : TypeArgument) (cs : List Cell) → Moves 0 s (rows.g_strndup s t cs)
front_does s t (c ∷ Uns n ∷ []) = on_moves {A = List ℕ} 0 s s (text_up_to s c n) (give_text s) (same 0 s) (text_moves s)
front_does s t cs = stuck_moves 0 s

concatenate_does : (s : State) (t : TypeArgument) (cs : List Cell) → Moves 0 s (rows.g_strconcat s t cs)
concatenate_does s t (a ∷ b ∷ Null ∷ []) =
    on_moves {A = List ℕ} 0 s s (text_of s a) (λ x. on s (text_of s b) (λ y. give_text s (x ++ y))) (same 0 s) (λ x.
    on_moves {A = List ℕ} 0 s s (text_of s b) (λ y. give_text s (x ++ y)) (same 0 s) (λ y. text_moves s (x ++ y)))
concatenate_does s t cs = stuck_moves 0 s

format_does : (s : State) (t : TypeArgument) (cs : List Cell) → Moves 0 s (rows.g_strdup_printf s t cs)
format_does s t (f ∷ cs) = on_moves {A = List ℕ} 0 s s (formatted s f cs) (give_text s) (same 0 s) (text_moves s)
format_does s t [] = stuck_moves 0 s

compare_does : (s : State) (t : TypeArgument) (cs : List Cell) → Moves 0 s (rows.g_strcmp0 s t cs)
compare_does s t (a ∷ b ∷ []) = both_on s (optional_text s a) (optional_text s b) (λ x y. Int (compared_optional x y))
compare_does s t cs = stuck_moves 0 s

length_does : (s : State) (t : TypeArgument) (cs : List Cell) → Moves 0 s (rows.strlen s t cs)
length_does s t (c ∷ []) = given_on s (text_of s c) (λ x. Uns (length x))
length_does s t cs = stuck_moves 0 s

prefix_does : (s : State) (t : TypeArgument) (cs : List Cell) → Moves 0 s (rows.g_str_has_prefix s t cs)
prefix_does s t (a ∷ b ∷ []) = both_on s (text_of s a) (text_of s b) (λ x y. truth (is_front y x))
prefix_does s t cs = stuck_moves 0 s

suffix_does : (s : State) (t : TypeArgument) (cs : List Cell) → Moves 0 s (rows.g_str_has_suffix s t cs)
suffix_does s t (a ∷ b ∷ []) = both_on s (text_of s a) (text_of s b) (λ x y. truth (is_back y x))
suffix_does s t cs = stuck_moves 0 s

find_does : (s : State) (t : TypeArgument) (cs : List Cell) → Moves 0 s (rows.g_strstr_len s t cs)
find_does s t (a ∷ n ∷ b ∷ []) = both_on s (text_of s a) (text_of s b) (λ x y. rows.pointer_at a (place_in y x))
find_does s t cs = stuck_moves 0 s

number_does : (s : State) (t : TypeArgument) (cs : List Cell) → Moves 0 s (rows.g_ascii_strtoll s t cs)
number_does s t (a ∷ e ∷ n ∷ []) = given_on s (text_of s a) (λ x. Int (number_read x))
number_does s t cs = stuck_moves 0 s

abort_does : (s : State) (t : TypeArgument) (cs : List Cell) → Moves 0 s (rows.g_error s t cs)
abort_does s t (c ∷ []) =
    on_moves {A = TrapKind} 0 s s (bind (text_of s c) (rows.trap_named rows.all_traps)) (λ k. stop s («end».Aborted k)) (same 0 s)
    (λ k. stopped 0 s s («end».Aborted k) (same 0 s))
abort_does s t cs = stuck_moves 0 s

quark_does : (s : State) (t : TypeArgument) (cs : List Cell) → Moves 0 s (rows.g_quark_from_static_string s t cs)
quark_does s t (c ∷ []) =
    on_moves {A = List ℕ} 0 s s (text_of s c)
    (λ x. give (record s { quarks = rows.with_quark s.quarks x }) (Uns (rows.quark_in 1 s.quarks x % 2 ^ 32))) (same 0 s)
    (λ x. quark_given s (rows.with_quark s.quarks x) (Uns (rows.quark_in 1 s.quarks x % 2 ^ 32)))
quark_does s t cs = stuck_moves 0 s

error_new_does : (s : State) (t : TypeArgument) (cs : List Cell) → Moves 0 s (rows.g_error_new s t cs)
error_new_does s t (d ∷ c ∷ f ∷ cs) = on_moves {A = List ℕ} 0 s s (formatted s f cs) (rows.give_error s d c) (same 0 s) (error_given s d c)
error_new_does s t cs = stuck_moves 0 s

abbrev copied : State → Found → State
copied s f =
    on s (bind (rows.part s f 0) (as_kind uint)) (λ d.
    on s (bind (rows.part s f 1) (as_kind int)) (λ c.
    on s (bind (rows.part s f 2) (text_of s)) (λ bytes. rows.give_error s d c bytes)))

error_copy_does : (s : State) (t : TypeArgument) (cs : List Cell) → Moves 0 s (rows.g_error_copy s t cs)
error_copy_does s t (e ∷ []) =
    on_moves {A = Found} 0 s s (rows.thing_of s thing.Error e) (copied s) (same 0 s) (λ f.
    error_on s (bind (rows.part s f 0) (as_kind uint)) (bind (rows.part s f 1) (as_kind int)) (bind (rows.part s f 2) (text_of s)))
error_copy_does s t cs = stuck_moves 0 s

error_free_does : (s : State) (t : TypeArgument) (cs : List Cell) → Moves 0 s (rows.g_error_free s t cs)
error_free_does s t (e ∷ []) = freed_on s (rows.thing_of s thing.Error e)
error_free_does s t cs = stuck_moves 0 s

propagate_does : (s : State) (t : TypeArgument) (cs : List Cell) → Moves 0 s (rows.g_propagate_error s t cs)
propagate_does s t (Null ∷ e ∷ []) = freed_on s (rows.thing_of s thing.Error e)
propagate_does s t (d ∷ e ∷ []) =
    on_moves {A = Place} 0 s s (bind (pointed s d) (λ p. bind (get_cells s p 1) (λ old. Ok p)))
    (λ p. on s (rows.thing_of s thing.Error e) (λ f. give_nothing (set s p e))) (same 0 s) (λ p.
    on_moves {A = Found} 0 s s (rows.thing_of s thing.Error e) (λ f. give_nothing (set s p e)) (same 0 s)
    (λ f. given_moves 0 s (set s p e) None (set_moves 0 s p (e ∷ []))))
propagate_does s t cs = stuck_moves 0 s

matches_does : (s : State) (t : TypeArgument) (cs : List Cell) → Moves 0 s (rows.g_error_matches s t cs)
matches_does s t (Null ∷ d ∷ c ∷ []) = gives s (Some (Scalar (truth false)))
matches_does s t (e ∷ d ∷ c ∷ []) = given_on s (bind (rows.thing_of s thing.Error e) (λ f. rows.matches s f d c)) (λ x. x)
matches_does s t cs = stuck_moves 0 s

print_does : (p : Stream) (s : State) (t : TypeArgument) (cs : List Cell) → Moves 1 s (rows.print_to p s t cs)
print_does p s t (f ∷ cs) =
    on_moves {A = List ℕ} 1 s s (formatted s f cs) (λ bytes. give_nothing (happens s (event.Print p bytes))) (same 1 s)
    (λ bytes. given_moves 1 s (happens s (event.Print p bytes)) None (happens_moves s (event.Print p bytes)))
print_does p s t [] = stuck_moves 1 s

-- no print is at most one
more : (s u : State) → Moves 0 s u → Moves 1 s u
more s u m =
    record {
      literals = m.literals;
      statics = m.statics;
      own = m.own;
      prints = let h : prints u.said ≤ 0 + prints s.said = m.prints in omega (arith, h);
    }

row_moves : (f : LibraryFunction) (s : State) (t : TypeArgument) (cs : List Cell) → Moves 1 s (row_of f s t cs)
row_moves library.Print s t cs = print_does stream.Out s t cs
row_moves library.PrintErr s t cs = print_does stream.Err s t cs
row_moves library.SliceNew s t cs = more s (rows.g_slice_new0 s t cs) (slice_new_does s t cs)
row_moves library.SliceFree s t cs = more s (rows.g_slice_free s t cs) (slice_free_does s t cs)
row_moves library.New s t cs = more s (rows.g_new0 s t cs) (new_does s t cs)
row_moves library.Renew s t cs = more s (rows.g_renew s t cs) (renew_does s t cs)
row_moves library.Free s t cs = more s (rows.g_free s t cs) (free_does s t cs)
row_moves library.Duplicate s t cs = more s (rows.g_strdup s t cs) (duplicate_does s t cs)
row_moves library.DuplicateFront s t cs = more s (rows.g_strndup s t cs) (front_does s t cs)
row_moves library.Concatenate s t cs = more s (rows.g_strconcat s t cs) (concatenate_does s t cs)
row_moves library.Format s t cs = more s (rows.g_strdup_printf s t cs) (format_does s t cs)
row_moves library.Compare s t cs = more s (rows.g_strcmp0 s t cs) (compare_does s t cs)
row_moves library.Length s t cs = more s (rows.strlen s t cs) (length_does s t cs)
row_moves library.HasPrefix s t cs = more s (rows.g_str_has_prefix s t cs) (prefix_does s t cs)
row_moves library.HasSuffix s t cs = more s (rows.g_str_has_suffix s t cs) (suffix_does s t cs)
row_moves library.Find s t cs = more s (rows.g_strstr_len s t cs) (find_does s t cs)
row_moves library.ReadNumber s t cs = more s (rows.g_ascii_strtoll s t cs) (number_does s t cs)
row_moves library.Abort s t cs = more s (rows.g_error s t cs) (abort_does s t cs)
row_moves library.ReadLine s t cs = more s (rows.vala_rt_read_line s t cs) (line_moves s s.input)
row_moves library.Quark s t cs = more s (rows.g_quark_from_static_string s t cs) (quark_does s t cs)
row_moves library.ErrorNew s t cs = more s (rows.g_error_new s t cs) (error_new_does s t cs)
row_moves library.ErrorCopy s t cs = more s (rows.g_error_copy s t cs) (error_copy_does s t cs)
row_moves library.ErrorFree s t cs = more s (rows.g_error_free s t cs) (error_free_does s t cs)
row_moves library.ErrorPropagate s t cs = more s (rows.g_propagate_error s t cs) (propagate_does s t cs)
row_moves library.ErrorMatches s t cs = more s (rows.g_error_matches s t cs) (matches_does s t cs)

-- 2. Statements

pushed : (n : ℕ) (s t : State) (i : Item) → is_own i ≡ true → Moves n s t → Moves n s (push (i ∷ []) t)
pushed n s t i e m =
    record {
      literals = m.literals;
      statics = m.statics;
      own = λ h. ap (λ b. if b then all_own t.work else false) e ∙ m.own h;
      prints = m.prints;
    }

stops : (n : ℕ) (s : State) (e : CEnd) → Moves n s (stop s e)
stops n s e = stopped n s s e (same n s)

goes : (n : ℕ) (s : State) (f : Frame) (at : ℕ) → Moves n s (at_place s f at)
goes n s f at = pushed n s s (Run (record f { at = at })) refl (same n s)

body_moves : (s : State) (n : ℕ) (o : Option Body) (vs : List Value) → Moves 1 s (machine.enter_body s n o vs)
body_moves s n None vs = stops 1 s («end».Undefined undef.Func)
body_moves s n (Some b) vs =
    if_moves 1 s (length b.parameters == length vs) (push (Enter n vs ∷ []) s) (undefined s undef.Func)
    (pushed 1 s s (Enter n vs) refl (same 1 s)) (stops 1 s («end».Undefined undef.Func))

routine_moves : (s : State) (n : ℕ) (o : Option Routine) (vs : List Value) → Moves 1 s (machine.enter_routine s n o vs)
routine_moves s n None vs = stops 1 s («end».Undefined undef.Func)
routine_moves s n (Some r) vs = body_moves s n r.body vs

cell_moves : (rs : List Routine) (s : State) (vs : List Value) (c : Cell) → Moves 1 s (machine.call_cell rs s vs c)
cell_moves rs s vs (Func n) = routine_moves s n (slice_get rs n) vs
cell_moves rs s vs Null = stops 1 s («end».Undefined undef.Null)
cell_moves rs s vs Unset = stops 1 s («end».Undefined undef.Unset)
cell_moves rs s vs (Ptr b at) = stops 1 s («end».Undefined undef.Func)
cell_moves rs s vs c = stops 1 s («end».Undefined undef.Kind)

call_moves : (rs : List Routine) (heap : Heap) (frame : ℕ) (s : State) (args : List Code) (c : Callee) → Moves 1 s (machine.call_by rs heap frame s args c)
call_moves rs heap frame s args (target.Value e) =
    on_moves {A = Cell} 1 s s (cell_of e heap frame)
    (λ f. on s (machine.values_of args heap frame) (λ vs. machine.call_cell rs s vs f)) (same 1 s) (λ f.
    on_moves {A = List Value} 1 s s (machine.values_of args heap frame) (λ vs. machine.call_cell rs s vs f) (same 1 s) (λ vs. cell_moves rs s vs f))
call_moves rs heap frame s args (target.Library f t) =
    let a : TypeArgument = record { cells = t.cells; first = first_of t.sliced } in
    on_moves {A = List Cell} 1 s s (machine.cells_of args heap frame) (row_of f s a) (same 1 s) (row_moves f s a)
call_moves rs heap frame s args target.Nothing = stuck_moves 1 s

leave_moves : (s : State) (f : Frame) (v : Option Value) → Moves 0 s (leave s f v)
leave_moves s f v = given_moves 0 s (free s f.block) v (free_moves s f.block)

return_moves : (s : State) (f : Frame) (e : Option Code) → Moves 1 s (machine.return_value s f e)
return_moves s f None = more s (leave s f None) (leave_moves s f None)
return_moves s f (Some e) =
    on_moves {A = Value} 1 s s (value_of e (heap_of s) f.block) (λ v. leave s f (Some v)) (same 1 s)
    (λ v. more s (leave s f (Some v)) (leave_moves s f (Some v)))

statement_moves : (rs : List Routine) (s : State) (f : Frame) (t : Statement) → Moves 1 s (machine.perform rs s f t)
statement_moves rs s f (statement.Assign a b) =
    on_moves {A = Place} 1 s s (place_of a (heap_of s) f.block)
    (λ p. on s (value_of b (heap_of s) f.block) (store (onward s f) p)) (same 1 s) (λ p.
    on_moves {A = Value} 1 s s (value_of b (heap_of s) f.block) (store (onward s f) p) (same 1 s) (λ v.
    behind 1 s (onward s f) (store (onward s f) p v) (goes 0 s f (suc f.at)) (set_moves 1 (onward s f) p (cells_in v))))
statement_moves rs s f (statement.Call c) =
    behind 1 s (onward s f) (machine.call rs (heap_of s) f.block (onward s f) c) (goes 0 s f (suc f.at))
    (call_moves rs (heap_of s) f.block (onward s f) c.arguments c.callee)
statement_moves rs s f (statement.Store a t c) =
    on_moves {A = Place} 1 s s (place_of a (heap_of s) f.block)
    (λ p. machine.call rs (heap_of s) f.block (push (Keep p t.kind ∷ []) (onward s f)) c) (same 1 s) (λ p.
    let u : State = push (Keep p t.kind ∷ []) (onward s f) in
    behind 1 s u (machine.call rs (heap_of s) f.block u c) (pushed 0 s (onward s f) (Keep p t.kind) refl (goes 0 s f (suc f.at)))
    (call_moves rs (heap_of s) f.block u c.arguments c.callee))
statement_moves rs s f (statement.Test a n) =
    on_moves {A = Cell} 1 s s (cell_of a (heap_of s) f.block) (λ x. if is_false x then at_place s f (suc f.at + n) else onward s f) (same 1 s)
    (λ x. if_moves 1 s (is_false x) (at_place s f (suc f.at + n)) (onward s f) (goes 1 s f (suc f.at + n)) (goes 1 s f (suc f.at)))
statement_moves rs s f (statement.TestJump a n) =
    on_moves {A = Cell} 1 s s (cell_of a (heap_of s) f.block) (λ x. if is_false x then onward s f else at_place s f n) (same 1 s)
    (λ x. if_moves 1 s (is_false x) (onward s f) (at_place s f n) (goes 1 s f (suc f.at)) (goes 1 s f n))
statement_moves rs s f (statement.Jump n) = goes 1 s f n
statement_moves rs s f (statement.Switch a cs n) =
    on_moves {A = ℤ} 1 s s (bind (cell_of a (heap_of s) f.block) number_of) (λ z. at_place s f (machine.case_target z cs n)) (same 1 s)
    (λ z. goes 1 s f (machine.case_target z cs n))
statement_moves rs s f (statement.Return e) = return_moves s f e
statement_moves rs s f statement.Onward = goes 1 s f (suc f.at)
statement_moves rs s f (statement.Pass n) = goes 1 s f (suc f.at)

perform_moves : (rs : List Routine) (s : State) (f : Frame) (o : Option Statement) → Moves 1 s (machine.perform_if rs s f o)
perform_moves rs s f None = same 1 s
perform_moves rs s f (Some t) = statement_moves rs s f t

frame_moves : (s : State) (n : ℕ) (vs : List Value) (o : Option Body) → Moves 1 s (machine.enter_frame s n vs o)
frame_moves s n vs None = stops 1 s («end».Undefined undef.Func)
frame_moves s n vs (Some b) =
    on_moves {A = List Cell} 1 s s (machine.argument_cells b.parameters vs) (steps.enter_with s n b.cells) (same 1 s) (λ cs.
    pushed 1 s (make s (cs ++ unset (b.cells - length cs))) (Run (record { routine = n; at = 0; block = next_block s })) refl
    (make_moves 1 s (cs ++ unset (b.cells - length cs))))

-- 3. What takes no step

end_moves : (s : State) (f : Frame) (b : Bool) → Moves 0 s (machine.end_body s f b)
end_moves s f true = leave_moves s f None
end_moves s f false = stops 0 s («end».Undefined undef.Unset)

pass_moves : (s : State) (f : Frame) (b : Bool) (o : Option Statement) → Moves 0 s (machine.pass_by s f b o)
pass_moves s f b None = end_moves s f b
pass_moves s f b (Some (statement.Pass n)) = goes 0 s f (suc f.at + n)
pass_moves s f b (Some t) = same 0 s

keep_moves : (env : Env) (s : State) (p : Place) (k : Kind) (o : Option Value) → Moves 0 s (steps.keep env s p k o)
keep_moves env s p k None = stops 0 s («end».Undefined undef.Unset)
keep_moves env s p k (Some v) =
    on_moves {A = Value} 0 s s (bind (steps.fitting env k v) (converted k)) (store s p) (same 0 s) (λ w. set_moves 0 s p (cells_in w))

finish_moves : (s : State) (o : Option Value) → Moves 0 s (steps.finish s o)
finish_moves s None = stops 0 s («end».Undefined undef.Unset)
finish_moves s (Some v) = on_moves {A = ℤ} 0 s s (bind (scalar v) number_of) (λ z. stop s («end».Ended z)) (same 0 s) (λ z. stops 0 s («end».Ended z))

silent_moves : (rs : List Routine) (p : Program) (s : State) (i : Item) → is_own i ≡ true → Moves 0 s (machine.do_silent rs p s i)
silent_moves rs p s (Run f) h = pass_moves s f (machine.gives_nothing (slice_get rs f.routine)) (machine.statement_at rs f)
silent_moves rs p s (Enter n vs) h = same 0 s
silent_moves rs p s (Ask f cs) h = same 0 s
silent_moves rs p s (Keep q k) h = keep_moves p.env s q k s.given
silent_moves rs p s Finish h = finish_moves s s.given
silent_moves rs p s i h = absurd (true≢false (sym h))

both_true : (a b : Bool) → (if a then b else false) ≡ true → (a ≡ true) × (b ≡ true)
both_true true b h = (refl, h)
both_true false b h = absurd (true≢false (sym h))

-- an item is off the work
off_work : (n : ℕ) (s t : State) (is : List Item) → all_own is ≡ true → Moves n (record s { work = is }) t → Moves n s t
off_work n s t is h m = record { literals = m.literals; statics = m.statics; own = λ g. m.own h; prints = m.prints }

first_moves : (rs : List Routine) (p : Program) (s : State) (is : List Item) → all_own is ≡ true → Moves 0 s (machine.do_first rs p s is)
first_moves rs p s [] h = same 0 s
first_moves rs p s (i ∷ is) h =
    off_work 0 s (machine.do_silent rs p (record s { work = is }) i) is (both_true (is_own i) (all_own is) h).1
    (silent_moves rs p (record s { work = is }) i (both_true (is_own i) (all_own is) h).0)

settled_moves : (rs : List Routine) (p : Program) (n : ℕ) (s : State) → all_own s.work ≡ true → Moves 0 s (machine.settled rs p n s)
settled_moves rs p zero s h = same 0 s
settled_moves rs p (suc n) s h =
    let d : State = machine.do_first rs p s s.work in
    let m : Moves 0 s d = first_moves rs p s s.work h in
    elim (machine.first_is_silent rs s.ended s.work) as
    (λ b. Moves 0 s (elim b as (λ b. State) [ true ↦ machine.settled rs p n d | false ↦ s ]))
    [ true ↦ behind 0 s d (machine.settled rs p n d) m (settled_moves rs p n d (m.own h)) | false ↦ same 0 s ]

-- 4. Steps

item_moves : (rs : List Routine) (p : Program) (s : State) (i : Item) → is_own i ≡ true → Moves 1 s (machine.do_item rs p s i)
item_moves rs p s (Run f) h = perform_moves rs s f (machine.statement_at rs f)
item_moves rs p s (Enter n vs) h = frame_moves s n vs (machine.body_of (slice_get rs n))
item_moves rs p s (Ask f cs) h = cell_moves rs s (steps.scalars cs) f
item_moves rs p s (Keep q k) h = more s (steps.keep p.env s q k s.given) (keep_moves p.env s q k s.given)
item_moves rs p s Finish h = more s (steps.finish s s.given) (finish_moves s s.given)
item_moves rs p s i h = absurd (true≢false (sym h))

next_moves : (rs : List Routine) (p : Program) (s : State) (is : List Item) → all_own is ≡ true → Moves 1 s (machine.do_next rs p s is)
next_moves rs p s [] h = same 1 s
next_moves rs p s (i ∷ is) h =
    off_work 1 s (machine.do_item rs p (record s { work = is }) i) is (both_true (is_own i) (all_own is) h).1
    (item_moves rs p (record s { work = is }) i (both_true (is_own i) (all_own is) h).0)

-- what comes behind the first item prints nothing
settled_steady : (rs : List Routine) (p : Program) (s t : State) (n : ℕ) → all_own s.work ≡ true → Moves 1 (record s { said = [] }) t
    → Steady s (machine.settled rs p n t)
settled_steady rs p s t n h m =
    let e : Moves 0 t (machine.settled rs p n t) = settled_moves rs p n t (m.own h) in
    let w : Moves 1 (record s { said = [] }) (machine.settled rs p n t) = after 1 0 (record s { said = [] }) t (machine.settled rs p n t) m e in
    record { literals = w.literals; statics = w.statics; own = w.own h; prints = w.prints }

pub steady : StepsAreSteady
steady rs p s h =
    let t : State = machine.do_next rs p (record s { said = [] }) s.work in
    settled_steady rs p s t (steps.enough t) h (next_moves rs p (record s { said = [] }) s.work h)
