-- Rows that take a block.
use Rattle.std.proofs.Common.{◌≡◌, ◌∙◌, refl, sym, ap, subst, ℕ, zero, suc, ◌+◌, ◌-◌, ◌*◌, ◌≤◌, Bool, true, false, List, [], ◌∷◌, ◌++◌, length, replicate, Option, Some, None, Result, Ok, Err, IfOk, arith}
use Rattle.std.specs.Prelude.{slice_get}
use Rattle.std.specs.Option.{option_map}
use Rattle.std.specs.Result.{result_ok}
use Rattle.vg_base.specs.declared.event.UndefKind.{UndefKind}
use Rattle.vg_base.specs.declared.event.UndefKind.TheVariants as undef
use Rattle.vg_base.specs.declared.event.TrapKind.TheVariants as trap
use Rattle.vg_base.specs.declared.event.ThingKind.{ThingKind}
use Rattle.vg_base.specs.declared.event.ThingKind.TheVariants as thing
use Rattle.vg_base.specs.declared.event.CEnd.TheVariants as «end»
use Rattle.std.specs.Prelude.{codes}
use Rattle.std.specs.Str.{bytes_eq}
use Rattle.c_meaning.specs.declared.cell.Cell.{Cell}
use Rattle.c_meaning.specs.declared.cell.Cell.TheVariants.{Int, Uns, Ptr, Func, Null, Unset}
use Rattle.c_meaning.specs.State
use Rattle.c_meaning.specs.State.{Block, Thing}
use Rattle.c_meaning.specs.Blocks.{Answer, bind, on, block_of, free, make_thing, next_pointer, undefined, stop, zeroed}
use Rattle.c_meaning.specs.Texts.{give, give_nothing}
use Rattle.c_meaning.specs.BlockRows.{Does, TypeArgument, Found, found, stuck, g_free, g_new0, g_renew, new_array, renewed, freed_after, is_too_long, is_thing, where_it_is, resized, thing_of, slice_thing}
use Rattle.cell_heap.specs.Heap.{joined, cells_of, freed}
use Rattle.cell_heap.specs.States.{heap_of}
use Rattle.cell_heap.proofs.StateLaws.{blocks_found, blocks_added, blocks_numbered}
use Rattle.glib_model.specs.declared.kinds.Mark.{Mark}
use Rattle.glib_model.specs.declared.ends.Note.TheVariants.{Made, Freed}
use Rattle.glib_model.specs.declared.ends.LibWhat.TheVariants as what
use Rattle.glib_model.specs.declared.ends.LibEnd.{LibEnd}
use Rattle.glib_model.specs.Kinds.{Sees, numbered}
use Rattle.glib_model.specs.Found.{freeable}
use Rattle.glib_model.specs.Ends.{Tells, InRun, IsRow, IsTypedRow, IsSliceRow, array_of, cells_in}
use Rattle.glib_model.proofs.FoundLemmas.{found_there}
use Rattle.glib_model.proofs.Telling.{freed_tells, renewed_tells}
use Rattle.glib_model.proofs.Rows.{tells_along, quiet_along}

-- 1. Freeing

-- what is done with the number of what is found
pub on_number : (s : State.State) (n : ℕ) (go : ℕ → State.State) (r : Answer Found) → Ok n ≡ numbered r → on s r (λ f. go f.number) ≡ go n
on_number s n go (Ok f) is = ap go (let same : f.number ≡ n = cc in same)
on_number s n go (Err u) is = cc

pub on_none : (s : State.State) (u : UndefKind) (go : Found → State.State) (r : Answer Found) → Err u ≡ numbered r → on s r go ≡ undefined s u
on_none s u go (Ok f) is = cc
on_none s u go (Err v) is = ap (undefined s) (let same : v ≡ u = cc in same)

pub free_row : {E : Type 0} (row : Does) (args : List Cell) (finds : State.State → Answer Found) (n : ℕ) (heap : List (Option (List Cell))) (marks : List (Option Mark)) (new : List (Option (List Cell))) (r : Result LibEnd E)
    → ((s : State.State) (t : TypeArgument) → row s t args ≡ on s (finds s) (λ f. give_nothing (free s f.number))) → ((s : State.State) → Sees s heap marks → Ok n ≡ numbered (finds s))
    → IfOk r (λ answer. answer ≡ record { what = what.Value Unset; notes = Freed n ∷ [] }) → new ≡ freed heap n → IfOk r (IsRow row args heap marks new)
free_row row args finds n heap marks new (Err e) shape number is now = tt
free_row row args finds n heap marks new (Ok answer) shape number is now = λ s t sees.
    let P : List (Option (List Cell)) → Type 0 = λ h. Tells s (row s t args) h answer in
    let Q : LibEnd → Type 0 = λ x. Tells s (row s t args) (freed heap n) x in
    let freed_answer : LibEnd = record { what = what.Value Unset; notes = Freed n ∷ [] } in
    subst P (sym now) (subst Q (sym is) (tells_along s (row s t args) (give_nothing (free s n)) (freed heap n) freed_answer (shape s t ∙ on_number s n (λ m. give_nothing (free s m)) (finds s) (number s sees)) (freed_tells s heap n sees.blocks)))

pub none_row : (row : Does) (args : List Cell) (finds : State.State → Answer Found) (go : State.State → TypeArgument → Found → State.State) (u : UndefKind) (heap : List (Option (List Cell))) (marks : List (Option Mark)) (answer : LibEnd)
    → ((s : State.State) (t : TypeArgument) → row s t args ≡ on s (finds s) (go s t)) → ((s : State.State) → Sees s heap marks → Err u ≡ numbered (finds s))
    → answer ≡ record { what = what.Undefined u; notes = [] } → IsRow row args heap marks heap answer
none_row row args finds go u heap marks answer shape none is = λ s t sees.
    quiet_along s (row s t args) heap (what.Undefined u) answer sees.blocks (shape s t ∙ on_none s u (go s t) (finds s) (none s sees)) is

-- `g_free` of what is not null
pub free_shape : (s : State.State) (t : TypeArgument) (c : Cell) → (c ≡ Null → ⊥) → g_free s t (c ∷ []) ≡ on s (freeable s c) (λ f. give_nothing (free s f.number))
free_shape s t (Int z) apart = refl
free_shape s t (Uns n) apart = refl
free_shape s t (Ptr b a) apart = refl
free_shape s t (Func f) apart = refl
free_shape s t Null apart = absurd (apart refl)
free_shape s t Unset apart = refl

-- 2. Arrays

array_same : (b : Bool) (s : State.State) (n : ℕ) → new_array b s n ≡ array_of b s (replicate n Null)
array_same true s n = refl
array_same false s n = refl

pub new0_row : {E : Type 0} (cells n : ℕ) (args : List Cell) (heap : List (Option (List Cell))) (marks : List (Option Mark)) (new : List (Option (List Cell))) (r : Result LibEnd E) → args ≡ Uns n ∷ []
    → IfOk r (InRun (λ s. array_of (is_too_long n) s (replicate (n * cells) Null)) heap new) → IfOk r (IsTypedRow g_new0 cells args heap marks new)
new0_row cells n args heap marks new (Err e) given does = tt
new0_row cells n args heap marks new (Ok answer) given does = λ s t of sees.
    tells_along s (g_new0 s t args) (array_of (is_too_long n) s (replicate (n * cells) Null)) new answer
    (ap (g_new0 s t) given ∙ array_same (is_too_long n) s (n * t.cells) ∙ ap (λ k. array_of (is_too_long n) s (replicate (n * k) Null)) of) (does s sees.blocks)

pub stuck_typed : (row : Does) (cells : ℕ) (args : List Cell) (heap : List (Option (List Cell))) (marks : List (Option Mark)) (answer : LibEnd) → ((s : State.State) (t : TypeArgument) → row s t args ≡ stuck s)
    → answer ≡ record { what = what.Undefined undef.Kind; notes = [] } → IsTypedRow row cells args heap marks heap answer
stuck_typed row cells args heap marks answer is_stuck is = λ s t of sees. quiet_along s (row s t args) heap (what.Undefined undef.Kind) answer sees.blocks (is_stuck s t) is

pub none_typed : (row : Does) (cells : ℕ) (args : List Cell) (finds : State.State → Answer Found) (go : State.State → TypeArgument → Found → State.State) (u : UndefKind) (heap : List (Option (List Cell))) (marks : List (Option Mark)) (answer : LibEnd)
    → ((s : State.State) (t : TypeArgument) → row s t args ≡ on s (finds s) (go s t)) → ((s : State.State) → Sees s heap marks → Err u ≡ numbered (finds s))
    → answer ≡ record { what = what.Undefined u; notes = [] } → IsTypedRow row cells args heap marks heap answer
none_typed row cells args finds go u heap marks answer shape none is = λ s t of sees.
    quiet_along s (row s t args) heap (what.Undefined u) answer sees.blocks (shape s t ∙ on_none s u (go s t) (finds s) (none s sees)) is

-- 3. What `g_slice_new0` makes

slice_blocks : (s : State.State) (n : ℕ) (a b : Bool) → heap_of (slice_thing s n a b) ≡ heap_of s ++ Some (zeroed n) ∷ []
slice_blocks s n true b =
    let made : State.State = record s { made = suc s.made } in
    let scope : Option Thing = Some (record { kind = thing.Scope; serial = suc s.made; count = Some 0 }) in
    let block : Block = record { cells = zeroed n; is_live = true; thing = scope; is_sliced = true } in
    blocks_added made block refl
slice_blocks s n false true =
    let made : State.State = record s { made = suc s.made } in
    let activation : Option Thing = Some (record { kind = thing.Activation; serial = suc s.made; count = None }) in
    let block : Block = record { cells = zeroed n; is_live = true; thing = activation; is_sliced = true } in
    blocks_added made block refl
slice_blocks s n false false =
    let block : Block = record { cells = zeroed n; is_live = true; thing = None; is_sliced = true } in
    blocks_added s block refl

pub slice_row : (cells n : ℕ) (heap new : List (Option (List Cell))) (zeros : List Cell) (answer : LibEnd) → new ≡ heap ++ Some zeros ∷ [] → zeros ≡ replicate cells Null → n ≡ length heap + 1
    → answer ≡ record { what = what.Value (Ptr n 0); notes = [] } → IsSliceRow cells heap new answer
slice_row cells n heap new zeros answer now of number is = λ s t args size sees.
    let next : Ptr n 0 ≡ next_pointer s = ap (λ k. Ptr k 0) (number ∙ ap (λ h. length h + 1) (sym sees) ∙ sym (blocks_numbered s)) in (
      slice_blocks s t.cells (bytes_eq t.first (codes "_ref_count_")) (bytes_eq t.first (codes "_state_")) ∙ ap (λ h. h ++ Some (zeroed t.cells) ∷ []) sees
          ∙ ap (λ k. heap ++ Some (replicate k Null) ∷ []) size ∙ ap (λ xs. heap ++ Some xs ∷ []) (sym of) ∙ sym now,
      is ∙ ap (λ c. let a : LibEnd = record { what = what.Value c; notes = [] } in a) next,
    )

-- 4. Arrays that are renewed

none_taken : (n : ℕ) → resized [] n ≡ replicate n Unset
none_taken zero = refl
none_taken (suc n) = ap (λ k. replicate k Unset) (let same : suc n - 0 ≡ suc n = omega arith in same)

renewed_same : (b : Bool) (s : State.State) (n : ℕ) → renewed b s [] n ≡ array_of b s (replicate n Unset)
renewed_same true s n = refl
renewed_same false s n = ap (λ cells. give (make_thing s thing.Array None false cells) (next_pointer s)) (none_taken n)

pub renew_none : {E : Type 0} (cells n : ℕ) (args : List Cell) (heap : List (Option (List Cell))) (marks : List (Option Mark)) (new : List (Option (List Cell))) (r : Result LibEnd E) → args ≡ Null ∷ Uns n ∷ []
    → IfOk r (InRun (λ s. array_of (is_too_long n) s (replicate (n * cells) Unset)) heap new) → IfOk r (IsTypedRow g_renew cells args heap marks new)
renew_none cells n args heap marks new (Err e) given does = tt
renew_none cells n args heap marks new (Ok answer) given does = λ s t of sees.
    tells_along s (g_renew s t args) (array_of (is_too_long n) s (replicate (n * cells) Unset)) new answer
    (ap (g_renew s t) given ∙ renewed_same (is_too_long n) s (n * t.cells) ∙ ap (λ k. array_of (is_too_long n) s (replicate (n * k) Unset)) of) (does s sees.blocks)

-- what `g_renew` does with an array
abbrev pub renews : ℕ → State.State → TypeArgument → Found → State.State
renews n s t f = freed_after (renewed (is_too_long n) s f.block.cells (n * t.cells)) f.number

pub renew_shape : (s : State.State) (t : TypeArgument) (c : Cell) (n : ℕ) → (c ≡ Null → ⊥) → g_renew s t (c ∷ Uns n ∷ []) ≡ on s (thing_of s thing.Array c) (renews n s t)
renew_shape s t (Int z) n apart = refl
renew_shape s t (Uns m) n apart = refl
renew_shape s t (Ptr b a) n apart = refl
renew_shape s t (Func f) n apart = refl
renew_shape s t Null n apart = absurd (apart refl)
renew_shape s t Unset n apart = refl

too_long : (b : Bool) (s : State.State) (cells : List Cell) (m n : ℕ) → b ≡ true → freed_after (renewed b s cells m) n ≡ stop s («end».Aborted trap.Length)
too_long true s cells m n is = refl
too_long false s cells m n is = cc

on_found : (s : State.State) (x : State.State) (go : Found → State.State) (r : Answer Found) (n : ℕ) → Ok n ≡ numbered r → ((f : Found) → go f ≡ x) → on s r go ≡ x
on_found s x go (Ok f) n is same = same f
on_found s x go (Err u) n is same = cc

pub renew_long : (cells n m : ℕ) (args : List Cell) (finds : State.State → Answer Found) (heap : List (Option (List Cell))) (marks : List (Option Mark)) (answer : LibEnd)
    → ((s : State.State) (t : TypeArgument) → g_renew s t args ≡ on s (finds s) (renews n s t)) → ((s : State.State) → Sees s heap marks → Ok m ≡ numbered (finds s)) → is_too_long n ≡ true
    → answer ≡ record { what = what.Aborted trap.Length; notes = [] } → IsTypedRow g_renew cells args heap marks heap answer
renew_long cells n m args finds heap marks answer shape number long is = λ s t of sees.
    quiet_along s (g_renew s t args) heap (what.Aborted trap.Length) answer sees.blocks
    (shape s t ∙ on_found s (stop s («end».Aborted trap.Length)) (renews n s t) (finds s) m (number s sees) (λ f. too_long (is_too_long n) s f.block.cells (n * t.cells) f.number long)) is

-- a live block has a number that was given
live_old : (heap : List (Option (List Cell))) (n : ℕ) (cells : List Cell) → cells_of heap n ≡ Some cells → n ≤ length heap
live_old heap zero cells is = omega arith
live_old heap (suc n) cells is = within heap n is
  where
    within : (h : List (Option (List Cell))) (k : ℕ) → joined (slice_get h k) ≡ Some cells → suc k ≤ length h
    within [] k e = cc
    within (x ∷ h) zero e = omega arith
    within (x ∷ h) (suc k) e = let more = within h k e in omega arith

freed_going : (x : State.State) (n : ℕ) → x.ended ≡ None → freed_after x n ≡ free x n
freed_going x n going = ap (λ e. elim e as (λ o. State.State) [ Some u ↦ x | None ↦ free x n ]) going

renewed_short : (b : Bool) (s : State.State) (cells : List Cell) (m n : ℕ) → b ≡ false → s.ended ≡ None → freed_after (renewed b s cells m) n ≡ free (give (make_thing s thing.Array None false (resized cells m)) (next_pointer s)) n
renewed_short true s cells m n is going = cc
renewed_short false s cells m n is going = freed_going (give (make_thing s thing.Array None false (resized cells m)) (next_pointer s)) n going

pub record IsThing (s : State.State) (k : ThingKind) (c : Cell) (m : ℕ) : Type 0 where
  pub what : Found
  pub is : thing_of s k c ≡ Ok what
  pub number : what.number ≡ m
  pub block : block_of s m ≡ Ok what.block

thing_there : (s : State.State) (k : ThingKind) (c : Cell) (m : ℕ) → Ok m ≡ numbered (thing_of s k c) → IsThing s k c m
thing_there s k c m is = by (found s c) refl
  where
    by_test : (f : Found) (b : Bool) → found s c ≡ Ok f → is_thing k f.block.thing ≡ b → IsThing s k c m
    by_test f true e t =
        let reads : thing_of s k c ≡ Ok f = ap (λ r. bind r (λ g. where_it_is (is_thing k g.block.thing) g)) e ∙ ap (λ b. where_it_is b f) t in
        let number : f.number ≡ m = (let now = is ∙ ap numbered reads in cc) in
        let there = found_there s c m (ap numbered e ∙ ap (λ n. Ok n) number) in
        let same : there.what ≡ f = (let one = there.is in cc) in
        record { what = f; is = reads; number = number; block = there.block ∙ ap (λ g. Ok g.block) same }
    by_test f false e t =
        let reads : thing_of s k c ≡ Err undef.Kind = ap (λ r. bind r (λ g. where_it_is (is_thing k g.block.thing) g)) e ∙ ap (λ b. where_it_is b f) t in
        let now = is ∙ ap numbered reads in cc

    by : (r : Answer Found) → found s c ≡ r → IsThing s k c m
    by (Ok f) e = by_test f (is_thing k f.block.thing) e refl
    by (Err u) e = let now = is ∙ ap (λ r. numbered (bind r (λ g. where_it_is (is_thing k g.block.thing) g))) e in cc

pub renew_row : {E : Type 0} (cells n m size : ℕ) (args : List Cell) (c : Cell) (heap : List (Option (List Cell))) (marks : List (Option Mark)) (new : List (Option (List Cell))) (r : Result LibEnd E)
    → ((s : State.State) (t : TypeArgument) → g_renew s t args ≡ on s (thing_of s thing.Array c) (renews n s t)) → ((s : State.State) → Sees s heap marks → Ok m ≡ numbered (thing_of s thing.Array c))
    → is_too_long n ≡ false → size ≡ n * cells → IfOk r (λ answer. answer ≡ record { what = what.Value (Ptr (length heap + 1) 0); notes = Made (length heap + 1) thing.Array ∷ Freed m ∷ [] })
    → IfOk r (λ answer. new ≡ freed (heap ++ Some (resized (cells_in (cells_of heap m)) size) ∷ []) m) → IfOk r (IsTypedRow g_renew cells args heap marks new)
renew_row cells n m size args c heap marks new (Err e) shape number short of is now = tt
renew_row cells n m size args c heap marks new (Ok answer) shape number short of is now = λ s t takes sees.
    let there = thing_there s thing.Array c m (number s sees) in
    let old : cells_of heap m ≡ Some there.what.block.cells = ap (λ h. cells_of h m) (sym sees.blocks) ∙ blocks_found s m ∙ ap (λ r. option_map (λ b. b.cells) (result_ok r)) there.block in
    let some : List Cell = resized there.what.block.cells size in
    let state : State.State = free (give (make_thing s thing.Array None false some) (next_pointer s)) m in
    let width : n * t.cells ≡ size = ap (λ k. n * k) takes ∙ sym of in
    let goes : g_renew s t args ≡ state =
    shape s t ∙ ap (λ r. on s r (renews n s t)) there.is ∙ renewed_short (is_too_long n) s there.what.block.cells (n * t.cells) there.what.number short sees.going
    ∙ ap (λ k. free (give (make_thing s thing.Array None false (resized there.what.block.cells k)) (next_pointer s)) there.what.number) width ∙ ap (free (give (make_thing s thing.Array None false some) (next_pointer s))) there.number in
    let after : new ≡ freed (heap ++ Some some ∷ []) m = now ∙ ap (λ o. freed (heap ++ Some (resized (cells_in o) size) ∷ []) m) old in
    let P : List (Option (List Cell)) → Type 0 = λ h. Tells s (g_renew s t args) h answer in
    let Q : LibEnd → Type 0 = λ x. Tells s (g_renew s t args) (freed (heap ++ Some some ∷ []) m) x in
    let told : LibEnd = record { what = what.Value (Ptr (length heap + 1) 0); notes = Made (length heap + 1) thing.Array ∷ Freed m ∷ [] } in
    subst P (sym after) (subst Q (sym is) (tells_along s (g_renew s t args) state (freed (heap ++ Some some ∷ []) m) told goes (renewed_tells s heap thing.Array some m sees.blocks (live_old heap m there.what.block.cells old))))
