-- What is made, or is too long.
use Rattle.std.proofs.Common.{inl, inr, ◌≡◌, ◌∙◌, sym, ap, subst, ℕ, ◌+◌, ◌^◌, ◌<◌, ◌≤◌, true, false, List, [], ◌∷◌, ◌++◌, length, Option, Some, None, Result, Ok, Err, IfOk, nat_le, arith}
use Rattle.std.proofs.lemmas.Bool.Decides.{leb_tells}
use Rattle.vg_base.specs.declared.event.ThingKind.{ThingKind}
use Rattle.vg_base.specs.declared.event.ThingKind.TheVariants as thing
use Rattle.vg_base.specs.declared.event.TrapKind.TheVariants as trap
use Rattle.c_meaning.specs.declared.cell.Cell.{Cell}
use Rattle.c_meaning.specs.declared.cell.Cell.TheVariants.{Ptr}
use Rattle.c_meaning.specs.State
use Rattle.c_meaning.specs.Blocks.{make_thing, next_pointer}
use Rattle.c_meaning.specs.Texts.{give, give_text, sized, text_cells}
use Rattle.c_meaning.specs.BlockRows.{is_too_long}
use Rattle.cell_heap.specs.States.{heap_of}
use Rattle.glib_model.specs.declared.ends.Note.TheVariants.{Made}
use Rattle.glib_model.specs.declared.ends.LibWhat.TheVariants as what
use Rattle.glib_model.specs.declared.ends.LibEnd.{LibEnd}
use Rattle.glib_model.specs.Ends.{Tells, InRun, array_of}
use Rattle.glib_model.proofs.Telling.{made_tells}
use Rattle.glib_model.proofs.Rows.{tells_along, quiet_along}

pub short : (n : ℕ) → n < 2 ^ 63 → nat_le (2 ^ 63) n ≡ false
short n lt = elim (leb_tells (2 ^ 63) n) [ inl more ↦ absurd (let le : 2 ^ 63 ≤ n = more.1 in omega arith) | inr less ↦ less.0 ]

pub long : (n : ℕ) → 2 ^ 63 ≤ n → nat_le (2 ^ 63) n ≡ true
long n le = elim (leb_tells (2 ^ 63) n) [ inl more ↦ more.0 | inr less ↦ absurd (let lt : n < 2 ^ 63 = less.1 in omega arith) ]

abbrev pub made_answer : List (Option (List Cell)) → ThingKind → LibEnd
made_answer heap kind = record { what = what.Value (Ptr (length heap + 1) 0); notes = Made (length heap + 1) kind ∷ [] }

pub made_along : (s a : State.State) (heap new : List (Option (List Cell))) (kind : ThingKind) (cells : List Cell) (answer : LibEnd) → heap_of s ≡ heap → a ≡ give (make_thing s kind None false cells) (next_pointer s)
    → new ≡ heap ++ Some cells ∷ [] → answer ≡ record { what = what.Value (Ptr (length heap + 1) 0); notes = Made (length heap + 1) kind ∷ [] } → Tells s a new answer
made_along s a heap new kind cells answer sees same now is =
    let P : List (Option (List Cell)) → Type 0 = λ h. Tells s a h answer in
    let Q : LibEnd → Type 0 = λ x. Tells s a (heap ++ Some cells ∷ []) x in
    subst P (sym now) (subst Q (sym is) (tells_along s a (give (make_thing s kind None false cells) (next_pointer s)) (heap ++ Some cells ∷ []) (made_answer heap kind) same (made_tells s heap kind cells sees)))

-- a text
pub text_made : {E : Type 0} (heap new : List (Option (List Cell))) (bytes : List ℕ) (cells : List Cell) (r : Result LibEnd E) → length bytes < 2 ^ 63 → cells ≡ text_cells bytes
    → IfOk r (λ answer. answer ≡ record { what = what.Value (Ptr (length heap + 1) 0); notes = Made (length heap + 1) thing.Text ∷ [] }) → IfOk r (λ answer. new ≡ heap ++ Some cells ∷ []) → IfOk r (InRun (λ s. give_text s bytes) heap new)
text_made heap new bytes cells (Err e) lt of is now = tt
text_made heap new bytes cells (Ok answer) lt of is now = λ s sees.
    made_along s (give_text s bytes) heap new thing.Text (text_cells bytes) answer sees (ap (sized s bytes) (short (length bytes) lt)) (now ∙ ap (λ xs. heap ++ Some xs ∷ []) of) is

pub text_long : (heap : List (Option (List Cell))) (bytes : List ℕ) (answer : LibEnd) → 2 ^ 63 ≤ length bytes → answer ≡ record { what = what.Aborted trap.Length; notes = [] } → InRun (λ s. give_text s bytes) heap heap answer
text_long heap bytes answer le is = λ s sees. quiet_along s (give_text s bytes) heap (what.Aborted trap.Length) answer sees (ap (sized s bytes) (long (length bytes) le)) is

-- an array
pub array_made : {E : Type 0} (heap new : List (Option (List Cell))) (n : ℕ) (cells some : List Cell) (r : Result LibEnd E) → n < 2 ^ 63 → some ≡ cells
    → IfOk r (λ answer. answer ≡ record { what = what.Value (Ptr (length heap + 1) 0); notes = Made (length heap + 1) thing.Array ∷ [] }) → IfOk r (λ answer. new ≡ heap ++ Some some ∷ [])
    → IfOk r (InRun (λ s. array_of (is_too_long n) s cells) heap new)
array_made heap new n cells some (Err e) lt of is now = tt
array_made heap new n cells some (Ok answer) lt of is now = λ s sees.
    made_along s (array_of (is_too_long n) s cells) heap new thing.Array cells answer sees (ap (λ b. array_of b s cells) (short n lt)) (now ∙ ap (λ xs. heap ++ Some xs ∷ []) of) is

pub array_long : (heap : List (Option (List Cell))) (n : ℕ) (cells : List Cell) (answer : LibEnd) → 2 ^ 63 ≤ n → answer ≡ record { what = what.Aborted trap.Length; notes = [] } → InRun (λ s. array_of (is_too_long n) s cells) heap heap answer
array_long heap n cells answer le is = λ s sees. quiet_along s (array_of (is_too_long n) s cells) heap (what.Aborted trap.Length) answer sees (ap (λ b. array_of b s cells) (long n le)) is

-- a text that is made of equal bytes
pub bytes_along : {E : Type 0} (r : Result LibEnd E) (heap new : List (Option (List Cell))) (bytes more : List ℕ) → bytes ≡ more → IfOk r (InRun (λ s. give_text s bytes) heap new) → IfOk r (InRun (λ s. give_text s more) heap new)
bytes_along r heap new bytes more same does = let P : List ℕ → Type 0 = λ bs. IfOk r (InRun (λ s. give_text s bs) heap new) in subst P same does
