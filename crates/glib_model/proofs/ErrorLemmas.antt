-- Errors that are made.
use Rattle.std.proofs.Common.{◌≡◌, ◌∙◌, refl, sym, ap, subst, ℕ, suc, ◌+◌, ◌^◌, ◌<◌, ◌≤◌, false, List, [], ◌∷◌, ◌++◌, length, Option, Some, None, Result, Ok, Err, IfOk, arith}
use Rattle.vg_base.specs.declared.event.ThingKind.TheVariants as thing
use Rattle.vg_base.specs.declared.event.TrapKind.TheVariants as trap
use Rattle.c_meaning.specs.declared.cell.Cell.{Cell}
use Rattle.c_meaning.specs.declared.cell.Cell.TheVariants.{Ptr}
use Rattle.c_meaning.specs.State
use Rattle.c_meaning.specs.Blocks.{make_thing, next_block, next_pointer}
use Rattle.c_meaning.specs.Texts.{text_cells, give}
use Rattle.c_meaning.specs.BlockRows.{give_error, new_error}
use Rattle.cell_heap.specs.Heap.{made}
use Rattle.cell_heap.specs.Runs.{run_stored}
use Rattle.cell_heap.proofs.StateLaws.{blocks_numbered}
use Rattle.glib_model.specs.declared.ends.Note.TheVariants.{Made}
use Rattle.glib_model.specs.declared.ends.LibWhat.TheVariants as what
use Rattle.glib_model.specs.declared.ends.LibEnd.{LibEnd}
use Rattle.glib_model.specs.Ends.{InRun}
use Rattle.glib_model.proofs.Filling.{filled}
use Rattle.glib_model.proofs.MakingLemmas.{short, long, made_along}
use Rattle.glib_model.proofs.Rows.{quiet_along}

length_text : (bytes : List ℕ) → length (text_cells bytes) ≡ length bytes + 1
length_text [] = refl
length_text (b ∷ bytes) = let more = length_text bytes in omega arith

pub error_long : (heap : List (Option (List Cell))) (d c : Cell) (bytes : List ℕ) (answer : LibEnd) → 2 ^ 63 ≤ length bytes → answer ≡ record { what = what.Aborted trap.Length; notes = [] }
    → InRun (λ s. give_error s d c bytes) heap heap answer
error_long heap d c bytes answer le is = λ s sees.
    quiet_along s (give_error s d c bytes) heap (what.Aborted trap.Length) answer sees (ap (λ b. new_error b s d c bytes) (long (length bytes) le)) is

-- the block of an error is filled
pub error_filled : (heap new middle : List (Option (List Cell))) (d c : Cell) (bytes : List ℕ) (n size : ℕ) (cells : List Cell) → size ≡ length bytes + 4 → n ≡ length heap + 1 → middle ≡ made heap size
    → cells ≡ d ∷ c ∷ Ptr n 3 ∷ text_cells bytes → new ≡ run_stored middle n 0 cells → new ≡ heap ++ Some cells ∷ []
error_filled heap new middle d c bytes n size cells all number mid of now =
    let long : length cells ≡ size = ap length of ∙ (let text = length_text bytes in let sum : suc (suc (suc (length (text_cells bytes)))) ≡ size = omega arith in sum) in
    now ∙ ap (λ h. run_stored h n 0 cells) mid ∙ ap (λ k. run_stored (made heap size) k 0 cells) number ∙ filled heap size cells long

error_same : (s : State.State) (d c : Cell) (bytes : List ℕ) (n : ℕ) (cells : List Cell) → n ≡ next_block s → cells ≡ d ∷ c ∷ Ptr n 3 ∷ text_cells bytes
    → new_error false s d c bytes ≡ give (make_thing s thing.Error None false cells) (next_pointer s)
error_same s d c bytes n cells next of =
    ap (λ xs. give (make_thing s thing.Error None false xs) (next_pointer s)) (ap (λ k. d ∷ c ∷ Ptr k 3 ∷ text_cells bytes) (sym next) ∙ sym of)

pub error_made : {E : Type 0} (heap new : List (Option (List Cell))) (d c : Cell) (bytes : List ℕ) (n : ℕ) (cells : List Cell) (r : Result LibEnd E) → length bytes < 2 ^ 63 → n ≡ length heap + 1
    → cells ≡ d ∷ c ∷ Ptr n 3 ∷ text_cells bytes → new ≡ heap ++ Some cells ∷ []
    → IfOk r (λ answer. answer ≡ record { what = what.Value (Ptr n 0); notes = Made n thing.Error ∷ [] }) → IfOk r (InRun (λ s. give_error s d c bytes) heap new)
error_made heap new d c bytes n cells (Err e) lt number of now is = tt
error_made heap new d c bytes n cells (Ok answer) lt number of now is = λ s sees.
    let next = number ∙ ap (λ h. length h + 1) (sym sees) ∙ sym (blocks_numbered s) in
    made_along s (give_error s d c bytes) heap new thing.Error cells answer sees
    (ap (λ b. new_error b s d c bytes) (short (length bytes) lt) ∙ error_same s d c bytes n cells next of) now (is ∙ ap (λ k. let a : LibEnd = record { what = what.Value (Ptr k 0); notes = Made k thing.Error ∷ [] } in a) number)

-- a message of equal bytes
pub message_along : {E : Type 0} (r : Result LibEnd E) (heap new : List (Option (List Cell))) (d c : Cell) (bytes more : List ℕ) → bytes ≡ more → IfOk r (InRun (λ s. give_error s d c bytes) heap new) → IfOk r (InRun (λ s. give_error s d c more) heap new)
message_along r heap new d c bytes more same does = let P : List ℕ → Type 0 = λ bs. IfOk r (InRun (λ s. give_error s d c bs) heap new) in subst P same does
