-- What answers tell of runs: nothing was done, a thing was made, a block was freed, and both.
use Rattle.std.proofs.Common.{◌≡◌, ◌∙◌, refl, sym, ap, ℕ, zero, suc, ◌+◌, ◌≤◌, true, false, List, [], ◌∷◌, ◌++◌, length, map, Option, Some, None, Ok, Err, arith, set, cond, nat_eq, eq-eqb, append-nil}
use Rattle.std.specs.Prelude.{slice_get}
use Rattle.vg_base.specs.declared.event.ThingKind.{ThingKind}
use Rattle.c_meaning.specs.declared.cell.Cell.{Cell}
use Rattle.c_meaning.specs.declared.cell.Cell.TheVariants.{Int, Uns, Ptr, Func, Null, Unset}
use Rattle.c_meaning.specs.State
use Rattle.c_meaning.specs.State.{Block, Thing}
use Rattle.c_meaning.specs.Blocks as meaning
use Rattle.c_meaning.specs.Blocks.{Answer, block_of, make_thing, free, next_block, next_pointer, on, undefined, say_gone}
use Rattle.c_meaning.specs.Texts.{give, give_nothing}
use Rattle.cell_heap.specs.Heap.{joined, cells_of, with_block, freed}
use Rattle.cell_heap.specs.States.{seen, heap_of}
use Rattle.cell_heap.proofs.StateLaws.{blocks_numbered, blocks_added, blocks_freed}
use Rattle.glib_model.proofs.Filling.{made_last}
use Rattle.glib_model.specs.declared.ends.Note.TheVariants.{Made, Freed}
use Rattle.glib_model.specs.declared.ends.LibWhat.{LibWhat}
use Rattle.glib_model.specs.declared.ends.LibWhat.TheVariants as what
use Rattle.glib_model.specs.Ends.{with_cells, refreshed, stored, cells_in, noted, finished, Tells}

-- 1. Nothing was stored

pub same_cells : (b : Block) → with_cells b (seen b) ≡ b
same_cells b = elim b.is_live as (λ live. with_cells b (cond live (Some b.cells) None) ≡ b) [ true ↦ refl | false ↦ refl ]

pub refreshed_same : (bs : List Block) (more : List (Option (List Cell))) → refreshed bs (map seen bs ++ more) ≡ bs
refreshed_same [] more = refl
refreshed_same (b ∷ bs) more = ap (λ x. x ∷ refreshed bs (map seen bs ++ more)) (same_cells b) ∙ ap (λ xs. b ∷ xs) (refreshed_same bs more)

refreshed_set : (bs : List Block) (more : List (Option (List Cell))) (n : ℕ) → refreshed bs (set (map seen bs ++ more) n None) ≡ bs
refreshed_set [] more n = refl
refreshed_set (b ∷ bs) more zero = ap (λ xs. b ∷ xs) (refreshed_same bs more)
refreshed_set (b ∷ bs) more (suc n) = ap (λ x. x ∷ refreshed bs (set (map seen bs ++ more) n None)) (same_cells b) ∙ ap (λ xs. b ∷ xs) (refreshed_set bs more n)

refreshed_freed : (bs : List Block) (more : List (Option (List Cell))) (n : ℕ) → refreshed bs (with_block (map seen bs ++ more) n None) ≡ bs
refreshed_freed bs more zero = refreshed_same bs more
refreshed_freed bs more (suc n) = refreshed_set bs more n

abbrev pub with_blocks : State.State → List Block → State.State
with_blocks s bs = record s { blocks = bs }

pub stored_more : (s : State.State) (heap more : List (Option (List Cell))) → heap_of s ≡ heap → stored s (heap ++ more) ≡ s
stored_more s heap more sees = ap (λ h. stored s (h ++ more)) (sym sees) ∙ ap (with_blocks s) (refreshed_same s.blocks more)

pub stored_same : (s : State.State) (heap : List (Option (List Cell))) → heap_of s ≡ heap → stored s heap ≡ s
stored_same s heap sees = ap (stored s) (sym (append-nil heap)) ∙ stored_more s heap [] sees

pub stored_freed : (s : State.State) (heap more : List (Option (List Cell))) (n : ℕ) → heap_of s ≡ heap → stored s (freed (heap ++ more) n) ≡ s
stored_freed s heap more n sees = ap (λ h. stored s (freed (h ++ more) n)) (sym sees) ∙ ap (with_blocks s) (refreshed_freed s.blocks more n)

-- 2. Nothing was done

same_blocks : (s : State.State) (w : LibWhat) → heap_of (finished s w) ≡ heap_of s
same_blocks s (what.Value (Int z)) = refl
same_blocks s (what.Value (Uns n)) = refl
same_blocks s (what.Value (Ptr b a)) = refl
same_blocks s (what.Value (Func f)) = refl
same_blocks s (what.Value Null) = refl
same_blocks s (what.Value Unset) = refl
same_blocks s (what.Calls l) = refl
same_blocks s (what.Print to bytes) = refl
same_blocks s (what.Aborted k) = refl
same_blocks s (what.Undefined u) = refl
same_blocks s what.Waiting = refl

pub quiet_tells : (s : State.State) (heap : List (Option (List Cell))) (w : LibWhat) → heap_of s ≡ heap → Tells s (finished s w) heap (record { what = w; notes = [] })
quiet_tells s heap w sees = record { run = ap (λ x. finished x w) (sym (stored_same s heap sees)); blocks = same_blocks s w ∙ sees }

-- 3. A thing was made

abbrev new_thing : State.State → ThingKind → List Cell → State.State
new_thing s kind cells = make_thing s kind None false cells

abbrev noted_by : State.State → ThingKind → ℕ → Option (List Cell) → State.State
noted_by s kind n found = cond (nat_eq n (next_block s)) (new_thing s kind (cells_in found)) s

pub note_made : (s : State.State) (heap : List (Option (List Cell))) (after : List (Option (List Cell))) (kind : ThingKind) (cells : List Cell) → heap_of s ≡ heap → cells_of after (length heap + 1) ≡ Some cells
    → noted s after (Made (length heap + 1) kind) ≡ new_thing s kind cells
note_made s heap after kind cells sees found =
    ap (noted_by s kind (length heap + 1)) found
    ∙ ap (λ b. cond b (new_thing s kind cells) s) (eq-eqb (length heap + 1) (next_block s) (sym (blocks_numbered s ∙ ap (λ h. length h + 1) sees)))

made_blocks : (s : State.State) (heap : List (Option (List Cell))) (kind : ThingKind) (cells : List Cell) → heap_of s ≡ heap → heap_of (new_thing s kind cells) ≡ heap ++ Some cells ∷ []
made_blocks s heap kind cells sees =
    let made : State.State = record s { made = suc s.made } in
    let thing : Option Thing = Some (record { kind = kind; serial = suc s.made; count = None }) in
    let block : Block = record { cells = cells; is_live = true; thing = thing; is_sliced = false } in
    blocks_added made block refl ∙ ap (λ h. h ++ Some cells ∷ []) sees

next_is : (s : State.State) (heap : List (Option (List Cell))) → heap_of s ≡ heap → next_pointer s ≡ Ptr (length heap + 1) 0
next_is s heap sees = ap (λ n. Ptr n 0) (blocks_numbered s ∙ ap (λ h. length h + 1) sees)

pub made_tells : (s : State.State) (heap : List (Option (List Cell))) (kind : ThingKind) (cells : List Cell) → heap_of s ≡ heap
    → Tells s (give (new_thing s kind cells) (next_pointer s)) (heap ++ Some cells ∷ []) (record { what = what.Value (Ptr (length heap + 1) 0); notes = Made (length heap + 1) kind ∷ [] })
made_tells s heap kind cells sees =
    record {
      run =
          ap (λ c. give (new_thing s kind cells) c) (next_is s heap sees)
          ∙ ap (λ x. give x (Ptr (length heap + 1) 0)) (sym (note_made s heap (heap ++ Some cells ∷ []) kind cells sees (made_last heap cells)))
          ∙ ap (λ x. give (noted x (heap ++ Some cells ∷ []) (Made (length heap + 1) kind)) (Ptr (length heap + 1) 0)) (sym (stored_more s heap (Some cells ∷ []) sees));
      blocks = made_blocks s heap kind cells sees;
    }

-- 4. A block was freed

stored_free : (s : State.State) (heap : List (Option (List Cell))) (n : ℕ) → heap_of s ≡ heap → stored s (freed heap n) ≡ s
stored_free s heap n sees = ap (λ h. stored s (freed h n)) (sym (append-nil heap)) ∙ stored_freed s heap [] n sees

pub freed_tells : (s : State.State) (heap : List (Option (List Cell))) (n : ℕ) → heap_of s ≡ heap → Tells s (give_nothing (free s n)) (freed heap n) (record { what = what.Value Unset; notes = Freed n ∷ [] })
freed_tells s heap n sees =
    record { run = ap (λ x. give_nothing (free x n)) (sym (stored_free s heap n sees)); blocks = blocks_freed s n ∙ ap (λ h. freed h n) sees }

-- 5. A thing was made, and then another block was freed

freed_later : (s : State.State) (c : Cell) (n : ℕ) → free (give s c) n ≡ give (free s n) c
freed_later s c n = by (block_of s n)
  where
    gone : (x : State.State) (t : Option Thing) → say_gone (give x c) t ≡ give (say_gone x t) c
    gone x None = refl
    gone x (Some t) = refl

    by : (r : Answer Block) → on (give s c) r (λ b. say_gone (record (give s c) { blocks = meaning.with_block s.blocks n (record b { is_live = false }) }) b.thing) ≡ give (on s r (λ b. say_gone (record s { blocks = meaning.with_block s.blocks n (record b { is_live = false }) }) b.thing)) c
    by (Err u) = refl
    by (Ok b) = gone (record s { blocks = meaning.with_block s.blocks n (record b { is_live = false }) }) b.thing

other_kept : (heap : List (Option (List Cell))) (o : Option (List Cell)) (n : ℕ) → (n ≡ length heap + 1 → ⊥) → cells_of (freed (heap ++ o ∷ []) n) (length heap + 1) ≡ cells_of (heap ++ o ∷ []) (length heap + 1)
other_kept heap o zero apart = refl
other_kept heap o (suc n) apart =
    let same : length heap + 1 ≡ suc (length heap) = omega arith in
    ap (cells_of (freed (heap ++ o ∷ []) (suc n))) same ∙ ap joined (kept heap n (λ e. apart (omega arith))) ∙ ap (cells_of (heap ++ o ∷ [])) (sym same)
  where
    kept : (h : List (Option (List Cell))) (k : ℕ) → (k ≡ length h → ⊥) → slice_get (set (h ++ o ∷ []) k None) (length h) ≡ slice_get (h ++ o ∷ []) (length h)
    kept [] zero out = absurd (out refl)
    kept [] (suc k) out = refl
    kept (x ∷ h) zero out = refl
    kept (x ∷ h) (suc k) out = kept h k (λ e. out (ap suc e))

-- a thing is made, and an older block goes
pub renewed_tells : (s : State.State) (heap : List (Option (List Cell))) (kind : ThingKind) (cells : List Cell) (n : ℕ) → heap_of s ≡ heap → n ≤ length heap
    → Tells s (free (give (new_thing s kind cells) (next_pointer s)) n) (freed (heap ++ Some cells ∷ []) n) (record { what = what.Value (Ptr (length heap + 1) 0); notes = Made (length heap + 1) kind ∷ Freed n ∷ [] })
renewed_tells s heap kind cells n sees old =
    let after = freed (heap ++ Some cells ∷ []) n in
    record {
      run =
          freed_later (new_thing s kind cells) (next_pointer s) n
          ∙ ap (λ c. give (free (new_thing s kind cells) n) c) (next_is s heap sees)
          ∙ ap (λ x. give (free x n) (Ptr (length heap + 1) 0)) (sym (note_made s heap after kind cells sees (other_kept heap (Some cells) n (λ e. omega arith) ∙ made_last heap cells)))
          ∙ ap (λ x. give (free (noted x after (Made (length heap + 1) kind)) n) (Ptr (length heap + 1) 0)) (sym (stored_freed s heap (Some cells ∷ []) n sees));
      blocks = ap heap_of (freed_later (new_thing s kind cells) (next_pointer s) n) ∙ blocks_freed (new_thing s kind cells) n ∙ ap (λ h. freed h n) (made_blocks s heap kind cells sees);
    }
