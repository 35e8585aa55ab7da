-- What notes and ends of answers come to.
use Rattle.std.proofs.Common.{eq-eqb, ne_eqb, ◌≡◌, ◌∙◌, refl, sym, ap, subst, ℕ, ◌+◌, false, List, [], ◌∷◌, ◌++◌, length, Option, None, cond, ◌<◌, take, get_or, arith}
use Rattle.std.proofs.lemmas.List.{length-map, take_more}
use Rattle.vg_base.specs.declared.event.ThingKind.{ThingKind}
use Rattle.c_tree.specs.Env.{Env}
use Rattle.c_meaning.specs.declared.cell.Cell.{Cell}
use Rattle.c_meaning.specs.declared.cell.Cell.TheVariants.{Int, Uns, Ptr, Func, Null, Unset}
use Rattle.c_meaning.specs.State
use Rattle.c_meaning.specs.Blocks.{make_thing, next_block}
use Rattle.c_meaning.specs.Texts.{give}
use Rattle.cell_heap.specs.Heap.{cells_of}
use Rattle.glib_model.specs.declared.ends.Note.{Note}
use Rattle.glib_model.specs.declared.ends.Note.TheVariants.{Made}
use Rattle.glib_model.specs.declared.ends.LibWhat.TheVariants as what
use Rattle.glib_model.specs.Ends.{noted, noted_all, finished, cells_in}
use Rattle.c_run_state.specs.declared.state.Run.{Run}
use Rattle.c_run_state.specs.Shows.{Books, standing_of}

next_is : (env : Env) (run : Run) (s : State.State) → Books env run s → length run.standings.items + 1 ≡ next_block s
next_is env run s b = let same : length run.standings.items ≡ length s.blocks = ap length b.standings ∙ length-map s.blocks standing_of in omega arith

-- the next block is a thing
pub made_next : (env : Env) (old new : Run) (s : State.State) (heap : List (Option (List Cell))) (n : ℕ) (kind : ThingKind) → n ≡ length old.standings.items + 1 → Books env old s → Books env new (make_thing s kind None false (cells_in (cells_of heap n)))
    → Books env new (noted s heap (Made n kind))
made_next env old new s heap n kind next b made =
    subst (λ is. Books env new (cond is (make_thing s kind None false (cells_in (cells_of heap n))) s)) (sym (eq-eqb n (next_block s) (next ∙ next_is env old s b))) made

-- another block is none
pub made_other : (env : Env) (run : Run) (s : State.State) (heap : List (Option (List Cell))) (n : ℕ) (kind : ThingKind) → (n ≡ length run.standings.items + 1 → ⊥) → Books env run s → Books env run (noted s heap (Made n kind))
made_other env run s heap n kind other b =
    subst (λ is. Books env run (cond is (make_thing s kind None false (cells_in (cells_of heap n))) s)) (sym (ne_eqb n (next_block s) (λ e. other (e ∙ sym (next_is env run s b))))) b

pub noted_all-append : (s : State.State) (heap : List (Option (List Cell))) (ns : List Note) (n : Note) → noted_all s heap (ns ++ n ∷ []) ≡ noted (noted_all s heap ns) heap n
noted_all-append s heap [] n = refl
noted_all-append s heap (m ∷ ns) n = noted_all-append (noted s heap m) heap ns n

-- a value that is there is given
pub value_given : (s : State.State) (c : Cell) → (c ≡ Unset → ⊥) → finished s (what.Value c) ≡ give s c
value_given s (Int z) there = refl
value_given s (Uns n) there = refl
value_given s (Ptr b at) there = refl
value_given s (Func f) there = refl
value_given s Null there = refl
value_given s Unset there = absurd (there refl)

-- one more note is done
pub note_step : (env : Env) (new : Run) (s : State.State) (heap now : List (Option (List Cell))) (ns : List Note) (i : ℕ) (d : Note) → i < length ns → now ≡ heap
    → Books env new (noted (noted_all s heap (take i ns)) now (get_or ns i d)) → Books env new (noted_all s heap (take (i + 1) ns))
note_step env new s heap now ns i d within same b =
    subst (Books env new)
    (ap (λ h. noted (noted_all s heap (take i ns)) h (get_or ns i d)) same ∙ sym (noted_all-append s heap (take i ns) (get_or ns i d)) ∙ ap (noted_all s heap) (sym (take_more ns i d within))) b
