-- What lives in a run is what lives in the run that it shows.
use Rattle.std.proofs.Common.{◌≡◌, ◌∙◌, refl, sym, ap, ℕ, suc, ◌+◌, ◌<◌, length, drop, get_or, Bool, true, false, List, [], ◌∷◌, ◌++◌, map, Option, Some, None, arith}
use Rattle.std.specs.Prelude.{slice_get}
use Rattle.std.specs.Option.{option_map}
use Rattle.std.proofs.lemmas.List.{append_assoc, drop_more}
use Rattle.std.proofs.lemmas.Option.{slice_get-map}
use Rattle.vg_base.specs.declared.event.ThingKind.{ThingKind}
use Rattle.vg_base.specs.declared.event.ThingKind.TheVariants as thing
use Rattle.vg_base.specs.declared.event.LiveRow.{LiveRow}
use Rattle.c_tree.specs.Env.{Env}
use Rattle.c_meaning.specs.declared.cell.Cell.{Cell}
use Rattle.c_meaning.specs.State
use Rattle.c_meaning.specs.State.{Block, Thing}
use Rattle.c_meaning.specs.Blocks.{live_block, number_in, owners, row_of, rows_of, live}
use Rattle.cell_heap.specs.Heap.{joined, cells_of}
use Rattle.cell_heap.specs.States.{seen}
use Rattle.glib_model.specs.declared.kinds.Mark.{Mark}
use Rattle.glib_model.specs.Kinds.{mark_at, mark_of}
use Rattle.c_run_state.specs.declared.state.Standing.{Standing}
use Rattle.c_run_state.specs.declared.state.Run.{Run}
use Rattle.c_run_state.specs.Rows.{owners_in, row_in, rows_from}
use Rattle.c_run_state.specs.Shows.{Shows, standing_of}
use Rattle.c_run_state.proofs.Listed.{marked}

counts : (cells : List Cell) (b : Block) (t : Thing) (k : ThingKind) → b.cells ≡ cells → owners_in (Some cells) t.count k ≡ owners b t k
counts cells b t k same = by t.count k
  where
    by : (count : Option ℕ) (k : ThingKind) → owners_in (Some cells) count k ≡ owners b (record t { count = count }) k
    by None thing.Object = refl
    by (Some at) thing.Object = ap (λ cs. number_in (slice_get cs at)) (sym same)
    by None thing.Scope = refl
    by (Some at) thing.Scope = ap (λ cs. number_in (slice_get cs at)) (sym same)
    by count thing.Text = refl
    by count thing.Array = refl
    by count thing.Error = refl
    by count thing.Activation = refl

row_is : (cells : List Cell) (is_live : Bool) (t : Option Thing) (sliced : Bool)
    → row_in (marked (record { cells = cells; is_live = is_live; thing = t; is_sliced = sliced })) (seen (record { cells = cells; is_live = is_live; thing = t; is_sliced = sliced })) (standing_of (record { cells = cells; is_live = is_live; thing = t; is_sliced = sliced }))
    ≡ row_of (record { cells = cells; is_live = is_live; thing = t; is_sliced = sliced }) t
row_is cells true None sliced = refl
row_is cells false None sliced = refl
row_is cells false (Some t) sliced = refl
row_is cells true (Some t) sliced =
    ap (λ n. let r : LiveRow = record { kind = t.kind; serial = t.serial; owners = n } in r ∷ []) (counts cells (record { cells = cells; is_live = true; thing = Some t; is_sliced = sliced }) t t.kind refl)

row_alike : (b : Block) → row_in (marked b) (seen b) (standing_of b) ≡ row_of b b.thing
row_alike b = row_is b.cells b.is_live b.thing b.is_sliced

rows_alike : (heap : List (Option (List Cell))) (kinds : List (Option Mark)) (n : ℕ) (bs : List Block)
    → ((j : ℕ) → mark_at kinds (n + j) ≡ mark_of (live_block (slice_get bs j))) → ((j : ℕ) → cells_of heap (n + j) ≡ joined (option_map seen (slice_get bs j)))
    → rows_from heap kinds n (map standing_of bs) ≡ rows_of bs
rows_alike heap kinds n [] marks cells = refl
rows_alike heap kinds n (b ∷ bs) marks cells =
    let none : n ≡ n + 0 = omega arith in
    let mark : mark_at kinds n ≡ marked b = ap (mark_at kinds) none ∙ marks 0 in
    let has : cells_of heap n ≡ seen b = ap (cells_of heap) none ∙ cells 0 in
    ap (λ m. row_in m (cells_of heap n) (standing_of b) ++ rows_from heap kinds (suc n) (map standing_of bs)) mark
    ∙ ap (λ c. row_in (marked b) c (standing_of b) ++ rows_from heap kinds (suc n) (map standing_of bs)) has
    ∙ ap (λ r. r ++ rows_from heap kinds (suc n) (map standing_of bs)) (row_alike b)
    ∙ ap (λ rs. row_of b b.thing ++ rs)
    (rows_alike heap kinds (suc n) bs
    (λ j. ap (mark_at kinds) (let on : suc n + j ≡ n + suc j = omega arith in on) ∙ marks (suc j))
    (λ j. ap (cells_of heap) (let on : suc n + j ≡ n + suc j = omega arith in on) ∙ cells (suc j)))

pub rows_are : (env : Env) (run : Run) (s : State.State) → Shows env run s → rows_from run.heap run.kinds 1 run.standings.items ≡ live s
rows_are env run s sh =
    ap (rows_from run.heap run.kinds 1) sh.books.standings
    ∙ rows_alike run.heap run.kinds 1 s.blocks
    (λ j. ap (mark_at run.kinds) (let next : 1 + j ≡ suc j = omega arith in next) ∙ sh.books.marks (suc j))
    (λ j. ap (cells_of run.heap) (let next : 1 + j ≡ suc j = omega arith in next) ∙ ap (λ h. cells_of h (suc j)) (sym sh.heap) ∙ ap joined (slice_get-map seen s.blocks j))

-- one more row
pub rows_step : (heap : List (Option (List Cell))) (kinds : List (Option Mark)) (xs ys : List Standing) (i : ℕ) (d : Standing) (all old new : List LiveRow) → ys ≡ xs → i < length ys
    → new ≡ old ++ row_in (mark_at kinds (i + 1)) (cells_of heap (i + 1)) (get_or ys i d) → all ≡ old ++ rows_from heap kinds (suc i) (drop i xs) → all ≡ new ++ rows_from heap kinds (suc (i + 1)) (drop (i + 1) xs)
rows_step heap kinds xs ys i d all old new same within more is =
    let one : i + 1 ≡ suc i = omega arith in
    let here = drop_more ys i d within in
    is ∙ ap (λ zs. old ++ rows_from heap kinds (suc i) zs) (ap (drop i) (sym same) ∙ here)
    ∙ sym (append_assoc old (row_in (mark_at kinds (suc i)) (cells_of heap (suc i)) (get_or ys i d)) (rows_from heap kinds (suc (suc i)) (drop (i + 1) ys)))
    ∙ ap (λ n. (old ++ row_in (mark_at kinds n) (cells_of heap n) (get_or ys i d)) ++ rows_from heap kinds (suc n) (drop (i + 1) ys)) (sym one)
    ∙ ap (λ r. r ++ rows_from heap kinds (suc (i + 1)) (drop (i + 1) ys)) (sym more)
    ∙ ap (λ zs. new ++ rows_from heap kinds (suc (i + 1)) (drop (i + 1) zs)) same
