-- What a run holds beside the cells of its blocks, where a part of it changes.
use Rattle.std.proofs.Common.{Vec, Global, ◌≡◌, ◌∙◌, refl, sym, ap, subst, ℕ, ◌≤◌, List, [], ◌∷◌, ◌++◌, length, map, reverse, drop, Option}
use Rattle.std.specs.List.{All}
use Rattle.c_meaning.specs.declared.cell.Cell.{Cell}
use Rattle.std.specs.Option.{option_map}
use Rattle.std.proofs.lemmas.List.{map-append, reverse-append}
use Rattle.std.proofs.lemmas.List.Elements.{All-push}
use Rattle.vg_base.specs.declared.event.Event.{Event}
use Rattle.vg_base.specs.declared.event.CEnd.{CEnd}
use Rattle.vg_base.specs.Headline.{Happens}
use Rattle.c_tree.specs.Env.{Env}
use Rattle.c_meaning.specs.State
use Rattle.c_meaning.specs.State.{Block, Item}
use Rattle.c_meaning.specs.Blocks.{happens}
use Rattle.c_meaning.specs.TypeRows.{push}
use Rattle.glib_model.specs.declared.kinds.Mark.{Mark}
use Rattle.glib_model.specs.Kinds.{mark_at}
use Rattle.c_code.specs.Values.{value_seen}
use Rattle.c_code.specs.declared.value.Value.{Value}
use Rattle.c_run_state.specs.declared.state.Work.{Work}
use Rattle.c_run_state.specs.declared.state.Standing.{Standing}
use Rattle.c_run_state.specs.declared.state.Run.{Run}
use Rattle.c_run_state.specs.Shows.{Books, IsSized, item_seen, standing_of}
use Rattle.c_run_state.proofs.Listed.{marked, marks_listed}

-- another value is given
pub with_given : (env : Env) (run : Run) (s : State.State) (g : Option Value) → Books env run s → Books env (record run { given = g }) (record s { given = option_map value_seen g })
with_given env run s g b =
    record {
      standings = b.standings;
      marks = b.marks;
      made = b.made;
      quarks = b.quarks;
      within = b.within;
      input = b.input;
      work = b.work;
      sized = b.sized;
      given = refl;
      said = b.said;
      ended = b.ended;
      handlers = b.handlers;
      sources = b.sources;
    }

-- the run ends
pub with_end : (env : Env) (run : Run) (s : State.State) (e : Option CEnd) → Books env run s → Books env (record run { ended = e }) (record s { ended = e })
with_end env run s e b =
    record {
      standings = b.standings;
      marks = b.marks;
      made = b.made;
      quarks = b.quarks;
      within = b.within;
      input = b.input;
      work = b.work;
      sized = b.sized;
      given = b.given;
      said = b.said;
      ended = refl;
      handlers = b.handlers;
      sources = b.sources;
    }

-- something is said
pub with_said : (env : Env) (run : Run) (s : State.State) (e : Event) (said : Vec Event Global) → said.items ≡ run.said.items ++ e ∷ [] → Books env run s → Books env (record run { said = said }) (happens s e)
with_said env run s e said more b =
    record {
      standings = b.standings;
      marks = b.marks;
      made = b.made;
      quarks = b.quarks;
      within = b.within;
      input = b.input;
      work = b.work;
      sized = b.sized;
      given = b.given;
      said = ap (map Happens) more ∙ map-append Happens run.said.items (e ∷ []) ∙ ap (λ xs. xs ++ Happens e ∷ []) b.said;
      ended = b.ended;
      handlers = b.handlers;
      sources = b.sources;
    }

-- nothing is said yet
pub with_none_said : (env : Env) (run : Run) (s : State.State) (said : Vec Event Global) → said.items ≡ [] → Books env run s → Books env (record run { said = said }) (record s { said = [] })
with_none_said env run s said none b =
    record {
      standings = b.standings;
      marks = b.marks;
      made = b.made;
      quarks = b.quarks;
      within = b.within;
      input = b.input;
      work = b.work;
      sized = b.sized;
      given = b.given;
      said = ap (map Happens) none;
      ended = b.ended;
      handlers = b.handlers;
      sources = b.sources;
    }

-- one more item is next
pub with_work : (env : Env) (run : Run) (s : State.State) (w : Work) (work : Vec Work Global) → work.items ≡ run.work.items ++ w ∷ [] → IsSized env w → Books env run s → Books env (record run { work = work }) (push (item_seen w ∷ []) s)
with_work env run s w work more sized b =
    record {
      standings = b.standings;
      marks = b.marks;
      made = b.made;
      quarks = b.quarks;
      within = b.within;
      input = b.input;
      work = ap (λ ws. map item_seen (reverse ws)) more ∙ ap (map item_seen) (reverse-append run.work.items (w ∷ [])) ∙ ap (λ is. item_seen w ∷ is) b.work;
      sized = subst (All (IsSized env)) (sym more) (All-push (IsSized env) run.work.items w b.sized sized);
      given = b.given;
      said = b.said;
      ended = b.ended;
      handlers = b.handlers;
      sources = b.sources;
    }

-- the next item is taken off
pub with_less : (env : Env) (run : Run) (s : State.State) (work : Vec Work Global) (is : List Item) → map item_seen (reverse work.items) ≡ is → All (IsSized env) work.items → Books env run s → Books env (record run { work = work }) (record s { work = is })
with_less env run s work is same sized b =
    record {
      standings = b.standings;
      marks = b.marks;
      made = b.made;
      quarks = b.quarks;
      within = b.within;
      input = b.input;
      work = same;
      sized = sized;
      given = b.given;
      said = b.said;
      ended = b.ended;
      handlers = b.handlers;
      sources = b.sources;
    }

-- the heap is another one
pub other_heap : (env : Env) (run : Run) (s : State.State) (h : List (Option (List Cell))) → Books env run s → Books env (record run { heap = h }) s
other_heap env run s h b =
    record {
      standings = b.standings;
      marks = b.marks;
      made = b.made;
      quarks = b.quarks;
      within = b.within;
      input = b.input;
      work = b.work;
      sized = b.sized;
      given = b.given;
      said = b.said;
      ended = b.ended;
      handlers = b.handlers;
      sources = b.sources;
    }

-- the input is read on
pub read_on : (env : Env) (run : Run) (s : State.State) (at : ℕ) (h : List (Option (List Cell))) → at ≤ length run.input.items → Books env run s → Books env (record run { heap = h; at = at }) (record s { input = drop at run.input.items })
read_on env run s at h within b =
    record {
      standings = b.standings;
      marks = b.marks;
      made = b.made;
      quarks = b.quarks;
      within = within;
      input = refl;
      work = b.work;
      sized = b.sized;
      given = b.given;
      said = b.said;
      ended = b.ended;
      handlers = b.handlers;
      sources = b.sources;
    }

-- other texts are quarks
pub with_quarks : (env : Env) (run : Run) (s : State.State) (q : List (List ℕ)) → Books env run s → Books env (record run { quarks = q }) (record s { quarks = q })
with_quarks env run s q b =
    record {
      standings = b.standings;
      marks = b.marks;
      made = b.made;
      quarks = refl;
      within = b.within;
      input = b.input;
      work = b.work;
      sized = b.sized;
      given = b.given;
      said = b.said;
      ended = b.ended;
      handlers = b.handlers;
      sources = b.sources;
    }

-- other blocks are noted, and the peaks and how many things were made
pub with_blocks : (env : Env) (run : Run) (s : State.State) (bs : List Block) (peaks : List (ℕ × ℕ)) (made most : ℕ) (kinds : List (Option Mark)) (standings : Vec Standing Global) → made ≡ most → standings.items ≡ map standing_of bs → ((n : ℕ) → mark_at kinds n ≡ mark_at (map marked bs) n) → Books env run s → Books env (record run { kinds = kinds; standings = standings; made = made }) (record s { blocks = bs; peaks = peaks; made = most })
with_blocks env run s bs peaks made most kinds standings same noted marks b =
    record {
      standings = noted;
      marks = λ n. marks n ∙ sym (marks_listed bs n);
      made = same;
      quarks = b.quarks;
      within = b.within;
      input = b.input;
      work = b.work;
      sized = b.sized;
      given = b.given;
      said = b.said;
      ended = b.ended;
      handlers = b.handlers;
      sources = b.sources;
    }
