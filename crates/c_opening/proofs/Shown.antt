-- What an opening shows, where a part of it changes.
use Rattle.std.proofs.Common.{◌≡◌, ◌∙◌, refl, sym, ap, subst, ℕ, ◌+◌, ◌<◌, List, [], ◌∷◌, ◌++◌, length, map, take, get_or}
use Rattle.std.proofs.lemmas.List.{map-append, take_more}
use Rattle.vg_base.specs.declared.event.UndefKind.{UndefKind}
use Rattle.c_tree.specs.Env.{Env}
use Rattle.c_meaning.specs.declared.cell.Cell.{Cell}
use Rattle.c_meaning.specs.State
use Rattle.c_meaning.specs.State.{TypeRow, Enter, Finish}
use Rattle.c_meaning.specs.Blocks.{make, next_block, undefined}
use Rattle.c_meaning.specs.Runs.{static_block, with_literals, with_static, with_statics}
use Rattle.c_meaning.specs.Texts.{text_cells}
use Rattle.c_meaning.specs.TypeRows.{push}
use Rattle.c_code.specs.Values.{value_seen}
use Rattle.c_code.specs.declared.value.Value.{Value}
use Rattle.c_resolver.specs.declared.tables.Fixed.{Fixed}
use Rattle.c_resolver.specs.declared.tables.Literal.{Literal}
use Rattle.c_resolver.specs.declared.tables.Standing.{Standing}
use Rattle.c_resolver.specs.Shown.{fixed_seen, literal_seen, standing_seen}
use Rattle.c_run_state.specs.declared.state.Run.{Run}
use Rattle.c_run_state.specs.Shows.{Books, InShown, Shows}
use Rattle.c_run_state.specs.Shows as run
use Rattle.c_tree.specs.declared.unit.Item.{Item}
use Rattle.c_meaning.specs.Code.{program_by, reading}
use Rattle.c_opening.proofs.Lists.{literals_behind, statics_behind}
use Rattle.c_opening.specs.declared.opening.Opening.{Opening}
use Rattle.c_opening.specs.Opens.{Becomes, Opens, arguments_at, unit_of}

-- 1. What a run does not hold

-- the tables of a state and its types may be others
pub other_tables : (env : Env) (r : Run) (s : State.State) (ls : List State.Standing) (ss : List State.Fixed) (ts : List TypeRow) → Shows env r s
    → Shows env r (record s { literals = ls; statics = ss; types = ts })
other_tables env r s ls ss ts shows = record { heap = shows.heap; books = books shows.books }
  where
    books : Books env r s → Books env r (record s { literals = ls; statics = ss; types = ts })
    books b =
        record {
          standings = b.standings;
          marks = b.marks;
          made = b.made;
          quarks = b.quarks;
          within = b.within;
          input = b.input;
          work = b.work;
          sized = b.sized;
          given = b.given;
          said = b.said;
          ended = b.ended;
          handlers = b.handlers;
          sources = b.sources;
        }

-- 2. Changes of the run alone

-- a block more
pub made : (old : Opening) (r : Run) (cells : List Cell) → run.Becomes (λ s. make s cells) old.run r → Becomes (λ s. make s cells) old (record old { run = r })
made old r cells f =
    record { unit = refl; opens = λ env s o. record { shows = f env s o.shows; literals = o.literals; statics = o.statics; idle = o.idle } }

-- the run ends
pub ended : (old : Opening) (r : Run) (u : UndefKind) → run.Becomes (λ s. undefined s u) old.run r → Becomes (λ s. undefined s u) old (record old { run = r })
ended old r u f =
    record { unit = refl; opens = λ env s o. record { shows = f env s o.shows; literals = o.literals; statics = o.statics; idle = o.idle } }

-- one change behind another
pub behind : (f g : State.State → State.State) (old mid new : Opening) → Becomes f old mid → Becomes g mid new → Becomes (λ s. g (f s)) old new
behind f g old mid new first second =
    record { unit = second.unit ∙ first.unit; opens = λ env s o. second.opens env (f s) (first.opens env s o) }

-- a change is told in another way
pub as_is : (f g : State.State → State.State) (old new : Opening) → ((s : State.State) → f s ≡ g s) → Becomes f old new → Becomes g old new
as_is f g old new same b = record { unit = b.unit; opens = λ env s o. subst (Opens env new) (same s) (b.opens env s o) }

-- 3. Tables

-- one block of a literal more
pub literal_added : (old mid new : Opening) (l : Literal) (block : ℕ)
    → InShown old.run (λ s. block ≡ next_block s) → Becomes (λ s. make s (text_cells l.bytes)) old mid
    → new.run ≡ mid.run → new.tables.unit.now ≡ mid.tables.unit.now
    → new.tables.literals ≡ mid.tables.literals ++ record { start = l.start; block = block } ∷ [] → new.tables.statics ≡ mid.tables.statics
    → Becomes (λ s. with_literals s (literal_seen l ∷ [])) old new
literal_added old mid new l block number made runs unit more statics = record { unit = unit ∙ made.unit; opens = opens }
  where
    st : Standing
    st = record { start = l.start; block = block }

    opens : (env : Env) (s : State.State) → Opens env old s → Opens env new (with_literals s (literal_seen l ∷ []))
    opens env s o =
        let m = made.opens env s o in
        record {
          shows = subst (λ r. Shows env r (with_literals s (literal_seen l ∷ []))) (sym runs) (other_tables env mid.run (make s (text_cells l.bytes)) _ _ _ m.shows);
          literals =
              ap (map standing_seen) more ∙ map-append standing_seen mid.tables.literals (st ∷ []) ∙ ap (λ xs. xs ++ standing_seen st ∷ []) m.literals
              ∙ ap (λ b. s.literals ++ record { start = l.start; block = b } ∷ []) (number env s o.shows);
          statics = ap (map fixed_seen) statics ∙ m.statics;
          idle = m.idle;
        }

-- a static variable by its name
pub fixed_as : (f : Fixed) (x : List ℕ) → f.name ≡ x → fixed_seen f ≡ record { name = x; block = f.block }
fixed_as f x is = ap fixed is
  where
    fixed : List ℕ → State.Fixed
    fixed n = record { name = n; block = f.block }

-- one block of a static variable more
pub static_added : (old mid new : Opening) (x : List ℕ) (cells : List Cell) (block : ℕ) (f : Fixed)
    → fixed_seen f ≡ record { name = x; block = block }
    → InShown old.run (λ s. block ≡ next_block s) → Becomes (λ s. make s cells) old mid
    → new.run ≡ mid.run → new.tables.unit.now ≡ mid.tables.unit.now
    → new.tables.literals ≡ mid.tables.literals → new.tables.statics ≡ mid.tables.statics ++ f ∷ []
    → Becomes (λ s. static_block s x cells) old new
static_added old mid new x cells block f seen number made runs unit literals more = record { unit = unit ∙ made.unit; opens = opens }
  where
    opens : (env : Env) (s : State.State) → Opens env old s → Opens env new (static_block s x cells)
    opens env s o =
        let m = made.opens env s o in
        record {
          shows = subst (λ r. Shows env r (static_block s x cells)) (sym runs) (other_tables env mid.run (make s cells) _ _ _ m.shows);
          literals = ap (map standing_seen) literals ∙ m.literals;
          statics =
              ap (map fixed_seen) more ∙ map-append fixed_seen mid.tables.statics (f ∷ []) ∙ ap (λ xs. xs ++ fixed_seen f ∷ []) m.statics
              ∙ ap (λ y. s.statics ++ y ∷ []) seen ∙ ap (λ b. s.statics ++ record { name = x; block = b } ∷ []) (number env s o.shows);
          idle = m.idle;
        }

-- other types
pub typed : (env : Env) (o : Opening) (s : State.State) (ts : List TypeRow) → Opens env o s → Opens env o (record s { types = ts })
typed env o s ts x = record { shows = other_tables env o.run s _ _ ts x.shows; literals = x.literals; statics = x.statics; idle = x.idle }

-- 4. Work

-- a function is to be entered and then the run finishes, where there was no work
pub works : (env : Env) (r : Run) (s : State.State) (main array : ℕ) (values : List Value) → map value_seen values ≡ arguments_at array → s.work ≡ []
    → Shows env r (push (Enter main (map value_seen values) ∷ []) (push (Finish ∷ []) s))
    → Shows env r (record s { work = Enter main (arguments_at array) ∷ Finish ∷ [] })
works env r s main array values are idle =
    subst (λ w. Shows env r (record s { work = w }))
    (ap (λ vs. Enter main vs ∷ Finish ∷ s.work) are ∙ ap (λ w. Enter main (arguments_at array) ∷ Finish ∷ w) idle)

-- 5. Lists

-- one literal more
pub literal_step : (old mid new : Opening) (xs : List Literal) (i : ℕ) (x : Literal) → i < length xs → x ≡ get_or xs i x
    → Becomes (λ s. with_literals s (map literal_seen (take i xs))) old mid → Becomes (λ s. with_literals s (literal_seen x ∷ [])) mid new
    → Becomes (λ s. with_literals s (map literal_seen (take (i + 1) xs))) old new
literal_step old mid new xs i x within is front one = as_is _ (λ s. with_literals s (map literal_seen (take (i + 1) xs))) old new same (behind _ _ old mid new front one)
  where
    same : (s : State.State) → with_literals (with_literals s (map literal_seen (take i xs))) (literal_seen x ∷ []) ≡ with_literals s (map literal_seen (take (i + 1) xs))
    same s =
        literals_behind s (map literal_seen (take i xs)) (literal_seen x)
        ∙ ap (with_literals s) (sym (map-append literal_seen (take i xs) (x ∷ [])))
        ∙ ap (λ l. with_literals s (map literal_seen l)) (ap (λ y. take i xs ++ y ∷ []) is ∙ sym (take_more xs i x within))

-- one item more
pub static_step : (old mid new : Opening) (xs : List Item) (i : ℕ) (x : Item) → i < length xs → x ≡ get_or xs i x
    → Becomes (λ s. with_statics (unit_of old) s (take i xs)) old mid → Becomes (λ s. with_static (unit_of mid) s x) mid new
    → Becomes (λ s. with_statics (unit_of old) s (take (i + 1) xs)) old new
static_step old mid new xs i x within is front one = as_is _ (λ s. with_statics (unit_of old) s (take (i + 1) xs)) old new same (behind _ _ old mid new front of_old)
  where
    of_old : Becomes (λ s. with_static (unit_of old) s x) mid new
    of_old = subst (λ u. Becomes (λ s. with_static (program_by reading u) s x) mid new) front.unit one

    same : (s : State.State) → with_static (unit_of old) (with_statics (unit_of old) s (take i xs)) x ≡ with_statics (unit_of old) s (take (i + 1) xs)
    same s =
        statics_behind (unit_of old) s (take i xs) x
        ∙ ap (with_statics (unit_of old) s) (ap (λ y. take i xs ++ y ∷ []) is ∙ sym (take_more xs i x within))
