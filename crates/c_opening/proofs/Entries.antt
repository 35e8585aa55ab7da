-- How a run comes to stand before its first step.
use Rattle.std.proofs.Common.{◌≡◌, ◌∙◌, refl, sym, ap, subst, arith, ℕ, suc, ◌+◌, true, List, [], ◌∷◌, length, map, Option, Ok, Err, codes}
use Rattle.std.proofs.lemmas.List.{length-append}
use Rattle.vg_base.specs.World.{World}
use Rattle.vg_base.specs.declared.event.UndefKind.TheVariants as undef
use Rattle.c_tree.specs.Env.{Env}
use Rattle.c_tree.specs.Unit.{with_item}
use Rattle.c_tree.specs.declared.unit.Item.{Item}
use Rattle.c_tree.specs.declared.unit.Item.TheVariants as item
use Rattle.c_tree.specs.declared.unit.InterfaceTable.{InterfaceTable}
use Rattle.c_tree.specs.declared.unit.Unit.{Unit as CUnit}
use Rattle.c_checker.specs.Behind as checker
use Rattle.c_meaning.specs.declared.cell.Cell.{Cell}
use Rattle.c_meaning.specs.declared.cell.Cell.TheVariants.{Int, Uns, Ptr, Func, Null, Unset}
use Rattle.c_meaning.specs.State
use Rattle.c_meaning.specs.State.{Enter, Finish}
use Rattle.c_meaning.specs.Blocks.{Answer, make, next_block, on, plain, undefined}
use Rattle.c_meaning.specs.Code.{literals_of, program_by, reading}
use Rattle.c_meaning.specs.Layout.{behind, declared}
use Rattle.c_meaning.specs.Runs.{enter_main, nothing, static_block, with_literals, with_main, with_name, with_static, with_statics, with_types}
use Rattle.c_meaning.specs.Texts.{text_cells}
use Rattle.c_meaning.specs.Values.{routine_in}
use Rattle.c_code.specs.Steady.{all_own}
use Rattle.c_resolver.specs.declared.scope.Scope.{Scope}
use Rattle.c_resolver.specs.declared.tables.Literal.{Literal}
use Rattle.c_resolver.specs.Shown.{fixed_seen, literal_seen, scope_seen, tables_seen}
use Rattle.c_run_state.specs.declared.state.Run.{Run}
use Rattle.c_run_state.specs.Shows.{InShown, Shows}
use Rattle.c_run_state.specs.Shows as run
use Rattle.c_opening.specs.declared.opening.Opening.{Opening}
use Rattle.c_opening.specs.Opens.{Becomes, Entered, Enters, EntersAt, IsOutside, Opens, Stands, Works, arguments_at, cell_of_number, routine_at, tables_at, unit_of}
use Rattle.c_opening.proofs.Lists.{routine_named}
use Rattle.c_opening.proofs.Shown.{as_is}

-- 1. Functions by their names

pub routine_is : (o : Opening) (x y : List ℕ) (names : List (List ℕ)) (found : Option ℕ) → names ≡ o.tables.routines → y ≡ x → cell_of_number found ≡ routine_at 0 names y
    → routine_in 0 (unit_of o).routines x ≡ cell_of_number found
routine_is o x y names found is named e =
    routine_named 0 (unit_of o).routines x ∙ ap (λ ns. routine_at 0 ns x) (sym o.tables.numbered ∙ sym is) ∙ ap (routine_at 0 names) (sym named) ∙ sym e

-- an interface's table has its function
pub interface_added : (old new : Opening) (t : InterfaceTable) (n : ℕ) → routine_in 0 (unit_of old).routines t.init.text ≡ Ok (Func n)
    → Becomes (λ s. static_block s t.name.text (Func n ∷ Null ∷ Null ∷ [])) old new → Becomes (λ s. with_static (unit_of old) s (item.InterfaceTable t)) old new
interface_added old new t n is =
    as_is _ (λ s. with_static (unit_of old) s (item.InterfaceTable t)) old new (λ s. sym (ap (λ a. on s a (λ f. static_block s t.name.text (f ∷ Null ∷ Null ∷ []))) is))

pub interface_refused : (old new : Opening) (t : InterfaceTable) → routine_in 0 (unit_of old).routines t.init.text ≡ Err undef.Kind
    → Becomes (λ s. undefined s undef.Kind) old new → Becomes (λ s. with_static (unit_of old) s (item.InterfaceTable t)) old new
interface_refused old new t is =
    as_is _ (λ s. with_static (unit_of old) s (item.InterfaceTable t)) old new (λ s. sym (ap (λ a. on s a (λ f. static_block s t.name.text (f ∷ Null ∷ Null ∷ []))) is))

-- 2. The entry into `main`

-- the tables of what is shown
pub opens_tables : (env : Env) (o : Opening) (s : State.State) → Opens env o s → tables_seen o.tables ≡ tables_at o.tables.unit.now s
opens_tables env o s x =
    ap (λ ls. record { literals = ls; statics = map fixed_seen o.tables.statics; routines = (unit_of o).routines }) x.literals
    ∙ ap (λ fs. record { literals = s.literals; statics = fs; routines = (unit_of o).routines }) x.statics

-- the block behind a new one
next_behind : (s : State.State) (cells : List Cell) → next_block (make s cells) ≡ 1 + next_block s
next_behind s cells =
    ap suc (length-append s.blocks (plain cells ∷ [])) ∙ (let e : suc (length s.blocks + 1) ≡ 1 + suc (length s.blocks) = omega arith in e)

-- the two blocks are made, and a function is to be entered
pub entered_at : (old text array new : Opening) (main : ℕ) (name : List ℕ) (t a : ℕ)
    → InShown old.run (λ s. t ≡ next_block s) → Becomes (λ s. make s (text_cells name)) old text
    → InShown text.run (λ s. a ≡ next_block s) → Becomes (λ s. make s (Ptr t 0 ∷ [])) text array → Works main a array new → EntersAt main name old new
entered_at old text array new main name t a t_is text_made a_is array_made entered =
    record { unit = ap (λ ts. ts.unit.now) entered.0 ∙ array_made.unit ∙ text_made.unit; stands = stands }
  where
    -- the state, where the two blocks have these numbers
    at : State.State → ℕ → ℕ → State.State
    at s t a = record (make (make s (text_cells name)) (Ptr t 0 ∷ [])) { work = Enter main (arguments_at a) ∷ Finish ∷ [] }

    stands : (env : Env) (s : State.State) → Opens env old s → Stands env new (enter_main (with_name s name) (1 + next_block s) (Func main))
    stands env s o =
        let one = text_made.opens env s o in
        let two = array_made.opens env (make s (text_cells name)) one in
        record {
          shows =
              subst (Shows env new.run)
              (ap (λ n. at s n a) (t_is env s o.shows) ∙ ap (λ n. at s (next_block s) n) (a_is env (make s (text_cells name)) one.shows ∙ next_behind s (text_cells name)))
              (entered.1 env (make (make s (text_cells name)) (Ptr t 0 ∷ [])) two);
          tables = subst (λ ts. tables_seen ts ≡ tables_at ts.unit.now s) (sym entered.0) (opens_tables env array (make (make s (text_cells name)) (Ptr t 0 ∷ [])) two);
        }

pub main_entered : (old new : Opening) (main : ℕ) (name : List ℕ) → routine_in 0 (unit_of old).routines (codes "main") ≡ Ok (Func main) → EntersAt main name old new → Enters name old new
main_entered old new main name is entered =
    record {
      unit = entered.unit;
      stands = λ env s o. subst (λ a. Stands env new (on s a (enter_main (with_name s name) (1 + next_block s)))) (sym is) (entered.stands env s o);
    }

pub main_missing : (old : Opening) (r : Run) (name : List ℕ) → routine_in 0 (unit_of old).routines (codes "main") ≡ Err undef.Kind
    → run.Becomes (λ s. undefined s undef.Kind) old.run r → Enters name old (record old { run = r })
main_missing old r name is ended =
    record {
      unit = refl;
      stands = λ env s o.
          subst (λ a. Stands env (record old { run = r }) (on s a (enter_main (with_name s name) (1 + next_block s)))) (sym is)
          (record { shows = ended env s o.shows; tables = opens_tables env old s o });
    }

-- 3. Scopes

-- what is declared is declared
pub same_behind : (env : Env) (is : List Item) → checker.behind env is ≡ behind env is
same_behind env [] = refl
same_behind env (i ∷ is) = same_behind (with_item env i) is

-- a scope stays outside
pub outside_stays : (old new : Opening) (scope : Scope) → new.tables.unit.now ≡ old.tables.unit.now → IsOutside old scope → IsOutside new scope
outside_stays old new scope unit = subst (λ u. scope_seen scope ≡ record { env = declared u; variables = [] }) (sym unit)

-- 4. All of it

-- the work before the first step is of code's own items
pub own_main : (a : Answer Cell) (s : State.State) (name : List ℕ) → s.work ≡ [] → all_own (on s a (enter_main (with_name s name) (1 + next_block s))).work ≡ true
own_main (Err u) s name idle = ap all_own idle
own_main (Ok (Func n)) s name idle = refl
own_main (Ok (Int z)) s name idle = ap all_own idle
own_main (Ok (Uns n)) s name idle = ap all_own idle
own_main (Ok (Ptr b at)) s name idle = ap all_own idle
own_main (Ok Null) s name idle = ap all_own idle
own_main (Ok Unset) s name idle = ap all_own idle

-- the run stands before the first step, when all was added and `main` is to be entered
pub run_entered : (unit : CUnit) (w : World) (o a b c d : Opening) (texts : List Literal) (items : List Item)
    → o.tables.unit.now ≡ unit → Opens (declared unit) o (nothing w) → map literal_seen texts ≡ literals_of reading unit.items → items ≡ unit.items
    → Becomes (λ s. with_literals s (map literal_seen texts)) o a → Becomes (λ s. with_statics (unit_of a) s items) a b
    → Becomes with_types b c → Enters w.name c d → Entered unit w d
run_entered unit w o a b c d texts items of_unit first texts_are items_are literals statics types main =
    record {
      unit_is = main.unit ∙ unit_last;
      stands = subst (λ u. Stands (declared unit) d (with_main (program_by reading u) last w.name)) unit_last (main.stands (declared unit) last opens_last);
      own = own_main (routine_in 0 (program_by reading unit).routines (codes "main")) last w.name opens_last.idle;
    }
  where
    unit_next : a.tables.unit.now ≡ unit
    unit_next = literals.unit ∙ of_unit

    unit_last : c.tables.unit.now ≡ unit
    unit_last = types.unit ∙ statics.unit ∙ unit_next

    next : State.State
    next = with_literals (nothing w) (literals_of reading unit.items)

    opens_next : Opens (declared unit) a next
    opens_next = subst (λ ls. Opens (declared unit) a (with_literals (nothing w) ls)) texts_are (literals.opens (declared unit) (nothing w) first)

    -- the static variables are those of the unit's items
    opens_then : Opens (declared unit) b (with_statics (program_by reading unit) next unit.items)
    opens_then =
        subst (λ is. Opens (declared unit) b (with_statics (program_by reading unit) next is)) items_are
        (subst (λ u. Opens (declared unit) b (with_statics (program_by reading u) next items)) unit_next (statics.opens (declared unit) next opens_next))

    last : State.State
    last = with_types (with_statics (program_by reading unit) next unit.items)

    opens_last : Opens (declared unit) c last
    opens_last = types.opens (declared unit) (with_statics (program_by reading unit) next unit.items) opens_then
