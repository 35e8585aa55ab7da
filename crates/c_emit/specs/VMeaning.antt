-- What a Vala program means: its states, its steps and its runs. There are no counts here: a thing is owned by places.
use Rattle.std.specs.Prelude.{ℕ, Bool, false, ◌==◌, ◌&&◌, max, List, [], ◌∷◌, ◌++◌, map, count_by, Option, Some, None, pos}
use Rattle.vg_base.specs.declared.event.ThingKind.{ThingKind}
use Rattle.vg_base.specs.declared.event.LiveRow.{LiveRow}
use Rattle.vg_base.specs.declared.event.Event.TheVariants.{Print}
use Rattle.vg_base.specs.declared.event.Stream.TheVariants.{Out}
use Rattle.vg_base.specs.declared.event.VEnd.{VEnd}
use Rattle.vg_base.specs.declared.event.VEnd.TheVariants.{Ended}
use Rattle.vg_base.specs.World.{World}
use Rattle.vg_base.specs.Headline.{Said, Happens, Meaning, Observed, observed}
use Rattle.c_emit.specs.Program.{Program}

-- What a program works with: the bytes of a text literal, which nobody owns, or a thing, by its serial.
pub data Value : Type 0 where
  Literal : List ℕ → Value
  Thing : ℕ → Value

-- a place that holds a value, or null; an owning place keeps the thing that it holds
pub record Place : Type 0 where
  pub owning : Bool
  pub holds : Option Value

-- a thing that was made and is not gone
pub record Living : Type 0 where
  pub kind : ThingKind
  pub serial : ℕ

-- What is left to do. The first item is done next.
pub data Item : Type 0 where
  -- the call of `main`, with its statements
  Call : Program → Item
  -- the statement `print ("TEXT");`
  Statement : List ℕ → Item
  -- a text literal, which gives its value
  Evaluate : List ℕ → Item
  -- prints the value that was given last
  PrintGiven : Item
  -- the end of `main`
  Leave : Item

-- A state: the things that live, the places, the values that are given and not used yet, the work, and the end.
pub record VState : Type 0 where
  pub things : List Living
  pub places : List Place
  pub values : List Value
  pub work : List Item
  pub ended : Option VEnd

abbrev pub is_thing : ℕ → Option Value → Bool
is_thing serial None = false
is_thing serial (Some (Literal bytes)) = false
is_thing serial (Some (Thing n)) = n == serial

-- how many places own a thing: those that hold it and are owning
abbrev pub owners : List Place → ℕ → ℕ
owners places serial = count_by (λ (p : Place). p.owning && is_thing serial p.holds) places

-- what lives, with its owners
abbrev pub v_live : VState → List LiveRow
v_live s = map (λ (t : Living). record { kind = t.kind; serial = t.serial; owners = owners s.places t.serial }) s.things

abbrev pub most_owned : List LiveRow → ℕ
most_owned [] = 0
most_owned (r ∷ rs) = max r.owners (most_owned rs)

-- before anything is done, the work is the call of `main`
abbrev pub v_opening : Program → VState
v_opening program = record { things = []; places = []; values = []; work = Call program ∷ []; ended = None }

-- what printing the value that was given last does: a text goes to the output
abbrev pub print_given : VState → List Item → List Value → VState × List Said
print_given s work (Literal bytes ∷ values) = (record s { values = values; work = work }, Happens (Print Out bytes) ∷ [])
print_given s work values = (s, [])

-- One step does the first item. An item whose parts are not evaluated puts them in front of itself.
abbrev pub do_item : VState → Item → List Item → VState × List Said
do_item s (Call program) work = (record s { work = map Statement program ++ Leave ∷ work }, [])
do_item s (Statement text) work = (record s { work = Evaluate text ∷ PrintGiven ∷ work }, [])
do_item s (Evaluate text) work = (record s { values = Literal text ∷ s.values; work = work }, [])
do_item s PrintGiven work = print_given s work s.values
do_item s Leave work = (record s { work = work; ended = Some (Ended (pos 0)) }, [])

abbrev pub v_next : VState → List Item → VState × List Said
v_next s [] = (s, [])
v_next s (item ∷ work) = do_item s item work

-- The meaning. Handlers there are none yet, so the greatest count is that of owners.
abbrev pub v_meaning : Meaning VState VEnd
v_meaning =
    record {
      machine = record { next = λ s. v_next s s.work; ended = λ s. s.ended; top = λ s. most_owned (v_live s) };
      live = v_live;
    }

-- THE RUN of a program in a world. Nothing in this language asks for the world.
abbrev pub VRun : Program → World → Observed VEnd
VRun program w = observed v_meaning (v_opening program)
