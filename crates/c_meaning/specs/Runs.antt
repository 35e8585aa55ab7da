-- Runs of a unit: the state before the first step, and what is observed.
use Rattle.std.specs.Prelude.{ℕ, ◌+◌, max, pos, List, [], ◌∷◌, ◌++◌, None}
use Rattle.vg_base.specs.declared.event.CEnd.{CEnd}
use Rattle.vg_base.specs.World.{World}
use Rattle.vg_base.specs.Headline.{Said, Meaning, Observed, observed}
use Rattle.vg_base.specs.Machine.{moves}
use Rattle.c_tree.specs.declared.unit.Item.{Item}
use Rattle.c_tree.specs.declared.unit.Item.TheVariants as item
use Rattle.c_tree.specs.declared.unit.Unit.{Unit as CUnit}
use Rattle.std.specs.Prelude.{codes, true, false}
use Rattle.c_meaning.specs.declared.cell.Cell.{Cell}
use Rattle.c_meaning.specs.declared.cell.Cell.TheVariants.{Int, Uns, Ptr, Func, Null}
use Rattle.c_meaning.specs.State
use Rattle.c_meaning.specs.State.{Literal, TypeRow, Scalar, Enter, Finish}
use Rattle.c_meaning.specs.Layout.{kind}
use Rattle.c_meaning.specs.Blocks.{bind, on, make, next_block, live, most_owned}
use Rattle.c_meaning.specs.Numbers.{converted}
use Rattle.c_meaning.specs.Values.{Program, Here, here, value_of, routine_in}
use Rattle.c_meaning.specs.Texts.{text_cells}
use Rattle.c_meaning.specs.Code.{Reading, reading, program_by, literals_of}
use Rattle.c_meaning.specs.Steps.{cells_in, step}

-- no blocks, no work, and empty tables
abbrev pub nothing : World → State.State
nothing w =
    record {
      blocks = [];
      made = 0;
      peaks = [];
      statics = [];
      literals = [];
      work = [];
      given = None;
      types = [];
      specs = [];
      quarks = [];
      signals = [];
      handlers = [];
      last_handler = 0;
      sources = [];
      last_source = 0;
      running = None;
      is_quitting = false;
      clock = 0;
      entries = w.entries;
      input = w.input;
      said = [];
      ended = None;
    }

-- each text literal is a block of its own
abbrev pub with_literals : State.State → List Literal → State.State
with_literals s [] = s
with_literals s (l ∷ ls) = with_literals (record (make s (text_cells l.bytes)) { literals = s.literals ++ record { start = l.start; block = next_block s } ∷ [] }) ls

abbrev pub static_block : State.State → List ℕ → List Cell → State.State
static_block s x cs = record (make s cs) { statics = s.statics ++ record { name = x; block = next_block s } ∷ [] }

-- where the initialisers are evaluated
abbrev pub outside : Program → State.State → Here
outside p s = here p s (record { env = p.env; variables = [] }) 0

abbrev pub with_static : Program → State.State → Item → State.State
with_static p s (item.Variable v) = on s (bind (value_of (outside p s) v.value) (converted (kind p.env v.declared))) (λ x. static_block s v.name.text (cells_in x))
with_static p s (item.InterfaceTable t) = on s (routine_in 0 p.routines t.init.text) (λ f. static_block s t.name.text (f ∷ Null ∷ Null ∷ []))
with_static p s i = s

-- each static variable is one too
abbrev pub with_statics : Program → State.State → List Item → State.State
with_statics p s [] = s
with_statics p s (i ∷ is) = with_statics p (with_static p s i) is

-- `Object`, whose class has no functions, and what all interfaces are under
abbrev pub root_type : ℕ → TypeRow
root_type b = record { number = 80; parent = None; is_interface = false; class = b; class_size = 5; instance_size = 2; instance_init = Null; interfaces = []; properties = [] }

abbrev pub root_interface : ℕ → TypeRow
root_interface b = record { number = 8; parent = None; is_interface = true; class = b; class_size = 2; instance_size = 0; instance_init = Null; interfaces = []; properties = [] }

abbrev pub with_types : State.State → State.State
with_types s =
    record (make (make s (Uns 80 ∷ Null ∷ Null ∷ Null ∷ Null ∷ [])) (Uns 8 ∷ Null ∷ [])) { types = root_type (next_block s) ∷ root_interface (1 + next_block s) ∷ [] }

-- the array that `main` is given has one cell, which leads to the name
abbrev pub with_name : State.State → List ℕ → State.State
with_name s name = make (make s (text_cells name)) (Ptr (next_block s) 0 ∷ [])

abbrev pub enter_main : State.State → ℕ → Cell → State.State
enter_main s b (Func n) = record s { work = Enter n (Scalar (Int (pos 1)) ∷ Scalar (Ptr b 0) ∷ []) ∷ Finish ∷ [] }
enter_main s b c = s

-- `main` is entered with 1 and that array
abbrev pub with_main : Program → State.State → List ℕ → State.State
with_main p s name = on s (routine_in 0 p.routines (codes "main")) (enter_main (with_name s name) (1 + next_block s))

-- BEFORE THE FIRST STEP: the literals, the static variables and the library's tables are there, and `main` is to be entered
abbrev pub opening_by : Reading → CUnit → World → State.State
opening_by r unit w =
    let p : Program = program_by r unit in
    with_main p (with_types (with_statics p (with_literals (nothing w) (literals_of r unit.items)) unit.items)) w.name

-- The meaning: the step and what it says, the end, and the greatest count of a thing or the handlers that were connected, whichever is more.
abbrev pub meaning : Program → Meaning State.State CEnd
meaning p =
    record {
      machine = record { next = λ s. said_by (step p s); ended = λ s. s.ended; top = λ s. max (most_owned (live s)) s.last_handler };
      live = live;
    }
  where
    said_by : State.State → State.State × List Said
    said_by s = (s, s.said)

abbrev pub run_by : Reading → CUnit → World → Observed CEnd
run_by r unit w = observed (meaning (program_by r unit)) (opening_by r unit w)

-- THE RUN of a unit in a world
abbrev pub CRun : CUnit → World → Observed CEnd
CRun unit w = run_by reading unit w

-- the state after so many steps
abbrev pub state_after : CUnit → World → ℕ → State.State
state_after unit w n = moves (meaning (program_by reading unit)).machine n (opening_by reading unit w)

-- THE PEAKS after so many steps: for each class size the greatest number of blocks that were live at once
abbrev pub Peaks : CUnit → World → ℕ → List (ℕ × ℕ)
Peaks unit w n = (state_after unit w n).peaks
