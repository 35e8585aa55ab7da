-- Texts of some runs, and how a text grows.
use Rattle.std.specs.Prelude.{◌≡◌, List, [], ◌∷◌, ◌++◌, codes}
use Rattle.vg_base.specs.declared.event.ThingKind.TheVariants.{Object, Text, Scope, Error, Activation}
use Rattle.vg_base.specs.declared.event.Stream.TheVariants.{Out, Err}
use Rattle.vg_base.specs.declared.event.Event.{Event}
use Rattle.vg_base.specs.declared.event.Event.TheVariants.{Print, Made, Gone, Dispatch}
use Rattle.vg_base.specs.declared.event.LiveRow.{LiveRow}
use Rattle.run_texts.specs.Texts.{things_made, event_line, trace_text, live_text}

-- An object with two delegates over one scope: it prints what they counted twice, lets the scope go and prints once more.
abbrev pub box_of_delegates : List Event
box_of_delegates =
    Made Object ∷ Made Scope ∷ Print Out (codes "7\n") ∷ Print Out (codes "7\n") ∷ Gone 2 ∷ Print Out (codes "end\n") ∷ Gone 1 ∷ []

-- An error is made while a list of arguments is still worked out, and is caught.
abbrev pub caught_error : List Event
caught_error =
    Made Object ∷ Made Text ∷ Made Error ∷ Print Out (codes "gone a\n") ∷ Gone 2 ∷ Gone 1 ∷ Print Out (codes "caught no b\n")
    ∷ Gone 3 ∷ Print Out (codes "finally\n") ∷ []

-- a print of nothing, one on the other stream, and dispatches of sources
abbrev pub dispatches : List Event
dispatches = Dispatch 1 ∷ Print Out [] ∷ Dispatch 12 ∷ Print Err (codes "no\n") ∷ []

-- A method waits for ever: the loop, its object and its activation live.
abbrev pub waiting : List LiveRow
waiting =
    record { kind = Object; serial = 1; owners = 2 } ∷ record { kind = Object; serial = 2; owners = 2 }
    ∷ record { kind = Activation; serial = 3; owners = 1 } ∷ []

-- two objects that own one another
abbrev pub cycle : List LiveRow
cycle = record { kind = Object; serial = 1; owners = 1 } ∷ record { kind = Object; serial = 2; owners = 1 } ∷ []

-- their texts
pub record TextsOfRuns : Type 0 where
  pub box_of_delegates : trace_text box_of_delegates ≡ codes "made 1 object\nmade 2 scope\nout 2\nout 2\ngone 2\nout 4\ngone 1\n"
  pub caught_error : trace_text caught_error ≡ codes "made 1 object\nmade 2 text\nmade 3 error\nout 7\ngone 2\ngone 1\nout 12\ngone 3\nout 8\n"
  pub dispatches : trace_text dispatches ≡ codes "dispatch 1\nout 0\ndispatch 12\nerr 3\n"
  pub waiting : live_text waiting ≡ codes "live 1 object 2\nlive 2 object 2\nlive 3 activation 1\n"
  pub cycle : live_text cycle ≡ codes "live 1 object 1\nlive 2 object 1\n"

-- What happens later is told behind the text of what happened before: the text never changes, it only grows.
abbrev pub TextsGrow : Type 0
TextsGrow =
    (before : List Event) (e : Event)
    → trace_text (before ++ e ∷ []) ≡ trace_text before ++ event_line (things_made before) e
