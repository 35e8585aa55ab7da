-- The text of a trace and the text of what lives: a line for each event and for each row.
use Rattle.std.specs.Prelude.{ℕ, ◌+◌, List, [], ◌∷◌, ◌++◌, length, codes, decimal}
use Rattle.std.specs.List.{flat_map, sum_by}
use Rattle.vg_base.specs.declared.event.ThingKind.{ThingKind}
use Rattle.vg_base.specs.declared.event.ThingKind.TheVariants.{Object, Text, Array, Scope, Error, Activation}
use Rattle.vg_base.specs.declared.event.Stream.{Stream}
use Rattle.vg_base.specs.declared.event.Stream.TheVariants.{Out, Err}
use Rattle.vg_base.specs.declared.event.Event.{Event}
use Rattle.vg_base.specs.declared.event.Event.TheVariants.{Print, Made, Gone, Dispatch}
use Rattle.vg_base.specs.declared.event.LiveRow.{LiveRow}

-- the words of the kinds of things
abbrev pub kind_word : ThingKind → List ℕ
kind_word Object = codes "object"
kind_word Text = codes "text"
kind_word Array = codes "array"
kind_word Scope = codes "scope"
kind_word Error = codes "error"
kind_word Activation = codes "activation"

-- the words of the streams
abbrev pub stream_word : Stream → List ℕ
stream_word Out = codes "out"
stream_word Err = codes "err"

-- how many things were made
abbrev pub made_by : Event → ℕ
made_by (Made kind) = 1
made_by e = 0

abbrev pub things_made : List Event → ℕ
things_made es = sum_by made_by es

-- The line of an event: `made S KIND`, `gone S`, `dispatch ID`, `out N` or `err N`, where N counts bytes and S is a serial.
-- So many things were made before it, and the n-th thing made has the serial n.
abbrev pub event_line : ℕ → Event → List ℕ
event_line made (Made kind) = codes "made " ++ (decimal (made + 1) ++ (codes " " ++ (kind_word kind ++ codes "\n")))
event_line made (Gone serial) = codes "gone " ++ (decimal serial ++ codes "\n")
event_line made (Dispatch id) = codes "dispatch " ++ (decimal id ++ codes "\n")
event_line made (Print stream bytes) = stream_word stream ++ (codes " " ++ (decimal (length bytes) ++ codes "\n"))

-- the lines of events, before which so many things were made
abbrev pub event_lines : ℕ → List Event → List ℕ
event_lines made [] = []
event_lines made (e ∷ es) = event_line made e ++ event_lines (made + made_by e) es

-- the text of a trace
abbrev pub trace_text : List Event → List ℕ
trace_text es = event_lines 0 es

-- the line of a thing that lives: `live S KIND OWNERS`
abbrev pub live_line : LiveRow → List ℕ
live_line row = codes "live " ++ (decimal row.serial ++ (codes " " ++ (kind_word row.kind ++ (codes " " ++ (decimal row.owners ++ codes "\n")))))

-- the text of what lives
abbrev pub live_text : List LiveRow → List ℕ
live_text rows = flat_map live_line rows
