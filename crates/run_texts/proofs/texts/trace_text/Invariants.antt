use Rattle.std.proofs.Common.{◌≡◌, ◌≤◌, ◌++◌, drop}
use Rattle.run_texts.specs.Texts.{event_lines, trace_text}
use Rattle.run_texts.proofs.texts.trace_text.Given as goal

-- the lines so far stand in front of those of the other events; each event makes at most one thing
abbrev pub invariant-loop-event : goal.invariant-loop-event
invariant-loop-event l = (trace_text l.events ≡ l.text.items ++ event_lines l.made (drop l.event-index l.events)) × (l.made ≤ l.event-index)
