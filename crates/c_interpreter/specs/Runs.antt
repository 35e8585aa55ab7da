-- Many steps, and what the sinks take of their prints.
use Rattle.std.specs.Prelude.{◌≡◌, ℕ, ◌+◌, ◌≤◌, ◌<◌, Bool, true, List, [], ◌∷◌, ◌++◌, length, take, Option, Some, None, Result, Ok, Err, IfOk}
use Rattle.vg_base.specs.declared.event.CEnd.{CEnd}
use Rattle.vg_base.specs.declared.event.Stream.{Stream}
use Rattle.vg_base.specs.declared.event.Stream.TheVariants as to
use Rattle.vg_base.specs.Machine.{move, moves, said}
use Rattle.vg_base.specs.Run.{Begins}
use Rattle.vg_base.specs.Headline.{events, printed}
use Rattle.vg_base.specs.Outside.{SinkView, Takes, Rose}
use Rattle.c_tree.specs.declared.unit.Unit.{Unit as CUnit}
use Rattle.c_meaning.specs.State
use Rattle.c_interpreter.specs.declared.machine.Stepped.{Stepped}
use Rattle.c_interpreter.specs.declared.machine.Stepped.TheVariants.{Ran, Printed, Ended}
use Rattle.c_interpreter.specs.declared.run.RunEnd.{RunEnd}
use Rattle.c_interpreter.specs.declared.run.RunEnd.TheVariants.{Done, Spent}
use Rattle.c_interpreter.specs.declared.run.RunFault.{RunFault}
use Rattle.c_interpreter.specs.declared.run.RunFault.TheVariants as fault
use Rattle.c_interpreter.specs.Kept.{Kept, machine_of, state_of, steps_made, pieces}

-- what the two sinks of a run tell
pub record Sinks : Type 0 where
  pub out : SinkView
  pub err : SinkView

abbrev pub sink : Stream → Sinks → SinkView
sink to.Out s = s.out
sink to.Err s = s.err

abbrev pub other : Stream → Stream
other to.Out = to.Err
other to.Err = to.Out

-- what n steps print on a stream
abbrev pub prints : CUnit → ℕ → State.State → Stream → List ℕ
prints unit n s p = printed p (events (said (machine_of unit) n s))

-- a sink took a front of these bytes
pub record TookFront (old : SinkView) (bytes : List ℕ) (new : SinkView) : Type 0 where
  pub front : List ℕ
  pub begins : Begins front bytes
  pub took : Takes old front new
  pub faults : old.faults ≤ new.faults

-- One print is put: a part of it where the sink refuses, a front of it where memory runs out.
abbrev pub PutsPiece : Stream → SinkView → List ℕ → Result (Unit {0}) RunFault → SinkView → Type 0
PutsPiece stream old piece (Ok _) new = (old.faults ≤ new.faults) × Takes old piece new
PutsPiece stream old piece (Err (fault.Out refused taken)) new =
    (refused ≡ stream) × (taken < length piece) × (old.faults ≤ new.faults) × Rose old.faults new.faults × Takes old (take taken piece) new
PutsPiece stream old piece (Err fault.Memory) new = TookFront old piece new

-- the same of both sinks: the other one is as it was
pub record PutsOn (stream : Stream) (piece : List ℕ) (old : Sinks) (answer : Result (Unit {0}) RunFault) (new : Sinks) : Type 0 where
  pub here : PutsPiece stream (sink stream old) piece answer (sink stream new)
  pub there : sink (other stream) new ≡ sink (other stream) old

-- what a step told is put, where it printed
abbrev pub PutsTold : Stepped → Sinks → Result (Unit {0}) RunFault → Sinks → Type 0
PutsTold (Printed stream bytes) old answer new = PutsOn stream bytes old answer new
PutsTold Ran old answer new = (answer ≡ Ok tt) × (new ≡ old)
PutsTold (Ended e) old answer new = (answer ≡ Ok tt) × (new ≡ old)

-- All steps were made, or those before an end, and each print was put.
pub record Finished (old : Kept) (steps : ℕ) (before : Sinks) (new : Kept) (after : Sinks) : Type 0 where
  pub done : new.done ≡ old.done + steps_made (machine_of old.unit) steps (state_of old)
  pub state : state_of new ≡ moves (machine_of old.unit) steps (state_of old)
  pub took : (p : Stream) → Takes (sink p before) (prints old.unit steps (state_of old) p) (sink p after)
  pub faults : (p : Stream) → (sink p before).faults ≤ (sink p after).faults

-- A print was refused: the step that said it was made, and no later one.
pub record Refused (old : Kept) (steps : ℕ) (before : Sinks) (stream : Stream) (taken : ℕ) (new : Kept) (after : Sinks) : Type 0 where
  -- how many steps were made before that one, all of them without an end
  pub earlier : ℕ
  pub fewer : earlier < steps
  pub unended : (k : ℕ) → k ≤ earlier → (moves (machine_of old.unit) k (state_of old)).ended ≡ None
  pub piece : List ℕ
  pub said_last : pieces (move (machine_of old.unit) (moves (machine_of old.unit) earlier (state_of old))).1 ≡ record { stream = stream; bytes = piece } ∷ []
  pub part : taken < length piece
  pub took : Takes (sink stream before) (prints old.unit earlier (state_of old) stream ++ take taken piece) (sink stream after)
  pub rose : Rose (sink stream before).faults (sink stream after).faults
  pub took_other : Takes (sink (other stream) before) (prints old.unit earlier (state_of old) (other stream)) (sink (other stream) after)
  pub faults_other : (sink (other stream) before).faults ≤ (sink (other stream) after).faults
  pub state : state_of new ≡ moves (machine_of old.unit) (earlier + 1) (state_of old)
  pub done : new.done ≡ old.done + (earlier + 1)

-- what the steps of a run came to, by its answer
abbrev pub RunsBy : Kept → ℕ → Sinks → Result RunEnd RunFault → Kept → Sinks → Type 0
RunsBy old steps before (Ok _) new after = Finished old steps before new after
RunsBy old steps before (Err (fault.Out stream taken)) new after = Refused old steps before stream taken new after
RunsBy old steps before (Err fault.Memory) new after = Unit {0}

-- each sink took a front of what all the steps print on it
abbrev pub TookFronts : Kept → ℕ → Sinks → Sinks → Type 0
TookFronts old steps before after = (p : Stream) → TookFront (sink p before) (prints old.unit steps (state_of old) p) (sink p after)

-- an end is answered exactly where the state has it
abbrev pub end_of : Option CEnd → RunEnd
end_of None = Spent
end_of (Some e) = Done e

-- a machine is exhausted by want of memory alone
abbrev pub exhausted_by : Result RunEnd RunFault → Bool → Bool
exhausted_by (Ok _) b = b
exhausted_by (Err (fault.Out stream taken)) b = b
exhausted_by (Err fault.Memory) b = true

-- the steps of a run, whatever is noted of memory
pub record RunsSteps (old : Kept) (steps : ℕ) (before : Sinks) (answer : Result RunEnd RunFault) (new : Kept) (after : Sinks) : Type 0 where
  pub by_answer : RunsBy old steps before answer new after
  pub answered : IfOk answer (λ e. e ≡ end_of (state_of new).ended)
  pub fronts : TookFronts old steps before after
  pub bound : new.done ≤ old.done + steps
  pub unit : new.unit ≡ old.unit
  pub world : new.world ≡ old.world
  pub keeps : new.keeps ≡ old.keeps
  pub same : exhausted_by answer new.exhausted ≡ exhausted_by answer old.exhausted

-- one call of `run`
pub record Runs (old : Kept) (steps : ℕ) (before : Sinks) (answer : Result RunEnd RunFault) (new : Kept) (after : Sinks) : Type 0 where
  pub by_answer : RunsBy old steps before answer new after
  pub answered : IfOk answer (λ e. e ≡ end_of (state_of new).ended)
  pub fronts : TookFronts old steps before after
  pub bound : new.done ≤ old.done + steps
  pub unit : new.unit ≡ old.unit
  pub world : new.world ≡ old.world
  pub keeps : new.keeps ≡ old.keeps
  pub exhausted : new.exhausted ≡ exhausted_by answer old.exhausted

-- a call on a machine that is exhausted
pub record Refuses (old : Kept) (before : Sinks) (answer : Result RunEnd RunFault) (new : Kept) (after : Sinks) : Type 0 where
  pub out_of_memory : answer ≡ Err fault.Memory
  pub machine : new ≡ old
  pub sinks : after ≡ before
