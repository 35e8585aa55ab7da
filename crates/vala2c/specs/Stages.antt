-- The stages of a call: the files are read; behind the compiler the C file is written, read back and run.
use Rattle.std.specs.Prelude.{◌≡◌, ◌≢◌, ℕ, Bool, true, false, if◌then◌else◌, List, [], ◌∷◌, ◌++◌, length, Option, Some, None, Result, Ok, Err, pos}
use Rattle.vg_base.specs.declared.outside.FolderFault.{FolderFault}
use Rattle.vg_base.specs.declared.outside.FolderFault.TheVariants as fault
use Rattle.vg_base.specs.declared.outside.Call.{Call}
use Rattle.vg_base.specs.declared.outside.Call.TheVariants.{Read, Write}
use Rattle.vg_base.specs.declared.event.CEnd.{CEnd}
use Rattle.vg_base.specs.Outside.{FolderView, SinkView}
use Rattle.vg_base.specs.World.{World}
use Rattle.c_tree.specs.declared.unit.Unit.{Unit as CUnit}
use Rattle.c_tree.specs.Answers.{Answers}
use Rattle.vg_base.specs.declared.event.Stream.{Stream}
use Rattle.vg_base.specs.declared.event.Stream.TheVariants as to
use Rattle.c_meaning.specs.Blocks.{live}
use Rattle.c_interpreter.specs.Kept.{Kept, state_of, trace_after}
use Rattle.run_texts.specs.Texts.{trace_text, live_text}
use Rattle.c_interpreter.specs.declared.run.RunEnd.{RunEnd}
use Rattle.c_interpreter.specs.declared.run.RunEnd.TheVariants.{Done, Spent}
use Rattle.command_line.specs.declared.choice.Command.TheVariants as command
use Rattle.command_line.specs.Meaning.{Meaning}
use Rattle.vala2c.specs.declared.status.Kind.{Kind}
use Rattle.vala2c.specs.declared.status.Kind.TheVariants as kind
use Rattle.vala2c.specs.Status.{kind_of_run}
use Rattle.vala2c.specs.Course.{AreBytes, Chain, AllGiven, AllRead, FrontRead, ReadUpTo, Ran}

-- the status of a fault
abbrev pub read_kind : FolderFault → Kind
read_kind fault.Missing = kind.NoFile
read_kind fault.Failed = kind.ReadFault
read_kind fault.Memory = kind.Memory

abbrev pub write_kind : FolderFault → Kind
write_kind fault.Missing = kind.WriteFault
write_kind fault.Failed = kind.WriteFault
write_kind fault.Memory = kind.Memory

-- how a run ended, if it did
abbrev pub end_in : RunEnd → Option CEnd
end_in Spent = None
end_in (Done e) = Some e

abbrev pub is_err_stream : Stream → Bool
is_err_stream to.Out = false
is_err_stream to.Err = true

-- the text of the trace, where a machine keeps it
abbrev pub trace_text_at : Kept → List ℕ
trace_text_at k = if k.keeps then trace_text (trace_after k.unit k.world k.done) else []

-- the text of what lives there
abbrev pub live_text_at : Kept → List ℕ
live_text_at k = live_text (live (state_of k))

-- both, where what lives is asked for too
abbrev pub texts_at : Bool → Kept → List ℕ
texts_at lives k = trace_text_at k ++ (if lives then live_text_at k else [])

-- what a machine that stopped comes to
pub data TellsEnd (m : Meaning) (k : Kept) (end : Option CEnd) : Kind → List ℕ → Bool → Type 0 where
  told : TellsEnd m k end (kind_of_run m.command end) (texts_at m.live k) false
  no_memory : TellsEnd m k end kind.Memory [] false

-- all files were read, and these are their sources
pub record SourcesRead (files sources : List (List ℕ)) (f f' : FolderView) : Type 0 where
  pub calls : List Call
  pub all_read : AllRead files sources calls
  pub chain : Chain f calls f'

-- the file of the input was read, where there is one; else the input is empty
pub data InputRead : Option (List ℕ) → List ℕ → FolderView → FolderView → Type 0 where
  none : (f : FolderView) → InputRead None [] f f
  one : (file input : List ℕ) (f f' : FolderView) → Chain f (Read file (Ok input) ∷ []) f' → AreBytes input → InputRead (Some file) input f f'

-- or it was not
pub data InputUnread : Option (List ℕ) → Kind → List ℕ → FolderView → FolderView → Type 0 where
  unread : (file : List ℕ) (x : FolderFault) (f f' : FolderView) → Chain f (Read file (Err x) ∷ []) f' → InputUnread (Some file) (read_kind x) file f f'

-- all that the call names was read
pub record GivenRead (m : Meaning) (sources : List (List ℕ)) (input : List ℕ) (f f' : FolderView) : Type 0 where
  pub calls : List Call
  pub all_given : AllGiven m sources input calls
  pub chain : Chain f calls f'

-- Reading the files stops with this status, at a file that is not read or for want of memory: the calls, and the file that is named.
pub data Stops (files : List (List ℕ)) : List Call → Kind → List ℕ → Type 0 where
  unread : (file : List ℕ) (reads : List Call) (x : FolderFault) → ReadUpTo files file reads → Stops files (reads ++ Read file (Err x) ∷ []) (read_kind x) file
  no_memory : (reads : List Call) → FrontRead files reads → Stops files reads kind.Memory []

pub record ReadStopped (files : List (List ℕ)) (k : Kind) (file : List ℕ) (f f' : FolderView) : Type 0 where
  pub calls : List Call
  pub stops : Stops files calls k file
  pub chain : Chain f calls f'

-- The C that was read runs, if it is not refused: the sinks behind it, the status, the texts, and whether a print on err was refused.
pub data Executes (m : Meaning) (bytes : List ℕ) (limit : ℕ) (w : World) (o e : SinkView) : SinkView → SinkView → Kind → List ℕ → Bool → Type 0 where
  no_memory : Executes m bytes limit w o e o e kind.Memory [] false
  c_refused : (r : _) → Answers bytes limit (Err r) → Executes m bytes limit w o e o e (kind.CRefused r) [] false
  ran : (unit : CUnit) (o' e' : SinkView) (k : Kind) (texts : List ℕ) (muted : Bool) → Answers bytes limit (Ok unit) → Ran m unit w o o' e e' k texts muted → Executes m bytes limit w o e o' e' k texts muted

-- The C is read back from the file and run: the answer to the read, and what comes of it.
pub data Back (m : Meaning) (limit : ℕ) (w : World) (o e : SinkView) : Result (List ℕ) FolderFault → SinkView → SinkView → Kind → List ℕ → Bool → Type 0 where
  unread : (x : FolderFault) → Back m limit w o e (Err x) o e (read_kind x) [] false
  executes : (bytes : List ℕ) (o' e' : SinkView) (k : Kind) (texts : List ℕ) (muted : Bool) → Executes m bytes limit w o e o' e' k texts muted → Back m limit w o e (Ok bytes) o' e' k texts muted

-- the one call of this
pub data BackCalls (m : Meaning) (target : List ℕ) (limit : ℕ) (w : World) (o e : SinkView) : List Call → SinkView → SinkView → Kind → List ℕ → Bool → Type 0 where
  reads_back : (answer : Result (List ℕ) FolderFault) (o' e' : SinkView) (k : Kind) (texts : List ℕ) (muted : Bool) → Back m limit w o e answer o' e' k texts muted
      → BackCalls m target limit w o e (Read target answer ∷ []) o' e' k texts muted

-- The C is written to the file, and in `run` it is read back.
pub data Written (m : Meaning) (target c : List ℕ) (w : World) (o e : SinkView) : List Call → SinkView → SinkView → Kind → List ℕ → Bool → Type 0 where
  unwritten : (x : FolderFault) → x ≢ fault.Missing → Written m target c w o e (Write target c (Err x) ∷ []) o e (write_kind x) [] false
  emitted : m.command ≡ command.Emit → Written m target c w o e (Write target c (Ok tt) ∷ []) o e (kind.Ended (pos 0)) [] false
  back : (calls : List Call) (o' e' : SinkView) (k : Kind) (texts : List ℕ) (muted : Bool) → m.command ≡ command.Run → BackCalls m target (length c) w o e calls o' e' k texts muted
      → Written m target c w o e (Write target c (Ok tt) ∷ calls) o' e' k texts muted

-- a stage on a folder: the calls that it made
pub record Stage (goes_so : List Call → SinkView → SinkView → Kind → List ℕ → Bool → Type 0) (f f' : FolderView) (o' e' : SinkView) (k : Kind) (texts : List ℕ) (muted : Bool) : Type 0 where
  pub calls : List Call
  pub chain : Chain f calls f'
  pub goes : goes_so calls o' e' k texts muted
