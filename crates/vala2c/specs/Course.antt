-- What one call of the program does: its calls on the folder, what its sinks take, and its status.
use Rattle.std.specs.Prelude.{◌≡◌, ℕ, ◌≤◌, ◌<◌, Bool, true, false, if◌then◌else◌, List, [], ◌∷◌, ◌++◌, length, take, get_or, Option, Some, None, Result, Ok, Err, ◌⊎◌, pos}
use Rattle.std.specs.List.{AllByRecursion}
use Rattle.vg_base.specs.declared.outside.FolderFault.{FolderFault}
use Rattle.vg_base.specs.declared.outside.FolderFault.TheVariants as fault
use Rattle.vg_base.specs.declared.outside.Call.{Call}
use Rattle.vg_base.specs.declared.outside.Call.TheVariants.{Read, Write}
use Rattle.vg_base.specs.declared.event.Stream.TheVariants as stream
use Rattle.vg_base.specs.Outside.{FolderView, SinkView, IsRead, IsWrite, Takes, Rose}
use Rattle.vg_base.specs.Run.{Begins}
use Rattle.vg_base.specs.World.{World}
use Rattle.vg_base.specs.Headline.{Observed, printed}
use Rattle.c_tree.specs.declared.unit.Unit.{Unit as CUnit}
use Rattle.c_tree.specs.Answers.{Answers}
use Rattle.c_meaning.specs.Runs.{CRun}
use Rattle.static_rules.specs.declared.rules.Refusal.{Refusal}
use Rattle.vala_compile.specs.Program.{AreRead, Refuses, Breaks}
use Rattle.vala_compile.specs.Correct.{IsCompiled}
use Rattle.run_texts.specs.Texts.{trace_text, live_text}
use Rattle.command_line.specs.declared.choice.Command.TheVariants as command
use Rattle.command_line.specs.Names.{c_file}
use Rattle.command_line.specs.Meaning.{Meaning, writes}
use Rattle.vala2c.specs.declared.status.Kind.{Kind}
use Rattle.vala2c.specs.declared.status.Kind.TheVariants as kind
use Rattle.vala2c.specs.declared.status.Status.{Status}
use Rattle.vala2c.specs.Status.{line_of, exit_byte, kind_of_end, unheard}

-- the calls lead from one state of the folder to the other
pub data Chain : FolderView → List Call → FolderView → Type 0 where
  none : (f : FolderView) → Chain f [] f
  read : (f mid g : FolderView) (name : List ℕ) (answer : Result (List ℕ) FolderFault) (calls : List Call) → IsRead f name answer mid → Chain mid calls g → Chain f (Read name answer ∷ calls) g
  write : (f mid g : FolderView) (name bytes : List ℕ) (answer : Result (Unit {0}) FolderFault) (calls : List Call) → IsWrite f name bytes answer mid → Chain mid calls g → Chain f (Write name bytes answer ∷ calls) g

-- the bytes of a file
abbrev pub AreBytes : List ℕ → Type 0
AreBytes bytes = AllByRecursion (λ b. b < 256) bytes

-- 1. What is read

-- the file of the input, where one is named
abbrev pub input_file : Option (List ℕ) → List (List ℕ)
input_file None = []
input_file (Some file) = file ∷ []

-- the files that are read, in order: those of the words, and behind them that of the input
abbrev pub files_read : Meaning → List (List ℕ)
files_read m = m.files ++ input_file m.input

-- These files were read in order, and these are their sources.
pub data AllRead : List (List ℕ) → List (List ℕ) → List Call → Type 0 where
  none : AllRead [] [] []
  one : (file source : List ℕ) (files sources : List (List ℕ)) (calls : List Call) → AllRead files sources calls → AllRead (file ∷ files) (source ∷ sources) (Read file (Ok source) ∷ calls)

-- A front of the files was read.
pub record FrontRead (files : List (List ℕ)) (calls : List Call) : Type 0 where
  pub front : List (List ℕ)
  pub behind : List (List ℕ)
  pub files_are : files ≡ front ++ behind
  pub sources : List (List ℕ)
  pub all_read : AllRead front sources calls

-- The files in front of this one were read.
pub record ReadUpTo (files : List (List ℕ)) (file : List ℕ) (calls : List Call) : Type 0 where
  pub front : List (List ℕ)
  pub behind : List (List ℕ)
  pub files_are : files ≡ front ++ file ∷ behind
  pub sources : List (List ℕ)
  pub all_read : AllRead front sources calls

-- All files were read: these are the sources, and this is the input, which is empty where no file of it is named.
pub data AllGiven (m : Meaning) : List (List ℕ) → List ℕ → List Call → Type 0 where
  alone : (sources : List (List ℕ)) (calls : List Call) → m.input ≡ None → AllRead m.files sources calls → AllGiven m sources [] calls
  with_input : (file : List ℕ) (sources : List (List ℕ)) (input : List ℕ) (calls : List Call) → m.input ≡ Some file → AllRead m.files sources calls → AreBytes input
      → AllGiven m sources input (calls ++ Read file (Ok input) ∷ [])

-- 2. What is written

-- All files of a command that writes were read, and these are the bytes of the C of their program.
pub record IsBuilt (m : Meaning) (input : List ℕ) (calls : List Call) (c : List ℕ) : Type 0 where
  pub writes : writes m.command ≡ true
  pub sources : List (List ℕ)
  pub all_given : AllGiven m sources input calls
  pub compiled : IsCompiled sources m.strict_null c

-- the first rule that sources break: all rules where they are to be compiled, and those of phase 1 where they are checked
pub data IsRefusal (m : Meaning) (sources : List (List ℕ)) (r : Refusal) : Type 0 where
  compiled : (rest : List Refusal) → writes m.command ≡ true → Breaks sources m.strict_null (r ∷ rest) → IsRefusal m sources r
  checked : m.command ≡ command.Check → Refuses sources r → IsRefusal m sources r

-- the reads, and behind them the write of the C file
abbrev pub written : Meaning → List Call → List ℕ → Result (Unit {0}) FolderFault → List Call
written m reads c answer = reads ++ Write (c_file m.name) c answer ∷ []

-- and behind that its read
abbrev pub read_back : Meaning → List Call → List ℕ → Result (List ℕ) FolderFault → List Call
read_back m reads c answer = reads ++ Write (c_file m.name) c (Ok tt) ∷ Read (c_file m.name) answer ∷ []

-- The calls of a command on its folder are a front of these: the files are read in order, `emit` and `run` write the C of their program,
-- and `run` reads it back. All but the last were answered Ok.
pub data IsPlanned (m : Meaning) : List Call → Type 0 where
  reads : (reads : List Call) → FrontRead (files_read m) reads → IsPlanned m reads
  unread : (file : List ℕ) (reads : List Call) (x : FolderFault) → ReadUpTo (files_read m) file reads → IsPlanned m (reads ++ Read file (Err x) ∷ [])
  wrote : (input : List ℕ) (reads : List Call) (c : List ℕ) (a : Result (Unit {0}) FolderFault) → IsBuilt m input reads c → IsPlanned m (written m reads c a)
  back : (input : List ℕ) (reads : List Call) (c : List ℕ) (a : Result (List ℕ) FolderFault) → m.command ≡ command.Run → IsBuilt m input reads c → IsPlanned m (read_back m reads c a)

-- 3. What runs

-- the most bytes of the file of `exec`
unfoldable pub most_bytes : ℕ
most_bytes = 67108864

-- THE C THAT RUNS behind these calls, with this input: it stands in this file, and is read under this limit. It is what was read back of
-- the C file, under the length that was written, or the file of `exec`.
pub data HasC (m : Meaning) : List Call → List ℕ → List ℕ → List ℕ → ℕ → Type 0 where
  back : (reads : List Call) (input c bytes : List ℕ) → m.command ≡ command.Run → IsBuilt m input reads c → HasC m (read_back m reads c (Ok bytes)) input (c_file m.name) bytes (length c)
  given : (reads : List Call) (input file bytes : List ℕ) → m.command ≡ command.Exec → m.files ≡ file ∷ [] → AllGiven m (bytes ∷ []) input reads → HasC m reads input file bytes most_bytes

-- the world of a run: the name and the input, and no script
abbrev pub world_of : Meaning → List ℕ → World
world_of m input = record { name = m.name; input = input; entries = [] }

-- a sink took all that the run prints on its stream, or a front of it
abbrev pub TakesAll : List ℕ → SinkView → SinkView → Type 0
TakesAll bytes s s' = Takes s bytes s' × (s.faults ≤ s'.faults)

abbrev pub TakesFront : List ℕ → SinkView → SinkView → Type 0
TakesFront bytes s s' = (front : List ℕ) × Begins front bytes × Takes s front s' × (s.faults ≤ s'.faults)

-- what the run of a unit prints within so many steps
abbrev pub prints_out : CUnit → World → ℕ → List ℕ
prints_out unit w n = printed stream.Out ((CRun unit w).trace n)

abbrev pub prints_err : CUnit → World → ℕ → List ℕ
prints_err unit w n = printed stream.Err ((CRun unit w).trace n)

-- the texts that are asked for of what is observed after so many steps: the trace, and behind it what lives
abbrev pub texts_of : {F : Type 0} → Meaning → Observed F → ℕ → List ℕ
texts_of m X n = (if m.trace then trace_text (X.trace n) else []) ++ (if m.live then live_text (X.live n) else [])

-- The run of a unit for so many steps as are asked for, each of its prints on its sink: out goes from o to o', err from e to e'. It comes
-- to a status and to the texts that err takes in front of the message line, and it tells whether a print on err was refused.
pub data Ran (m : Meaning) (unit : CUnit) (w : World) (o o' e e' : SinkView) : Kind → List ℕ → Bool → Type 0 where
  ended : (end : _) → (CRun unit w).ended m.steps ≡ Some end → TakesAll (prints_out unit w m.steps) o o' → TakesAll (prints_err unit w m.steps) e e'
      → Ran m unit w o o' e e' (kind_of_end m.command end) (texts_of m (CRun unit w) m.steps) false
  spent : (CRun unit w).ended m.steps ≡ None → TakesAll (prints_out unit w m.steps) o o' → TakesAll (prints_err unit w m.steps) e e'
      → Ran m unit w o o' e e' kind.StepsSpent (texts_of m (CRun unit w) m.steps) false
  refused : TakesFront (prints_out unit w m.steps) o o' → TakesFront (prints_err unit w m.steps) e e' → Rose o.faults o'.faults → Ran m unit w o o' e e' kind.OutFault [] false
  refused_on_err : TakesFront (prints_out unit w m.steps) o o' → TakesFront (prints_err unit w m.steps) e e' → Rose e.faults e'.faults → Ran m unit w o o' e e' kind.OutFault [] true
  memory : TakesFront (prints_out unit w m.steps) o o' → TakesFront (prints_err unit w m.steps) e e' → Ran m unit w o o' e e' kind.Memory [] false

-- 4. How a call goes

-- What a call comes to, and what is said of it on err: the texts of a run, and the file and the source that the message line speaks of.
pub record Outcome : Type 0 where
  pub kind : Kind
  pub texts : List ℕ
  -- whether a print on err was refused; then it takes nothing more
  pub muted : Bool
  pub named : List ℕ
  pub source : List ℕ

-- what comes without a run: its message line may name a file
abbrev pub says : Kind → List ℕ → Outcome
says k file = record { kind = k; texts = []; muted = false; named = file; source = [] }

-- a broken rule, in the file and the source that have the number of its place
abbrev pub says_broken : Refusal → List (List ℕ) → List (List ℕ) → Outcome
says_broken r files sources = record { kind = kind.Refused r; texts = []; muted = false; named = get_or files r.span.file []; source = get_or sources r.span.file [] }

-- what comes of a run
abbrev pub says_run : Kind → List ℕ → Bool → List ℕ → Outcome
says_run k texts muted file = record { kind = k; texts = texts; muted = muted; named = file; source = [] }

-- How a call goes, one case for each place where it stops: its calls on the folder with their answers, its sinks before and behind,
-- and what it comes to.
pub data Goes (m : Meaning) (o e : SinkView) : List Call → SinkView → SinkView → Outcome → Type 0 where
  no_file : (file : List ℕ) (reads : List Call) → ReadUpTo (files_read m) file reads → Goes m o e (reads ++ Read file (Err fault.Missing) ∷ []) o e (says kind.NoFile file)
  unread : (file : List ℕ) (reads : List Call) → ReadUpTo (files_read m) file reads → Goes m o e (reads ++ Read file (Err fault.Failed) ∷ []) o e (says kind.ReadFault file)
  refused : (sources : List (List ℕ)) (input : List ℕ) (reads : List Call) (r : Refusal) → AllGiven m sources input reads → IsRefusal m sources r
      → Goes m o e reads o e (says_broken r m.files sources)
  accepted : (sources : List (List ℕ)) (input : List ℕ) (reads : List Call) → m.command ≡ command.Check → AllGiven m sources input reads → AreRead sources → Goes m o e reads o e (says (kind.Ended (pos 0)) [])
  unwritten : (input : List ℕ) (reads : List Call) (c : List ℕ) → IsBuilt m input reads c → Goes m o e (written m reads c (Err fault.Failed)) o e (says kind.WriteFault (c_file m.name))
  emitted : (input : List ℕ) (reads : List Call) (c : List ℕ) → m.command ≡ command.Emit → IsBuilt m input reads c → Goes m o e (written m reads c (Ok tt)) o e (says (kind.Ended (pos 0)) [])
  gone : (input : List ℕ) (reads : List Call) (c : List ℕ) → m.command ≡ command.Run → IsBuilt m input reads c
      → Goes m o e (read_back m reads c (Err fault.Missing)) o e (says kind.NoFile (c_file m.name))
  unread_back : (input : List ℕ) (reads : List Call) (c : List ℕ) → m.command ≡ command.Run → IsBuilt m input reads c
      → Goes m o e (read_back m reads c (Err fault.Failed)) o e (says kind.ReadFault (c_file m.name))
  c_refused : (calls : List Call) (input file bytes : List ℕ) (limit : ℕ) (r : _) → HasC m calls input file bytes limit → Answers bytes limit (Err r)
      → Goes m o e calls o e (says (kind.CRefused r) file)
  ran : (calls : List Call) (input file bytes : List ℕ) (limit : ℕ) (unit : CUnit) (o' e' : SinkView) (k : Kind) (texts : List ℕ) (muted : Bool) → HasC m calls input file bytes limit → Answers bytes limit (Ok unit)
      → Ran m unit (world_of m input) o o' e e' k texts muted → Goes m o e calls o' e' (says_run k texts muted file)
  memory : (calls : List Call) → IsPlanned m calls → Goes m o e calls o e (says kind.Memory [])

-- Words outside the grammar touch nothing, and neither do words for which memory runs out.
pub data GoesBy (o e : SinkView) : Option Meaning → List Call → SinkView → SinkView → Outcome → Type 0 where
  usage : GoesBy o e None [] o e (says kind.Usage [])
  asked : (m : Meaning) (calls : List Call) (o' e' : SinkView) (x : Outcome) → Goes m o e calls o' e' x → GoesBy o e (Some m) calls o' e' x
  no_memory : (asked : Option Meaning) → GoesBy o e asked [] o e (says kind.Memory [])

-- What is said on err: the texts of the run, and behind them the message line. For want of memory it may be the line of this want.
-- Nothing is said where a print there was refused.
pub data Speaks (x : Outcome) : List ℕ → Kind → Type 0 where
  answer : x.muted ≡ false → Speaks x (x.texts ++ line_of x.kind x.named x.source) x.kind
  no_memory : (named source : List ℕ) → x.muted ≡ false → Speaks x (line_of kind.Memory named source) kind.Memory
  nothing : x.muted ≡ true → Speaks x [] x.kind

-- It is put: all of it, or a front before a put is refused.
pub data Closes (line : List ℕ) (k : Kind) (e e' : SinkView) : Kind → Type 0 where
  put : TakesAll line e e' → Closes line k e e' k
  refused : (n : ℕ) → n < length line → TakesAll (take n line) e e' → Rose e.faults e'.faults → Closes line k e e' (unheard k)
  memory : (n : ℕ) → n < length line → TakesAll (take n line) e e' → Closes line k e e' kind.Memory

-- What the call comes to is said on err, and the status tells it.
pub record Finishes (x : Outcome) (e e' : SinkView) (status : Status) : Type 0 where
  pub line : List ℕ
  pub spoken : Kind
  pub speaks : Speaks x line spoken
  pub closes : Closes line spoken e e' status.kind
  pub code : status.code ≡ exit_byte status.kind

-- a call that goes so, from its calls on the folder to its message line
pub record CallBy (goes_so : List Call → SinkView → SinkView → Outcome → Type 0) (f f' : FolderView) (o' e' : SinkView) (status : Status) : Type 0 where
  pub calls : List Call
  pub chain : Chain f calls f'
  -- err behind the run, and what the call comes to
  pub middle : SinkView
  pub outcome : Outcome
  pub goes : goes_so calls o' middle outcome
  pub finishes : Finishes outcome middle e' status

-- ONE CALL of the program: what the words ask for and what it is given decide what it does, what its sinks take, and its status.
abbrev pub IsCall : Option Meaning → FolderView → FolderView → SinkView → SinkView → SinkView → SinkView → Status → Type 0
IsCall words f f' o o' e e' status = CallBy (GoesBy o e words) f f' o' e' status
