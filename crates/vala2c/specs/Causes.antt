-- What follows of one call, in plain words: what its status tells of the words, the calls, the files and the program. `asked` is what the
-- words ask for, and nothing where they are outside the grammar.
use Rattle.std.specs.Prelude.{◌≡◌, ◌≢◌, ℕ, ◌≤◌, true, false, List, [], ◌∷◌, ◌++◌, map, Option, Some, None, Ok, Err, ◌⊎◌, pos, get_or, IsSome}
use Rattle.std.specs.List.{last_or, All, Contains}
use Rattle.vg_base.specs.declared.outside.FolderFault.{FolderFault}
use Rattle.vg_base.specs.declared.outside.FolderFault.TheVariants as fault
use Rattle.vg_base.specs.declared.outside.Call.{Call}
use Rattle.vg_base.specs.declared.outside.Call.TheVariants.{Read, Write}
use Rattle.vg_base.specs.declared.event.Stream.TheVariants as stream
use Rattle.vg_base.specs.declared.event.UndefKind.{UndefKind}
use Rattle.vg_base.specs.declared.event.VEnd.{VEnd}
use Rattle.vg_base.specs.declared.event.VEnd.TheVariants as v
use Rattle.vg_base.specs.Outside.{Files, FolderView, SinkView, AddsCalls, Takes, Rose}
use Rattle.vg_base.specs.Run.{Begins}
use Rattle.vg_base.specs.World.{World}
use Rattle.vg_base.specs.Headline.{printed}
use Rattle.c_tree.specs.declared.unit.Unit.{Unit as CUnit}
use Rattle.c_tree.specs.declared.kinds.Refusal.{Refusal as CRefusal}
use Rattle.c_tree.specs.Answers.{Answers}
use Rattle.c_meaning.specs.Runs.{CRun}
use Rattle.static_rules.specs.declared.rules.Refusal.{Refusal}
use Rattle.c_emit.specs.Program.{Program}
use Rattle.c_emit.specs.VMeaning.{VRun}
use Rattle.vala_compile.specs.Program.{AreRead, Reads}
use Rattle.vala_compile.specs.Correct.{IsCompiled}
use Rattle.command_line.specs.declared.choice.Command.{Command}
use Rattle.command_line.specs.declared.choice.Command.TheVariants as command
use Rattle.command_line.specs.Names.{c_file}
use Rattle.command_line.specs.Meaning.{Meaning, writes}
use Rattle.vala2c.specs.declared.status.Kind.{Kind}
use Rattle.vala2c.specs.declared.status.Kind.TheVariants as kind
use Rattle.vala2c.specs.declared.status.Status.{Status}
use Rattle.vala2c.specs.Status.{line_of, exit_byte, kind_of_run}
use Rattle.vala2c.specs.Course.{AllGiven, IsBuilt, IsRefusal, IsPlanned, HasC, AreBytes, files_read, written, world_of, prints_out, prints_err, texts_of}

-- 1. What a status tells of the words and the counts, and what is said

-- the words are of this command
abbrev pub AreOf : Option Meaning → Command → Type 0
AreOf asked c = (m : Meaning) × (asked ≡ Some m) × (m.command ≡ c)

-- they are of a command that runs C
abbrev pub RunC : Option Meaning → Type 0
RunC asked = AreOf asked command.Run ⊎ AreOf asked command.Exec

-- one of the files that are read for the words
abbrev pub IsFileOf : Option Meaning → List ℕ → Type 0
IsFileOf asked name = (m : Meaning) × (asked ≡ Some m) × Contains (files_read m) name

-- the C file that is written for the words
abbrev pub IsCFile : Option Meaning → List ℕ → Type 0
IsCFile asked name = (m : Meaning) × (asked ≡ Some m) × (writes m.command ≡ true) × (name ≡ c_file m.name)

-- the file of the C that is run: the one that was written, or that of `exec`
abbrev pub IsCOf : Option Meaning → List ℕ → Type 0
IsCOf asked name = IsCFile asked name ⊎ ((m : Meaning) × (asked ≡ Some m) × (m.command ≡ command.Exec) × (m.files ≡ name ∷ []))

-- the file in which a rule is broken and its source, by its number
abbrev pub IsPlaceOf : Option Meaning → Refusal → List ℕ → List ℕ → Type 0
IsPlaceOf asked r named source =
    (m : Meaning) × (sources : List (List ℕ)) × (asked ≡ Some m) × IsRefusal m sources r × (named ≡ get_or m.files r.span.file []) × (source ≡ get_or sources r.span.file [])

-- What a message line speaks of: a file that is read, the C file, and the source that breaks a rule.
abbrev pub SpeaksOf : Option Meaning → Kind → List ℕ → List ℕ → Type 0
SpeaksOf asked kind.NoFile named source = IsFileOf asked named ⊎ IsCFile asked named
SpeaksOf asked kind.ReadFault named source = IsFileOf asked named ⊎ IsCFile asked named
SpeaksOf asked kind.WriteFault named source = IsCFile asked named
SpeaksOf asked (kind.Refused r) named source = IsPlaceOf asked r named source
SpeaksOf asked (kind.CRefused r) named source = IsCOf asked named
SpeaksOf asked k named source = Unit {0}

-- err took the message line of the status, and nothing else
abbrev pub Says : Option Meaning → Kind → SinkView → SinkView → Type 0
Says asked k e e' = (named : List ℕ) × (source : List ℕ) × SpeaksOf asked k named source × Takes e (line_of k named source) e'

-- the same behind what a run printed there and the texts of it
abbrev pub SaysBehind : Option Meaning → Kind → SinkView → SinkView → Type 0
SaysBehind asked k e e' = (front : List ℕ) × (named : List ℕ) × (source : List ℕ) × SpeaksOf asked k named source × Takes e (front ++ line_of k named source) e'

-- err took this line and nothing else, unless a put on it was refused
abbrev pub TakesLine : List ℕ → SinkView → SinkView → Type 0
TakesLine line e e' = Takes e line e' ⊎ Rose e.faults e'.faults

-- the statuses of a run of the C
abbrev pub IsOfRun : Kind → Type 0
IsOfRun (kind.Ended code) = Unit {0}
IsOfRun kind.OutFault = Unit {0}
IsOfRun kind.StepsSpent = Unit {0}
IsOfRun kind.Waiting = Unit {0}
IsOfRun (kind.Trapped k) = Unit {0}
IsOfRun kind.Dead = Unit {0}
IsOfRun (kind.Undefined k) = Unit {0}
IsOfRun k = ⊥

-- the statuses of a check
abbrev pub IsOfCheck : Kind → Type 0
IsOfCheck (kind.Ended code) = code ≡ pos 0
IsOfCheck kind.NoFile = Unit {0}
IsOfCheck kind.ReadFault = Unit {0}
IsOfCheck (kind.Refused r) = Unit {0}
IsOfCheck kind.Memory = Unit {0}
IsOfCheck k = ⊥

-- those of `emit`, which writes besides
abbrev pub IsOfEmit : Kind → Type 0
IsOfEmit kind.WriteFault = Unit {0}
IsOfEmit k = IsOfCheck k

-- those of `exec`, which reads no Vala and writes nothing
abbrev pub IsOfExec : Kind → Type 0
IsOfExec kind.NoFile = Unit {0}
IsOfExec kind.ReadFault = Unit {0}
IsOfExec (kind.CRefused r) = Unit {0}
IsOfExec kind.Memory = Unit {0}
IsOfExec k = IsOfRun k

-- What each status tells. Only want of memory is tied to no cause.
pub record Causes (asked : Option Meaning) (f f' : FolderView) (o o' e e' : SinkView) (status : Status) : Type 0 where
  pub code : status.code ≡ exit_byte status.kind
  -- the words
  pub usage : status.kind ≡ kind.Usage → asked ≡ None
  pub outside : asked ≡ None → (status.kind ≡ kind.Usage) ⊎ (status.kind ≡ kind.Memory)
  -- the counts
  pub no_file : status.kind ≡ kind.NoFile → Rose f.misses f'.misses
  pub read_fault : status.kind ≡ kind.ReadFault → Rose f.faults f'.faults
  pub write_fault : status.kind ≡ kind.WriteFault → Rose f.faults f'.faults
  pub out_fault : status.kind ≡ kind.OutFault → Rose o.faults o'.faults ⊎ Rose e.faults e'.faults
  -- no count falls
  pub misses : f.misses ≤ f'.misses
  pub faults : f.faults ≤ f'.faults
  pub out_faults : o.faults ≤ o'.faults
  pub err_faults : e.faults ≤ e'.faults
  -- err takes the message line, unless a put is refused or memory runs out: behind what the C printed there and its texts, and alone where no C was run
  pub behind : SaysBehind asked status.kind e e' ⊎ (Rose e.faults e'.faults ⊎ (status.kind ≡ kind.Memory))
  pub said : (RunC asked → IsOfRun status.kind → ⊥) → Says asked status.kind e e' ⊎ (Rose e.faults e'.faults ⊎ (status.kind ≡ kind.Memory))
  -- out takes nothing where no C was run
  pub silent : (IsOfRun status.kind → ⊥) → status.kind ≢ kind.Memory → o' ≡ o
  -- a check and `emit` run nothing, and `exec` knows no Vala
  pub checked : AreOf asked command.Check → IsOfCheck status.kind × (o' ≡ o)
  pub emitted : AreOf asked command.Emit → IsOfEmit status.kind × (o' ≡ o)
  pub executed : AreOf asked command.Exec → IsOfExec status.kind

-- 2. The calls on the folder

-- the last of the calls
abbrev pub last_of : List Call → Option Call
last_of calls = last_or None calls

-- the last call is a read of this file that was answered so, and the message line names the file
abbrev pub FailsToRead : List Call → FolderFault → Kind → SinkView → SinkView → Type 0
FailsToRead added answer k e e' = (name : List ℕ) × (last_of added ≡ Some (Read name (Err answer))) × TakesLine (line_of k name []) e e'

-- the same of a write
abbrev pub FailsToWrite : List Call → SinkView → SinkView → Type 0
FailsToWrite added e e' = (name : List ℕ) × (bytes : List ℕ) × (last_of added ≡ Some (Write name bytes (Err fault.Failed))) × TakesLine (line_of kind.WriteFault name []) e e'

-- The files of the words were read, their sources break this rule first, and there was no other call. The message line gives the
-- place in the source of the file that has the number.
pub record RefusedOf (asked : Option Meaning) (added : List Call) (r : Refusal) (e e' : SinkView) : Type 0 where
  pub meaning : Meaning
  pub is_asked : asked ≡ Some meaning
  pub sources : List (List ℕ)
  pub input : List ℕ
  pub is_refusal : IsRefusal meaning sources r
  pub all_given : AllGiven meaning sources input added
  pub line : TakesLine (line_of (kind.Refused r) (get_or meaning.files r.span.file []) (get_or sources r.span.file [])) e e'

-- behind these calls there is C to run
pub record CallsOfC (asked : Option Meaning) (added : List Call) : Type 0 where
  pub meaning : Meaning
  pub is_asked : asked ≡ Some meaning
  pub input : List ℕ
  pub file : List ℕ
  pub bytes : List ℕ
  pub limit : ℕ
  pub has_c : HasC meaning added input file bytes limit

-- the C is refused for this, and the message line names its file
pub record CRefusedOf (asked : Option Meaning) (added : List Call) (r : CRefusal) (e e' : SinkView) : Type 0 where
  pub calls : CallsOfC asked added
  pub refused : Answers calls.bytes calls.limit (Err r)
  pub line : TakesLine (line_of (kind.CRefused r) calls.file []) e e'

-- THE RUN OF THE C, where no put was refused: out took what it prints there within the steps, err what it prints there, then the texts that
-- are asked for and the message line, and the status is that of its end.
pub record RunsAsMeant (m : Meaning) (unit : CUnit) (w : World) (o o' e e' : SinkView) (k : Kind) : Type 0 where
  pub out : Takes o (prints_out unit w m.steps) o'
  pub err : Takes e (prints_err unit w m.steps ++ (texts_of m (CRun unit w) m.steps ++ line_of k [] [])) e'
  pub end : k ≡ kind_of_run m.command ((CRun unit w).ended m.steps)

-- C was run in the world of the call, as it is meant unless a put was refused
pub record RanOf (asked : Option Meaning) (added : List Call) (o o' e e' : SinkView) (k : Kind) : Type 0 where
  pub calls : CallsOfC asked added
  pub unit : CUnit
  pub is_unit : Answers calls.bytes calls.limit (Ok unit)
  pub runs : RunsAsMeant calls.meaning unit (world_of calls.meaning calls.input) o o' e e' k ⊎ (Rose o.faults o'.faults ⊎ Rose e.faults e'.faults)

-- `emit` wrote the C of the program
pub record EmittedOf (m : Meaning) (added : List Call) : Type 0 where
  pub input : List ℕ
  pub reads : List Call
  pub c : List ℕ
  pub is_built : IsBuilt m input reads c
  pub all : added ≡ written m reads c (Ok tt)

-- The calls that the folder tells behind this one, and what their answers and the status tell of each other.
pub record ToldCalls (asked : Option Meaning) (f f' : FolderView) (o o' e e' : SinkView) (status : Status) : Type 0 where
  pub added : List Call
  pub told : AddsCalls f added f'
  -- they are a front of the plan, and all but the last were answered Ok
  pub planned : (m : Meaning) → asked ≡ Some m → IsPlanned m added
  pub outside : asked ≡ None → added ≡ []
  pub usage : status.kind ≡ kind.Usage → added ≡ []
  -- a fault is that of the last call
  pub no_file : status.kind ≡ kind.NoFile → FailsToRead added fault.Missing kind.NoFile e e'
  pub read_fault : status.kind ≡ kind.ReadFault → FailsToRead added fault.Failed kind.ReadFault e e'
  pub write_fault : status.kind ≡ kind.WriteFault → FailsToWrite added e e'
  pub if_missing : (name : List ℕ) → last_of added ≡ Some (Read name (Err fault.Missing)) → (status.kind ≡ kind.NoFile) ⊎ (status.kind ≡ kind.Memory)
  pub if_unread : (name : List ℕ) → last_of added ≡ Some (Read name (Err fault.Failed)) → (status.kind ≡ kind.ReadFault) ⊎ (status.kind ≡ kind.Memory)
  pub if_unwritten : (name bytes : List ℕ) → last_of added ≡ Some (Write name bytes (Err fault.Failed)) → (status.kind ≡ kind.WriteFault) ⊎ (status.kind ≡ kind.Memory)
  -- a broken rule
  pub refused : (r : Refusal) → status.kind ≡ kind.Refused r → RefusedOf asked added r e e'
  pub if_broken : (m : Meaning) (sources : List (List ℕ)) (input : List ℕ) (reads more : List Call) (r : Refusal) → asked ≡ Some m → AllGiven m sources input reads → added ≡ reads ++ more
      → IsRefusal m sources r → (status.kind ≡ kind.Refused r) ⊎ (status.kind ≡ kind.Memory)
  -- a check ends where no rule of phase 1 is broken
  pub accepted : (m : Meaning) (code : _) → asked ≡ Some m → m.command ≡ command.Check → status.kind ≡ kind.Ended code
      → (sources : List (List ℕ)) × (input : List ℕ) × AllGiven m sources input added × AreRead sources
  pub if_accepted : (m : Meaning) (sources : List (List ℕ)) (input : List ℕ) → asked ≡ Some m → m.command ≡ command.Check → AllGiven m sources input added → AreRead sources
      → (status.kind ≡ kind.Ended (pos 0)) ⊎ (status.kind ≡ kind.Memory)
  -- `emit` ends where the C was written
  pub emitted : (m : Meaning) (code : _) → asked ≡ Some m → m.command ≡ command.Emit → status.kind ≡ kind.Ended code → EmittedOf m added
  pub if_emitted : (m : Meaning) → asked ≡ Some m → m.command ≡ command.Emit → EmittedOf m added → (status.kind ≡ kind.Ended (pos 0)) ⊎ (status.kind ≡ kind.Memory)
  -- C is refused exactly where it has a refusal, and run where it has none
  pub c_refused : (r : CRefusal) → status.kind ≡ kind.CRefused r → CRefusedOf asked added r e e'
  pub if_c_refused : (calls : CallsOfC asked added) (r : CRefusal) → Answers calls.bytes calls.limit (Err r) → (status.kind ≡ kind.CRefused r) ⊎ (status.kind ≡ kind.Memory)
  pub ran : RunC asked → IsOfRun status.kind → RanOf asked added o o' e e' status.kind

-- 3. The files of a folder that tells them

-- the statuses of a call that writes nothing
abbrev pub WritesNothing : Kind → Type 0
WritesNothing kind.Usage = Unit {0}
WritesNothing kind.NoFile = Unit {0}
WritesNothing (kind.Refused r) = Unit {0}
WritesNothing k = ⊥

-- the files of these names hold these sources
abbrev pub Hold : Files → List (List ℕ) → List (List ℕ) → Type 0
Hold files names sources = map files names ≡ map Some sources

-- the file of the input is there, where one is named
abbrev pub IsThere : Files → Option (List ℕ) → Type 0
IsThere files None = Unit {0}
IsThere files (Some name) = IsSome (files name)

-- the C file holds the C of the sources
pub record HoldsC (asked : Option Meaning) (files after : Files) : Type 0 where
  pub meaning : Meaning
  pub is_asked : asked ≡ Some meaning
  pub sources : List (List ℕ)
  pub are_sources : Hold files meaning.files sources
  pub c : List ℕ
  pub compiled : IsCompiled sources meaning.strict_null c
  pub holds : after (c_file meaning.name) ≡ Some c

-- What a call says of the files before and behind: what was read is what they held, what was written is what they hold, and
-- nothing changed where a source was not read. The input may stand in the C file; it is read before that is written.
abbrev pub IsHonest : Option Meaning → Files → Files → Call → Type 0
IsHonest asked files after (Read name (Ok bytes)) =
    ((IsCFile asked name → ⊥) → files name ≡ Some bytes) × (IsCFile asked name → (files name ≡ Some bytes) ⊎ (after name ≡ Some bytes))
IsHonest asked files after (Read name (Err x)) = (IsCFile asked name → ⊥) → after ≡ files
IsHonest asked files after (Write name bytes (Ok u)) = after name ≡ Some bytes
IsHonest asked files after (Write name bytes (Err x)) = Unit {0}

-- `Refused r`, or what may stand in its place: a file was not read, or memory ran out
abbrev pub RefusedUnless : Refusal → Kind → Type 0
RefusedUnless r k = (k ≡ kind.Refused r) ⊎ ((k ≡ kind.ReadFault) ⊎ (k ≡ kind.Memory))

-- What becomes of the files, and what they and the status tell of each other.
pub record ToldFiles (asked : Option Meaning) (files : Files) (f f' : FolderView) (status : Status) : Type 0 where
  pub after : Files
  pub told : f'.files ≡ Some after
  -- its calls, which it tells too
  pub added : List Call
  pub told_calls : AddsCalls f added f'
  pub honest : All (IsHonest asked files after) added
  pub planned : (m : Meaning) → asked ≡ Some m → IsPlanned m added
  -- no file but the C file that is written changes: none by a check or by `exec`
  pub others : (name : List ℕ) → (IsCFile asked name → ⊥) → after name ≡ files name
  pub same : WritesNothing status.kind → after ≡ files
  pub checked : AreOf asked command.Check → after ≡ files
  pub executed : AreOf asked command.Exec → after ≡ files
  -- what was run is the C of the sources, and the C file holds it; so it does where `emit` ended
  pub written : AreOf asked command.Run → IsOfRun status.kind → HoldsC asked files after
  pub emitted : AreOf asked command.Emit → (code : _) → status.kind ≡ kind.Ended code → HoldsC asked files after
  -- what was written is read back: it is there, and it is C
  pub never_c_refused : AreOf asked command.Run → (r : CRefusal) → status.kind ≢ kind.CRefused r
  pub no_file : status.kind ≡ kind.NoFile → (name : List ℕ) × IsFileOf asked name × (files name ≡ None)
  pub if_missing : (name : List ℕ) → IsFileOf asked name → files name ≡ None → (status.kind ≡ kind.NoFile) ⊎ ((status.kind ≡ kind.ReadFault) ⊎ (status.kind ≡ kind.Memory))
  -- a broken rule
  pub refused : (r : Refusal) → status.kind ≡ kind.Refused r → (m : Meaning) × (sources : List (List ℕ)) × (asked ≡ Some m) × Hold files m.files sources × IsRefusal m sources r
  pub if_broken : (m : Meaning) (sources : List (List ℕ)) (r : Refusal) → asked ≡ Some m → Hold files m.files sources → IsThere files m.input → IsRefusal m sources r → RefusedUnless r status.kind
  -- a check ends where no rule of phase 1 is broken
  pub accepted : (m : Meaning) (code : _) → asked ≡ Some m → m.command ≡ command.Check → status.kind ≡ kind.Ended code → (sources : List (List ℕ)) × Hold files m.files sources × AreRead sources
  pub if_accepted : (m : Meaning) (sources : List (List ℕ)) → asked ≡ Some m → m.command ≡ command.Check → Hold files m.files sources → IsThere files m.input → AreRead sources
      → (status.kind ≡ kind.Ended (pos 0)) ⊎ ((status.kind ≡ kind.ReadFault) ⊎ (status.kind ≡ kind.Memory))

-- for a folder that tells its files
abbrev pub FilesTold : Option Meaning → FolderView → FolderView → Status → Type 0
FilesTold asked f f' status = (files : Files) → f.files ≡ Some files → ToldFiles asked files f f' status

-- 4. The program

-- the input that the files hold: the bytes of its file, and none where no file of it is named
abbrev pub HoldInput : Files → Option (List ℕ) → List ℕ → Type 0
HoldInput files None input = input ≡ []
HoldInput files (Some name) input = files name ≡ Some input

-- the files of `run FILE..` hold this program and this input
pub record IsProgramOf (asked : Option Meaning) (files : Files) (m : Meaning) (program : Program) (input : List ℕ) : Type 0 where
  pub is_asked : asked ≡ Some m
  pub is_run : m.command ≡ command.Run
  pub sources : List (List ℕ)
  pub are_sources : Hold files m.files sources
  pub is_program : Reads sources program
  pub is_input : HoldInput files m.input input
  pub are_bytes : AreBytes input

-- the status of a program that ends so
abbrev pub kind_of_program_end : VEnd → Kind
kind_of_program_end (v.Ended code) = kind.Ended code
kind_of_program_end (v.Trapped k) = kind.Trapped k
kind_of_program_end v.Waiting = kind.Waiting
kind_of_program_end v.Dead = kind.Dead

-- the statuses of an end
abbrev pub IsOfEnd : Kind → Type 0
IsOfEnd (kind.Ended code) = Unit {0}
IsOfEnd kind.Waiting = Unit {0}
IsOfEnd (kind.Trapped k) = Unit {0}
IsOfEnd kind.Dead = Unit {0}
IsOfEnd k = ⊥

-- The program of the files ends after some steps with this status. Out took all that it prints there, and err what it prints on it
-- and then the texts of its own trace and of what lives in it, where they are asked for, and the message line, unless a put on it was refused.
pub record ProgramEnds (asked : Option Meaning) (files : Files) (o o' e e' : SinkView) (k : Kind) : Type 0 where
  pub meaning : Meaning
  pub program : Program
  pub input : List ℕ
  pub is_program : IsProgramOf asked files meaning program input
  pub steps : ℕ
  pub end : VEnd
  pub ended : (VRun program (world_of meaning input)).ended steps ≡ Some end
  pub status : k ≡ kind_of_program_end end
  pub out : Takes o (printed stream.Out ((VRun program (world_of meaning input)).trace steps)) o'
  pub err : Takes e (printed stream.Err ((VRun program (world_of meaning input)).trace steps) ++ (texts_of meaning (VRun program (world_of meaning input)) steps ++ line_of k [] [])) e' ⊎ Rose e.faults e'.faults

-- out took a front of what the program of the files prints in some number of steps
pub record ProgramPrints (asked : Option Meaning) (files : Files) (o o' : SinkView) : Type 0 where
  pub meaning : Meaning
  pub program : Program
  pub input : List ℕ
  pub is_program : IsProgramOf asked files meaning program input
  pub steps : ℕ
  pub front : List ℕ
  pub begins : Begins front (printed stream.Out ((VRun program (world_of meaning input)).trace steps))
  pub out : Takes o front o'

-- neither of the texts of a run is asked for
abbrev pub AsksNoTexts : Option Meaning → Type 0
AsksNoTexts asked = (m : Meaning) → asked ≡ Some m → (m.trace ≡ false) × (m.live ≡ false)

-- THE PROGRAM RUNS, from its source to what is seen of it.
pub record RunsProgram (asked : Option Meaning) (files : Files) (o o' e e' : SinkView) (k : Kind) : Type 0 where
  -- the status of an end is that of the program's end
  pub ends : AreOf asked command.Run → IsOfEnd k → ProgramEnds asked files o o' e e' k
  -- whatever the status of a run is, nothing was printed that the program does not print
  pub prints : AreOf asked command.Run → IsOfRun k → ProgramPrints asked files o o'
  -- nor where memory ran out
  pub only : (o' ≡ o) ⊎ ProgramPrints asked files o o'
  -- a program here prints nothing on err, so err takes the texts and the message line alone, unless a put is refused or memory runs out
  pub said : AsksNoTexts asked → Says asked k e e' ⊎ (Rose e.faults e'.faults ⊎ (k ≡ kind.Memory))
  -- the C never does what has no meaning
  pub defined : (u : UndefKind) → k ≢ kind.Undefined u

-- for a folder that tells its files, and words that do not name a C file to be run
abbrev pub ProgramTold : Option Meaning → FolderView → SinkView → SinkView → SinkView → SinkView → Kind → Type 0
ProgramTold asked f o o' e e' k = (files : Files) → f.files ≡ Some files → (AreOf asked command.Exec → ⊥) → RunsProgram asked files o o' e e' k
