-- The statuses: their exit bytes and their message lines.
use Rattle.std.specs.Prelude.{ℕ, ◌+◌, ◌==◌, List, [], ◌∷◌, ◌++◌, length, take, count_by, codes, pos, unsigned_abs, Option, Some, None}
use Rattle.std.specs.List.{after_last}
use Rattle.std.specs.Int.{int_rem_euclid}
use Rattle.std.specs.Fmt.{decimal}
use Rattle.vg_base.specs.declared.event.TrapKind.{TrapKind}
use Rattle.vg_base.specs.declared.event.TrapKind.TheVariants as trap
use Rattle.vg_base.specs.declared.event.UndefKind.{UndefKind}
use Rattle.vg_base.specs.declared.event.UndefKind.TheVariants as undef
use Rattle.vg_base.specs.declared.event.CEnd.{CEnd}
use Rattle.vg_base.specs.declared.event.CEnd.TheVariants as c
use Rattle.command_line.specs.declared.choice.Command.{Command}
use Rattle.command_line.specs.declared.choice.Command.TheVariants as command
use Rattle.c_tree.specs.declared.kinds.Cause.{Cause}
use Rattle.c_tree.specs.declared.kinds.Cause.TheVariants.{Token, Syntax, Undeclared, Misfit, Twice, Large}
use Rattle.c_tree.specs.declared.kinds.Refusal.{Refusal as CRefusal}
use Rattle.static_rules.specs.declared.rules.Refusal.{Refusal}
use Rattle.static_rules.specs.Rules.{row_of}
use Rattle.vala2c.specs.declared.status.Kind.{Kind}
use Rattle.vala2c.specs.declared.status.Kind.TheVariants as kind

abbrev pub trap_word : TrapKind → List ℕ
trap_word trap.Null = codes "null"
trap_word trap.Division = codes "division"
trap_word trap.Index = codes "index"
trap_word trap.Cast = codes "cast"
trap_word trap.Length = codes "length"
trap_word trap.Range = codes "range"
trap_word trap.Assert = codes "assert"
trap_word trap.Resume = codes "resume"
trap_word trap.Loop = codes "loop"

abbrev pub undef_word : UndefKind → List ℕ
undef_word undef.Freed = codes "freed"
undef_word undef.Null = codes "null"
undef_word undef.Outside = codes "outside"
undef_word undef.Unset = codes "unset"
undef_word undef.Kind = codes "kind"
undef_word undef.Func = codes "func"
undef_word undef.Divide = codes "divide"
undef_word undef.Overflow = codes "overflow"

-- the causes for which a text of C is refused, as they are printed: name and text
abbrev pub cause_name : Cause → List ℕ
cause_name Token = codes "C1"
cause_name Syntax = codes "C2"
cause_name Undeclared = codes "C3"
cause_name Misfit = codes "C4"
cause_name Twice = codes "C5"
cause_name Large = codes "C6"

abbrev pub cause_text : Cause → List ℕ
cause_text Token = codes "bad token"
cause_text Syntax = codes "not in the dialect"
cause_text Undeclared = codes "undeclared"
cause_text Misfit = codes "type does not fit"
cause_text Twice = codes "declared twice"
cause_text Large = codes "too large"

-- the line of a file in which a byte stands, and its column, both counted from 1
abbrev pub line_at : List ℕ → ℕ → ℕ
line_at source at = count_by (λ b. b == 10) (take at source) + 1

abbrev pub column_at : List ℕ → ℕ → ℕ
column_at source at = length (after_last (λ b. b == 10) (take at source)) + 1

-- `vala2c: TEXT`
abbrev pub said_by_tool : List ℕ → List ℕ
said_by_tool text = codes "vala2c: " ++ text ++ 10 ∷ []

-- `PLACE: NAME TEXT`
abbrev pub located_line : List ℕ → List ℕ → List ℕ → List ℕ
located_line place name text = place ++ (codes ": " ++ (name ++ (codes " " ++ (text ++ 10 ∷ []))))

-- `FILE:LINE:COLUMN`
abbrev pub source_place : List ℕ → List ℕ → ℕ → List ℕ
source_place file source at =
    file ++ (codes ":" ++ (decimal (line_at source at) ++ (codes ":" ++ decimal (column_at source at))))

-- `FILE:LINE:COLUMN: RULE TEXT`
abbrev pub refusal_line : List ℕ → List ℕ → Refusal → List ℕ
refusal_line file source r =
    located_line (source_place file source r.span.start) (row_of r.rule).name (row_of r.rule).text

-- `FILE: byte AT: CAUSE TEXT`
abbrev pub c_refusal_line : List ℕ → CRefusal → List ℕ
c_refusal_line file r =
    located_line (file ++ codes ": byte " ++ decimal r.at) (cause_name r.cause) (cause_text r.cause)

-- The message line of a status. It may name a file, and a place in a source.
abbrev pub line_of : Kind → List ℕ → List ℕ → List ℕ
line_of (kind.Ended code) file source = []
line_of kind.Usage file source = said_by_tool (codes "bad command line")
line_of kind.NoFile file source = said_by_tool (codes "no file " ++ file)
line_of kind.ReadFault file source = said_by_tool (codes "cannot read " ++ file)
line_of kind.WriteFault file source = said_by_tool (codes "cannot write " ++ file)
line_of kind.OutFault file source = said_by_tool (codes "output failed")
line_of (kind.Refused r) file source = refusal_line file source r
line_of (kind.CRefused r) file source = c_refusal_line file r
line_of kind.StepsSpent file source = said_by_tool (codes "steps spent")
line_of kind.Waiting file source = said_by_tool (codes "waiting with no source")
line_of (kind.Trapped k) file source = said_by_tool (codes "trap " ++ trap_word k)
line_of kind.Dead file source = said_by_tool (codes "use of a reference whose thing is gone")
line_of (kind.Undefined k) file source = said_by_tool (codes "undefined " ++ undef_word k)
line_of kind.Memory file source = said_by_tool (codes "out of memory")

-- the exit byte of a status: a program's own code modulo 256
abbrev pub exit_byte : Kind → ℕ
exit_byte (kind.Ended code) = unsigned_abs (int_rem_euclid code (pos 256))
exit_byte kind.Usage = 2
exit_byte kind.NoFile = 3
exit_byte kind.ReadFault = 4
exit_byte kind.WriteFault = 5
exit_byte kind.OutFault = 6
exit_byte (kind.Refused r) = 10
exit_byte (kind.CRefused r) = 12
exit_byte kind.StepsSpent = 20
exit_byte kind.Waiting = 21
exit_byte (kind.Trapped k) = 22
exit_byte kind.Dead = 23
exit_byte (kind.Undefined k) = 24
exit_byte kind.Memory = 30

-- the status of what has no meaning: a use of what is gone is told apart, but of a C file that is given
abbrev pub kind_of_undefined : Command → UndefKind → Kind
kind_of_undefined command.Exec undef.Freed = kind.Undefined undef.Freed
kind_of_undefined c undef.Freed = kind.Dead
kind_of_undefined c k = kind.Undefined k

-- the status of a run of C that ends so
abbrev pub kind_of_end : Command → CEnd → Kind
kind_of_end command (c.Ended code) = kind.Ended code
kind_of_end command (c.Aborted k) = kind.Trapped k
kind_of_end command c.Waiting = kind.Waiting
kind_of_end command (c.Undefined k) = kind_of_undefined command k

-- the same of a run that ended so or spent its steps
abbrev pub kind_of_run : Command → Option CEnd → Kind
kind_of_run command None = kind.StepsSpent
kind_of_run command (Some end) = kind_of_end command end

-- A message line that could not be put changes no answer but that of a program that ended.
abbrev pub unheard : Kind → Kind
unheard (kind.Ended code) = kind.OutFault
unheard k = k
