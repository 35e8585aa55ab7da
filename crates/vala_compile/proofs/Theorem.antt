-- What is compiled is compiled right, and what is refused breaks a rule.
use Rattle.std.proofs.Common.{◌≡◌, ℕ, Bool, List, [], ◌∷◌, length, Result, Ok, Err, sym, ap, subst, ◌∙◌, arith}
use Rattle.std.specs.declared.vec.Vec.{Vec}
use Rattle.std.specs.declared.alloc.Global.{Global}
use Rattle.vg_base.specs.declared.event.Fault.{Fault}
use Rattle.vg_base.specs.declared.event.Fault.TheVariants as answer
use Rattle.static_rules.specs.declared.rules.Refusal.{Refusal}
use Rattle.vala_lexer.specs.Tokens.{Lexeme}
use Rattle.c_tree.specs.Answers.{Answers, reads, unit}
use Rattle.c_printer.specs.Printed.{IsTextOf}
use Rattle.c_places.specs.Laws.{TextsStandApart}
use Rattle.c_emit.specs.Emission.{unit_of}
use Rattle.c_emit.specs.Laws.{EmittedUnitsRun, EmittedUnitsStayWithin}
use Rattle.c_emit.specs.Program.{Program, AreTexts}
use Rattle.vala_compile.specs.Carried.{IsProgram}
use Rattle.vala_compile.specs.Program.{AreRead, Refuses, Joined, Reads, Breaks, none, refused, outside, left_out}
use Rattle.vala_compile.specs.Steps.{outcome, Told}
use Rattle.vala_compile.specs.Correct.{IsCompiled}
use Rattle.vala_compile.proofs.Denoted.{program_texts}
use Rattle.vala_compile.proofs.Programs.{program_outcome, leaves_outcome}
use Rattle.vala_compile.proofs.Files.{joined_some}

-- what the tokens of all files are said to be, where one says it of each list that they may be
abbrev Answered : List (List ℕ) → Result (Vec (List ℕ) Global) (Fault Refusal) → Type 0
Answered files result = (ts : List Lexeme) → Joined 0 files ts → Told (outcome ts) result

-- the text of the program that the files are
pub compiled : (files : List (List ℕ)) (strict : Bool) (program : Vec (List ℕ) Global) (p : Program) (c : List ℕ) → TextsStandApart → EmittedUnitsRun → EmittedUnitsStayWithin → AreRead files
    → Answered files (Ok program) → p ≡ program.items → (AreTexts p → IsTextOf (unit_of p) c) → IsCompiled files strict c
compiled files strict program p c stand run within read told same written =
    let joined = joined_some 0 files read.0 in
    let is_program : IsProgram joined.0 p = program_outcome joined.0 p (told joined.0 joined.1 ∙ ap (λ (p : Program). Ok p) (sym same)) in
    let files_are : Reads files p = record { read = read; tokens = joined.0; joined = joined.1; is_program = is_program } in
    let texts : AreTexts p = program_texts joined.0 p is_program in
    let text : IsTextOf (unit_of p) c = written texts in
    let is_unit : Answers c (length c) (Ok text.read) = reads text.read text.reads.tokens (omega arith) text.reads.lexed (unit (length c) text.read text.reads.reads text.reads.sound) in
    let apart = stand c (length c) text.read is_unit in
    record {
      accepted = none p files_are;
      program = p;
      is_program = files_are;
      unit = text.read;
      is_unit = is_unit;
      same = λ w _. run p text.read w texts text.same apart;
      within = λ w _ n. within p text.read w n texts text.same apart;
    }

-- files whose tokens are no program
pub left : (files : List (List ℕ)) (strict : Bool) (r : Refusal) → AreRead files → Answered files (Err (answer.Refused r)) → (rest : List Refusal) × Breaks files strict (r ∷ rest)
left files strict r read told =
    let joined = joined_some 0 files read.0 in
    let found = told joined.0 joined.1 in
    let breaks : Breaks files strict (left_out found.0 ∷ []) = outside joined.0 found.0 read joined.1 (leaves_outcome joined.0 found.0 found.1) in
    ([], subst (λ (r : Refusal). Breaks files strict (r ∷ [])) (sym found.2) breaks)

pub broken : (files : List (List ℕ)) (strict : Bool) (r : Refusal) → Refuses files r → (rest : List Refusal) × Breaks files strict (r ∷ rest)
broken files strict r h = ([], refused r h)
