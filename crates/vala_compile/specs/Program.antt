-- The Vala that is compiled: which files are which program, and which rules they break.
use Rattle.std.specs.Prelude.{◌≡◌, ℕ, suc, ◌<◌, ◌≤◌, nat_lt, Bool, if◌then◌else◌, List, [], ◌∷◌, ◌++◌, length, None, Ok, Err}
use Rattle.vg_base.specs.declared.event.Span.{Span}
use Rattle.static_rules.specs.declared.rules.Rule.TheVariants.{M2, U1}
use Rattle.static_rules.specs.declared.rules.Refusal.{Refusal}
use Rattle.vala_lexer.specs.Tokens.{Lexeme, Tokens, all_of}
use Rattle.vala_tree.specs.declared.member.FileTree.{FileTree}
use Rattle.vala_file_grammar.specs.FileAnswer.{Answers, most_bytes, too_large}
use Rattle.c_emit.specs.Program.{Program}
use Rattle.vala_compile.specs.Carried.{IsProgram, Leaves, start_of}

-- ---- phase 1: each file by itself

-- the most files
abbrev pub most_files : ℕ
most_files = 64

-- each of these is a file of the grammar; the first has this number
abbrev pub AreFiles : ℕ → List (List ℕ) → Type 0
AreFiles number [] = Unit {0}
AreFiles number (bytes ∷ files) = ((tree : FileTree) × Answers bytes number (Ok tree)) × AreFiles (suc number) files

-- no rule of phase 1 is broken
abbrev pub AreRead : List (List ℕ) → Type 0
AreRead files = AreFiles 0 files × (length files ≤ most_files)

-- the refusal of one file too many
abbrev pub too_many : Refusal
too_many = record { rule = M2; phase = 1; span = start_of most_files }

-- that of the file behind the most, which is too large or one too many
abbrev pub behind_most : List ℕ → Refusal
behind_most bytes = if nat_lt most_bytes (length bytes) then too_large most_files else too_many

-- The refusal of phase 1 stands in the first file that has a fault, or in the one behind 64 files without one.
pub data Refuses (files : List (List ℕ)) : Refusal → Type 0 where
  faulty : (front : List (List ℕ)) (bytes : List ℕ) (behind : List (List ℕ)) (r : Refusal) → files ≡ front ++ bytes ∷ behind → AreFiles 0 front → length front < most_files
      → Answers bytes (length front) (Err r) → Refuses files r
  over : (front : List (List ℕ)) (bytes : List ℕ) (behind : List (List ℕ)) → files ≡ front ++ bytes ∷ behind → AreFiles 0 front → length front ≡ most_files
      → Refuses files (behind_most bytes)

-- ---- phase 7, the last: what is not carried to C yet

-- the tokens of the files, joined; the first has this number
pub data Joined : ℕ → List (List ℕ) → List Lexeme → Type 0 where
  no_file : (number : ℕ) → Joined number [] []
  file : (number : ℕ) (bytes : List ℕ) (files : List (List ℕ)) (ts us : List Lexeme) → Tokens (all_of bytes number) ts None → Joined (suc number) files us → Joined number (bytes ∷ files) (ts ++ us)

-- The files are this program: each is one of the grammar, and their tokens, joined, are it.
pub record Reads (files : List (List ℕ)) (program : Program) : Type 0 where
  pub read : AreRead files
  pub tokens : List Lexeme
  pub joined : Joined 0 files tokens
  pub is_program : IsProgram tokens program

abbrev pub left_out : Span → Refusal
left_out span = record { rule = U1; phase = 7; span = span }

-- All rules that the files break, and where, in order. `strict` asks for the rules on null; no rule of this language hangs on it.
pub data Breaks (files : List (List ℕ)) (strict : Bool) : List Refusal → Type 0 where
  none : (program : Program) → Reads files program → Breaks files strict []
  refused : (r : Refusal) → Refuses files r → Breaks files strict (r ∷ [])
  outside : (tokens : List Lexeme) (span : Span) → AreRead files → Joined 0 files tokens → Leaves tokens span → Breaks files strict (left_out span ∷ [])
