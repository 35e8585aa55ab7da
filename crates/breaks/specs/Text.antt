-- The text of a program: its files are of the grammar, or the first that is not is refused.
use Rattle.std.specs.Prelude.{◌≡◌, ℕ, suc, ◌<◌, nat_lt, if◌then◌else◌, List, [], ◌∷◌, ◌++◌, length, Ok, Err}
use Rattle.static_rules.specs.declared.rules.Rule.TheVariants.{M2}
use Rattle.static_rules.specs.declared.rules.Refusal.{Refusal}
use Rattle.vala_tree.specs.declared.member.FileTree.{FileTree}
use Rattle.vala_file_grammar.specs.FileAnswer.{Answers, most_bytes, too_large}

-- the most files
abbrev pub most_files : ℕ
most_files = 64

-- each of these is a file of the grammar, with its tree; the first has this number
pub data AreFiles : ℕ → List (List ℕ) → List FileTree → Type 0 where
  no_file : (number : ℕ) → AreFiles number [] []
  a_file : (number : ℕ) (bytes : List ℕ) (files : List (List ℕ)) (tree : FileTree) (trees : List FileTree) → Answers bytes number (Ok tree) → AreFiles (suc number) files trees
      → AreFiles number (bytes ∷ files) (tree ∷ trees)

-- the refusal of one file too many
abbrev pub too_many : Refusal
too_many = record { rule = M2; phase = 1; span = record { file = most_files; start = 0; «end» = 0 } }

-- that of the file behind the most, which is too large or one too many
abbrev pub behind_most : List ℕ → Refusal
behind_most bytes = if nat_lt most_bytes (length bytes) then too_large most_files else too_many

-- The refusal of a text stands in the first file that has a fault, or in the one behind 64 files without one.
pub data Refuses (files : List (List ℕ)) : Refusal → Type 0 where
  faulty : (front : List (List ℕ)) (trees : List FileTree) (bytes : List ℕ) (behind : List (List ℕ)) (r : Refusal) → files ≡ front ++ bytes ∷ behind → AreFiles 0 front trees → length front < most_files
      → Answers bytes (length front) (Err r) → Refuses files r
  over : (front : List (List ℕ)) (trees : List FileTree) (bytes : List ℕ) (behind : List (List ℕ)) → files ≡ front ++ bytes ∷ behind → AreFiles 0 front trees → length front ≡ most_files
      → Refuses files (behind_most bytes)
