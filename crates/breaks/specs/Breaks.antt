-- The rules that the files of a program break.
use Rattle.std.specs.Prelude.{ℕ, ◌≤◌, Bool, List, [], ◌∷◌, length}
use Rattle.static_rules.specs.declared.rules.Refusal.{Refusal}
use Rattle.vala_tree.specs.declared.member.FileTree.{FileTree}
use Rattle.breaks.specs.Text.{most_files, AreFiles, Refuses}
use Rattle.breaks.specs.Phases.{broken_by}

-- ALL RULES THAT FILES BREAK, and where, in order: the refusal of their text or, where they are read, what their trees break. They are
-- accepted where the list is empty, and else refused by its first entry.
pub data Breaks (files : List (List ℕ)) (strict : Bool) : List Refusal → Type 0 where
  text : (r : Refusal) → Refuses files r → Breaks files strict (r ∷ [])
  rules : (trees : List FileTree) → AreFiles 0 files trees → length files ≤ most_files → Breaks files strict (broken_by trees strict)
