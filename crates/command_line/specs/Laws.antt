-- What holds of all that words ask for.
use Rattle.std.specs.Prelude.{◌≡◌, ◌≢◌, ◌≤◌, true, List, length, Some}
use Rattle.std.specs.List.{AllByRecursion}
use Rattle.vg_base.specs.World.{IsName}
use Rattle.clap.specs.Words.{Text}
use Rattle.command_line.specs.Meaning.{Meaning, asked_of, most_files, most_steps, writes}
use Rattle.command_line.specs.Names.{c_file}

-- there are files, and no more than the command takes; the name is one; the steps are not too many; no file is the C file that would be written
pub record IsInBounds (m : Meaning) : Type 0 where
  pub some : 1 ≤ length m.files
  pub few : length m.files ≤ most_files m.command
  pub name : IsName m.name
  pub steps : m.steps ≤ most_steps
  pub kept : writes m.command ≡ true → AllByRecursion (λ file. file ≢ c_file m.name) m.files

-- what words ask for is in bounds
abbrev pub AskInBounds : Type 0
AskInBounds = (words : List Text) (m : Meaning) → asked_of words ≡ Some m → IsInBounds m
