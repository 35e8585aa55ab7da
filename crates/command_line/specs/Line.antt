-- The words of a call as a command of `clap`: its options, and the words that stand by their places.
use Rattle.std.specs.Prelude.{true, List, [], ◌∷◌, ◌++◌, codes, Some}
use Rattle.clap.specs.Words.{App, Kinds, Row, Rule, Text, fault_of, matches_of, new_rule, with_rule}
use Rattle.clap.specs.Simple.{new_shape}
use Rattle.clap.specs.declared.builder.action.ArgAction.TheVariants.{Append, Set, SetTrue}

-- an option `--ID V`, or `--ID=V`
abbrev pub option : Text → Rule
option id = record (new_rule id) { long = Some id; action = Some Set }

-- an option `--ID`, which takes no value
abbrev pub flag : Text → Rule
flag id = record (new_rule id) { long = Some id; action = Some SetTrue }

-- the first word that stands by its place
abbrev pub command_word : Rule
command_word = record (new_rule (codes "command")) { action = Some Set; required = true }

-- the words behind it that stand by their places
abbrev pub file_words : Rule
file_words = record (new_rule (codes "files")) { action = Some Append; required = true }

-- no option yet; the words begin behind the program's own name, and `--help` is no option
abbrev pub bare_line : App
bare_line = record {
  top = record (new_shape (codes "vala2c")) { no_binary_name = true; disable_help_flag = true };
  subs = [];
}

-- a command with some more rules at its end
abbrev pub with_rules : App → List Rule → App
with_rules app [] = app
with_rules app (rule ∷ rules) = with_rules (with_rule app rule) rules

-- the options with a value
abbrev pub options : List Rule
options = option (codes "name") ∷ option (codes "input") ∷ option (codes "steps") ∷ []

-- the options without a value
abbrev pub flags : List Rule
flags = flag (codes "strict-null") ∷ flag (codes "trace") ∷ flag (codes "live") ∷ []

-- The options, the command's word and the files. An option may stand anywhere in front of a word `--`; behind it each word stands by its place.
abbrev pub line : App
line = with_rules bare_line (options ++ (flags ++ (command_word ∷ file_words ∷ [])))

-- What `clap` finds wrong with the words: an option that is none of these, one that is given twice, a value that is missing or one too many, or no
-- command or no file.
unfoldable pub faults : List Text → Kinds
faults words = fault_of line words

-- what `clap` finds in words with which nothing is wrong: the values of each option and of each place, by its name
unfoldable pub found_in : List Text → List Row
found_in words = matches_of line words
