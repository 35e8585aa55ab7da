-- What the words of a call ask for.
use Rattle.std.specs.Prelude.{ℕ, ◌==◌, Bool, true, false, nat_le, ◌&&◌, ◌||◌, not, if◌then◌else◌, List, [], ◌∷◌, length, Option, Some, None, is_none}
use Rattle.std.specs.List.{list_all}
use Rattle.std.specs.Option.{option_and_then, option_map}
use Rattle.std.specs.Str.{bytes_eq}
use Rattle.std.specs.Str.Parse.{digits_value}
use Rattle.vg_base.specs.World.{is_letter, is_digit, is_word_byte}
use Rattle.clap.specs.Words.{Kinds, Text}
use Rattle.command_line.specs.declared.choice.Command.{Command}
use Rattle.command_line.specs.declared.choice.Command.TheVariants.{Check, Emit, Run, Exec}
use Rattle.command_line.specs.Line.{faults, found_in}
use Rattle.command_line.specs.Names.{name_of, first_word, c_file}
use Rattle.command_line.specs.Given.{Gift, given_by}

-- what is asked for
pub record Meaning : Type 0 where
  pub command : Command
  pub files : List Text
  pub name : Text
  pub input : Option Text
  pub steps : ℕ
  pub strict_null : Bool
  pub trace : Bool
  pub live : Bool

-- the most files of a command: one C file, or 64 Vala files
abbrev pub most_files : Command → ℕ
most_files Exec = 1
most_files command = 64

-- a command has one file at least
abbrev pub is_file_count : Command → ℕ → Bool
is_file_count command count = nat_le 1 count && nat_le count (most_files command)

-- no option of a run is given
abbrev pub takes_no_run : Gift → Bool
takes_no_run g = is_none g.input && is_none g.steps && not g.trace && not g.live

-- the options that are given are the command's own
abbrev pub takes_options : Command → Gift → Bool
takes_options Check g = is_none g.name && takes_no_run g
takes_options Emit g = takes_no_run g
takes_options Run g = true
takes_options Exec g = not g.strict_null

-- a word or a value is not empty
abbrev pub has_bytes : Text → Bool
has_bytes text = not (length text == 0)

-- the file of the input is named by a value that is not empty
abbrev pub is_input : Option Text → Bool
is_input None = true
is_input (Some text) = has_bytes text

-- a letter, and then at most 99 letters, digits and `_`
abbrev pub is_name : Text → Bool
is_name [] = false
is_name (b ∷ bytes) = is_letter b && list_all is_word_byte bytes && nat_le (length bytes) 99

-- the name that is given, or else the one that is made of the first file's word
abbrev pub name_by : Option Text → List Text → Option Text
name_by (Some name) files = if is_name name then Some name else None
name_by None files = Some (name_of (first_word files))

-- the most steps of a run
abbrev pub most_steps : ℕ
most_steps = 100000000000000000

-- 1 to 18 decimal digits of value at most 10^17
abbrev pub is_number : Text → Bool
is_number text = nat_le 1 (length text) && nat_le (length text) 18 && list_all is_digit text && nat_le (digits_value 10 text) most_steps

-- the steps that are given, or else ten million
abbrev pub steps_by : Option Text → Option ℕ
steps_by None = Some 10000000
steps_by (Some text) = if is_number text then Some (digits_value 10 text) else None

-- whether a command writes a C file
abbrev pub writes : Command → Bool
writes Emit = true
writes Run = true
writes command = false

-- no file is the C file that would be written
abbrev pub keeps_files : Command → Text → List Text → Bool
keeps_files command name files = not (writes command) || list_all (λ file. not (bytes_eq file (c_file name))) files

-- the files are as many as the command takes, none has an empty word, and the options are the command's own
abbrev pub fits : Command → Gift → Bool
fits command g = is_file_count command (length g.files) && list_all has_bytes g.files && takes_options command g && is_input g.input

-- the name of the program, where no file is the C file that would be written
abbrev pub checked_name : Command → Gift → Option Text
checked_name command g = option_and_then (λ name. if keeps_files command name g.files then Some name else None) (name_by g.name g.files)

-- what is given to a command is asked for under this name and with these steps
abbrev pub asked_with : Command → Gift → Text → ℕ → Meaning
asked_with command g name steps = record {
  command = command;
  files = g.files;
  name = name;
  input = g.input;
  steps = steps;
  strict_null = g.strict_null;
  trace = g.trace;
  live = g.live;
}

-- what is asked of a command
abbrev pub asked_by : Command → Gift → Option Meaning
asked_by command g =
    if fits command g
    then option_and_then (λ name. option_map (asked_with command g name) (steps_by g.steps)) (checked_name command g)
    else None

-- what is asked for by what is given, or nothing where it is outside the grammar
abbrev pub asked_in : Gift → Option Meaning
asked_in g = option_and_then (λ command. asked_by command g) g.command

-- nothing is wrong
abbrev pub is_flawless : Kinds → Bool
is_flawless [] = true
is_flawless (k ∷ ks) = false

-- What words ask for, or nothing where they are outside the grammar: `clap` finds nothing wrong with them, and what it finds is in order too.
abbrev pub asked_of : List Text → Option Meaning
asked_of words = if is_flawless (faults words) then asked_in (given_by (found_in words)) else None
