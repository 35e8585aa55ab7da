-- What the words give: the command, the files and the options.
use Rattle.std.specs.Prelude.{Bool, false, if◌then◌else◌, List, [], codes, unwrap_or, Option, Some, None, option_map, option_and_then, map}
use Rattle.std.specs.Str.{bytes_eq}
use Rattle.std.specs.String.{string_bytes}
use Rattle.clap.specs.Words.{Row, Text, all_of, first_of}
use Rattle.command_line.specs.declared.choice.Command.{Command}
use Rattle.command_line.specs.declared.choice.Command.TheVariants.{Check, Emit, Run, Exec}
use Rattle.command_line.specs.declared.given.Given.{Given}

-- the command that a word names
abbrev pub command_of : Text → Option Command
command_of word =
    if bytes_eq word (codes "check") then Some Check
    else if bytes_eq word (codes "emit") then Some Emit
    else if bytes_eq word (codes "run") then Some Run
    else if bytes_eq word (codes "exec") then Some Exec
    else None

-- what words give
pub record Gift : Type 0 where
  pub command : Option Command
  pub files : List Text
  pub name : Option Text
  pub input : Option Text
  pub steps : Option Text
  pub strict_null : Bool
  pub trace : Bool
  pub live : Bool

-- the value of an option, or of the one word at a place
abbrev pub value_at : List Row → Text → Option Text
value_at rows id = first_of id rows

-- the values of all the words at a place
abbrev pub values_at : List Row → Text → List Text
values_at rows id = unwrap_or (all_of id rows) []

-- an option without a value has the text `true` where it is given
abbrev pub is_true : Option Text → Bool
is_true None = false
is_true (Some text) = bytes_eq text (codes "true")

-- what words give, by what `clap` finds in them
abbrev pub given_by : List Row → Gift
given_by rows = record {
  command = option_and_then command_of (value_at rows (codes "command"));
  files = values_at rows (codes "files");
  name = value_at rows (codes "name");
  input = value_at rows (codes "input");
  steps = value_at rows (codes "steps");
  strict_null = is_true (value_at rows (codes "strict-null"));
  trace = is_true (value_at rows (codes "trace"));
  live = is_true (value_at rows (codes "live"));
}

-- what a value of the program holds
abbrev pub gift_of : Given → Gift
gift_of g = record {
  command = g.command;
  files = map string_bytes g.files.items;
  name = option_map (λ t. t.now) g.name;
  input = option_map (λ t. t.now) g.input;
  steps = option_map (λ t. t.now) g.steps;
  strict_null = g.strict_null;
  trace = g.trace;
  live = g.live;
}
