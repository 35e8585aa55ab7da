-- What an answer says of the words.
use Rattle.std.specs.Prelude.{◌≡◌, true, false, List, map, Option, Some, None, Result, Ok, Err, String, ⊤}
use Rattle.std.specs.Option.{option_map}
use Rattle.std.specs.declared.alloc.Global.{Global}
use Rattle.std.specs.String.{string_bytes}
use Rattle.vg_base.specs.declared.event.Fault.{Fault}
use Rattle.vg_base.specs.declared.event.Fault.TheVariants.{Refused, Memory}
use Rattle.clap.specs.Words.{Text, found_of, rows_of}
use Rattle.clap.specs.declared.parser.matches.ArgMatches.{ArgMatches}
use Rattle.command_line.specs.declared.choice.Usage.{Usage}
use Rattle.command_line.specs.declared.asked.Asked.{Asked}
use Rattle.command_line.specs.Line.{faults, found_in}
use Rattle.command_line.specs.Meaning.{Meaning, is_flawless}

-- what a value of the program asks for
abbrev pub meaning_of : Asked → Meaning
meaning_of a = record {
  command = a.command;
  files = map string_bytes a.files.items;
  name = string_bytes a.name;
  input = option_map string_bytes a.input;
  steps = a.steps;
  strict_null = a.strict_null;
  trace = a.trace;
  live = a.live;
}

-- The answer is this meaning. It is refused exactly where there is none, and want of memory says nothing.
abbrev pub Means : Option Meaning → Result Asked (Fault Usage) → Type 0
Means meaning (Ok asked) = meaning ≡ Some (meaning_of asked)
Means meaning (Err (Refused usage)) = meaning ≡ None
Means meaning (Err Memory) = ⊤

-- the same of a name
abbrev pub Names : Option Text → Result (String Global) (Fault Usage) → Type 0
Names name (Ok text) = name ≡ Some (string_bytes text)
Names name (Err (Refused usage)) = name ≡ None
Names name (Err Memory) = ⊤

-- the same of what `clap` finds in words
abbrev pub Finds : List Text → Result ArgMatches (Fault Usage) → Type 0
Finds words (Ok matches) = (is_flawless (faults words) ≡ true) × (rows_of (found_of matches) ≡ found_in words)
Finds words (Err (Refused usage)) = is_flawless (faults words) ≡ false
Finds words (Err Memory) = ⊤
