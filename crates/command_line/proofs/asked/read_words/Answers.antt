use Rattle.std.proofs.Common.{map, subst, Option}
use Rattle.std.specs.String.{string_bytes}
use Rattle.clap.specs.Words.{found_of, rows_of}
use Rattle.command_line.specs.Answers.{Means}
use Rattle.command_line.specs.Given.{gift_of}
use Rattle.command_line.specs.Meaning.{Meaning}
use Rattle.command_line.proofs.FromClap.{asked}
use Rattle.command_line.proofs.asked.read_words.Goals as goal

pub returns-in-Ok : goal.returns-in-Ok
returns-in-Ok c =
    let words = map string_bytes c.args.words.now in
    let rows = rows_of (found_of c.in_ok-matches.matches) in
    let found = c.in_ok-matches.ensures in
    subst (λ (meaning : Option Meaning). Means meaning c.ask_given.result)
    (asked words rows (gift_of c.in-Ok.given) found.0 found.1 c.in-Ok.ensures) c.ask_given.ensures
