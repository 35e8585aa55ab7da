use Rattle.std.proofs.Common.{◌∙◌, ap, codes, map, List, ℕ, [], Option}
use Rattle.std.specs.Prelude.{unwrap_or}
use Rattle.std.specs.String.{string_bytes}
use Rattle.std.proofs.lemmas.Result.{IfOk-weaker}
use Rattle.clap.specs.Words.{found_of}
use Rattle.clap.proofs.WalkLemmas.{raw_values-rows}
use Rattle.command_line.proofs.given.files_in.Goals as goal

abbrev words_or_none : Option (List (List ℕ)) → List (List ℕ)
words_or_none words = unwrap_or words []

pub returns-in-Some : goal.returns-in-Some
returns-in-Some c =
    let found = c.in-Some.ensures ∙ raw_values-rows (found_of c.args.matches.now) (codes "files") in
    IfOk-weaker c.copy_all.result _ _ (λ files copied. copied ∙ ap words_or_none found) c.copy_all.ensures

pub returns-in-None : goal.returns-in-None
returns-in-None c =
    let found = c.in-None.ensures ∙ raw_values-rows (found_of c.args.matches.now) (codes "files") in
    ap (map string_bytes) c.new.ensures.items ∙ ap words_or_none found
