use Rattle.std.proofs.Common.{◌∙◌, sym, rules, tests}
use Rattle.std.specs.String.{string_bytes}
use Rattle.std.proofs.lemmas.Iterator.{YieldsList-from_slice}
use Rattle.std.proofs.lemmas.Iterator.Search.{all_from_yields_List}
use Rattle.std.proofs.lemmas.List.Folds.{list_all-map}
use Rattle.command_line.specs.Meaning.{has_bytes}
use Rattle.command_line.proofs.asked.are_words.Goals as goal

pub returns : goal.returns
returns c =
    all_from_yields_List (λ file. has_bytes (string_bytes file)) _ _ _ c.all.ensures.ran
    (YieldsList-from_slice c.args.files.now (cc)) (λ x b q k. search (rules, tests))
    ∙ sym (list_all-map has_bytes string_bytes c.args.files.now)
