use Rattle.std.proofs.Common.{◌∙◌, sym, rules, tests, List, ℕ, Bool, not}
use Rattle.std.specs.Str.{bytes_eq}
use Rattle.std.specs.String.{string_bytes}
use Rattle.std.proofs.lemmas.Iterator.{YieldsList-from_slice}
use Rattle.std.proofs.lemmas.Iterator.Search.{all_from_yields_List}
use Rattle.std.proofs.lemmas.List.Folds.{list_all-map}
use Rattle.command_line.proofs.name.is_none_of.Goals as goal

abbrev is_other : List ℕ → List ℕ → Bool
is_other name word = not (bytes_eq word name)

pub returns : goal.returns
returns c =
    all_from_yields_List (λ word. is_other c.args.name.now (string_bytes word)) _ _ _ c.all.ensures.ran
    (YieldsList-from_slice c.args.words.now (cc)) (λ x b q k. search (rules, tests))
    ∙ sym (list_all-map (is_other c.args.name.now) string_bytes c.args.words.now)
