-- A reader is the walk of its form.
use Rattle.std.proofs.Common.{◌≡◌, ℕ, List}
use Rattle.predictive_grammar.specs.Steps.{Limits}
use Rattle.predictive_grammar.specs.Reading.{walk}
use Rattle.predictive_grammar.proofs.Law as law
use Rattle.c_tree.specs.Words.{Token}
use Rattle.c_grammar.specs.Parts.{Part}
use Rattle.c_grammar.specs.Grammar.{C, forms}
use Rattle.c_grammar.specs.Tables.{tables}
use Rattle.c_grammar.specs.Laws.{c_reader}
use Rattle.c_grammar.proofs.Predictive.{predictive}

-- a reader takes its form from left to right, by the readers of the parts in it
pub reader_unfolds : (limits : Limits) (p : Part) (level : ℕ) (input : List Token) → c_reader limits p level input ≡ walk C (c_reader limits) limits p (forms p) level input
reader_unfolds limits p level input = law.reader_law C forms tables predictive limits p level input
