use Rattle.symbols.proofs.AddingLemmas.{inner_names_stay}
use Rattle.symbols.proofs.laws.inner_names_stay.Goals as goal

pub returns : goal.returns
returns c = inner_names_stay
