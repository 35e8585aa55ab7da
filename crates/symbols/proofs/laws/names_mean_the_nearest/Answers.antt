use Rattle.symbols.proofs.SearchLemmas.{meaning_means, means_meaning}
use Rattle.symbols.proofs.laws.names_mean_the_nearest.Goals as goal

pub returns-clause-means : goal.returns-clause-means
returns-clause-means c = meaning_means

pub returns-clause-meant : goal.returns-clause-meant
returns-clause-meant c = means_meaning
