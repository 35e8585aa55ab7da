use Rattle.class_table.specs.Trees.{program_of}
use Rattle.class_table.proofs.ChainLemmas.{chain_is_distinct, chain_is_computed, computed_is_chain, program_has_numbers}
use Rattle.class_table.proofs.laws.base_classes_end.Goals as goal

pub returns-clause-distinct : goal.returns-clause-distinct
returns-clause-distinct c = chain_is_distinct

pub returns-clause-computed : goal.returns-clause-computed
returns-clause-computed c = λ ns files. chain_is_computed (program_of ns files) (program_has_numbers ns files)

pub returns-clause-ended : goal.returns-clause-ended
returns-clause-ended c = λ ns files free. computed_is_chain (program_of ns files) (program_has_numbers ns files) free
