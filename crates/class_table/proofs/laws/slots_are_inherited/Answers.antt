use Rattle.class_table.specs.Trees.{program_of}
use Rattle.class_table.proofs.ChainLemmas.{program_has_numbers}
use Rattle.class_table.proofs.MemberLemmas.{slots_go_down}
use Rattle.class_table.proofs.laws.slots_are_inherited.Goals as goal

pub returns : goal.returns
returns c = λ ns files. slots_go_down (program_of ns files) (program_has_numbers ns files)
