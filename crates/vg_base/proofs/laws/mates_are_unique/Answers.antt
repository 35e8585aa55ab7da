use Rattle.vg_base.proofs.EndLaws.{one_vala_mate, one_c_mate, undefined_has_no_mate}
use Rattle.vg_base.proofs.laws.mates_are_unique.Goals as goal

pub returns-clause-vala : goal.returns-clause-vala
returns-clause-vala c = one_vala_mate

pub returns-clause-c : goal.returns-clause-c
returns-clause-c c = one_c_mate

pub returns-clause-undefined : goal.returns-clause-undefined
returns-clause-undefined c = undefined_has_no_mate
