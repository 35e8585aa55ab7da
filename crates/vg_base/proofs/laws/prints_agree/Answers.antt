use Rattle.vg_base.specs.World.{Mates}
use Rattle.vg_base.specs.Headline.{events}
use Rattle.vg_base.specs.Laws.{printed_by}
use Rattle.vg_base.proofs.RunLaws.{cut_agrees}
use Rattle.vg_base.proofs.HeadlineLaws.{events_append, printed_by_append}
use Rattle.vg_base.proofs.laws.prints_agree.Goals as goal

pub returns-clause-traces : goal.returns-clause-traces
returns-clause-traces c = λ l X Y. cut_agrees Mates l X Y events events_append

pub returns-clause-prints : goal.returns-clause-prints
returns-clause-prints c = λ s l X Y. cut_agrees Mates l X Y (printed_by s) (printed_by_append s)

pub returns-clause-parts : goal.returns-clause-parts
returns-clause-parts c = λ part h l X Y. cut_agrees Mates l X Y part h
