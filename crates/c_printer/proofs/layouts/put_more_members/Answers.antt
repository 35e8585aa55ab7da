use Rattle.std.proofs.Common.{refl}
use Rattle.c_printer.specs.PutItems.{next_member_marks, more_members_marks}
use Rattle.c_printer.proofs.MarkLemmas.{row_step}
use Rattle.c_printer.proofs.layouts.put_more_members.Goals as goal

pub loop-member-preserved : goal.loop-member-preserved
loop-member-preserved c = row_step next_member_marks more_members_marks (λ x l. refl) c.args.members.now c.loop-member.member-index c.member-item.result _ _ _ c.loop-member-test.true c.member-item.is c.in_ok-put_next_member.ensures c.loop-member.invariant
