use Rattle.std.proofs.Common.{◌≡◌, drop}
use Rattle.c_printer.specs.Text.{seen}
use Rattle.c_printer.specs.Marks.{put_marks}
use Rattle.c_printer.specs.PutItems.{more_members_marks}
use Rattle.c_printer.proofs.layouts.put_more_members.Given as goal

abbrev pub invariant-loop-member : goal.invariant-loop-member
invariant-loop-member l = put_marks (seen l.out) (more_members_marks (drop l.member-index l.members)) ≡ put_marks (seen l.initial.out) (more_members_marks l.members)
