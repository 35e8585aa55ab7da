use Rattle.std.proofs.Common.{◌≡◌, drop}
use Rattle.c_tree.specs.Unit.{member_faults, with_members}
use Rattle.c_value_checker.specs.Noted.{noted}
use Rattle.c_value_checker.specs.Seen.{seen}
use Rattle.c_checker.proofs.types.check_members.Given as goal

abbrev pub invariant-loop-member : goal.invariant-loop-member
invariant-loop-member l = record {
  names : with_members (seen l.environment) (drop l.member-index l.members) ≡ with_members (seen l.fn.environment) l.members;
  faults : noted l.findings (member_faults (seen l.environment) (drop l.member-index l.members)) ≡ noted l.fn.findings (member_faults (seen l.fn.environment) l.members);
}
