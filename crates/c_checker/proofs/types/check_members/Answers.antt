use Rattle.std.proofs.Common.{refl, [], ◌∷◌}
use Rattle.c_tree.specs.declared.unit.Member.{Member}
use Rattle.c_tree.specs.Env.{Env}
use Rattle.c_tree.specs.Rules.{twice_here}
use Rattle.c_tree.specs.Unit.{member_faults, with_members}
use Rattle.c_value_checker.specs.Seen.{seen}
use Rattle.c_checker.proofs.Steps.{faults_step, names_step}
use Rattle.c_checker.proofs.types.check_members.Goals as goal

pub loop-member-preserved : goal.loop-member-preserved
loop-member-preserved c = record {
  names = names_step (λ (d : Env) (m : Member). with_members d (m ∷ [])) with_members (λ d x l. refl) c.args.members.now c.loop-member.member-index c.member-item.result (seen c.loop-member.environment) (seen c.check_member.new.environment) _
      c.loop-member-test.true c.member-item.is c.in_ok-check_member.ensures.names c.loop-member.invariant.names;
  faults = faults_step (λ (d : Env) (m : Member). with_members d (m ∷ [])) (λ (d : Env) (m : Member). twice_here d m.name) member_faults (λ d x l. refl) c.args.members.now c.loop-member.member-index c.member-item.result (seen c.loop-member.environment) (seen c.check_member.new.environment) c.loop-member.findings c.check_member.new.findings _
      c.loop-member-test.true c.member-item.is c.in_ok-check_member.ensures.names c.in_ok-check_member.ensures.faults c.loop-member.invariant.faults;
}
