use Rattle.vala_types.proofs.WalkLaws.{IsOnWay}
use Rattle.vala_types.proofs.ties.Ties.is_near.Given as goal

-- it came to the number that it began with, or to a base of it
abbrev pub invariant-loop : goal.invariant-loop
invariant-loop l = IsOnWay l.self l.number l.at
