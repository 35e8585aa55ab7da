use Rattle.vala_types.proofs.WalkLaws.{IsWalk}
use Rattle.vala_types.proofs.ties.Ties.is_reached.Given as goal

-- what is listed is on the way, and the bases of those that were looked at are passed
abbrev pub invariant-loop-at : goal.invariant-loop-at
invariant-loop-at l = IsWalk l.self l.number l.base l.found l.at
