use Rattle.std.proofs.Common.{◌≡◌, drop}
use Rattle.vala_types.specs.Walk.{IsCounted, add_all}
use Rattle.vala_types.proofs.walk.Found.add_all.Given as goal

-- those that are left give what all of them give
abbrev pub invariant-loop-number : goal.invariant-loop-number
invariant-loop-number l = IsCounted l.self × (add_all (drop l.number-index l.numbers) l.self ≡ add_all l.fn.numbers l.fn.self)
