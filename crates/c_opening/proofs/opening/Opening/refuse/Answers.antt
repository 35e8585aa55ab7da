-- The run ends.
use Rattle.std.proofs.Common.{sym, subst}
use Rattle.c_opening.specs.Opens.{Refusing}
use Rattle.c_opening.proofs.Shown.{ended}
use Rattle.c_opening.proofs.opening.Opening.refuse.Goals as goal

pub returns-in-Refused : goal.returns-in-Refused
returns-in-Refused c =
    subst (λ f. Refusing f c.args.self.now (record c.args.self.now { run = c.undefined.new.self })) (sym c.in-Refused.is)
    (ended c.args.self.now c.undefined.new.self c.in-Refused.kind c.undefined.ensures.shows)
