-- What places and tests keep.
use Rattle.std.specs.Prelude.{List, [], Option, Some, None}
use Rattle.vg_base.specs.declared.event.VEnd.{VEnd}
use Rattle.core_tree.specs.State
use Rattle.core_tree.specs.State.{Place, Content}
use Rattle.core_tree.proofs.Owned.{Takes}
use Rattle.core_tree.specs.Places.{Out, unless, give_made}
use Rattle.core_tree.proofs.Kept.{Keeps}
use Rattle.core_tree.proofs.Keeps.{steps}

ruleset rules_here = (steps)

pub keeps-unless : (x0 : Option VEnd) (s : State.State) (o : Out) → Keeps 1 [] s o → Keeps 1 [] s (unless x0 s o)
keeps-unless None s o h2 = search rules_here depth 14
keeps-unless (Some e) s o h2 = search rules_here depth 14

pub keeps-give_made : (s : State.State) (content : Content) (ps : List Place) → Takes s.things ps → Keeps 1 [] s (give_made s content ps)
keeps-give_made s content ps h = search rules_here depth 14
