use Rattle.std.proofs.Common.{◌≡◌, drop, map}
use Rattle.c_meaning.specs.Steps.{label_place}
use Rattle.c_resolver.specs.Plans.{label_alone}
use Rattle.c_resolver.proofs.labels.label_place.Given as goal

abbrev pub invariant-loop-place : goal.invariant-loop-place
invariant-loop-place l = label_place l.place l.name (map label_alone (drop l.place l.labels)) ≡ label_place 0 l.name (map label_alone l.labels)
