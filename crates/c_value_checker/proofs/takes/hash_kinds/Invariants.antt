use Rattle.std.proofs.Common.{◌≡◌, drop}
use Rattle.std.specs.List.{flat_map, fold}
use Rattle.c_value_checker.specs.Takes.{kind_fed}
use Rattle.c_value_checker.proofs.takes.hash_kinds.Given as goal

abbrev pub invariant-loop-kind : goal.invariant-loop-kind
invariant-loop-kind g l = fold g.H.Hasher.write l.state (flat_map kind_fed (drop l.kind-index l.kinds)) ≡ fold g.H.Hasher.write l.initial.state (flat_map kind_fed l.kinds)
