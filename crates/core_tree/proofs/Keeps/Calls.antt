-- What arguments keep.
use Rattle.std.proofs.Common.{refl}
use Rattle.std.specs.Prelude.{ℕ, suc, ◌+◌, false, List, [], ◌∷◌, ◌++◌, length, Option, None}
use Rattle.vala_types.specs.declared.types.VType.{VType}
use Rattle.core_tree.specs.declared.program.Core.{Core}
use Rattle.core_tree.specs.declared.lambda.CoreParameter.{CoreParameter}
use Rattle.core_tree.specs.declared.lambda.Mode.{Mode}
use Rattle.core_tree.specs.declared.lambda.Mode.TheVariants as mode
use Rattle.core_tree.specs.declared.lambda.Locals.{Locals}
use Rattle.core_tree.specs.State
use Rattle.core_tree.specs.State.{Value, Place, Operand}
use Rattle.core_tree.specs.Places.{cells_of, empty_places}
use Rattle.core_tree.proofs.Owned.{Carries, takes_item}
use Rattle.core_tree.proofs.Moved.{takes_empty_places, fills_unowning, carries_moved, lands_more, lands_arranged}
use Rattle.core_tree.proofs.Kept.{plain_nil, plain_append}
use Rattle.core_tree.specs.Calls.{find_target, place_found, clears, cells_before, with_parameter, arrange, open_frame, Arranged}
use Rattle.core_tree.proofs.Kept.{Plain}
use Rattle.core_tree.proofs.Keeps.{steps, plain_rules}

pub plain-clears : (n : ℕ) (x1 : List VType) → Plain (clears n x1)
plain-clears n [] = search plain_rules depth 14
plain-clears n (kind ∷ kinds) = search (plain_rules, (plain-clears (suc n) kinds)) depth 14

ruleset rules_here = (steps, plain-clears)

-- what the arguments of a call clear ends nothing
plain-with_parameter : (core : Core) (s : State.State) (n : ℕ) (p : CoreParameter) (m : Mode) (o : Operand) (rest : Arranged) → Plain rest.cleared → Plain (with_parameter core s n p m o rest).cleared
plain-with_parameter core s n p mode.Value o rest h = h
plain-with_parameter core s n p mode.Ref o rest h = h
plain-with_parameter core s n p mode.Out o rest h = plain_append (clears (place_found (find_target core s o)) (cells_of core p.kind)) rest.cleared (plain-clears (place_found (find_target core s o)) (cells_of core p.kind)) h

pub plain-arrange : (core : Core) (s : State.State) (n : ℕ) (ps : List CoreParameter) (os : List Operand) → Plain (arrange core s n ps os).cleared
plain-arrange core s n [] os = plain_nil
plain-arrange core s n (p ∷ ps) [] = plain_nil
plain-arrange core s n (p ∷ ps) (o ∷ os) = plain-with_parameter core s n p p.mode o (arrange core s (n + cells_before core p p.mode) ps os) (plain-arrange core s (n + cells_before core p p.mode) ps os)

-- the places of a frame that is opened
pub carries-opened : (core : Core) (s : State.State) (locals : Locals) (this target : Value) (activation : Option ℕ) (os : List Operand) → Carries None s.things s.places (open_frame core s locals this target activation os).state.places
carries-opened core s locals this target activation os =
    let a : Arranged = arrange core s (length s.places) locals.parameters os in
    let p : Place = record { owning = false; holds = this; within = None } in
    let qs : List Place = empty_places core None (locals.result ∷ locals.others) in
    carries_moved s a.left (a.places ++ p ∷ qs) (
    lands_more s a.left a.places (p ∷ qs) (lands_arranged core s (length s.places) locals.parameters os)
    (takes_item s.things p qs (fills_unowning s.things p refl) (takes_empty_places s.things core None (locals.result ∷ locals.others)))
    )
