-- What reading and storing keep.
use Rattle.std.proofs.Common.{refl}
use Rattle.std.specs.Prelude.{ℕ, Bool, true, false, [], ◌∷◌, Option, Some, None}
use Rattle.vala_types.specs.declared.types.VType.{VType}
use Rattle.core_tree.specs.declared.program.Core.{Core}
use Rattle.core_tree.specs.declared.types.Accessor.{Accessor}
use Rattle.core_tree.specs.declared.types.Accessor.TheVariants as access
use Rattle.core_tree.specs.declared.types.CoreProperty.{CoreProperty}
use Rattle.core_tree.specs.State
use Rattle.core_tree.specs.State.{Value, Null, Operand, Owned, OwnedCells, PropertyOf, ChangeTop, Notify}
use Rattle.core_tree.specs.Places.{Out, quiet, next, cells_of, give_owned, range, held, put, ownable, is_owning_place, release, value_of, Found}
use Rattle.core_tree.specs.Calls.{find_target, used, is_struct}
use Rattle.core_tree.proofs.Kept.{calm_same, keeps_still, keeps_test, keeps_behind, keeps_next, keeps_either}
use Rattle.core_tree.proofs.Keeps.Endings.{keeps-release_still}
use Rattle.core_tree.proofs.Owned.{carries_put}
use Rattle.core_tree.proofs.Moved.{carries_carried, carries_stored, carries_owned, carries_exchanged, carries_taken}
use Rattle.core_tree.proofs.Keeps.Invoke.{keeps-call_method, keeps-with_found}
use Rattle.core_tree.specs.Storing.{read, change_into, copied_if, no_property, get_by, get_in, get_reached, get_property, read_target, left_empty, store_at, set_automatic, set_found, set_by, set_in, set_reached, set_property, store, take_struct, take_at, take_from}
use Rattle.core_tree.proofs.Kept.{Keeps}
use Rattle.core_tree.proofs.Keeps.{steps, plain_rules}
use Rattle.core_tree.proofs.Keeps.Invoke.{keeps-call_method, keeps-with_found}
use Rattle.core_tree.proofs.Keeps.Places.{keeps-unless}

ruleset rules_here = (steps)

pub keeps-read : (s : State.State) (kind : VType) (f : Found) → Keeps 1 [] s (read s kind f)
keeps-read s kind f = search (rules_here, keeps-with_found) depth 14

pub keeps-copied_if : (s : State.State) (b : Bool) (kind : VType) (o : Out) → Keeps 1 [] s o → Keeps 1 [] s (copied_if b kind o)
keeps-copied_if s true kind o h = keeps_next 1 [] (ChangeTop (change_into (record kind { owned = true })) kind ∷ []) s o.0 o.1 (search plain_rules) h
keeps-copied_if s false kind o h = h

pub keeps-no_property : (s : State.State) (v : Value) → Keeps 1 [] s (no_property s v)
keeps-no_property s v = search (rules_here, keeps-unless) depth 14

pub keeps-get_by : (core : Core) (s : State.State) (p : CoreProperty) (v : Value) (x4 : Accessor) → Keeps 1 [] s (get_by core s p v x4)
keeps-get_by core s p v (access.Automatic cell) = search (rules_here, keeps-copied_if, keeps-read) depth 14
keeps-get_by core s p v (access.Written m) = search (rules_here, keeps-call_method) depth 14
keeps-get_by core s p v access.Missing = search (rules_here, keeps-no_property) depth 14

pub keeps-get_in : (core : Core) (s : State.State) (v : Value) (x3 : Option CoreProperty) → Keeps 1 [] s (get_in core s v x3)
keeps-get_in core s v None = search (rules_here, keeps-no_property) depth 14
keeps-get_in core s v (Some p) = search (rules_here, keeps-get_by) depth 14

pub keeps-get_reached : (core : Core) (s : State.State) (v : Value) (n : ℕ) (x4 : Option CoreProperty) → Keeps 1 [] s (get_reached core s v n x4)
keeps-get_reached core s v n None = search (rules_here, keeps-no_property) depth 14
keeps-get_reached core s v n (Some p) = search (rules_here, keeps-get_in) depth 14

pub keeps-get_property : (core : Core) (s : State.State) (v : Value) (n : ℕ) → Keeps 1 [] s (get_property core s v n)
keeps-get_property core s v n = search (rules_here, keeps-get_reached) depth 14

pub keeps-read_target : (core : Core) (s : State.State) (kind : VType) (target : Operand) → Keeps 1 [] s (read_target core s kind target)
keeps-read_target core s kind (PropertyOf o n) = search (rules_here, keeps-get_property) depth 14
keeps-read_target core s kind target = search (rules_here, keeps-read) depth 14

pub keeps-store_at : (s : State.State) (n : ℕ) (o : Operand) → Keeps 1 [] s (store_at s n o)
keeps-store_at s n (OwnedCells first count) =
    keeps_still s (store_at s n (OwnedCells first count)).0 refl (carries_exchanged s (range n count) (range first count)) (search rules_here depth 14)
keeps-store_at s n (Owned m) =
    keeps_test s.things s.places s.work s.parked s.handlers s.last_handler s.sources s.last_source (is_owning_place s n) (quiet (release (put (left_empty s (Owned m)) n (ownable s (held s m))) (held s n))) (quiet (put s n (held s m)))
    (λ e. keeps-release_still s (put (left_empty s (Owned m)) n (ownable s (held s m))) (held s n) refl (carries_stored s n m e) (calm_same s.work))
    (λ e. keeps_still s (put s n (held s m)) refl (carries_put s.things s.places n (held s m) e) (calm_same s.work))
keeps-store_at s n o =
    keeps_test s.things s.places s.work s.parked s.handlers s.last_handler s.sources s.last_source (is_owning_place s n) (quiet (release (put (left_empty s o) n (ownable s (value_of s o))) (held s n))) (quiet (put s n (value_of s o)))
    (λ e. keeps-release_still s (put (left_empty s o) n (ownable s (value_of s o))) (held s n) refl (carries_owned s n (value_of s o)) (calm_same s.work))
    (λ e. keeps_still s (put s n (value_of s o)) refl (carries_put s.things s.places n (value_of s o) e) (calm_same s.work))

pub keeps-set_automatic : (s : State.State) (p : CoreProperty) (number : ℕ) (v : Value) (cell : ℕ) (new : Value) → Keeps 1 [] s (set_automatic s p number v cell new)
keeps-set_automatic s p number v cell new = search rules_here depth 14

pub keeps-set_found : (s : State.State) (p : CoreProperty) (number : ℕ) (v : Value) (new : Value) (f : Found) → Keeps 1 [] s (set_found s p number v new f)
keeps-set_found s p number v new f = search (rules_here, keeps-with_found, keeps-unless, keeps-set_automatic) depth 14

pub keeps-set_by : (core : Core) (s : State.State) (p : CoreProperty) (number : ℕ) (v : Value) (new : Operand) (by : Accessor) → Keeps 1 [] s (set_by core s p number v new by)
keeps-set_by core s p number v new (access.Automatic cell) = search (rules_here, keeps-set_found) depth 14
keeps-set_by core s p number v new (access.Written m) =
    keeps_behind 1 [] (Notify v number ∷ []) s _ _ (search plain_rules) (keeps-call_method core (next (Notify v number ∷ []) s) (used s v ∷ []) v (new ∷ []) m)
keeps-set_by core s p number v new access.Missing = search (rules_here, keeps-no_property) depth 14

pub keeps-set_in : (core : Core) (s : State.State) (number : ℕ) (v : Value) (new : Operand) (x5 : Option CoreProperty) → Keeps 1 [] s (set_in core s number v new x5)
keeps-set_in core s number v new None = search (rules_here, keeps-no_property) depth 14
keeps-set_in core s number v new (Some p) = search (rules_here, keeps-set_by) depth 14

pub keeps-set_reached : (core : Core) (s : State.State) (v : Value) (n : ℕ) (new : Operand) (x5 : Option CoreProperty) → Keeps 1 [] s (set_reached core s v n new x5)
keeps-set_reached core s v n new None = search (rules_here, keeps-no_property) depth 14
keeps-set_reached core s v n new (Some p) = search (rules_here, keeps-set_in) depth 14

pub keeps-set_property : (core : Core) (s : State.State) (v : Value) (n : ℕ) (new : Operand) → Keeps 1 [] s (set_property core s v n new)
keeps-set_property core s v n new = search (rules_here, keeps-set_reached) depth 14

pub keeps-store : (core : Core) (s : State.State) (target : Operand) (new : Operand) → Keeps 1 [] s (store core s target new)
keeps-store core s (PropertyOf o n) new = search (rules_here, keeps-set_property) depth 14
keeps-store core s target o = search (rules_here, keeps-with_found, keeps-store_at) depth 14

pub keeps-take_at : (core : Core) (s : State.State) (kind : VType) (n : ℕ) → Keeps 1 [] s (quiet (take_at core s kind n))
keeps-take_at core s kind n =
    keeps_either s.things s.places s.work s.parked s.handlers s.last_handler s.sources s.last_source (is_struct kind.shape) (take_struct s (cells_of core kind) n) (give_owned (put s n Null) (ownable s (held s n))) []
    (keeps_still s (take_struct s (cells_of core kind) n) refl (carries_taken s (cells_of core kind) n) (calm_same s.work))
    (keeps_still s (give_owned (put s n Null) (ownable s (held s n))) refl (carries_carried s n) (calm_same s.work))

pub keeps-take_from : (core : Core) (s : State.State) (kind : VType) (target : Operand) → Keeps 1 [] s (take_from core s kind target)
keeps-take_from core s kind target = keeps-with_found s (find_target core s target) _ (λ n. keeps-take_at core s kind n)
