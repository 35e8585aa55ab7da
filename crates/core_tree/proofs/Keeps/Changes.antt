-- What changes keep.
use Rattle.std.proofs.Common.{refl}
use Rattle.std.specs.Prelude.{ℕ, if◌then◌else◌, List, [], ◌∷◌, length, zip, replicate, Option, Some}
use Rattle.vg_base.specs.declared.event.VEnd.TheVariants.{Dead}
use Rattle.vala_types.specs.declared.types.Item.{Item as ElementType}
use Rattle.vala_types.specs.declared.types.VType.{VType}
use Rattle.vala_types.specs.declared.owners.Change.{Change}
use Rattle.vala_types.specs.declared.owners.Change.TheVariants.{Keep, Move, CopyText, CopyArray, CopyStruct, CopyError, AddOwner, NotCopied}
use Rattle.core_tree.specs.declared.program.Core.{Core}
use Rattle.core_tree.specs.State
use Rattle.core_tree.specs.State.{Value, Literal, Arguments, Thing, Message, Cells, Operand, CopyCells, Content, TextOf, ArrayOf, ErrorOf}
use Rattle.core_tree.specs.Places.{Out, quiet, stop, range, held, put, fill, ownable, is_owning_place, next_serial, reads, cannot_be_owned, content_of}
use Rattle.core_tree.specs.Calls.{type_of_item}
use Rattle.core_tree.proofs.Kept.{calm_same, keeps_still, keeps_test, keeps_next}
use Rattle.core_tree.proofs.Keeps.Endings.{keeps-release_still, keeps-filled}
use Rattle.core_tree.proofs.Owned.{carries_put, carries_fill, takes_nil, tested_lives}
use Rattle.core_tree.proofs.Moved.{takes_empty_places, takes_copied_cells, carries_owned}
use Rattle.std.proofs.Common.{◌≡◌, true, refl}
use Rattle.core_tree.proofs.Keeps.Places.{keeps-unless}
use Rattle.core_tree.specs.Changes.{bytes_of, give_text, unless_null, copy_text, copy_error_in, copy_error, cells_in, empty_array, copy_array_of, copy_array_in, copy_array, copy_struct_at, copy_struct, add_owner, change, cell_text, cell_array, cell_thing, copy_value, copy_cell}
use Rattle.core_tree.proofs.Kept.{Keeps}
use Rattle.core_tree.proofs.Keeps.{steps, plain_rules}
use Rattle.core_tree.proofs.Keeps.Places.{keeps-give_made, keeps-unless}

ruleset rules_here = (steps, takes_copied_cells)

pub keeps-give_text : (s : State.State) (bytes : List ℕ) → Keeps 1 [] s (give_text s bytes)
keeps-give_text s bytes = search (rules_here, keeps-give_made) depth 14

pub keeps-unless_null : (s : State.State) (v : Value) (o : Out) → Keeps 1 [] s o → Keeps 1 [] s (unless_null s v o)
keeps-unless_null s v o h2 = search rules_here depth 14

pub keeps-copy_text : (s : State.State) (v : Value) → Keeps 1 [] s (copy_text s v)
keeps-copy_text s v = search (rules_here, keeps-unless_null, keeps-unless, keeps-give_text) depth 14

pub keeps-copy_error_in : (s : State.State) (x1 : Option Content) → Keeps 1 [] s (copy_error_in s x1)
keeps-copy_error_in s (Some (ErrorOf domain code message)) = search (rules_here, keeps-give_made) depth 14
keeps-copy_error_in s x1 = search rules_here depth 14

pub keeps-copy_error : (s : State.State) (v : Value) → Keeps 1 [] s (copy_error s v)
keeps-copy_error s v = search (rules_here, keeps-unless_null, keeps-unless, keeps-copy_error_in) depth 14

pub keeps-copy_array_of : (core : Core) (s : State.State) (v : Value) (of : ElementType) (count : ℕ) → Keeps 1 [] s (copy_array_of core s v of count)
keeps-copy_array_of core s v of count = search (rules_here, keeps-give_made) depth 14

pub keeps-copy_array_in : (core : Core) (s : State.State) (v : Value) (x3 : Option Content) → Keeps 1 [] s (copy_array_in core s v x3)
keeps-copy_array_in core s v (Some (ArrayOf of count)) = search (rules_here, keeps-copy_array_of) depth 14
keeps-copy_array_in core s v x3 = search rules_here depth 14

pub keeps-copy_array : (core : Core) (s : State.State) (of : ElementType) (v : Value) → Keeps 1 [] s (copy_array core s of v)
keeps-copy_array core s of (Arguments first count) = search (rules_here, keeps-copy_array_of) depth 14
keeps-copy_array core s of v = search (rules_here, keeps-unless_null, keeps-unless, keeps-copy_array_in) depth 14

pub keeps-copy_struct_at : (core : Core) (s : State.State) (kind : VType) (first : ℕ) → Keeps 1 [] s (copy_struct_at core s kind first)
keeps-copy_struct_at core s kind first = search rules_here depth 14

pub keeps-copy_struct : (core : Core) (s : State.State) (kind : VType) (v : Value) → Keeps 1 [] s (copy_struct core s kind v)
keeps-copy_struct core s kind (Cells first) = search (rules_here, keeps-copy_struct_at) depth 14
keeps-copy_struct core s kind v = search rules_here depth 14

pub keeps-add_owner : (s : State.State) (v : Value) → Keeps 1 [] s (add_owner s v)
keeps-add_owner s v = search (rules_here, keeps-unless_null) depth 14

pub keeps-change : (core : Core) (s : State.State) (x2 : Change) (kind : VType) (o : Operand) → Keeps 1 [] s (change core s x2 kind o)
keeps-change core s Keep kind o = search rules_here depth 14
keeps-change core s Move kind o = search rules_here depth 14
keeps-change core s CopyText kind o = search (rules_here, keeps-copy_text) depth 14
keeps-change core s CopyArray kind o = search (rules_here, keeps-copy_array) depth 14
keeps-change core s CopyStruct kind o = search (rules_here, keeps-copy_struct) depth 14
keeps-change core s CopyError kind o = search (rules_here, keeps-copy_error) depth 14
keeps-change core s AddOwner kind o = search (rules_here, keeps-add_owner) depth 14
keeps-change core s NotCopied kind o = search rules_here depth 14

keeps-cell_text : (s : State.State) (to : ℕ) (bytes : List ℕ) → is_owning_place s to ≡ true → Keeps 1 [] s (cell_text s to bytes)
keeps-cell_text s to bytes e = keeps-filled s (TextOf bytes) [] to e (takes_nil s.things)

keeps-cell_array : (core : Core) (s : State.State) (to : ℕ) (v : Value) (of : ElementType) (count : ℕ) → is_owning_place s to ≡ true → Keeps 1 [] s (cell_array core s to v of count)
keeps-cell_array core s to v of count e =
    keeps_next 1 [] (CopyCells (zip (cells_in s v) (range (length s.places) (length (cells_in s v)))) ∷ []) s _ _ (search plain_rules)
    (keeps-filled s (ArrayOf of count) (empty_array core s of count) to e (takes_empty_places s.things core (Some (next_serial s)) (replicate count (type_of_item of))))

-- a place gets one more owner of what lives
keeps-owner : (s : State.State) (to : ℕ) (v : Value) → Keeps 1 [] s (if cannot_be_owned s v then stop s Dead else quiet (fill s to v))
keeps-owner s to v =
    keeps_test s.things s.places s.work s.parked s.handlers s.last_handler s.sources s.last_source (cannot_be_owned s v) (stop s Dead) (quiet (fill s to v)) (λ e. search rules_here depth 14)
    (λ e. keeps-release_still s (put s to v) (held s to) refl (carries_fill s.things s.places to v (tested_lives s v e)) (calm_same s.work))

keeps-cell_thing : (core : Core) (s : State.State) (to : ℕ) (v : Value) (c : Option Content) → is_owning_place s to ≡ true → Keeps 1 [] s (cell_thing core s to v c)
keeps-cell_thing core s to v (Some (TextOf bytes)) e = keeps-cell_text s to bytes e
keeps-cell_thing core s to v (Some (ErrorOf domain code message)) e = keeps-filled s (ErrorOf domain code message) [] to e (takes_nil s.things)
keeps-cell_thing core s to v (Some (ArrayOf of count)) e = keeps-cell_array core s to v of count e
keeps-cell_thing core s to v c e = keeps-owner s to v

keeps-copy_value : (core : Core) (s : State.State) (to : ℕ) (v : Value) → is_owning_place s to ≡ true → Keeps 1 [] s (copy_value core s to v)
keeps-copy_value core s to (Literal bytes) e = keeps-cell_text s to bytes e
keeps-copy_value core s to (Message t) e = keeps-unless (reads s (Message t ∷ [])) s (cell_text s to (bytes_of s (Message t))) (keeps-cell_text s to (bytes_of s (Message t)) e)
keeps-copy_value core s to (Thing t) e = keeps-cell_thing core s to (Thing t) (content_of s (Thing t)) e
keeps-copy_value core s to v e = keeps-release_still s (put s to (ownable s v)) (held s to) refl (carries_owned s to v) (calm_same s.work)

pub keeps-copy_cell : (core : Core) (s : State.State) (from to : ℕ) → Keeps 1 [] s (copy_cell core s from to)
keeps-copy_cell core s from to =
    keeps_test s.things s.places s.work s.parked s.handlers s.last_handler s.sources s.last_source (is_owning_place s to) (copy_value core s to (held s from)) (quiet (put s to (held s from))) (λ e. keeps-copy_value core s to (held s from) e)
    (λ e. keeps_still s (put s to (held s from)) refl (carries_put s.things s.places to (held s from) e) (calm_same s.work))
