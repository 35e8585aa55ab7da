-- What making objects and ending things keep.
use Rattle.std.proofs.Common.{refl}
use Rattle.std.specs.Prelude.{ℕ, true, List, [], ◌∷◌, ◌++◌, length, Option, Some, None, slice_get}
use Rattle.vala_types.specs.declared.types.VType.{VType}
use Rattle.core_tree.specs.declared.program.Core.{Core}
use Rattle.core_tree.specs.declared.tree.CoreExpr.{CoreExpr}
use Rattle.core_tree.specs.declared.types.ClassInfo.{ClassInfo}
use Rattle.core_tree.specs.declared.types.CoreMethod.{CoreMethod}
use Rattle.core_tree.specs.declared.types.CoreProperty.{CoreProperty}
use Rattle.core_tree.specs.declared.types.Given.{Given as GivenProperty}
use Rattle.core_tree.specs.declared.types.Making.{Making}
use Rattle.core_tree.specs.declared.types.Making.TheVariants as making
use Rattle.core_tree.specs.State
use Rattle.core_tree.specs.State.{Null, Thing, Operand, Frame, Stage, Destructor, Places, Handlers, Last, Handler, Item, Push, SetProperty, End, ObjectOf}
use Rattle.core_tree.specs.Owners.{thing_at}
use Rattle.core_tree.specs.Places.{quiet, stuck, next, empty_places, is_owning_place, next_serial}
use Rattle.core_tree.specs.Calls.{Opening, open_frame, tested}
use Rattle.core_tree.specs.Invoke.{class_info}
use Rattle.core_tree.proofs.Kept.{parts, Calm, calm_same, keeps_still, keeps_test, keeps_next, keeps_from, keeps_if, keeps_ids, keeps_then, ids_of, source_ids_of}
use Rattle.core_tree.proofs.Keeps.Endings.{keeps-give_up, keeps-give_up_still, keeps-went, keeps-filled}
use Rattle.core_tree.proofs.Counts.{ids_same, ids_left, at}
use Rattle.core_tree.proofs.Keeps.Ids.{left-without_place, left-without_object}
use Rattle.core_tree.proofs.Owned.{Carries, carries_same, carries_more, carries_trans, takes_nil, takes_item}
use Rattle.core_tree.proofs.Moved.{takes_empty_places, fills_nothing}
use Rattle.core_tree.specs.State.{Place}
use Rattle.std.proofs.Common.{◌≡◌, true, refl}
use Rattle.vg_base.specs.Headline.{Said}
use Rattle.core_tree.proofs.Counts.{Left}
use Rattle.core_tree.specs.Runs.{by_status, ending_now}
use Rattle.core_tree.proofs.Kept.{plain_nil, plain_item, plain_append, plain_if}
use Rattle.core_tree.proofs.Keeps.Places.{keeps-unless}
use Rattle.core_tree.proofs.Keeps.Calls.{plain-arrange, carries-opened}
use Rattle.core_tree.proofs.Keeps.Invoke.{keeps-call_method}
use Rattle.core_tree.specs.Objects.{begin_creation, new_frame, new_by, new_object, base_by, call_base, evaluations, given_values, beginning, begin_making_by, begin_making, class_cells, class_initials, class_blocks, given_to, default_value, set_default, set_given, set_constructs, class_constructs, is_construct, set_others, object_work, make_object, went, own_places, destroy_by, destroy, owning_handler, without_place, without_object, drop_handlers, is_object_of, behind_places, end_stage}
use Rattle.core_tree.proofs.Kept.{Keeps, IsPlain, Plain}
use Rattle.core_tree.proofs.Keeps.{steps, plain_rules}

pub plain-evaluations : (es : List CoreExpr) → Plain (evaluations es)
plain-evaluations es = search plain_rules depth 14

pub plain-given_values : (x0 : List GivenProperty) → Plain (given_values x0)
plain-given_values [] = search plain_rules depth 14
plain-given_values (g ∷ gs) = search (plain_rules, (plain-given_values gs)) depth 14

pub plain-beginning : (s : State.State) (class : ℕ) (outer : List ℕ) (x3 : Making) → Plain (beginning s class outer x3)
plain-beginning s class outer making.Nothing = search plain_rules depth 14
plain-beginning s class outer (making.Base number arguments at) = search (plain_rules, plain-evaluations) depth 14
plain-beginning s class outer (making.Object givens) = search (plain_rules, plain-given_values) depth 14

pub plain-class_initials : (x0 : Option ClassInfo) → Plain (class_initials x0)
plain-class_initials None = search plain_rules depth 14
plain-class_initials (Some info) = search plain_rules depth 14

pub plain-class_blocks : (x0 : Option ClassInfo) → Plain (class_blocks x0)
plain-class_blocks None = search plain_rules depth 14
plain-class_blocks (Some info) = search plain_rules depth 14

pub plain-default_value : (kind : VType) (es : List CoreExpr) → IsPlain (default_value kind es)
plain-default_value kind [] t = refl
plain-default_value kind (e ∷ es) t = refl

pub plain-set_default : (n : ℕ) (p : Option CoreProperty) → Plain (set_default n p)
plain-set_default n None = plain_nil
plain-set_default n (Some p) = plain_item (default_value p.kind p.default) (SetProperty n ∷ []) (plain-default_value p.kind p.default) (search plain_rules)

pub plain-set_given : (core : Core) (n : ℕ) (x2 : Option Operand) → Plain (set_given core n x2)
plain-set_given core n None = search (plain_rules, plain-set_default) depth 14
plain-set_given core n (Some o) = search plain_rules depth 14

pub plain-set_constructs : (core : Core) (ps : List ℕ) (os : List Operand) (x3 : List ℕ) → Plain (set_constructs core ps os x3)
plain-set_constructs core ps os [] = search plain_rules
plain-set_constructs core ps os (n ∷ ns) = plain_append (set_given core n (given_to n ps os None)) (set_constructs core ps os ns) (plain-set_given core n (given_to n ps os None)) (plain-set_constructs core ps os ns)

pub plain-class_constructs : (core : Core) (ps : List ℕ) (os : List Operand) (x3 : Option ClassInfo) → Plain (class_constructs core ps os x3)
plain-class_constructs core ps os None = search plain_rules depth 14
plain-class_constructs core ps os (Some info) = search (plain_rules, plain-set_constructs) depth 14

pub plain-set_others : (core : Core) (x1 : List ℕ) (os : List Operand) → Plain (set_others core x1 os)
plain-set_others core [] os = search plain_rules
plain-set_others core (p ∷ ps) [] = search plain_rules
plain-set_others core (p ∷ ps) (o ∷ os) =
    plain_if (is_construct (slice_get core.properties p)) (set_others core ps os) (Push o ∷ SetProperty p ∷ set_others core ps os) (plain-set_others core ps os)
    (plain_item (Push o) (SetProperty p ∷ set_others core ps os) (λ t. refl) (plain_item (SetProperty p) (set_others core ps os) (λ t. refl) (plain-set_others core ps os)))

pub plain-object_work : (core : Core) (class : ℕ) (ps : List ℕ) (os : List Operand) → Plain (object_work core class ps os)
plain-object_work core class ps os = search (plain_rules, plain-class_initials, plain-class_constructs, plain-class_blocks, plain-set_others) depth 14

ruleset rules_here = (steps, plain-evaluations, plain-given_values, plain-beginning, plain-class_initials, plain-class_blocks, plain-default_value, plain-set_default, plain-set_given, plain-set_constructs, plain-class_constructs, plain-set_others, plain-object_work)

pub keeps-begin_creation : (s : State.State) (class number : ℕ) (m : CoreMethod) (making : ℕ) (frame : Frame) (o : Opening) → Plain o.cleared → parts o.state.things o.state.parked o.state.handlers o.state.last_handler o.state.sources o.state.last_source ≡ parts s.things s.parked s.handlers s.last_handler s.sources s.last_source → Carries None s.things s.places o.state.places → Calm s.work o.state.work → Keeps 1 [] s (begin_creation s class number m making frame o)
keeps-begin_creation s class number m making frame o p e q c = keeps-unless (tested o.found) s _ (search (rules_here, keeps_still) depth 14)

keeps-new_by : (core : Core) (s : State.State) (class number : ℕ) (os : List Operand) (m : Option CoreMethod) → Keeps 1 [] s (new_by core s class number os m)
keeps-new_by core s class number os None = search rules_here depth 14
keeps-new_by core s class number os (Some m) =
    let making : Place = record { owning = true; holds = Null; within = None } in
    let t : State.State = record s { places = s.places ++ making ∷ [] } in
    let o : Opening = open_frame core t m.locals Null Null None os in
    keeps-begin_creation s class number m (length s.places) (new_frame class (length s.places) o.state.frame) o (plain-arrange core t (length t.places) m.locals.parameters os) refl (carries_trans s.things s.places t.places o.state.places (carries_more None s.things s.places s.places (making ∷ []) (carries_same s.things s.places) (takes_item s.things making [] (fills_nothing s.things making refl) (takes_nil s.things))) (carries-opened core t m.locals Null Null None os)) (calm_same s.work)

pub keeps-new_object : (core : Core) (s : State.State) (class : ℕ) (number : ℕ) (os : List Operand) → Keeps 1 [] s (new_object core s class number os)
keeps-new_object core s class number os = search (rules_here, keeps-new_by) depth 14

keeps-base_by : (core : Core) (s : State.State) (class number : ℕ) (os : List Operand) (m : Option CoreMethod) → Keeps 1 [] s (base_by core s class number os m)
keeps-base_by core s class number os None = search rules_here depth 14
keeps-base_by core s class number os (Some m) =
    let o : Opening = open_frame core s m.locals Null Null None os in
    keeps-begin_creation s class number m s.frame.this (record o.state.frame { this = s.frame.this }) o (plain-arrange core s (length s.places) m.locals.parameters os) refl (carries-opened core s m.locals Null Null None os) (calm_same s.work)

pub keeps-call_base : (core : Core) (s : State.State) (class : ℕ) (number : ℕ) (os : List Operand) → Keeps 1 [] s (call_base core s class number os)
keeps-call_base core s class number os = search (rules_here, keeps-base_by) depth 14

pub keeps-begin_making_by : (s : State.State) (class : ℕ) (x2 : Option CoreMethod) → Keeps 1 [] s (begin_making_by s class x2)
keeps-begin_making_by s class None = search rules_here depth 14
keeps-begin_making_by s class (Some m) = search rules_here depth 14

pub keeps-begin_making : (core : Core) (s : State.State) (class : ℕ) (number : ℕ) → Keeps 1 [] s (begin_making core s class number)
keeps-begin_making core s class number = search (rules_here, keeps-begin_making_by) depth 14

pub keeps-make_object : (core : Core) (s : State.State) (class : ℕ) (ps : List ℕ) (os : List Operand) → Keeps 1 [] s (make_object core s class ps os)
keeps-make_object core s class ps os =
    keeps_test s.things s.places s.work s.parked s.handlers s.last_handler s.sources s.last_source (is_owning_place s s.frame.this) _ (stuck s)
    (λ e. keeps_next 1 [] (object_work core class ps os) s _ _ (plain-object_work core class ps os) (keeps-filled s (ObjectOf class) (empty_places core (Some (next_serial s)) (class_cells (class_info core class))) s.frame.this e (takes_empty_places s.things core (Some (next_serial s)) (class_cells (class_info core class)))))
    (λ e. search rules_here depth 14)

-- one stage of an ending stands for another
calm_end : (t : ℕ) (a b : Stage) (w : List Item) → Calm (End t a ∷ w) (End t b ∷ w)
calm_end t a b w = record { by = λ v. refl }

-- the ending of a thing is next
abbrev with_end : State.State → ℕ → Stage → State.State
with_end s t stage = next (End t stage ∷ []) s

keeps-stage : (s : State.State) (t : ℕ) (a b : Stage) (u : State.State) (es : List Said) → Keeps 1 [] (with_end s t b) (u, es) → Keeps 1 [] (with_end s t a) (u, es)
keeps-stage s t a b u es k = keeps_from s.things s.places (End t b ∷ s.work) s.parked s.handlers s.last_handler s.sources s.last_source 1 [] (End t a ∷ s.work) u es (calm_end t a b s.work) k

keeps-still : (s : State.State) → Keeps 1 [] s (quiet s)
keeps-still s = keeps_still s s refl (carries_same s.things s.places) (calm_same s.work)

keeps-destroy_by : (core : Core) (s : State.State) (t : ℕ) (a b : Stage) (m : Option ℕ) → Keeps 1 [] (with_end s t a) (destroy_by core s t (End t b) m)
keeps-destroy_by core s t a b None = keeps-stage s t a b _ _ (keeps-still (with_end s t b))
keeps-destroy_by core s t a b (Some m) = keeps-stage s t a b _ _ (keeps-call_method core (with_end s t b) [] (Thing t) [] m)

keeps-destroy : (core : Core) (s : State.State) (t class : ℕ) (info : Option ClassInfo) → Keeps 1 [] (with_end s t (Destructor class)) (destroy core s t class info)
keeps-destroy core s t class None = keeps-still (with_end s t (Destructor class))
keeps-destroy core s t class (Some info) = keeps-destroy_by core s t (Destructor class) (Places (own_places s (thing_at s t) info) info.base) info.destructor

keeps-dropped : (s : State.State) (hs : List Handler) → Left (ids_of hs) (ids_of s.handlers) → Keeps 0 [] s (quiet (record s { handlers = hs }))
keeps-dropped s hs l = keeps_ids s.things s.places s.work s.parked s.handlers s.last_handler s.sources s.last_source (record s { handlers = hs }) refl (carries_same s.things s.places) (calm_same s.work) (ids_left s.last_handler (ids_of s.handlers) (ids_of hs) l) (ids_same s.last_source (source_ids_of s.sources))

keeps-drop_handlers : (s : State.State) (t : ℕ) (o : Option ℕ) → by_status ending_now (at s.things t) ≡ 1 → Keeps 1 [] (with_end s t Handlers) (drop_handlers s t o)
keeps-drop_handlers s t None h =
    keeps_then 0 1 None None None [] [] (with_end s t Handlers) (record (with_end s t Handlers) { handlers = without_object t s.handlers }) [] (went (record s { handlers = without_object t s.handlers }) t)
    (keeps-dropped (with_end s t Handlers) (without_object t s.handlers) (left-without_object t s.handlers)) (keeps-went (record s { handlers = without_object t s.handlers }) t Handlers h)
keeps-drop_handlers s t (Some n) h =
    keeps-give_up (with_end s t Handlers) (next (End t Handlers ∷ []) (record s { handlers = without_place n s.handlers })) n (keeps-dropped (with_end s t Handlers) (without_place n s.handlers) (left-without_place n s.handlers))

keeps-behind_places : (s : State.State) (t : ℕ) (stage : Stage) (base : Option ℕ) → by_status ending_now (at s.things t) ≡ 1 → Keeps 1 [] (with_end s t stage) (behind_places s t base)
keeps-behind_places s t stage (Some base) h = keeps-stage s t stage (Destructor base) _ _ (keeps-still (with_end s t (Destructor base)))
keeps-behind_places s t stage None h =
    keeps_if s.things s.places (End t stage ∷ s.work) s.parked s.handlers s.last_handler s.sources s.last_source (is_object_of (thing_at s t)) (quiet (next (End t Handlers ∷ []) s)) (went s t)
    (keeps-stage s t stage Handlers _ _ (keeps-still (with_end s t Handlers))) (keeps-went s t stage h)

pub keeps-end_stage : (core : Core) (s : State.State) (t : ℕ) (stage : Stage) → by_status ending_now (at s.things t) ≡ 1 → Keeps 1 [] (record s { work = End t stage ∷ s.work }) (end_stage core s t stage)
keeps-end_stage core s t (Destructor class) h = keeps-destroy core s t class (class_info core class)
keeps-end_stage core s t (Places (n ∷ ns) base) h =
    keeps-stage s t (Places (n ∷ ns) base) (Places ns base) _ _ (keeps-give_up_still (with_end s t (Places ns base)) (next (End t (Places ns base) ∷ []) s) n refl (carries_same s.things s.places) (calm_same (End t (Places ns base) ∷ s.work)))
keeps-end_stage core s t (Places [] base) h = keeps-behind_places s t (Places [] base) base h
keeps-end_stage core s t Handlers h = keeps-drop_handlers s t (owning_handler s t s.handlers) h
keeps-end_stage core s t Last h = keeps-went s t Last h
