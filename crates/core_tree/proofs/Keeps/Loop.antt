-- What the main loop keeps.
use Rattle.std.proofs.Common.{refl, ap}
use Rattle.std.specs.Prelude.{ℕ, Bool, true, false, pos, List, [], ◌∷◌, ◌++◌, Option, Some, None}
use Rattle.vg_base.specs.declared.event.Event.TheVariants.{Dispatch}
use Rattle.vg_base.specs.Headline.{Happens, Returns}
use Rattle.vg_base.specs.Turn.{Choice, Dispatched, Moved, NoSource, Turn}
use Rattle.core_tree.specs.declared.program.Core.{Core}
use Rattle.core_tree.specs.declared.types.CoreMethod.{CoreMethod}
use Rattle.core_tree.specs.declared.values.LoopCall.{LoopCall}
use Rattle.core_tree.specs.declared.values.LoopCall.TheVariants as loop
use Rattle.core_tree.specs.State
use Rattle.core_tree.specs.State.{Value, Number, Thing, Operand, Given, Owned, Source, Parked, Item, GiveUp, LoopTurn, EndFunction, EndCompletion, EndDispatch}
use Rattle.core_tree.specs.Owners.{live}
use Rattle.core_tree.specs.Places.{Out, quiet, next, held, uses, cannot_be_owned, is_null, give_bool, give_up, value_of, ownable}
use Rattle.core_tree.specs.Invoke.{call_delegate, parked_of}
use Rattle.core_tree.specs.Async.{callback_at}
use Rattle.core_tree.proofs.Kept.{calm_same, keeps_behind, keeps_next, keeps_if, keeps_either, keeps_ids, keeps_saying, ids_of, source_ids_of}
use Rattle.core_tree.proofs.Keeps.Endings.{keeps-give_up}
use Rattle.core_tree.proofs.Counts.{ids_same, ids_left}
use Rattle.core_tree.proofs.Keeps.Ids.{left-without_source, left-renewed, ids-more_source}
use Rattle.core_tree.proofs.Owned.{Carries, carries_same, carries_more, takes_nil, takes_item}
use Rattle.core_tree.proofs.Moved.{carries_carried}
use Rattle.core_tree.specs.Storing.{left_empty_in}
use Rattle.core_tree.proofs.Owned.{fills_ownable}
use Rattle.std.proofs.Common.{◌≡◌, Bool, true, false}
use Rattle.core_tree.specs.Invoke.{call_delegate}
use Rattle.core_tree.proofs.Counts.{Left}
use Rattle.core_tree.proofs.Keeps.Places.{keeps-unless}
use Rattle.core_tree.proofs.Keeps.Invoke.{keeps-go_on, keeps-call_delegate}
use Rattle.core_tree.proofs.Keeps.Async.{keeps-with_activation}
use Rattle.core_tree.specs.declared.types.CoreMethod.{CoreMethod}
use Rattle.core_tree.specs.Loop.{source_with, without_source, add_source, is_function, remove_source, remove_first, start_loop, run_in, run, quit_in, quit, call_function, call_back, wake_by, complete_by, dispatch_to, dispatch_source, also_says, dispatch, choose, take_turn, end_dispatch, renewed, function_gave, end_function, end_completion, add_timeout, remove_with, loop_call}
use Rattle.core_tree.proofs.Kept.{Keeps}
use Rattle.core_tree.proofs.Keeps.{steps, plain_rules}
use Rattle.core_tree.proofs.Keeps.Async.{keeps-with_activation}
use Rattle.core_tree.proofs.Keeps.Places.{keeps-give_made, keeps-unless}

ruleset rules_here = (steps)

-- the place of a source's function
carries-source : (s : State.State) (o : Operand) → Carries None s.things s.places (left_empty_in s.places o ++ record { owning = true; holds = ownable s (value_of s o); within = None } ∷ [])
carries-source s (Owned n) = carries_carried s n
carries-source s o = carries_more None s.things s.places s.places _ (carries_same s.things s.places) (takes_item s.things _ [] (fills_ownable s (value_of s o) None) (takes_nil s.things))

-- sources go
keeps_left_source : {begun : ℕ} → (s : State.State) (xs : List Source) → Left (source_ids_of xs) (source_ids_of s.sources) → Keeps begun [] s (quiet (record s { sources = xs }))
keeps_left_source s xs l = keeps_ids s.things s.places s.work s.parked s.handlers s.last_handler s.sources s.last_source (record s { sources = xs }) refl (carries_same s.things s.places) (calm_same s.work) (ids_same s.last_handler (ids_of s.handlers)) (ids_left s.last_source (source_ids_of s.sources) (source_ids_of xs) l)

keeps-remove_source : (s : State.State) (x : Source) → Keeps 1 [] s (quiet (remove_source s x))
keeps-remove_source s x =
    let u : State.State = record s { sources = without_source x.id s.sources } in
    keeps_either s.things s.places s.work s.parked s.handlers s.last_handler s.sources s.last_source (is_function x.completes) (give_up u x.place) u []
    (keeps-give_up s u x.place (keeps_left_source s (without_source x.id s.sources) (left-without_source x.id s.sources))) (keeps_left_source s (without_source x.id s.sources) (left-without_source x.id s.sources))

pub keeps-add_source : (s : State.State) (interval : Option ℕ) (due : ℕ) (o : Operand) → Keeps 1 [] s (add_source s interval due o)
keeps-add_source s interval due o = search (keeps_ids, calm_same, ids-more_source, ids_same, (carries-source s o)) depth 9

keeps-remove_first : (s : State.State) (x : Option Source) → Keeps 1 [] s (remove_first s x)
keeps-remove_first s None = search rules_here depth 14
keeps-remove_first s (Some x) = keeps-remove_source (give_bool s true) x

keeps-start_loop : (s : State.State) (v : Value) → cannot_be_owned s v ≡ false → Keeps 1 [] s (start_loop s v)
keeps-start_loop s v e = search rules_here depth 14

keeps-run_in : (s : State.State) (v : Value) (n : Option ℕ) → cannot_be_owned s v ≡ false → Keeps 1 [] s (run_in s v n)
keeps-run_in s v (Some n) e = search rules_here depth 14
keeps-run_in s v None e = keeps-start_loop s v e

pub keeps-run : (s : State.State) (v : Value) → Keeps 1 [] s (run s v)
keeps-run s v = search (rules_here, keeps-unless, keeps-run_in) depth 14

keeps-quit_in : (s : State.State) (v : Value) (n : Option ℕ) → Keeps 1 [] s (quiet (quit_in s v n))
keeps-quit_in s v None = search rules_here depth 14
keeps-quit_in s v (Some n) = search rules_here depth 14

keeps-quit : (s : State.State) (v : Value) → Keeps 1 [] s (quit s v)
keeps-quit s v = keeps-unless (uses s (v ∷ [])) s (quiet (quit_in s v s.running)) (keeps-quit_in s v s.running)

keeps-call_function : (core : Core) (s : State.State) (x : Source) → Keeps 1 [] s (call_function core s x)
keeps-call_function core s x =
    let u : State.State = record s { frame = record s.frame { operands = [] } } in
    let items : List Item = EndFunction x.id s.frame.operands ∷ [] in
    keeps_if s.things s.places s.work s.parked s.handlers s.last_handler s.sources s.last_source (is_null (held s x.place)) (quiet (remove_source s x)) (call_delegate core (next items u) (held s x.place) [])
    (keeps-remove_source s x) (keeps_behind 1 [] items s _ _ (search plain_rules) (keeps-call_delegate core (next items u) (held s x.place) []))

keeps-call_back : (core : Core) (s : State.State) (id t : ℕ) (this v : Value) → Keeps 1 [] s (call_back core s id t this v)
keeps-call_back core s id t this v =
    let items : List Item = EndCompletion id t s.frame.operands ∷ [] in
    keeps_if s.things s.places s.work s.parked s.handlers s.last_handler s.sources s.last_source (is_null v) (quiet (next items s)) (call_delegate core (next items s) v (Given this ∷ Given (Thing t) ∷ []))
    (search rules_here depth 14) (keeps_behind 1 [] items s _ _ (search plain_rules) (keeps-call_delegate core (next items s) v (Given this ∷ Given (Thing t) ∷ [])))

keeps-wake_by : (s : State.State) (id t w : ℕ) (o : Option Parked) → parked_of w s.parked ≡ o → Keeps 1 [] s (wake_by s id t o)
keeps-wake_by s id t w None e = search rules_here depth 14
keeps-wake_by s id t w (Some p) e = keeps-go_on s w p (EndCompletion id t s.frame.operands ∷ []) e (search plain_rules)

keeps-complete_by : (core : Core) (s : State.State) (id t first : ℕ) (m : CoreMethod) (waiter : Option ℕ) → Keeps 1 [] s (complete_by core s id t first m waiter)
keeps-complete_by core s id t first m None = keeps-call_back core s id t (held s first) (held s (callback_at core first m))
keeps-complete_by core s id t first m (Some w) = keeps-wake_by s id t w (parked_of w s.parked) refl

pub keeps-dispatch_to : (core : Core) (s : State.State) (x : Source) (x3 : Option ℕ) → Keeps 1 [] s (dispatch_to core s x x3)
keeps-dispatch_to core s x None = search (rules_here, keeps-call_function) depth 14
keeps-dispatch_to core s x (Some t) = search (rules_here, keeps-with_activation, keeps-complete_by) depth 14

pub keeps-dispatch_source : (core : Core) (s : State.State) (x2 : Option Source) → Keeps 1 [] s (dispatch_source core s x2)
keeps-dispatch_source core s None = search rules_here depth 14
keeps-dispatch_source core s (Some x) = search (rules_here, keeps-dispatch_to) depth 14

keeps-also_says : (s : State.State) (id : ℕ) (o : Out) → Keeps 1 [] s o → Keeps 1 (id ∷ []) s (also_says (Happens (Dispatch id)) o)
keeps-also_says s id o k =
    record {
      made = k.made;
      further = k.further;
      gone = k.gone;
      order = k.order;
      endings = k.endings;
      begins = k.begins;
      stages = k.stages;
      handlers = k.handlers;
      sources = k.sources;
      dispatched = ap (λ ds. id ∷ ds) k.dispatched;
      tidy = k.tidy;
      lost = k.lost;
    }

keeps-dispatch : (core : Core) (s : State.State) (n id : ℕ) → Keeps 1 (id ∷ []) s (dispatch core s n id)
keeps-dispatch core s n id =
    let u : State.State = next (EndDispatch ∷ LoopTurn n ∷ []) s in
    keeps-also_says s id (dispatch_source core u (source_with id s.sources)) (keeps_behind 1 [] (EndDispatch ∷ LoopTurn n ∷ []) s _ _ (search plain_rules) (keeps-dispatch_source core u (source_with id s.sources)))

-- what is dispatched by a choice
abbrev pub chosen_ids : Choice → List ℕ
chosen_ids (Dispatched id) = id ∷ []
chosen_ids Moved = []
chosen_ids NoSource = []

keeps-choose : (core : Core) (s : State.State) (n : ℕ) (c : Choice) → Keeps 1 (chosen_ids c) s (choose core s n c)
keeps-choose core s n (Dispatched id) = keeps-dispatch core s n id
keeps-choose core s n Moved = search rules_here depth 14
keeps-choose core s n NoSource = search rules_here depth 14

pub keeps-take_turn : (core : Core) (s : State.State) (n : ℕ) (t : Turn) → Keeps 1 (chosen_ids t.choice) s (take_turn core s n t)
keeps-take_turn core s n t = keeps-choose core (record s { entries = t.entries; clock = t.clock }) n t.choice

pub keeps-end_dispatch : (s : State.State) → Keeps 1 [] s (end_dispatch s)
keeps-end_dispatch s = keeps_saying s.things s.places s.work s.parked s.handlers s.last_handler s.sources s.last_source s (Returns (live s)) refl (carries_same s.things s.places) (calm_same s.work) (λ t. refl) refl (λ n. tt) refl

keeps-function_gave : (s : State.State) (id : ℕ) (gave : Bool) (x : Option Source) → Keeps 1 [] s (function_gave s id gave x)
keeps-function_gave s id gave None = search rules_here depth 14
keeps-function_gave s id true (Some x) = keeps_left_source s (renewed id s.clock s.sources) (left-renewed id s.clock s.sources)
keeps-function_gave s id false (Some x) = keeps-remove_source s x

pub keeps-end_function : (s : State.State) (id : ℕ) (around : List Operand) → Keeps 1 [] s (end_function s id around)
keeps-end_function s id around = search (rules_here, keeps-function_gave) depth 14

pub keeps-end_completion : (core : Core) (s : State.State) (id t : ℕ) (around : List Operand) → Keeps 1 [] s (end_completion core s id t around)
keeps-end_completion core s id t around =
    keeps-with_activation core s t _
    (λ first m number slot waiter.
    keeps_next 1 [] (GiveUp slot ∷ []) s (record s { sources = without_source id s.sources; frame = record s.frame { operands = around } }) [] (search plain_rules)
    (keeps_ids s.things s.places s.work s.parked s.handlers s.last_handler s.sources s.last_source (record s { sources = without_source id s.sources; frame = record s.frame { operands = around } }) refl (carries_same s.things s.places) (calm_same s.work) (ids_same s.last_handler (ids_of s.handlers)) (ids_left s.last_source (source_ids_of s.sources) (source_ids_of (without_source id s.sources)) (left-without_source id s.sources))))

pub keeps-add_timeout : (s : State.State) (v : Value) (f : Operand) → Keeps 1 [] s (add_timeout s v f)
keeps-add_timeout s (Number (pos n)) f = search (rules_here, keeps-add_source) depth 14
keeps-add_timeout s v f = search rules_here depth 14

pub keeps-remove_with : (s : State.State) (v : Value) → Keeps 1 [] s (remove_with s v)
keeps-remove_with s (Number z) = search (rules_here, keeps-remove_first) depth 14
keeps-remove_with s v = search rules_here depth 14

pub keeps-loop_call : (core : Core) (s : State.State) (c : LoopCall) (os : List Operand) → Keeps 1 [] s (loop_call core s c os)
keeps-loop_call core s loop.IdleAdd (f ∷ []) = search (rules_here, keeps-add_source) depth 14
keeps-loop_call core s loop.TimeoutAdd (ms ∷ f ∷ []) = search (rules_here, keeps-add_timeout) depth 14
keeps-loop_call core s loop.SourceRemove (id ∷ []) = search (rules_here, keeps-remove_with) depth 14
keeps-loop_call core s loop.New [] = search (rules_here, keeps-give_made) depth 14
keeps-loop_call core s loop.Run (o ∷ []) = search (rules_here, keeps-run) depth 14
keeps-loop_call core s loop.Quit (o ∷ []) = search (rules_here, keeps-quit) depth 14
keeps-loop_call core s c os = search rules_here depth 14
