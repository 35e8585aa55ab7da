-- What async methods keep.
use Rattle.std.proofs.Common.{refl, arith}
use Rattle.std.specs.Prelude.{ℕ, ◌+◌, Bool, true, false, List, [], ◌∷◌, ◌++◌, Option, Some, None}
use Rattle.vala_types.specs.declared.types.VType.{VType}
use Rattle.core_tree.specs.declared.program.Core.{Core}
use Rattle.core_tree.specs.declared.lambda.CoreParameter.{CoreParameter}
use Rattle.core_tree.specs.declared.types.CoreMethod.{CoreMethod}
use Rattle.core_tree.specs.State
use Rattle.core_tree.specs.State.{Value, Thing, Operand, Owned, OwnedCells, Parked, Item, EndBody, ThingState, Content, ActivationOf}
use Rattle.core_tree.specs.Places.{Out, next}
use Rattle.core_tree.proofs.Kept.{calm_same, keeps_behind, keeps_ids, keeps_moved, ids_of, source_ids_of}
use Rattle.core_tree.proofs.Counts.{ids_same, count-append, count-cons}
use Rattle.core_tree.proofs.Keeps.Ids.{ids-more_source}
use Rattle.core_tree.proofs.Owned.{carries_same}
use Rattle.core_tree.proofs.Keeps.Storing.{keeps-store_at, keeps-take_at}
use Rattle.std.proofs.Common.{◌≡◌, ◌+◌, Bool, count_by}
use Rattle.core_tree.specs.Owners.{ends}
use Rattle.core_tree.specs.Tidy.{parked_endings}
use Rattle.core_tree.proofs.Kept.{plain_append}
use Rattle.core_tree.specs.Async.{error_at, copy_of, put_into, put_arguments, put_callback, make_activation, begin_by, begin, yield_call, with_method, with_content, with_thing_at, with_activation, run_body, begin_body, own_work, others_work, park_as, park, park_for, complete, keep_error, throw_from, move_result, receive, receive_value, end, callback}
use Rattle.core_tree.proofs.Kept.{Keeps, Plain}
use Rattle.core_tree.proofs.Keeps.{steps, plain_rules}
use Rattle.core_tree.proofs.Keeps.Places.{keeps-unless}

pub plain-copy_of : (s : State.State) (kind : VType) (o : Operand) → Plain (copy_of s kind o)
plain-copy_of s kind (Owned n) = search plain_rules depth 14
plain-copy_of s kind (OwnedCells first count) = search plain_rules depth 14
plain-copy_of s kind o = search plain_rules depth 14

pub plain-put_into : (s : State.State) (n : ℕ) (kind : VType) (o : Operand) → Plain (put_into s n kind o)
plain-put_into s n kind o = search (plain_rules, plain-copy_of) depth 14

pub plain-put_arguments : (core : Core) (s : State.State) (ns : List ℕ) (ps : List CoreParameter) (os : List Operand) → Plain (put_arguments core s ns ps os)
plain-put_arguments core s [] ps os = search plain_rules
plain-put_arguments core s (n ∷ ns) [] os = search plain_rules
plain-put_arguments core s (n ∷ ns) (p ∷ ps) [] = search plain_rules
plain-put_arguments core s (n ∷ ns) (p ∷ ps) (o ∷ os) = plain_append (put_into s n p.kind o) (put_arguments core s ns ps os) (plain-put_into s n p.kind o) (plain-put_arguments core s ns ps os)

pub plain-put_callback : (s : State.State) (n : ℕ) (x2 : List Operand) → Plain (put_callback s n x2)
plain-put_callback s n [] = search plain_rules depth 14
plain-put_callback s n (o ∷ os) = search (plain_rules, plain-put_into) depth 14

ruleset rules_here = (steps, plain-copy_of, plain-put_into, plain-put_arguments, plain-put_callback, keeps-take_at)

pub keeps-make_activation : (core : Core) (s : State.State) (number : ℕ) (m : CoreMethod) (this : Value) (os : List Operand) (waiter : Option ℕ) (after : List Item) → Plain after → Keeps 1 [] s (make_activation core s number m this os waiter after)
keeps-make_activation core s number m this os waiter after h7 = search rules_here depth 14

pub keeps-begin_by : (core : Core) (s : State.State) (number : ℕ) (x3 : Option CoreMethod) (has_receiver : Bool) (os : List Operand) (waiter : Option ℕ) (after : List Item) → Plain after → Keeps 1 [] s (begin_by core s number x3 has_receiver os waiter after)
keeps-begin_by core s number None has_receiver os waiter after h7 = search rules_here depth 14
keeps-begin_by core s number (Some m) false os waiter after h7 = search (rules_here, keeps-make_activation) depth 14
keeps-begin_by core s number (Some m) true [] waiter after h7 = search rules_here depth 14
keeps-begin_by core s number (Some m) true (o ∷ os) waiter after h7 = search (rules_here, keeps-unless, keeps-make_activation) depth 14

pub keeps-begin : (core : Core) (s : State.State) (number : ℕ) (has_receiver : Bool) (os : List Operand) → Keeps 1 [] s (begin core s number has_receiver os)
keeps-begin core s number has_receiver os = search (rules_here, keeps-begin_by) depth 14

pub keeps-yield_call : (core : Core) (s : State.State) (number : ℕ) (has_receiver : Bool) (os : List Operand) → Keeps 1 [] s (yield_call core s number has_receiver os)
keeps-yield_call core s number has_receiver os = search (rules_here, keeps-begin_by) depth 14

pub keeps-with_method : (s : State.State) (x1 : Option CoreMethod) (go : (CoreMethod → Out)) → ((a0 : CoreMethod) → Keeps 1 [] s (go a0)) → Keeps 1 [] s (with_method s x1 go)
keeps-with_method s None go h2 = search rules_here depth 14
keeps-with_method s (Some m) go h2 = search rules_here depth 14

pub keeps-with_content : (core : Core) (s : State.State) (first : ℕ) (x3 : Content) (go : (ℕ → CoreMethod → ℕ → ℕ → Option ℕ → Out)) → ((a0 : ℕ) (a1 : CoreMethod) (a2 : ℕ) (a3 : ℕ) (a4 : Option ℕ) → Keeps 1 [] s (go a0 a1 a2 a3 a4)) → Keeps 1 [] s (with_content core s first x3 go)
keeps-with_content core s first (ActivationOf number slot waiter) go h4 = search (rules_here, keeps-with_method) depth 14
keeps-with_content core s first x3 go h4 = search rules_here depth 14

pub keeps-with_thing_at : (core : Core) (s : State.State) (x2 : Option ThingState) (go : (ℕ → CoreMethod → ℕ → ℕ → Option ℕ → Out)) → ((a0 : ℕ) (a1 : CoreMethod) (a2 : ℕ) (a3 : ℕ) (a4 : Option ℕ) → Keeps 1 [] s (go a0 a1 a2 a3 a4)) → Keeps 1 [] s (with_thing_at core s x2 go)
keeps-with_thing_at core s None go h3 = search rules_here depth 14
keeps-with_thing_at core s (Some x) go h3 = search (rules_here, keeps-with_content) depth 14

pub keeps-with_activation : (core : Core) (s : State.State) (t : ℕ) (go : (ℕ → CoreMethod → ℕ → ℕ → Option ℕ → Out)) → ((a0 : ℕ) (a1 : CoreMethod) (a2 : ℕ) (a3 : ℕ) (a4 : Option ℕ) → Keeps 1 [] s (go a0 a1 a2 a3 a4)) → Keeps 1 [] s (with_activation core s t go)
keeps-with_activation core s t go h3 = search (rules_here, keeps-with_thing_at) depth 14

pub keeps-run_body : (core : Core) (s : State.State) (t : ℕ) (first : ℕ) (m : CoreMethod) → Keeps 1 [] s (run_body core s t first m)
keeps-run_body core s t first m = search rules_here depth 14

pub keeps-begin_body : (core : Core) (s : State.State) (t : ℕ) → Keeps 1 [] s (begin_body core s t)
keeps-begin_body core s t = search (rules_here, keeps-with_activation, keeps-run_body) depth 14

parted : (v : ℕ) (w : List Item) → count_by (ends v) (own_work w) + count_by (ends v) (others_work w) ≡ count_by (ends v) w
parted v [] = refl
parted v (EndBody ∷ w) = (let e : count_by (ends v) (EndBody ∷ []) ≡ 0 = refl in let f : count_by (ends v) (EndBody ∷ w) ≡ count_by (ends v) w = refl in omega arith)
parted v (i ∷ w) = (let a = count-cons (ends v) i (own_work w) in let b = count-cons (ends v) i w in let c = parted v w in omega arith)

parked_more : (v : ℕ) (ps : List Parked) (p : Parked) → parked_endings v (ps ++ p ∷ []) ≡ parked_endings v ps + count_by (ends v) p.work
parked_more v [] p = omega arith
parked_more v (q ∷ ps) p = (let a = parked_more v ps p in omega arith)

pub keeps-park_as : (s : State.State) (by_yield : Bool) (in_front : List Item) (t : Option ℕ) → Plain in_front → Keeps 1 [] s (park_as s by_yield in_front t)
keeps-park_as s by_yield in_front None h = search rules_here depth 14
keeps-park_as s by_yield in_front (Some t) h =
    keeps_moved s.things s.places s.work s.parked s.handlers s.last_handler s.sources s.last_source (park_as s by_yield in_front (Some t)).0 refl (carries_same s.things s.places)
    (λ v. (let a = parted v s.work in let b = parked_more v s.parked (record { activation = t; by_yield = by_yield; frame = s.frame; work = in_front ++ own_work s.work }) in let c = count-append (ends v) in_front (own_work s.work) in let d = h.by v in omega arith))
    (ids_same s.last_handler (ids_of s.handlers)) (ids_same s.last_source (source_ids_of s.sources))

pub keeps-park : (s : State.State) → Keeps 1 [] s (park s)
keeps-park s = search (rules_here, keeps-park_as) depth 14

pub keeps-park_for : (s : State.State) (t : ℕ) → Keeps 1 [] s (park_for s t)
keeps-park_for s t = search (rules_here, keeps-park_as) depth 14

pub keeps-complete : (s : State.State) (t : Option ℕ) → Keeps 1 [] s (complete s t)
keeps-complete s None = search rules_here depth 14
keeps-complete s (Some t) = search (keeps_ids, calm_same, ids-more_source, ids_same, carries_same) depth 9

pub keeps-keep_error : (core : Core) (s : State.State) (p : ℕ) (t : Option ℕ) → Keeps 1 [] s (keep_error core s p t)
keeps-keep_error core s p None = search rules_here depth 14
keeps-keep_error core s p (Some t) =
    keeps-with_activation core s t _ (λ first m number slot waiter. keeps_behind 1 [] (EndBody ∷ []) s _ _ (search plain_rules) (keeps-store_at (next (EndBody ∷ []) s) (error_at core first m) (Owned p)))

pub keeps-throw_from : (s : State.State) (n : ℕ) → Keeps 1 [] s (throw_from s n)
keeps-throw_from s n = search rules_here depth 14

pub keeps-move_result : (core : Core) (s : State.State) (kind : VType) (n : ℕ) → Keeps 1 [] s (move_result core s kind n)
keeps-move_result core s kind n = search rules_here depth 14

pub keeps-receive : (core : Core) (s : State.State) (t : ℕ) → Keeps 1 [] s (receive core s t)
keeps-receive core s t = search (rules_here, keeps-with_activation, keeps-move_result, keeps-throw_from) depth 14

pub keeps-receive_value : (core : Core) (s : State.State) (method : ℕ) (v : Value) → Keeps 1 [] s (receive_value core s method v)
keeps-receive_value core s method (Thing t) = search (rules_here, keeps-with_activation, keeps-receive) depth 14
keeps-receive_value core s method v = search rules_here depth 14

pub keeps-end : (core : Core) (s : State.State) (method : ℕ) (has_receiver : Bool) (os : List Operand) → Keeps 1 [] s (end core s method has_receiver os)
keeps-end core s method true (o ∷ r ∷ []) = search (rules_here, keeps-unless, keeps-receive_value) depth 14
keeps-end core s method false (r ∷ []) = search (rules_here, keeps-unless, keeps-receive_value) depth 14
keeps-end core s method has_receiver os = search rules_here depth 14

pub keeps-callback : (s : State.State) (x1 : Option ℕ) → Keeps 1 [] s (callback s x1)
keeps-callback s None = search rules_here depth 14
keeps-callback s (Some t) = search rules_here depth 14
