-- What calls keep.
use Rattle.std.proofs.Common.{refl, sym, ap, ◌∙◌, arith}
use Rattle.std.specs.Prelude.{ℕ, ◌==◌, pos, List, [], ◌∷◌, ◌++◌, map, Option, Some, None}
use Rattle.vg_base.specs.declared.event.VEnd.TheVariants.{Trapped}
use Rattle.vg_base.specs.declared.event.TrapKind.TheVariants as trap
use Rattle.core_tree.specs.declared.program.Core.{Core}
use Rattle.core_tree.specs.declared.lambda.Lambda.{Lambda}
use Rattle.core_tree.specs.declared.lambda.Target.{Target}
use Rattle.core_tree.specs.declared.lambda.Target.TheVariants as bound
use Rattle.core_tree.specs.declared.tree.CoreStmt.{CoreStmt}
use Rattle.core_tree.specs.declared.types.CoreMethod.{CoreMethod}
use Rattle.core_tree.specs.declared.values.Callee.{Callee}
use Rattle.core_tree.specs.declared.values.Callee.TheVariants as callee
use Rattle.core_tree.specs.State
use Rattle.core_tree.specs.State.{Value, Null, Number, Thing, Delegate, Method, Body, Resume, Operand, Given, Item, Push, Execute, EndCall, BackTo, Parked}
use Rattle.core_tree.specs.Places.{Out, quiet, stop, next, Found, There, Fails, Nowhere}
use Rattle.core_tree.specs.Calls.{Opening, open_frame, tested, used}
use Rattle.core_tree.proofs.Kept.{parts, Calm, calm_same, keeps_still, keeps_if, keeps_moved, ids_of, source_ids_of}
use Rattle.core_tree.proofs.Counts.{ids_same, count-append, at}
use Rattle.std.proofs.Common.{◌≡◌, ◌+◌, Bool, true, false, cond, count_by}
use Rattle.std.specs.Prelude.{length}
use Rattle.std.proofs.lemmas.Bool.{eqb-true, eqb-false, eq-eqb, ne_eqb}
use Rattle.core_tree.specs.Owners.{ends}
use Rattle.core_tree.specs.Tidy.{parked_endings}
use Rattle.core_tree.proofs.Keeps.Places.{keeps-unless}
use Rattle.core_tree.proofs.Keeps.Calls.{plain-arrange, carries-opened}
use Rattle.core_tree.proofs.Owned.{Carries, carries_same}
use Rattle.core_tree.specs.Invoke.{with_found, begin_call, call_with, call_method, call_found, call_slot, call_lambda, parked_of, without_parked, go_on, resume_by, resume, call_delegate, with_receiver, call}
use Rattle.core_tree.proofs.Kept.{Keeps, Plain}
use Rattle.core_tree.proofs.Keeps.{steps, plain_rules}
use Rattle.core_tree.proofs.Keeps.Places.{keeps-unless}

ruleset rules_here = (steps)

pub keeps-with_found : (s : State.State) (x1 : Found) (go : (ℕ → Out)) → ((a0 : ℕ) → Keeps 1 [] s (go a0)) → Keeps 1 [] s (with_found s x1 go)
keeps-with_found s (There n) go h2 = search rules_here depth 14
keeps-with_found s (Fails e) go h2 = search rules_here depth 14
keeps-with_found s Nowhere go h2 = search rules_here depth 14

pub keeps-begin_call : (s : State.State) (receiver : List Found) (body : List CoreStmt) (o : Opening) → Plain o.cleared → parts o.state.things o.state.parked o.state.handlers o.state.last_handler o.state.sources o.state.last_source ≡ parts s.things s.parked s.handlers s.last_handler s.sources s.last_source → Carries None s.things s.places o.state.places → Calm s.work o.state.work → Keeps 1 [] s (begin_call s receiver body o)
keeps-begin_call s receiver body o p e q c = keeps-unless (tested (receiver ++ o.found)) s (quiet (next (o.cleared ++ map Execute body ++ EndCall o.owned s.frame ∷ []) o.state)) (search (rules_here, keeps_still) depth 14)

pub keeps-call_with : (core : Core) (s : State.State) (receiver : List Found) (this : Value) (os : List Operand) (m : Option CoreMethod) → Keeps 1 [] s (call_with core s receiver this os m)
keeps-call_with core s receiver this os None = search rules_here depth 14
keeps-call_with core s receiver this os (Some m) = keeps-begin_call s receiver m.body (open_frame core s m.locals this Null None os) (plain-arrange core s (length s.places) m.locals.parameters os) refl (carries-opened core s m.locals this Null None os) (calm_same s.work)

pub keeps-call_method : (core : Core) (s : State.State) (receiver : List Found) (this : Value) (os : List Operand) (m : ℕ) → Keeps 1 [] s (call_method core s receiver this os m)
keeps-call_method core s receiver this os m = search (rules_here, keeps-call_with) depth 14

pub keeps-call_found : (core : Core) (s : State.State) (this : Value) (os : List Operand) (x4 : Option ℕ) → Keeps 1 [] s (call_found core s this os x4)
keeps-call_found core s this os None = search (rules_here, keeps-unless) depth 14
keeps-call_found core s this os (Some m) = search (rules_here, keeps-call_method) depth 14

pub keeps-call_slot : (core : Core) (s : State.State) (this : Value) (os : List Operand) (slot : ℕ) → Keeps 1 [] s (call_slot core s this os slot)
keeps-call_slot core s this os slot = search (rules_here, keeps-call_found) depth 14

pub keeps-call_lambda : (core : Core) (s : State.State) (l : Lambda) (body : CoreStmt) (target : Value) (os : List Operand) (to : Target) → Keeps 1 [] s (call_lambda core s l body target os to)
keeps-call_lambda core s l body target os (bound.Captures at) = keeps-begin_call s [] (body ∷ []) (open_frame core s l.locals Null target None os) (plain-arrange core s (length s.places) l.locals.parameters os) refl (carries-opened core s l.locals Null target None os) (calm_same s.work)
keeps-call_lambda core s l body target os to = keeps-begin_call s [] (body ∷ []) (open_frame core s l.locals target Null None os) (plain-arrange core s (length s.places) l.locals.parameters os) refl (carries-opened core s l.locals target Null None os) (calm_same s.work)

-- a parked part that was found, and what is left of the others
found_if : (t : ℕ) (q p : Parked) (rest : Option Parked) (b : Bool) → (q.activation == t) ≡ b → (rest ≡ Some p → p.activation ≡ t) → cond b (Some q) rest ≡ Some p → p.activation ≡ t
found_if t q p rest true z h f = (let same : q ≡ p = cc in ap (λ (x : Parked). x.activation) (sym same) ∙ eqb-true q.activation t z)
found_if t q p rest false z h f = h f

found_is : (t : ℕ) (ps : List Parked) (p : Parked) → parked_of t ps ≡ Some p → p.activation ≡ t
found_is t [] p e = absurd (let bad : None ≡ Some p = e in cc)
found_is t (q ∷ ps) p e = found_if t q p (parked_of t ps) (q.activation == t) refl (found_is t ps p) e

left_if : (v : ℕ) (q : Parked) (ps rest : List Parked) (b : Bool) → parked_endings v (cond b ps (q ∷ rest)) ≡ cond b (parked_endings v ps) (count_by (ends v) q.work + parked_endings v rest)
left_if v q ps rest true = refl
left_if v q ps rest false = refl

-- the others, where the first part is known to be the one or not
left_by : (v : ℕ) (q p : Parked) (ps : List Parked) (b : Bool) → (q.activation == p.activation) ≡ b → parked_endings v (without_parked p.activation (q ∷ ps)) ≡ cond b (parked_endings v ps) (count_by (ends v) q.work + parked_endings v (without_parked p.activation ps))
left_by v q p ps b e = left_if v q ps (without_parked p.activation ps) (q.activation == p.activation) ∙ ap (λ (x : Bool). cond {A = ℕ} x (parked_endings v ps) (count_by (ends v) q.work + parked_endings v (without_parked p.activation ps))) e

unparked_if : (v t : ℕ) (q p : Parked) (ps : List Parked) (b : Bool) → (q.activation == t) ≡ b → (parked_of t ps ≡ Some p → parked_endings v ps ≡ count_by (ends v) p.work + parked_endings v (without_parked p.activation ps))
    → cond b (Some q) (parked_of t ps) ≡ Some p → count_by (ends v) q.work + parked_endings v ps ≡ count_by (ends v) p.work + parked_endings v (without_parked p.activation (q ∷ ps))
unparked_if v t q p ps true z h f =
    let same : q ≡ p = cc in
    let work : count_by (ends v) q.work ≡ count_by (ends v) p.work = ap (λ (x : Parked). count_by (ends v) x.work) same in
    let gone : parked_endings v (without_parked p.activation (q ∷ ps)) ≡ parked_endings v ps = left_by v q p ps true (eq-eqb q.activation p.activation (ap (λ (x : Parked). x.activation) same)) in
    omega arith
unparked_if v t q p ps false z h f =
    let later = h f in
    let differs : q.activation ≡ p.activation → ⊥ = λ same. eqb-false q.activation t z (same ∙ found_is t ps p f) in
    let kept : parked_endings v (without_parked p.activation (q ∷ ps)) ≡ count_by (ends v) q.work + parked_endings v (without_parked p.activation ps) = left_by v q p ps false (ne_eqb q.activation p.activation differs) in
    omega arith

unparked : (v t : ℕ) (ps : List Parked) (p : Parked) → parked_of t ps ≡ Some p → parked_endings v ps ≡ count_by (ends v) p.work + parked_endings v (without_parked p.activation ps)
unparked v t [] p e = absurd (let bad : None ≡ Some p = e in cc)
unparked v t (q ∷ ps) p e = unparked_if v t q p ps (q.activation == t) refl (unparked v t ps p) e

pub keeps-go_on : (s : State.State) (t : ℕ) (p : Parked) (behind : List Item) → parked_of t s.parked ≡ Some p → Plain behind → Keeps 1 [] s (quiet (go_on s p behind))
keeps-go_on s t p behind e h =
    keeps_moved s.things s.places s.work s.parked s.handlers s.last_handler s.sources s.last_source (go_on s p behind) refl (carries_same s.things s.places)
    (λ v. (let a = unparked v t s.parked p e in let b = h.by v in let c = count-append (ends v) (p.work ++ BackTo s.frame ∷ behind) s.work in let d = count-append (ends v) p.work (BackTo s.frame ∷ behind) in let f : count_by (ends v) (BackTo s.frame ∷ behind) ≡ count_by (ends v) behind = refl in omega arith))
    (ids_same s.last_handler (ids_of s.handlers)) (ids_same s.last_source (source_ids_of s.sources))

keeps-resume_by : (s : State.State) (t : ℕ) (o : Option Parked) → parked_of t s.parked ≡ o → Keeps 1 [] s (resume_by s o)
keeps-resume_by s t None e = search rules_here depth 14
keeps-resume_by s t (Some p) e =
    keeps_if s.things s.places s.work s.parked s.handlers s.last_handler s.sources s.last_source p.by_yield (quiet (go_on s p (Push (Given (Number (pos 0))) ∷ []))) (stop s (Trapped trap.Resume))
    (keeps-go_on s t p (Push (Given (Number (pos 0))) ∷ []) e (search plain_rules)) (search rules_here depth 14)

pub keeps-resume : (s : State.State) (v : Value) → Keeps 1 [] s (resume s v)
keeps-resume s (Thing t) = keeps-unless (tested (used s (Thing t) ∷ [])) s (resume_by s (parked_of t s.parked)) (keeps-resume_by s t (parked_of t s.parked) refl)
keeps-resume s v = search rules_here depth 14

pub keeps-call_delegate : (core : Core) (s : State.State) (v : Value) (os : List Operand) → Keeps 1 [] s (call_delegate core s v os)
keeps-call_delegate core s (Delegate (Method m) Null) os = search (rules_here, keeps-call_method) depth 14
keeps-call_delegate core s (Delegate (Method m) target) os = search (rules_here, keeps-call_method) depth 14
keeps-call_delegate core s (Delegate (Body l body at) target) os = search (rules_here, keeps-call_lambda) depth 14
keeps-call_delegate core s (Delegate Resume target) os = search (rules_here, keeps-resume) depth 14
keeps-call_delegate core s v os = search rules_here depth 14

pub keeps-with_receiver : (s : State.State) (x1 : List Operand) (go : (Value → List Operand → Out)) → ((a0 : Value) (a1 : List Operand) → Keeps 1 [] s (go a0 a1)) → Keeps 1 [] s (with_receiver s x1 go)
keeps-with_receiver s [] go h2 = search rules_here depth 14
keeps-with_receiver s (o ∷ os) go h2 = search rules_here depth 14

pub keeps-call : (core : Core) (s : State.State) (x2 : Callee) (os : List Operand) → Keeps 1 [] s (call core s x2 os)
keeps-call core s (callee.Static m) os = search (rules_here, keeps-call_method) depth 14
keeps-call core s (callee.Method m) os = search (rules_here, keeps-with_receiver, keeps-call_method) depth 14
keeps-call core s (callee.Virtual slot) os = search (rules_here, keeps-with_receiver, keeps-call_slot) depth 14
keeps-call core s (callee.Delegate kind) os = search (rules_here, keeps-with_receiver, keeps-call_delegate) depth 14
