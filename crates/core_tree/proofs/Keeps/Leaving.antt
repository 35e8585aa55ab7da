-- What ways out keep.
use Rattle.std.proofs.Common.{refl, sym, ◌∙◌, arith}
use Rattle.std.specs.Prelude.{ℕ, ◌==◌, true, List, [], ◌∷◌}
use Rattle.core_tree.specs.declared.program.Core.{Core}
use Rattle.core_tree.specs.declared.tree.CoreExpr.{CoreExpr}
use Rattle.core_tree.specs.declared.tree.CoreStmt.{CoreStmt, CoreStmt-F}
use Rattle.core_tree.specs.State
use Rattle.core_tree.specs.State.{Owned, Frame, Way, Break, Continue, Return, Throw, Item, Locate, Push, Store, GiveUp, Turn, Steps, Each, EndSwitch, Leave, Catches, Finally, EndCall, EndMaking, EndBody, End}
use Rattle.core_tree.specs.Places.{Out, next}
use Rattle.core_tree.specs.Statements.{Statement}
use Rattle.core_tree.proofs.Kept.{keeps_still, keeps_from}
use Rattle.std.proofs.Common.{◌≡◌, true, true≢false}
use Rattle.core_tree.proofs.Keeps.Statements.{keeps-enter_behind, keeps-enter_block}
use Rattle.std.proofs.lemmas.Bool.{eq-eqb}
use Rattle.core_tree.specs.Owners.{ends}
use Rattle.core_tree.proofs.Counts.{count-cons, at}
use Rattle.core_tree.proofs.Owned.{carries_same}
use Rattle.core_tree.specs.Leaving.{first, pass, arrive, at_turn, at_steps, at_switch, caught_in, catch_by, catch, at_catches, at_finally, at_leave, at_end_call, at_end_making, at_end_body, leave}
use Rattle.core_tree.proofs.Kept.{Keeps, IsPlain, Plain}
use Rattle.core_tree.proofs.Keeps.{steps, plain_rules}
use Rattle.core_tree.proofs.Keeps.Async.{keeps-keep_error}

ruleset rules_here = (steps)

pub keeps-first : (s : State.State) (item : Item) (way : Way) → IsPlain item → Keeps 1 [] s (first s item way)
keeps-first s item way h1 = search rules_here depth 14

pub keeps-pass : (s : State.State) (way : Way) → Keeps 1 [] s (pass s way)
keeps-pass s way = search rules_here depth 14

pub keeps-arrive : (s : State.State) (items : List Item) → Plain items → Keeps 1 [] s (arrive s items)
keeps-arrive s items h1 = search rules_here depth 14

pub keeps-at_turn : (s : State.State) (item : Item) (way : Way) → IsPlain item → Keeps 1 [] s (at_turn s item way)
keeps-at_turn s item Break h1 = search (rules_here, keeps-arrive) depth 14
keeps-at_turn s item Continue h1 = search (rules_here, keeps-arrive) depth 14
keeps-at_turn s item way h1 = search (rules_here, keeps-pass) depth 14

pub keeps-at_steps : (s : State.State) (item : Item) (way : Way) → IsPlain item → Keeps 1 [] s (at_steps s item way)
keeps-at_steps s item Continue h1 = search (rules_here, keeps-arrive) depth 14
keeps-at_steps s item way h1 = search (rules_here, keeps-pass) depth 14

pub keeps-at_switch : (s : State.State) (way : Way) → Keeps 1 [] s (at_switch s way)
keeps-at_switch s Break = search (rules_here, keeps-arrive) depth 14
keeps-at_switch s way = search (rules_here, keeps-pass) depth 14

keeps-caught_in : (core : Core) (s : State.State) (p : ℕ) (variable : List CoreExpr) (body : CoreStmt) → Keeps 1 [] s (caught_in core s p variable body)
keeps-caught_in core s p [] body = keeps-enter_behind core s (GiveUp p ∷ []) [] body (search plain_rules) (search plain_rules)
keeps-caught_in core s p (v ∷ vs) body = keeps-enter_block core s (Locate v ∷ Push (Owned p) ∷ Store ∷ []) body (search plain_rules)

pub keeps-catch_by : (core : Core) (s : State.State) (p : ℕ) (x3 : Statement) (later : Out) → Keeps 1 [] s later → Keeps 1 [] s (catch_by core s p x3 later)
keeps-catch_by core s p (CoreStmt-F.Catch domain caught variable body at) later h4 = search (rules_here, keeps-caught_in) depth 14
keeps-catch_by core s p x3 later h4 = search rules_here depth 14

pub keeps-catch : (core : Core) (s : State.State) (p : ℕ) (x3 : List CoreStmt) → Keeps 1 [] s (catch core s p x3)
keeps-catch core s p [] = search (rules_here, keeps-pass) depth 14
keeps-catch core s p (c ∷ cs) = search (rules_here, keeps-catch_by, (keeps-catch core s p cs)) depth 14

pub keeps-at_catches : (core : Core) (s : State.State) (cs : List CoreStmt) (way : Way) → Keeps 1 [] s (at_catches core s cs way)
keeps-at_catches core s cs (Throw p) = search (rules_here, keeps-catch) depth 14
keeps-at_catches core s cs way = search (rules_here, keeps-pass) depth 14

pub keeps-at_finally : (s : State.State) (x1 : List CoreStmt) (way : Way) → Keeps 1 [] s (at_finally s x1 way)
keeps-at_finally s [] way = search (rules_here, keeps-pass) depth 14
keeps-at_finally s (f ∷ fs) way = search rules_here depth 14

pub keeps-at_leave : (core : Core) (s : State.State) (old : Way) (way : Way) → Keeps 1 [] s (at_leave core s old way)
keeps-at_leave core s (Throw old) (Throw p) = search (rules_here, keeps-first) depth 14
keeps-at_leave core s Return (Throw p) = search rules_here depth 14
keeps-at_leave core s old way = search (rules_here, keeps-pass) depth 14

pub keeps-at_end_call : (s : State.State) (item : Item) (ns : List ℕ) (caller : Frame) (way : Way) → IsPlain item → Keeps 1 [] s (at_end_call s item ns caller way)
keeps-at_end_call s item [] caller (Throw p) h1 = search (rules_here, keeps-pass) depth 14
keeps-at_end_call s item (n ∷ ns) caller (Throw p) h1 = search rules_here depth 14
keeps-at_end_call s item ns caller way h1 = search (rules_here, keeps-arrive) depth 14

pub keeps-at_end_making : (s : State.State) (item : Item) (ns : List ℕ) (caller : Frame) (way : Way) → IsPlain item → Keeps 1 [] s (at_end_making s item ns caller way)
keeps-at_end_making s item [] caller (Throw p) h1 = search rules_here depth 14
keeps-at_end_making s item (n ∷ ns) caller (Throw p) h1 = search rules_here depth 14
keeps-at_end_making s item ns caller way h1 = search (rules_here, keeps-arrive) depth 14

pub keeps-at_end_body : (core : Core) (s : State.State) (way : Way) → Keeps 1 [] s (at_end_body core s way)
keeps-at_end_body core s (Throw p) = search (rules_here, keeps-keep_error) depth 14
keeps-at_end_body core s way = search (rules_here, keeps-arrive) depth 14

-- what is left, where no ending is
keeps-leave_plain : (core : Core) (s : State.State) (way : Way) (item : Item) → IsPlain item → Keeps 1 [] s (leave core s way item)
keeps-leave_plain core s way (End t stage) h = absurd (let a = h t in let b : (t == t) ≡ true = eq-eqb t t refl in true≢false (sym b ∙ a))
keeps-leave_plain core s way (Turn loop) h = keeps-at_turn s (Turn loop) way (λ t. refl)
keeps-leave_plain core s way (Each loop v i n) h = keeps-at_turn s (Each loop v i n) way (λ t. refl)
keeps-leave_plain core s way (Steps steps) h = keeps-at_steps s (Steps steps) way (λ t. refl)
keeps-leave_plain core s way EndSwitch h = keeps-at_switch s way
keeps-leave_plain core s way (Catches cs) h = keeps-at_catches core s cs way
keeps-leave_plain core s way (Finally fs) h = keeps-at_finally s fs way
keeps-leave_plain core s way (Leave old) h = keeps-at_leave core s old way
keeps-leave_plain core s way (EndCall ns caller) h = keeps-at_end_call s (EndCall ns caller) ns caller way (λ t. refl)
keeps-leave_plain core s way (EndMaking ns caller) h = keeps-at_end_making s (EndMaking ns caller) ns caller way (λ t. refl)
keeps-leave_plain core s way EndBody h = keeps-at_end_body core s way
keeps-leave_plain core s way item h = search rules_here depth 14

pub keeps-leave : (core : Core) (s : State.State) (way : Way) (item : Item) → Keeps 1 [] (next (item ∷ []) s) (leave core s way item)
keeps-leave core s way (End t stage) = keeps_still (next (End t stage ∷ []) s) (next (End t stage ∷ Leave way ∷ []) s) refl (carries_same s.things s.places) (record { by = λ v. (let a = count-cons (ends v) (End t stage) (Leave way ∷ s.work) in let b = count-cons (ends v) (End t stage) s.work in omega arith) })
keeps-leave core s way item = keeps_from s.things s.places s.work s.parked s.handlers s.last_handler s.sources s.last_source 1 [] (item ∷ s.work) _ _ (record { by = λ v. refl }) (keeps-leave_plain core s way item (λ v. refl))
