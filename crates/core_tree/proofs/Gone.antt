-- What is gone or ending: handlers of it, places that still hold it, and methods that have completed.
use Rattle.std.specs.Prelude.{refl, ℕ, true, false, List, [], ◌∷◌, ◌++◌, Some, None, codes, pos}
use Rattle.vg_base.specs.declared.event.Event.TheVariants.{Made, Gone, Dispatch}
use Rattle.vg_base.specs.declared.event.ThingKind.TheVariants.{Object, Text, Scope, Error, Activation}
use Rattle.vg_base.specs.declared.event.VEnd.TheVariants.{Ended, Dead}
use Rattle.vala_types.specs.declared.types.IntKind.TheVariants as kind
use Rattle.vala_types.specs.declared.types.Shape.TheVariants as shape
use Rattle.vala_types.specs.declared.types.VType.{VType}
use Rattle.vala_types.specs.declared.owners.Change.TheVariants as change
use Rattle.core_tree.specs.declared.program.Core.{Core}
use Rattle.core_tree.specs.declared.lambda.ScopeAt.{ScopeAt}
use Rattle.core_tree.specs.declared.lambda.Target.TheVariants as bound
use Rattle.core_tree.specs.declared.lambda.Via.TheVariants as via
use Rattle.core_tree.specs.declared.operation.Operation.TheVariants as op
use Rattle.core_tree.specs.declared.tree.CoreExpr.{CoreExpr}
use Rattle.core_tree.specs.declared.tree.CoreExpr.TheVariants as e
use Rattle.core_tree.specs.declared.tree.CoreStmt.{CoreStmt}
use Rattle.core_tree.specs.declared.tree.CoreStmt.TheVariants as st
use Rattle.core_tree.specs.declared.values.Arithmetic.TheVariants as arithmetic
use Rattle.core_tree.specs.declared.values.Callee.TheVariants as callee
use Rattle.core_tree.specs.declared.values.Comparison.TheVariants as compare
use Rattle.core_tree.specs.declared.values.LoopCall.TheVariants as loop
use Rattle.core_tree.specs.declared.values.Part.TheVariants as part
use Rattle.core_tree.proofs.Build.{Row, here, unowned, void, int, object, apply, number, null, local, static, this, field, changed, assign, set, run, say, of, block, frame, by_value, method, plain_creation, object_class, class, static_field, program, with_signals, notify, quiet_world, new, call_on, line, keep, moved, told, told_type, told_methods, new_told, told_name, lambda_at, act, error_type, bound_to, call_by, signal}
use Rattle.core_tree.specs.declared.lambda.Target.{Target}
use Rattle.core_tree.specs.declared.types.CoreMethod.{CoreMethod}
use Rattle.core_tree.specs.declared.types.CoreSignal.{CoreSignal}

abbrev c_type : VType
c_type = object 1

abbrev lent : ℕ → VType
lent n = unowned (shape.Class n)

abbrev held_by : ℕ → ScopeAt
held_by n = record { via = via.Hold n; outward = 0 }

abbrev at_target : ScopeAt
at_target = record { via = via.Target; outward = 0 }

abbrev var : ScopeAt → ℕ → VType → CoreExpr
var at n type = apply (op.Captured at n type) []

abbrev without_parameters : CoreSignal
without_parameters = signal [] None

abbrev async : CoreMethod → CoreMethod
async m = record m { is_async = true }

-- class S : Object { public signal void hit (); }
-- S? s;
-- class T : Object { public void say () { print ("say\n"); } ~T () { s.hit (); print ("mid\n"); s.hit.connect (this.say); } }
-- void main () { s = new S (); T? t = new T (); s.hit.connect (t.say); t = null; print ("next\n"); s.hit (); print ("end\n"); }
abbrev s_static : CoreExpr
s_static = static 0 (object 2)

abbrev hit : CoreStmt
hit = run (apply (op.Emit 1) (s_static ∷ []))

abbrev connect_say : CoreExpr → CoreStmt
connect_say o = run (apply (op.Connect 1 None false false false (callee.Method 2)) (s_static ∷ o ∷ []))

abbrev pub handler_of_ending : Core
handler_of_ending =
    with_signals (
    program (object_class ∷ class 1 [] [] (Some 3) ∷ class 2 [] [] None ∷ []) (
    method (frame [] (c_type ∷ []) void) (block (of 0 c_type ∷ []) (
    assign (object 2) s_static (moved (object 2) (new 2 1 []))
    ∷ set (local 0 c_type) (moved c_type (new 1 1 []))
    ∷ connect_say (local 0 c_type)
    ∷ assign c_type (local 0 c_type) (keep c_type null)
    ∷ say (codes "next") []
    ∷ hit
    ∷ say (codes "end") []
    ∷ []
    ))
    ∷ plain_creation
    ∷ method (frame [] [] void) (block [] (say (codes "say") [] ∷ []))
    ∷ method (frame [] [] void) (block [] (hit ∷ say (codes "mid") [] ∷ connect_say this ∷ []))
    ∷ []
    ) (static_field (object 2) ∷ [])
    ) (notify ∷ without_parameters ∷ [])

pub handler_of_ending_row : Row handler_of_ending quiet_world 300 (Made Object ∷ Made Object ∷ line (codes "mid") ∷ Gone 2 ∷ line (codes "next") ∷ []) Dead (record { kind = Object; serial = 1; owners = 2 } ∷ [])
unfolding Rattle.core_tree.specs.declared.tree.CoreExpr.TheViews.out-CoreStmt denote.Hole.Carrier.out Rattle.core_tree.specs.declared.tree.CoreExpr.TheBlock.shown-the_row-CoreStmt-3 denote.Hole.Carrier.shown denote.Hole.Carrier.hidden Rattle.core_tree.specs.declared.tree.CoreExpr.TheViews.out-CoreExpr Rattle.std.specs.Fmt.digits
handler_of_ending_row = record { says = refl; ends = refl; lives = refl }

-- class Foo : Object { public void hi () { print ("hi\n"); } ~Foo () { keep = this; keep.hi (); print ("~\n"); } }
-- unowned Foo? keep;
-- void main () { { Foo f = new Foo (); } print ("%d\n", keep == null ? 1 : 0); keep.hi (); }
abbrev kept : CoreExpr
kept = static 0 (lent 1)

abbrev pub unowned_after : Core
unowned_after =
    program (object_class ∷ class 1 [] [] (Some 3) ∷ []) (
    method (frame [] (c_type ∷ []) void) (block [] (
    block (of 0 c_type ∷ []) (set (local 0 c_type) (moved c_type (new 1 1 [])) ∷ [])
    ∷ say (codes "%d") (e.Choice (apply (op.CompareReferences compare.Equal) (kept ∷ null ∷ [])) (number 1) (number 0) here ∷ [])
    ∷ run (call_on kept 2 [])
    ∷ []
    ))
    ∷ plain_creation
    ∷ method (frame [] [] void) (block [] (say (codes "hi") [] ∷ []))
    ∷ method (frame [] [] void) (block [] (assign (lent 1) kept (keep (lent 1) this) ∷ run (call_on kept 2 []) ∷ say (codes "~") [] ∷ []))
    ∷ []
    ) (static_field (lent 1) ∷ [])

pub unowned_after_row : Row unowned_after quiet_world 200 (Made Object ∷ line (codes "hi") ∷ line (codes "~") ∷ Gone 1 ∷ line (codes "0") ∷ []) Dead ([])
unfolding Rattle.core_tree.specs.declared.tree.CoreExpr.TheViews.out-CoreStmt denote.Hole.Carrier.out Rattle.core_tree.specs.declared.tree.CoreExpr.TheBlock.shown-the_row-CoreStmt-3 denote.Hole.Carrier.shown denote.Hole.Carrier.hidden Rattle.core_tree.specs.declared.tree.CoreExpr.TheViews.out-CoreExpr Rattle.std.specs.Fmt.digits
unowned_after_row = record { says = refl; ends = refl; lives = refl }

-- class Foo : Object { ~Foo () { keep = this; } }
-- Foo? keep;
-- void main () { Foo f = new Foo (); }
abbrev pub owned_after : Core
owned_after =
    program (object_class ∷ class 1 [] [] (Some 2) ∷ []) (
    method (frame [] (c_type ∷ []) void) (block (of 0 c_type ∷ []) (set (local 0 c_type) (moved c_type (new 1 1 [])) ∷ []))
    ∷ plain_creation
    ∷ method (frame [] [] void) (block [] (assign c_type (static 0 c_type) (changed change.AddOwner c_type this) ∷ []))
    ∷ []
    ) (static_field c_type ∷ [])

pub owned_after_row : Row owned_after quiet_world 150 (Made Object ∷ []) Dead (record { kind = Object; serial = 1; owners = 0 } ∷ [])
unfolding Rattle.core_tree.specs.declared.tree.CoreExpr.TheViews.out-CoreStmt denote.Hole.Carrier.out Rattle.core_tree.specs.declared.tree.CoreExpr.TheBlock.shown-the_row-CoreStmt-3 denote.Hole.Carrier.shown denote.Hole.Carrier.hidden Rattle.core_tree.specs.declared.tree.CoreExpr.TheViews.out-CoreExpr Rattle.std.specs.Fmt.digits
owned_after_row = record { says = refl; ends = refl; lives = refl }

-- T? held;
-- class S : Object { public signal void hit (T t); }
-- void one (T t) { held = null; }
-- void two (T t) { print ("%s\n", t.n); }
-- void main () { S s = new S (); held = new T ("h"); s.hit.connect (one); s.hit.connect (two); s.hit (held); }
abbrev connect_static : ℕ → CoreStmt
connect_static m = run (apply (op.Connect 1 None false false true (callee.Static m)) (local 0 (object 2) ∷ []))

abbrev pub argument_gone : Core
argument_gone =
    with_signals (
    program (object_class ∷ told_type ∷ class 2 [] [] None ∷ []) (
    method (frame [] (object 2 ∷ []) void) (block (of 0 (object 2) ∷ []) (
    set (local 0 (object 2)) (moved (object 2) (new 2 3 []))
    ∷ assign told (static 0 told) (new_told (codes "h"))
    ∷ connect_static 4
    ∷ connect_static 5
    ∷ run (apply (op.Emit 1) (local 0 (object 2) ∷ keep (lent 1) (static 0 told) ∷ []))
    ∷ []
    ))
    ∷ told_methods
    ++ plain_creation
    ∷ method (frame (by_value (lent 1) ∷ []) [] void) (block [] (assign told (static 0 told) (keep told null) ∷ []))
    ∷ method (frame (by_value (lent 1) ∷ []) [] void) (block [] (say (codes "%s") (told_name (local 0 (lent 1)) ∷ []) ∷ []))
    ∷ []
    ) (static_field told ∷ [])
    ) (notify ∷ signal (lent 1 ∷ []) None ∷ [])

pub argument_gone_row : Row argument_gone quiet_world 400 (Made Object ∷ Made Object ∷ Made Text ∷ line (codes "~h") ∷ Gone 3 ∷ Gone 2 ∷ []) Dead (record { kind = Object; serial = 1; owners = 2 } ∷ [])
unfolding Rattle.core_tree.specs.declared.tree.CoreExpr.TheViews.out-CoreStmt denote.Hole.Carrier.out Rattle.core_tree.specs.declared.tree.CoreExpr.TheBlock.shown-the_row-CoreStmt-3 denote.Hole.Carrier.shown denote.Hole.Carrier.hidden Rattle.core_tree.specs.declared.tree.CoreExpr.TheViews.out-CoreExpr Rattle.std.specs.Fmt.digits
argument_gone_row = record { says = refl; ends = refl; lives = refl }

-- class S : Object { public signal void hit (int i); }
-- void main () {
--   S s = new S (); unowned S u = s;
--   s.hit.connect ((i) => { print ("a%d\n", i); if (i == 0) { u.hit.connect ((j) => { print ("new%d\n", j); }); u.hit (1); } });
--   s.hit (0);
-- }
abbrev with_number : Target → ℕ → List CoreStmt → CoreExpr
with_number target n body = e.Lambda (bound_to (frame (by_value int ∷ []) [] void) target) (block [] body) (record { file = 0; start = n; «end» = n })

abbrev connect_lambda : CoreExpr → CoreExpr → CoreStmt
connect_lambda o f = run (apply (op.Connect 1 None false false true (callee.Delegate None)) (o ∷ f ∷ []))

abbrev pub emitted_within : Core
emitted_within =
    with_signals (
    program (object_class ∷ class 1 [] [] None ∷ []) (
    method (frame [] (object 0 ∷ c_type ∷ []) void) (
    st.Block (of 1 c_type ∷ []) (record { hold = 0; variables = lent 1 ∷ []; outer = None; this = None; parameters = [] } ∷ []) (
    set (local 1 c_type) (moved c_type (new 1 1 []))
    ∷ set (var (held_by 0) 0 (lent 1)) (keep (lent 1) (local 1 c_type))
    ∷ connect_lambda (local 1 c_type) (with_number (bound.Captures (held_by 0)) 1 (
    say (codes "a%d") (local 0 int ∷ [])
    ∷ st.If (apply (op.CompareNumbers compare.Equal) (local 0 int ∷ number 0 ∷ [])) (block [] (
    connect_lambda (var at_target 0 (lent 1)) (with_number bound.Nothing 2 (say (codes "new%d") (local 0 int ∷ []) ∷ []))
    ∷ run (apply (op.Emit 1) (var at_target 0 (lent 1) ∷ number 1 ∷ []))
    ∷ []
    )) (st.Empty here) here
    ∷ []
    ))
    ∷ run (apply (op.Emit 1) (local 1 c_type ∷ number 0 ∷ []))
    ∷ []
    ) here
    )
    ∷ plain_creation
    ∷ []
    ) []
    ) (notify ∷ signal (int ∷ []) None ∷ [])

pub emitted_within_row : Row emitted_within quiet_world 400 (Made Scope ∷ Made Object ∷ line (codes "a0") ∷ line (codes "a1") ∷ line (codes "new1") ∷ Gone 2 ∷ Gone 1 ∷ []) (Ended (pos 0)) ([])
unfolding Rattle.core_tree.specs.declared.tree.CoreExpr.TheViews.out-CoreStmt denote.Hole.Carrier.out Rattle.core_tree.specs.declared.tree.CoreExpr.TheBlock.shown-the_row-CoreStmt-3 denote.Hole.Carrier.shown denote.Hole.Carrier.hidden Rattle.core_tree.specs.declared.tree.CoreExpr.TheViews.out-CoreExpr Rattle.std.specs.Fmt.digits
emitted_within_row = record { says = refl; ends = refl; lives = refl }

-- class W : Object { public async int go () throws E { throw new E.A ("a"); } }
-- void main () {
--   MainLoop l = new MainLoop (); W w = new W ();
--   w.go.begin ((o, r) => { for (int i = 0; i < 2; i++) { try { print ("%d\n", w.go.end (r)); } catch (E e) { print ("%s\n", e.message); } } l.quit (); });
--   l.run ();
-- }
abbrev pub second_end : Core
second_end =
    program (object_class ∷ class 1 [] [] None ∷ []) (
    method (frame [] (object 0 ∷ []) void) (
    st.Block [] (record { hold = 0; variables = object 0 ∷ c_type ∷ []; outer = None; this = None; parameters = [] } ∷ []) (
    set (var (held_by 0) 0 (object 0)) (moved (object 0) (apply (op.Loop loop.New) []))
    ∷ set (var (held_by 0) 1 c_type) (moved c_type (new 1 1 []))
    ∷ run (apply (op.Begin 2 true here) (var (held_by 0) 1 c_type ∷ moved act (
    e.Lambda (bound_to (frame (by_value (lent 0) ∷ by_value (unowned shape.AsyncResult) ∷ []) (int ∷ error_type ∷ []) void) (bound.Captures (held_by 0))) (block [] (
    block (of 2 int ∷ []) (
    set (local 2 int) (keep int (number 0))
    ∷ st.For (apply (op.CompareNumbers compare.Less) (local 2 int ∷ number 2 ∷ [])) (run (apply (op.Increment arithmetic.Add kind.Int32 true false) (e.PlaceAndValue (local 2 int) here ∷ [])) ∷ []) (block [] (
    st.Try (block [] (say (codes "%d") (apply (op.End 2 true here) (var at_target 1 c_type ∷ local 1 (unowned shape.AsyncResult) ∷ []) ∷ []) ∷ []))
    (st.Catch (Some 8) None (local 3 error_type ∷ []) (block (of 3 error_type ∷ []) (say (codes "%s") (apply (op.Part part.ErrorMessage) (local 3 error_type ∷ []) ∷ []) ∷ [])) here ∷ []) [] here
    ∷ []
    )) here
    ∷ []
    )
    ∷ run (apply (op.Loop loop.Quit) (var at_target 0 (object 0) ∷ []))
    ∷ []
    )) here
    ) ∷ []))
    ∷ run (apply (op.Loop loop.Run) (var (held_by 0) 0 (object 0) ∷ []))
    ∷ []
    ) here
    )
    ∷ plain_creation
    ∷ async (method (frame [] [] int) (block [] (st.Throw (moved error_type (apply (op.NewError 8 (pos 0) (codes "a")) [])) here ∷ [])))
    ∷ []
    ) []

pub second_end_row : Row second_end quiet_world 600 (Made Scope ∷ Made Object ∷ Made Object ∷ Made Activation ∷ Made Error ∷ Dispatch 1 ∷ line (codes "a") ∷ Gone 5 ∷ line (codes "0") ∷ Gone 4 ∷ Gone 2 ∷ Gone 3 ∷ Gone 1 ∷ []) (Ended (pos 0)) ([])
unfolding Rattle.core_tree.specs.declared.tree.CoreExpr.TheViews.out-CoreStmt denote.Hole.Carrier.out Rattle.core_tree.specs.declared.tree.CoreExpr.TheBlock.shown-the_row-CoreStmt-3 denote.Hole.Carrier.shown denote.Hole.Carrier.hidden Rattle.core_tree.specs.declared.tree.CoreExpr.TheViews.out-CoreExpr Rattle.std.specs.Fmt.digits
second_end_row = record { says = refl; ends = refl; lives = refl }

-- class W : Object { public SourceFunc? f; public async void go () { this.f = this.go.callback; yield; print ("back\n"); } ~W () { print ("~W\n"); } }
-- void main () { W w = new W (); w.go.begin (); w.f (); print ("end\n"); }
abbrev pub resumed_by_call : Core
resumed_by_call =
    program (object_class ∷ class 1 (act ∷ []) [] (Some 3) ∷ []) (
    method (frame [] (c_type ∷ []) void) (block (of 0 c_type ∷ []) (
    set (local 0 c_type) (moved c_type (new 1 1 []))
    ∷ run (apply (op.Begin 2 true here) (local 0 c_type ∷ []))
    ∷ run (call_by (callee.Delegate (Some 9)) (field (local 0 c_type) 0 act ∷ []))
    ∷ say (codes "end") []
    ∷ []
    ))
    ∷ plain_creation
    ∷ async (method (frame [] [] void) (block [] (assign act (field this 0 act) (keep act (apply (op.Callback 2 here) [])) ∷ st.Yield here ∷ say (codes "back") [] ∷ [])))
    ∷ method (frame [] [] void) (block [] (say (codes "~W") [] ∷ []))
    ∷ []
    ) []

pub resumed_by_call_row : Row resumed_by_call quiet_world 300 (Made Object ∷ Made Activation ∷ line (codes "back") ∷ line (codes "end") ∷ []) (Ended (pos 0)) (record { kind = Object; serial = 1; owners = 1 } ∷ record { kind = Activation; serial = 2; owners = 1 } ∷ [])
unfolding Rattle.core_tree.specs.declared.tree.CoreExpr.TheViews.out-CoreStmt denote.Hole.Carrier.out Rattle.core_tree.specs.declared.tree.CoreExpr.TheBlock.shown-the_row-CoreStmt-3 denote.Hole.Carrier.shown denote.Hole.Carrier.hidden Rattle.core_tree.specs.declared.tree.CoreExpr.TheViews.out-CoreExpr Rattle.std.specs.Fmt.digits
resumed_by_call_row = record { says = refl; ends = refl; lives = refl }

-- void main () { Act? a = null; try { throw new E.A ("a"); } catch (E e) { a = () => { print ("%s\n", e.message); }; } a (); }
abbrev pub captured_error : Core
captured_error =
    program (object_class ∷ []) (
    method (frame [] (act ∷ object 0 ∷ []) void) (block (of 0 act ∷ []) (
    set (local 0 act) (keep act null)
    ∷ st.Try (block [] (st.Throw (moved error_type (apply (op.NewError 8 (pos 0) (codes "a")) [])) here ∷ []))
    (st.Catch (Some 8) None (var (held_by 1) 0 error_type ∷ []) (
    st.Block [] (record { hold = 1; variables = error_type ∷ []; outer = None; this = None; parameters = [] } ∷ []) (
    assign act (local 0 act) (moved act (lambda_at 1 (bound.Captures (held_by 1)) (say (codes "%s") (apply (op.Part part.ErrorMessage) (var at_target 0 error_type ∷ []) ∷ []) ∷ [])))
    ∷ []
    ) here
    ) here ∷ []) [] here
    ∷ run (call_by (callee.Delegate (Some 9)) (local 0 act ∷ []))
    ∷ []
    ))
    ∷ []
    ) []

pub captured_error_row : Row captured_error quiet_world 300 (Made Error ∷ Made Scope ∷ line (codes "a") ∷ Gone 1 ∷ Gone 2 ∷ []) (Ended (pos 0)) ([])
unfolding Rattle.core_tree.specs.declared.tree.CoreExpr.TheViews.out-CoreStmt denote.Hole.Carrier.out Rattle.core_tree.specs.declared.tree.CoreExpr.TheBlock.shown-the_row-CoreStmt-3 denote.Hole.Carrier.shown denote.Hole.Carrier.hidden Rattle.core_tree.specs.declared.tree.CoreExpr.TheViews.out-CoreExpr Rattle.std.specs.Fmt.digits
captured_error_row = record { says = refl; ends = refl; lives = refl }
