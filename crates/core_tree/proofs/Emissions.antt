-- Emissions, handlers that change the handlers, and notifications.
use Rattle.std.specs.Prelude.{refl, ℕ, true, false, List, [], ◌∷◌, Some, None, codes, pos}
use Rattle.vg_base.specs.declared.event.Event.TheVariants.{Made, Gone}
use Rattle.vg_base.specs.declared.event.ThingKind.TheVariants.{Object}
use Rattle.vg_base.specs.declared.event.VEnd.TheVariants.{Ended}
use Rattle.vala_types.specs.declared.types.VType.{VType}
use Rattle.core_tree.specs.declared.program.Core.{Core}
use Rattle.core_tree.specs.declared.lambda.Target.TheVariants as bound
use Rattle.core_tree.specs.declared.operation.Operation.TheVariants as op
use Rattle.core_tree.specs.declared.tree.CoreExpr.{CoreExpr}
use Rattle.core_tree.specs.declared.tree.CoreExpr.TheVariants as e
use Rattle.core_tree.specs.declared.tree.CoreStmt.{CoreStmt}
use Rattle.core_tree.specs.declared.types.Accessor.TheVariants as access
use Rattle.core_tree.specs.declared.values.Callee.TheVariants as callee
use Rattle.core_tree.proofs.Build.{Row, here, void, int, object, apply, number, local, static, this, field, assign, set, run, say, of, block, frame, by_value, method, plain_creation, object_class, class, static_field, program, with_properties, with_signals, notify, quiet_world, new, line, keep, moved, bound_to, signal}

-- class S : Object { public signal void hit (int x); }
-- S? s;
-- void one (int x) { print ("one %d\n", x); s.hit.disconnect (two); s.hit.connect (three); }
-- void two (int x) { print ("two %d\n", x); }
-- void three (int x) { print ("three %d\n", x); }
-- void main () { s = new S (); s.hit.connect (one); s.hit.connect (two); s.hit (1); s.hit (2); }
abbrev sender : VType
sender = object 1

abbrev s : CoreExpr
s = static 0 sender

abbrev connect : ℕ → CoreStmt
connect m = run (apply (op.Connect 1 None false false true (callee.Static m)) (s ∷ []))

abbrev prints : List ℕ → List CoreStmt → CoreStmt
prints format rest = block [] (say format (local 0 int ∷ []) ∷ rest)

abbrev emit : ℕ → CoreStmt
emit x = run (apply (op.Emit 1) (s ∷ keep int (number x) ∷ []))

abbrev pub disconnected : Core
disconnected =
    with_signals (
    program (object_class ∷ class 1 [] [] None ∷ []) (
    method (frame [] [] void) (block [] (
    assign sender s (moved sender (new 1 1 [])) ∷ connect 2 ∷ connect 3 ∷ emit 1 ∷ emit 2 ∷ []
    ))
    ∷ plain_creation
    ∷ method (frame (by_value int ∷ []) [] void) (prints (codes "one %d") (
    run (apply (op.Disconnect 1 (callee.Static 3)) (s ∷ [])) ∷ connect 4 ∷ []
    ))
    ∷ method (frame (by_value int ∷ []) [] void) (prints (codes "two %d") [])
    ∷ method (frame (by_value int ∷ []) [] void) (prints (codes "three %d") [])
    ∷ []
    ) (static_field sender ∷ [])
    ) (notify ∷ signal (int ∷ []) None ∷ [])

pub disconnected_row : Row disconnected quiet_world 300 (Made Object ∷ line (codes "one 1") ∷ line (codes "one 2") ∷ line (codes "three 2") ∷ []) (Ended (pos 0)) (record { kind = Object; serial = 1; owners = 1 } ∷ [])
unfolding Rattle.core_tree.specs.declared.tree.CoreExpr.TheViews.out-CoreStmt denote.Hole.Carrier.out Rattle.core_tree.specs.declared.tree.CoreExpr.TheBlock.shown-the_row-CoreStmt-3 denote.Hole.Carrier.shown denote.Hole.Carrier.hidden Rattle.core_tree.specs.declared.tree.CoreExpr.TheViews.out-CoreExpr Rattle.std.specs.Fmt.digits
disconnected_row = record { says = refl; ends = refl; lives = refl }

-- class P : Object { public int n { get; set; default = 3; } }
-- void main () { P p = new P (); p.notify["n"].connect (() => { print ("n\n"); }); p.n = 3; p.n = 4; print ("%d\n", p.n); }
abbrev p : CoreExpr
p = local 0 sender

abbrev p_n : CoreExpr
p_n = apply (op.Property 0) (p ∷ [])

abbrev said_n : CoreExpr
said_n = e.Lambda (bound_to (frame [] [] void) bound.Nothing) (block [] (say (codes "n") [] ∷ [])) here

abbrev pub notified : Core
notified =
    with_signals (with_properties (
    program (object_class ∷ class 1 (int ∷ []) (set (field this 0 int) (keep int (number 3)) ∷ []) None ∷ []) (
    method (frame [] (sender ∷ []) void) (block (of 0 sender ∷ []) (
    set p (moved sender (new 1 1 []))
    ∷ run (apply (op.Connect 0 (Some (codes "n")) false false false (callee.Delegate None)) (p ∷ said_n ∷ []))
    ∷ assign int p_n (keep int (number 3))
    ∷ assign int p_n (keep int (number 4))
    ∷ say (codes "%d") (p_n ∷ [])
    ∷ []
    ))
    ∷ plain_creation
    ∷ []
    ) []
    ) (record {
      name = codes "n";
      kind = int;
      declared_in = 1;
      symbol = 0;
      getter = access.Automatic 0;
      is_get_owned = false;
      get_slot = None;
      setter = access.Automatic 0;
      set_slot = None;
      is_construct = false;
      default = [];
    } ∷ [])) (notify ∷ [])

pub notified_row : Row notified quiet_world 300 (Made Object ∷ line (codes "n") ∷ line (codes "4") ∷ Gone 1 ∷ []) (Ended (pos 0)) ([])
unfolding Rattle.core_tree.specs.declared.tree.CoreExpr.TheViews.out-CoreStmt denote.Hole.Carrier.out Rattle.core_tree.specs.declared.tree.CoreExpr.TheBlock.shown-the_row-CoreStmt-3 denote.Hole.Carrier.shown denote.Hole.Carrier.hidden Rattle.core_tree.specs.declared.tree.CoreExpr.TheViews.out-CoreExpr Rattle.std.specs.Fmt.digits
notified_row = record { says = refl; ends = refl; lives = refl }
