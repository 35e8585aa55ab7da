-- Lambdas share the variables that they capture, and their scope goes with the last of them.
use Rattle.std.specs.Prelude.{refl, ℕ, true, false, [], ◌∷◌, None, codes, pos, Some}
use Rattle.vg_base.specs.declared.event.Event.TheVariants.{Made, Gone}
use Rattle.vg_base.specs.declared.event.ThingKind.TheVariants.{Object, Scope}
use Rattle.vg_base.specs.declared.event.VEnd.TheVariants.{Ended}
use Rattle.vala_types.specs.declared.types.IntKind.TheVariants as kind
use Rattle.vala_types.specs.declared.types.Shape.TheVariants as shape
use Rattle.vala_types.specs.declared.types.VType.{VType}
use Rattle.core_tree.specs.declared.program.Core.{Core}
use Rattle.core_tree.specs.declared.lambda.Scope.{Scope as BlockScope}
use Rattle.core_tree.specs.declared.lambda.ScopeAt.{ScopeAt}
use Rattle.core_tree.specs.declared.lambda.Target.TheVariants as bound
use Rattle.core_tree.specs.declared.lambda.Via.TheVariants as via
use Rattle.core_tree.specs.declared.operation.Operation.TheVariants as op
use Rattle.core_tree.specs.declared.tree.CoreExpr.{CoreExpr}
use Rattle.core_tree.specs.declared.tree.CoreExpr.TheVariants as e
use Rattle.core_tree.specs.declared.tree.CoreStmt.{CoreStmt}
use Rattle.core_tree.specs.declared.tree.CoreStmt.TheVariants as st
use Rattle.core_tree.specs.declared.values.Arithmetic.TheVariants as arithmetic
use Rattle.core_tree.specs.declared.values.Callee.TheVariants as callee
use Rattle.core_tree.proofs.Build.{Row, here, owned, void, int, object, apply, number, null, local, this, field, assign, set, run, say, of, block, frame, method, plain_creation, object_class, class, program, quiet_world, new, call_on, line, keep, moved, bound_to, call_by}

-- delegate void Act ();
-- class Box : Object {
--   public Act? up; public Act? show;
--   public void fill () { int n = 5; this.up = () => { n++; }; this.show = () => { print ("%d\n", n); }; }
-- }
-- void main () { Box b = new Box (); b.fill (); b.up (); b.up (); b.show (); b.up = null; b.show (); b.show = null; print ("end\n"); }
abbrev act : VType
act = owned (shape.Delegate 2)

abbrev box : VType
box = object 1

abbrev in_block : ScopeAt
in_block = record { via = via.Hold 0; outward = 0 }

abbrev in_target : ScopeAt
in_target = record { via = via.Target; outward = 0 }

abbrev n_in : ScopeAt → CoreExpr
n_in at = apply (op.Captured at 0 int) []

-- a lambda that captures from the block's scope
abbrev lambda : ℕ → CoreStmt → CoreExpr
lambda at body =
    e.Lambda (bound_to (frame [] [] void) (bound.Captures in_block)) body (record { file = 0; start = at; «end» = at })

abbrev scope_of_n : BlockScope
scope_of_n = record { hold = 0; variables = int ∷ []; outer = None; this = None; parameters = [] }

abbrev call_delegate : CoreExpr → CoreStmt
call_delegate x = run (call_by (callee.Delegate (Some 2)) (x ∷ []))

abbrev b : CoreExpr
b = local 0 box

abbrev pub shared_variable : Core
shared_variable =
    program (object_class ∷ class 1 (act ∷ act ∷ []) [] None ∷ []) (
    method (frame [] (box ∷ []) void) (block (of 0 box ∷ []) (
    set b (moved box (new 1 1 []))
    ∷ run (call_on b 2 [])
    ∷ call_delegate (field b 0 act)
    ∷ call_delegate (field b 0 act)
    ∷ call_delegate (field b 1 act)
    ∷ assign act (field b 0 act) (keep act null)
    ∷ call_delegate (field b 1 act)
    ∷ assign act (field b 1 act) (keep act null)
    ∷ say (codes "end") []
    ∷ []
    ))
    ∷ plain_creation
    ∷ method (frame [] (object 0 ∷ []) void) (
    st.Block [] (scope_of_n ∷ []) (
    set (n_in in_block) (keep int (number 5))
    ∷ assign act (field this 0 act) (moved act (lambda 1 (block [] (run (apply (op.Increment arithmetic.Add kind.Int32 true false) (e.PlaceAndValue (n_in in_target) here ∷ [])) ∷ []))))
    ∷ assign act (field this 1 act) (moved act (lambda 2 (block [] (say (codes "%d") (n_in in_target ∷ []) ∷ []))))
    ∷ []
    ) here
    )
    ∷ []
    ) []

pub shared_variable_row : Row shared_variable quiet_world 300 (Made Object ∷ Made Scope ∷ line (codes "7") ∷ line (codes "7") ∷ Gone 2 ∷ line (codes "end") ∷ Gone 1 ∷ []) (Ended (pos 0)) ([])
unfolding Rattle.core_tree.specs.declared.tree.CoreExpr.TheViews.out-CoreStmt denote.Hole.Carrier.out Rattle.core_tree.specs.declared.tree.CoreExpr.TheBlock.shown-the_row-CoreStmt-3 denote.Hole.Carrier.shown denote.Hole.Carrier.hidden Rattle.core_tree.specs.declared.tree.CoreExpr.TheViews.out-CoreExpr Rattle.std.specs.Fmt.digits
shared_variable_row = record { says = refl; ends = refl; lives = refl }
