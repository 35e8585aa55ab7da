-- A destructor runs where the last of two owners goes, in front of what comes behind.
use Rattle.std.specs.Prelude.{refl, [], ◌∷◌, Some, codes, pos}
use Rattle.vg_base.specs.declared.event.Event.TheVariants.{Print, Made, Gone}
use Rattle.vg_base.specs.declared.event.Stream.TheVariants.{Out}
use Rattle.vg_base.specs.declared.event.ThingKind.TheVariants.{Object}
use Rattle.vg_base.specs.declared.event.VEnd.TheVariants.{Ended}
use Rattle.vala_types.specs.declared.owners.Change.TheVariants.{Move, AddOwner, Keep}
use Rattle.core_tree.specs.declared.program.Core.{Core}
use Rattle.core_tree.proofs.Build

-- class Foo : Object { ~Foo () { print ("gone\n"); } }
-- void main () { Foo? a = new Foo (); Foo? b = a; a = null; print ("one\n"); b = null; print ("two\n"); }
abbrev pub core : Core
core =
    Build.program (Build.object_class ∷ Build.class 1 [] [] (Some 2) ∷ []) (
    Build.method (Build.frame [] (foo ∷ foo ∷ []) Build.void) (Build.block (Build.of 0 foo ∷ Build.of 1 foo ∷ []) (
    Build.set (Build.local 0 foo) (Build.changed Move foo (Build.new 1 1 []))
    ∷ Build.set (Build.local 1 foo) (Build.changed AddOwner foo (Build.local 0 foo))
    ∷ Build.assign foo (Build.local 0 foo) (Build.changed Keep foo Build.null)
    ∷ Build.say (codes "one") []
    ∷ Build.assign foo (Build.local 1 foo) (Build.changed Keep foo Build.null)
    ∷ Build.say (codes "two") []
    ∷ []
    ))
    ∷ Build.plain_creation
    ∷ Build.method (Build.frame [] [] Build.void) (Build.block [] (Build.say (codes "gone") [] ∷ []))
    ∷ []
    ) []
  where
    foo : Rattle.vala_types.specs.declared.types.VType.VType
    foo = Build.object 1

pub row : Build.Row core Build.quiet_world 120 (Made Object ∷ Print Out (codes "one\n") ∷ Print Out (codes "gone\n") ∷ Gone 1 ∷ Print Out (codes "two\n") ∷ []) (Ended (pos 0)) []
unfolding Rattle.core_tree.specs.declared.tree.CoreExpr.TheViews.out-CoreStmt denote.Hole.Carrier.out Rattle.core_tree.specs.declared.tree.CoreExpr.TheBlock.shown-the_row-CoreStmt-3 denote.Hole.Carrier.shown denote.Hole.Carrier.hidden Rattle.core_tree.specs.declared.tree.CoreExpr.TheViews.out-CoreExpr
row = record { says = refl; ends = refl; lives = refl }
