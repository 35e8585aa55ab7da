-- Words for cores that are written out by hand.
use Rattle.std.specs.Prelude.{◌≡◌, ℕ, true, false, List, [], ◌∷◌, ◌++◌, Option, Some, None, codes}
use Rattle.vg_base.specs.declared.event.Span.{Span}
use Rattle.vg_base.specs.World.{World}
use Rattle.vg_base.specs.declared.event.Event.{Event}
use Rattle.vg_base.specs.declared.event.Event.TheVariants.{Print}
use Rattle.vg_base.specs.declared.event.Stream.TheVariants.{Out}
use Rattle.vg_base.specs.declared.event.LiveRow.{LiveRow}
use Rattle.vg_base.specs.declared.event.VEnd.{VEnd}
use Rattle.vg_base.specs.Headline.{printed}
use Rattle.vg_base.specs.declared.event.Entry.{Entry}
use Rattle.core_tree.specs.Step.{VRun}
use Rattle.vala_types.specs.declared.types.IntKind.TheVariants as kind
use Rattle.vala_types.specs.declared.types.Shape.{Shape}
use Rattle.vala_types.specs.declared.types.Shape.TheVariants as shape
use Rattle.vala_types.specs.declared.types.VType.{VType}
use Rattle.vala_types.specs.declared.owners.Change.{Change}
use Rattle.vala_types.specs.declared.owners.Change.TheVariants as change
use Rattle.core_tree.specs.declared.program.Core.{Core}
use Rattle.core_tree.specs.declared.lambda.BlockLocal.{BlockLocal}
use Rattle.core_tree.specs.declared.lambda.CoreParameter.{CoreParameter}
use Rattle.core_tree.specs.declared.lambda.Lambda.{Lambda}
use Rattle.core_tree.specs.declared.lambda.Locals.{Locals}
use Rattle.core_tree.specs.declared.lambda.Mode.{Mode}
use Rattle.core_tree.specs.declared.lambda.Mode.TheVariants as mode
use Rattle.core_tree.specs.declared.lambda.Target.{Target}
use Rattle.core_tree.specs.declared.lambda.ThisAt.TheVariants as from
use Rattle.core_tree.specs.declared.operation.Operation.{Operation}
use Rattle.core_tree.specs.declared.operation.Operation.TheVariants as op
use Rattle.core_tree.specs.declared.tree.CoreExpr.{CoreExpr}
use Rattle.core_tree.specs.declared.tree.CoreExpr.TheVariants as e
use Rattle.core_tree.specs.declared.tree.CoreStmt.{CoreStmt}
use Rattle.core_tree.specs.declared.tree.SectionLabel.{SectionLabel}
use Rattle.core_tree.specs.declared.tree.CoreStmt.TheVariants as st
use Rattle.core_tree.specs.declared.types.CoreMethod.{CoreMethod}
use Rattle.core_tree.specs.declared.types.CorePlace.{CorePlace}
use Rattle.core_tree.specs.declared.types.CoreProperty.{CoreProperty}
use Rattle.core_tree.specs.declared.types.CoreSignal.{CoreSignal}
use Rattle.core_tree.specs.declared.types.CoreType.{CoreType}
use Rattle.core_tree.specs.declared.types.CoreType.TheVariants as declared
use Rattle.core_tree.specs.declared.types.Making.{Making}
use Rattle.core_tree.specs.declared.types.Making.TheVariants as making
use Rattle.core_tree.specs.declared.values.Callee.{Callee}
use Rattle.core_tree.specs.declared.values.Callee.TheVariants as callee

abbrev pub here : Span
here = record { file = 0; start = 0; «end» = 0 }

abbrev pub owned : Shape → VType
owned s = record { shape = s; owned = true; nullable = true }

abbrev pub unowned : Shape → VType
unowned s = record { shape = s; owned = false; nullable = true }

abbrev pub void : VType
void = unowned shape.Void

abbrev pub int : VType
int = owned (shape.Int kind.Int32)

abbrev pub text : VType
text = owned shape.Text

abbrev pub object : ℕ → VType
object n = owned (shape.Class n)

-- Expressions

abbrev pub apply : Operation → List CoreExpr → CoreExpr
apply o parts = e.Apply o parts here

abbrev pub number : ℕ → CoreExpr
number n = apply (op.Number false n) []

abbrev pub literal : List ℕ → CoreExpr
literal bytes = apply (op.Text bytes) []

abbrev pub null : CoreExpr
null = apply op.Null []

abbrev pub local : ℕ → VType → CoreExpr
local n kind = apply (op.Local n kind) []

abbrev pub static : ℕ → VType → CoreExpr
static n kind = apply (op.Static n kind) []

abbrev pub this : CoreExpr
this = apply (op.This from.Own) []

abbrev pub field : CoreExpr → ℕ → VType → CoreExpr
field o n kind = apply (op.Field n kind) (o ∷ [])

abbrev pub changed : Change → VType → CoreExpr → CoreExpr
changed ch kind x = apply (op.Change ch kind) (x ∷ [])

abbrev pub place : CoreExpr → CoreExpr
place x = e.PlaceOf x here

abbrev pub assign : VType → CoreExpr → CoreExpr → CoreStmt
assign kind target x = st.Expression (apply (op.Assign kind false) (place target ∷ x ∷ [])) here

abbrev pub set : CoreExpr → CoreExpr → CoreStmt
set target x = st.Local target x here

abbrev pub run : CoreExpr → CoreStmt
run x = st.Expression x here

-- a print of a format, with a line feed behind it
abbrev pub say : List ℕ → List CoreExpr → CoreStmt
say format xs = run (apply (op.Print false (format ++ 10 ∷ [])) xs)

abbrev pub of : ℕ → VType → BlockLocal
of n kind = record { local = n; kind = kind }

abbrev pub block : List BlockLocal → List CoreStmt → CoreStmt
block locals body = st.Block locals [] body here

-- Methods and classes

abbrev pub frame : List CoreParameter → List VType → VType → Locals
frame parameters others result = record { parameters = parameters; others = others; result = result }

abbrev pub parameter : VType → Mode → CoreParameter
parameter kind how = record { kind = kind; mode = how; at = here }

abbrev pub by_value : VType → CoreParameter
by_value kind = parameter kind mode.Value

abbrev pub method : Locals → CoreStmt → CoreMethod
method locals body = record { symbol = Some 0; locals = locals; is_async = false; body = body ∷ []; making = making.Nothing }

abbrev pub creation : Locals → Making → CoreStmt → CoreMethod
creation locals begins body = record { symbol = Some 0; locals = locals; is_async = false; body = body ∷ []; making = begins }

-- a creation method without parameters that does nothing
abbrev pub plain_creation : CoreMethod
plain_creation = creation (frame [] [] void) (making.Object []) (block [] [])

-- the class `Object`, which has the number 0
abbrev pub object_class : CoreType
object_class =
    declared.Class (record { base = None; interfaces = []; is_a = 0 ∷ []; cells = []; own = 0; initials = []; construct_properties = []; construct_blocks = []; destructor = None; slots = [] })

-- a class under `Object`, by its number, its cells, initialisers and destructor
abbrev pub class : ℕ → List VType → List CoreStmt → Option ℕ → CoreType
class n cells initials destructor =
    declared.Class (record { base = Some 0; interfaces = []; is_a = n ∷ 0 ∷ []; cells = cells; own = 0; initials = initials; construct_properties = []; construct_blocks = []; destructor = destructor; slots = [] })

-- an interface under `Object`, by its number
abbrev pub interface : ℕ → CoreType
interface n = declared.Interface (record { bases = 0 ∷ []; is_a = n ∷ 0 ∷ [] })

abbrev pub static_field : VType → CorePlace
static_field kind = record { symbol = 0; kind = kind; initial = [] }

-- the labels of a section

abbrev pub case_label : SectionLabel
case_label = record { is_default = false; at = here }

abbrev pub default_label : SectionLabel
default_label = record { is_default = true; at = here }

-- a program whose `main` is the method 0
abbrev pub program : List CoreType → List CoreMethod → List CorePlace → Core
program types methods statics =
    record { decls = []; types = types; origins = []; methods = methods; properties = []; signals = []; slots = []; statics = statics; start = 0; tokens = 0 }

abbrev pub with_properties : Core → List CoreProperty → Core
with_properties core ps = record core { properties = ps }

abbrev pub with_signals : Core → List CoreSignal → Core
with_signals core ss = record core { signals = ss }

-- the signal `notify` of `Object`, which has the number 0
abbrev pub notify : CoreSignal
notify = record { name = codes "notify"; declared_in = 0; symbol = None; parameters = unowned shape.ParamSpec ∷ []; class_handler = None }

-- a signal, of which a run needs no more
abbrev pub signal : List VType → Option ℕ → CoreSignal
signal parameters class_handler = record { name = codes "signal"; declared_in = 1; symbol = Some 0; parameters = parameters; class_handler = class_handler }

abbrev pub quiet_world : World
quiet_world = record { name = codes "a"; input = []; entries = [] }

-- `new C ()`
abbrev pub new : ℕ → ℕ → List CoreExpr → CoreExpr
new c m xs = apply (op.New c m) xs

abbrev pub call_by : Callee → List CoreExpr → CoreExpr
call_by to xs = apply (op.Call to here) xs

abbrev pub call : ℕ → List CoreExpr → CoreExpr
call m xs = call_by (callee.Static m) xs

abbrev pub call_on : CoreExpr → ℕ → List CoreExpr → CoreExpr
call_on o m xs = call_by (callee.Method m) (o ∷ xs)

-- what is computed of a run: its trace after so many steps, its end, and what lives then
pub record Row (core : Core) (w : World) (n : ℕ) (trace : List Event) (ended : VEnd) (live : List LiveRow) : Type 0 where
  pub says : (VRun core w).trace n ≡ trace
  pub ends : (VRun core w).ended n ≡ Some ended
  pub lives : (VRun core w).live n ≡ live

-- a line of output
abbrev pub line : List ℕ → Event
line bytes = Print Out (bytes ++ 10 ∷ [])

abbrev pub text_param : CoreParameter
text_param = by_value (unowned shape.Text)

-- a value that goes into a place as it is
abbrev pub keep : VType → CoreExpr → CoreExpr
keep kind x = changed change.Keep kind x

abbrev pub moved : VType → CoreExpr → CoreExpr
moved kind x = changed change.Move kind x

-- a text literal in an owning place
abbrev pub copied : CoreExpr → CoreExpr
copied x = changed change.CopyText text x

-- the same of what is printed to the output alone
pub record Printed (core : Core) (w : World) (n : ℕ) (bytes : List ℕ) (ended : VEnd) (live : List LiveRow) : Type 0 where
  pub says : printed Out ((VRun core w).trace n) ≡ bytes
  pub ends : (VRun core w).ended n ≡ Some ended
  pub lives : (VRun core w).live n ≡ live

-- a world with these lines in its script
abbrev pub scripted : List Entry → World
scripted entries = record { name = codes "a"; input = []; entries = entries }

-- class T : Object { public string n; public T (string n) { this.n = n; } ~T () { print ("~%s\n", this.n); } }
-- It is the class 1; its creation method is the method 1, and its destructor the method 2.
abbrev pub told : VType
told = object 1

abbrev pub told_name : CoreExpr → CoreExpr
told_name o = field o 0 text

abbrev pub told_type : CoreType
told_type = class 1 (text ∷ []) [] (Some 2)

abbrev pub told_methods : List CoreMethod
told_methods =
    creation (frame (text_param ∷ []) [] void) (making.Object []) (block [] (assign text (told_name this) (copied (local 0 (unowned shape.Text))) ∷ []))
    ∷ method (frame [] [] void) (block [] (say (codes "~%s") (told_name this ∷ []) ∷ []))
    ∷ []

abbrev pub by_text : List ℕ → CoreExpr
by_text bytes = keep (unowned shape.Text) (literal bytes)

abbrev pub new_told : List ℕ → CoreExpr
new_told bytes = moved told (new 1 1 (by_text bytes ∷ []))

-- a delegate type, and a lambda at a place of the text that has no parameters and no result
abbrev pub act : VType
act = owned (shape.Delegate 9)

-- a lambda that owns its target
abbrev pub bound_to : Locals → Target → Lambda
bound_to locals target = record { delegate = None; locals = locals; target = target; is_owning = true }

abbrev pub lambda_at : ℕ → Target → List CoreStmt → CoreExpr
lambda_at n target body =
    e.Lambda (bound_to (frame [] [] void) target) (block [] body) (record { file = 0; start = n; «end» = n })

-- an error of the domain 8
abbrev pub error_type : VType
error_type = owned (shape.Error (Some 8))
