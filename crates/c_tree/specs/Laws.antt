-- What the laws on the dialect speak of.
use Rattle.std.specs.Prelude.{◌≡◌, ℕ, ◌≤◌, IsTrue, Bool, true, false, List, [], ◌∷◌, All, Some, None, Result, Ok, length, ◌⊎◌, ◌↔◌}
use Rattle.c_tree.specs.declared.kinds.Fault.{Fault}
use Rattle.c_tree.specs.declared.kinds.Kind.{Kind}
use Rattle.c_tree.specs.declared.kinds.Refusal.{Refusal}
use Rattle.c_tree.specs.declared.unit.Unit.{Unit as CUnit}
use Rattle.c_tree.specs.Words.{Word}
use Rattle.c_tree.specs.Items.{ReadsUnit}
use Rattle.c_tree.specs.Faults.{least, is_before}
use Rattle.c_tree.specs.Kinds.{same, fits}
use Rattle.c_tree.specs.Unit.{unit_faults, has_main}
use Rattle.c_tree.specs.Answers.{CReads, IsWellFormed, Answers}

-- tokens are one unit at most
abbrev pub OneUnit : Type 0
OneUnit = (w : Word) (a b : CUnit) → ReadsUnit w a → ReadsUnit w b → a ≡ b

-- bytes have one answer at most
abbrev pub OneAnswer : Type 0
OneAnswer = (bytes : List ℕ) (limit : ℕ) (r s : Result CUnit Refusal) → Answers bytes limit r → Answers bytes limit s → r ≡ s

-- a unit is answered exactly where the bytes are one and no more than the limit
abbrev pub AnswersUnits : Type 0
AnswersUnits = (bytes : List ℕ) (limit : ℕ) (u : CUnit) → Answers bytes limit (Ok u) ↔ ((length bytes ≤ limit) × CReads bytes u)

-- a well-formed unit has no fault, and a `main`
abbrev pub WellFormedUnitsAreSound : Type 0
WellFormedUnitsAreSound = (u : CUnit) → IsWellFormed u → (unit_faults u ≡ []) × (has_main u ≡ true)

-- a fault is one of the list
abbrev pub OneOf : List Fault → Fault → Type 0
OneOf [] f = ⊥
OneOf (g ∷ gs) f = (g ≡ f) ⊎ OneOf gs f

-- the least of a list is one of it, and none of it comes before
abbrev pub LeastIsFirst : Type 0
LeastIsFirst = (fs : List Fault) (f : Fault) → least None fs ≡ Some f → OneOf fs f × All (λ (g : Fault). is_before g f ≡ false) fs

-- of a list that is not empty there is a least
abbrev pub FaultsHaveALeast : Type 0
FaultsHaveALeast = (f : Fault) (fs : List Fault) → (g : Fault) × (least None (f ∷ fs) ≡ Some g)

-- kinds that are found equal are equal
abbrev pub SameKindsAreEqual : Type 0
SameKindsAreEqual = (a b : Kind) → IsTrue (same a b) ↔ (a ≡ b)

-- a value of a place's own kind fits it
abbrev pub EachKindFitsItself : Type 0
EachKindFitsItself = (a : Kind) (null : Bool) → IsTrue (fits a a null)
