-- Faults, and which of them comes first.
use Rattle.std.specs.Prelude.{ℕ, suc, ◌==◌, ◌&&◌, ◌||◌, nat_lt, nat_le, Bool, true, false, if◌then◌else◌, List, [], ◌∷◌, Option, Some, None}
use Rattle.c_tree.specs.declared.names.Name.{Name}
use Rattle.c_tree.specs.declared.names.Span.{Span}
use Rattle.c_tree.specs.declared.kinds.Kind.{Kind}
use Rattle.c_tree.specs.declared.kinds.Cause.{Cause}
use Rattle.c_tree.specs.declared.kinds.Cause.TheVariants.{Token, Syntax, Undeclared, Misfit, Twice, Large}
use Rattle.c_tree.specs.declared.kinds.Fault.{Fault}

-- a list of one fault
abbrev pub fault : Cause → ℕ → ℕ → List Fault
fault c place since = record { place = place; cause = c; since = since } ∷ []

-- a name that nothing declares, known by itself
abbrev pub undeclared : Name → List Fault
undeclared x = fault Undeclared x.span.start x.span.start

-- a name that its scope has already, known by itself
abbrev pub twice : Name → List Fault
twice x = fault Twice x.span.start x.span.start

-- a part that does not fit, known by the token behind it
abbrev pub misfit : Span → List Fault
misfit s = fault Misfit s.start s.end

-- faults, where a test fails
abbrev pub unless : Bool → List Fault → List Fault
unless true fs = []
unless false fs = fs

-- a fault that is not known before a place
abbrev pub later : ℕ → Fault → Fault
later n f = if nat_le n f.since then f else record f { since = n }

-- Nothing of a declaration or statement is known by its first token alone: a name there may be a label.
abbrev pub behind_first : ℕ → List Fault → List Fault
behind_first start [] = []
behind_first start (f ∷ fs) = later (suc start) f ∷ behind_first start fs

-- What a rule says of a part: its kind, that it does not fit, that a struct lacks the field, or nothing, where a part of it has no kind.
pub data Outcome : Type 0 where
  Gives : Kind → Outcome
  Wrong : Outcome
  Lacks : Name → Outcome
  Silent : Outcome

-- a kind, or that there is none
abbrev pub outcome : Option Kind → Outcome
outcome (Some k) = Gives k
outcome None = Wrong

-- the kind of an outcome
abbrev pub outcome_kind : Outcome → Option Kind
outcome_kind (Gives k) = Some k
outcome_kind o = None

-- the fault of an outcome, of a part that stands there
abbrev pub outcome_faults : Outcome → Span → List Fault
outcome_faults Wrong s = misfit s
outcome_faults (Lacks x) s = undeclared x
outcome_faults o s = []

-- a rule on kinds stands where they are there
abbrev pub on : Option Kind → (Kind → Outcome) → Outcome
on None f = Silent
on (Some k) f = f k

-- which of two comes first: by place, then by the order of causes
abbrev pub rank : Cause → ℕ
rank Token = 1
rank Syntax = 2
rank Undeclared = 3
rank Misfit = 4
rank Twice = 5
rank Large = 6

-- whether a fault comes before another
abbrev pub is_before : Fault → Fault → Bool
is_before a b = nat_lt a.place b.place || (a.place == b.place && nat_lt (rank a.cause) (rank b.cause))

-- the first of two
abbrev pub lesser : Option Fault → Fault → Option Fault
lesser None f = Some f
lesser (Some g) f = if is_before f g then Some f else Some g

-- the first of what was there and of a list, the earlier of equal ones
abbrev pub least : Option Fault → List Fault → Option Fault
least o [] = o
least o (f ∷ fs) = least (lesser o f) fs

-- what is known of a list once the token that begins at `last` was taken
abbrev pub is_known : ℕ → Fault → Bool
is_known last f = nat_le f.since last

-- what is known of a list
abbrev pub known : ℕ → List Fault → List Fault
known last [] = []
known last (f ∷ fs) = if is_known last f then f ∷ known last fs else known last fs
