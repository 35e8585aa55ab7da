-- What the trees of a program break, phase by phase.
use Rattle.std.specs.Prelude.{Bool, List, [], ◌∷◌}
use Rattle.static_rules.specs.declared.rules.Refusal.{Refusal}
use Rattle.vala_tree.specs.declared.member.FileTree.{FileTree}
use Rattle.symbols.specs.Faults.{declaration_faults}
use Rattle.class_table.specs.Faults.{class_faults}
use Rattle.breaks.specs.Order.{in_order}

-- The faults of the phases behind the first, each phase a list: declarations, then bases and overriding. A phase that comes to be told is
-- added behind them. `strict` asks for the rules on null, which no phase has yet.
abbrev pub phases : List FileTree → Bool → List (List Refusal)
phases files strict = declaration_faults files ∷ class_faults files ∷ []

-- A phase is looked at only where those in front of it have no fault.
abbrev pub first_broken : List (List Refusal) → List Refusal
first_broken [] = []
first_broken ([] ∷ later) = first_broken later
first_broken ((r ∷ rs) ∷ later) = in_order (r ∷ rs)

-- WHAT TREES BREAK: all faults of the first phase that has one, in their order
abbrev pub broken_by : List FileTree → Bool → List Refusal
broken_by files strict = first_broken (phases files strict)
