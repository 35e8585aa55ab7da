-- What breaks the rules of bases and overriding: the third phase of refusals, as a list of all faults.
use Rattle.std.specs.Prelude.{ℕ, Bool, true, false, not, ◌&&◌, if◌then◌else◌, List, [], ◌∷◌, ◌++◌, map, Option, Some, None}
use Rattle.std.specs.List.{list_any, filter, filter_map, flat_map, enumerate_from}
use Rattle.vg_base.specs.declared.event.Span.{Span}
use Rattle.static_rules.specs.declared.rules.Refusal.{Refusal}
use Rattle.static_rules.specs.declared.rules.Rule.{Rule}
use Rattle.static_rules.specs.declared.rules.Rule.TheVariants.{T5, T6, T7}
use Rattle.vala_tree.specs.declared.member.FileTree.{FileTree}
use Rattle.symbols.specs.declared.table.Symbol.{Symbol}
use Rattle.symbols.specs.Table.{names_of}
use Rattle.class_table.specs.Trees.{Program, program_of, place_of, is_abstract}
use Rattle.class_table.specs.Bases.{Standing, Base, Wrong, Untold, standings_of, is_class}
use Rattle.class_table.specs.Slots.{is_wrong, slots, standing_in}

-- a fault of a rule at a part of the text
abbrev pub fault : Rule → Span → Refusal
fault r s = record { rule = r; phase = 3; span = s }

abbrev pub number_in : ℕ × Symbol → ℕ
number_in row = row.0

-- the numbers of all declarations
abbrev pub numbers : Program → List ℕ
numbers p = map number_in (enumerate_from 0 p.names.symbols)

-- 1. Bases of the wrong kind

abbrev pub wrong_kind : Standing → Option Refusal
wrong_kind (Wrong s) = Some (fault T5 s)
wrong_kind b = None

-- A BASE OF THE WRONG KIND: what is no class or interface, a second class, `MainLoop`, or in an interface a class other than `Object`
abbrev pub base_faults : Program → List Refusal
base_faults p = flat_map (λ n. filter_map wrong_kind (standings_of p n)) (numbers p)

-- 2. Overrides

-- AN OVERRIDE WITHOUT A VIRTUAL MEMBER that it matches
abbrev pub override_faults : Program → List Refusal
override_faults p = map (λ n. fault T6 (place_of p n)) (filter (is_wrong p) (numbers p))

-- 3. Abstract members

-- a slot is open where nothing stands in it, or an abstract member
abbrev pub is_open : Program → Option ℕ → Bool
is_open p None = true
is_open p (Some m) = is_abstract p m

-- whether a slot of a class is open in it
abbrev pub leaves_open : Program → ℕ → Bool
leaves_open p c = list_any (λ s. is_open p (standing_in p c s)) (slots p c)

-- A CLASS THAT LEAVES AN ABSTRACT MEMBER without a body, and is not abstract itself
abbrev pub is_unfinished : Program → ℕ → Bool
is_unfinished p c = is_class p c && not (is_abstract p c) && leaves_open p c

abbrev pub abstract_faults : Program → List Refusal
abstract_faults p = map (λ n. fault T7 (place_of p n)) (filter (is_unfinished p) (numbers p))

-- 4. All of them

abbrev pub faults_in : Program → List Refusal
faults_in p = base_faults p ++ (override_faults p ++ abstract_faults p)

-- ALL FAULTS of bases and overriding in a program
abbrev pub class_faults : List FileTree → List Refusal
class_faults files = faults_in (program_of (names_of files) files)
