-- What a member takes and gives, and whether one member can stand in the place of another.
use Rattle.std.specs.Prelude.{ℕ, Bool, true, false, not, ◌&&◌, ◌||◌, ◌==◌, List, [], ◌∷◌, map, Option, Some, None, Result, Ok, Err}
use Rattle.std.specs.List.{list_any, list_all}
use Rattle.static_rules.specs.declared.rules.Refusal.{Refusal}
use Rattle.vala_tree.specs.declared.names.TypeTree.{TypeTree}
use Rattle.vala_tree.specs.declared.operators.Ownership.{Ownership}
use Rattle.vala_tree.specs.declared.operators.Ownership.TheVariants.{Owned}
use Rattle.vala_tree.specs.declared.member.Accessor.{Accessor}
use Rattle.vala_tree.specs.declared.member.Accessor.TheVariants as accessor
use Rattle.vala_tree.specs.declared.member.Direction.{Direction}
use Rattle.vala_tree.specs.declared.member.Direction.TheVariants as direction
use Rattle.vala_tree.specs.declared.member.Parameter.{Parameter}
use Rattle.vala_tree.specs.declared.member.SetterWords.{SetterWords}
use Rattle.vala_tree.specs.declared.member.SetterWords.TheVariants as words
use Rattle.vala_types.specs.declared.ties.Ties.{Ties}
use Rattle.vala_types.specs.declared.types.Shape.{Shape}
use Rattle.vala_types.specs.declared.types.Shape.TheVariants.{Void}
use Rattle.vala_types.specs.declared.types.VType.{VType}
use Rattle.vala_types.specs.Changes.{is_plain, is_struct}
use Rattle.vala_types.specs.Tests.{shape_goes}
use Rattle.symbols.specs.declared.table.Names.{Names}
use Rattle.symbols.specs.Outline.{and_then}
use Rattle.symbols.specs.Types.{type_of}
use Rattle.class_table.specs.Trees.{Program, Written, Content, Called as written_call, Valued as written_value, Other, scope_around}

-- 1. What a member takes and gives

-- a parameter: how it is passed, and the type of its place
pub record Passed : Type 0 where
  pub direction : Option Direction
  pub type : VType

-- The accessors of a property. An `owned get` gives a copy, and `construct` sets it while the object is made.
pub record Accessors : Type 0 where
  pub get : Bool
  pub owned_get : Bool
  pub set : Bool
  pub construct : Bool

-- What is called has a result, parameters and errors; a property has a type and accessors; nothing else can be overridden.
pub data Feature : Type 0 where
  Called : VType → List Passed → List VType → Feature
  Valued : VType → Accessors → Feature
  Plain : Feature

-- 2. It is there where all types in it are there

abbrev pub told : {X Y : Type 0} → Result X Y → Option X
told (Ok x) = Some x
told (Err e) = None

-- what each of some things gives, where each gives something
abbrev pub each : {X Y : Type 0} → (X → Option Y) → List X → Option (List Y)
each f [] = Some []
each f (x ∷ xs) = and_then (f x) (λ y. and_then (each f xs) (λ ys. Some (y ∷ ys)))

-- the type that is written in a scope, where no rule is broken
abbrev pub written : Names → ℕ → TypeTree → Option VType
written ns scope t = told (type_of ns scope t)

abbrev pub is_marked_owned : Option Ownership → Bool
is_marked_owned (Some Owned) = true
is_marked_owned o = false

-- A parameter that is passed as `out` or `ref` owns as other places do. Another one owns where `owned` is written.
abbrev pub passed_owned : Option Direction → Option Ownership → Bool → Bool
passed_owned (Some d) mark owned = owned
passed_owned None mark owned = is_marked_owned mark

abbrev pub passed_as : Parameter → VType → Passed
passed_as x t = record { direction = x.direction; type = record t { owned = passed_owned x.direction x.declared.ownership t.owned } }

abbrev pub passed : Names → ℕ → Parameter → Option Passed
passed ns scope x = and_then (written ns scope x.declared) (λ t. Some (passed_as x t))

abbrev pub no_value : VType
no_value = record { shape = Void; owned = true; nullable = false }

-- the result; without one it is no value
abbrev pub result_of : Names → ℕ → Option TypeTree → Option VType
result_of ns scope None = Some no_value
result_of ns scope (Some t) = written ns scope t

abbrev pub is_set_word : SetterWords → Bool
is_set_word (words.Construct c) = false
is_set_word w = true

abbrev pub is_construct_word : SetterWords → Bool
is_construct_word (words.Set s) = false
is_construct_word w = true

abbrev pub is_get : Accessor → Bool
is_get (accessor.Get g s) = true
is_get a = false

abbrev pub is_owned_get : Accessor → Bool
is_owned_get (accessor.Get g s) = g.is_owned
is_owned_get a = false

abbrev pub is_set : Accessor → Bool
is_set (accessor.Set x s) = is_set_word x.words
is_set a = false

abbrev pub is_construct : Accessor → Bool
is_construct (accessor.Set x s) = is_construct_word x.words
is_construct a = false

abbrev pub accessors_of : List Accessor → Accessors
accessors_of xs = record { get = list_any is_get xs; owned_get = list_any is_owned_get xs; set = list_any is_set xs; construct = list_any is_construct xs }

-- what is written in a scope, by its types
abbrev pub feature_in : Names → ℕ → Content → Option Feature
feature_in ns scope (written_call result ps es) =
    and_then (result_of ns scope result) (λ r. and_then (each (passed ns scope) ps) (λ qs. and_then (each (written ns scope) es) (λ fs. Some (Called r qs fs))))
feature_in ns scope (written_value t xs) = and_then (written ns scope t) (λ u. Some (Valued u (accessors_of xs)))
feature_in ns scope Other = Some Plain

abbrev pub feature_by : Program → ℕ → Option Written → Option Feature
feature_by p n None = Some Plain
feature_by p n (Some w) = feature_in p.names (scope_around p n) w.content

-- WHAT A MEMBER TAKES AND GIVES
abbrev pub feature_of : Program → ℕ → Option Feature
feature_of p n = feature_by p n (p.written n)

-- 3. The same from outside

-- what an owner can be asked for: neither numbers and what else is plain, nor structs, which are always copied
abbrev pub has_owner : Shape → Bool
has_owner s = not (is_plain s || is_struct s)

abbrev pub same_bool : Bool → Bool → Bool
same_bool true b = b
same_bool false b = not b

-- Two types are alike where each fits the other and their places own alike. The mark `?` does not count.
abbrev pub is_alike : Ties → VType → VType → Bool
is_alike ties a b = shape_goes ties a.shape b.shape && shape_goes ties b.shape a.shape && (not (has_owner a.shape) || same_bool a.owned b.owned)

abbrev pub same_direction : Option Direction → Option Direction → Bool
same_direction None None = true
same_direction (Some direction.Out) (Some direction.Out) = true
same_direction (Some direction.Ref) (Some direction.Ref) = true
same_direction a b = false

abbrev pub same_passed : Ties → Passed → Passed → Bool
same_passed ties a b = same_direction a.direction b.direction && is_alike ties a.type b.type

-- two lists of the same length, alike one by one
abbrev pub pairwise : {X : Type 0} → (X → X → Bool) → List X → List X → Bool
pairwise same [] [] = true
pairwise same (x ∷ xs) (y ∷ ys) = same x y && pairwise same xs ys
pairwise same xs ys = false

abbrev pub same_accessors : Accessors → Accessors → Bool
same_accessors a b = same_bool a.get b.get && same_bool a.owned_get b.owned_get && same_bool a.set b.set && same_bool a.construct b.construct

-- each of these errors fits one of those
abbrev pub errors_fit : Ties → List VType → List VType → Bool
errors_fit ties es fs = list_all (λ e. list_any (λ f. shape_goes ties e.shape f.shape) fs) es

-- WHETHER ONE CAN STAND IN THE PLACE OF ANOTHER: what is called has the same result and parameters, and no error that does not fit one
-- of the other's; a property has the same type and accessors.
abbrev pub replaces : Ties → Feature → Feature → Bool
replaces ties (Called r ps es) (Called s qs fs) = is_alike ties r s && pairwise (same_passed ties) ps qs && errors_fit ties es fs
replaces ties (Valued t a) (Valued u b) = is_alike ties t u && same_accessors a b
replaces ties f g = false

abbrev pub differs : Ties → Option Feature → Option Feature → Bool
differs ties (Some f) (Some g) = not (replaces ties f g)
differs ties f g = false

-- A member clashes with another where it cannot stand in its place. Where a type in one of them is not there, nothing is told.
abbrev pub clashes : Ties → Program → ℕ → ℕ → Bool
clashes ties p m n = differs ties (feature_of p m) (feature_of p n)
