-- Virtual members, and the member that a call of one reaches.
use Rattle.std.specs.Prelude.{◌≡◌, ℕ, zero, suc, Bool, true, false, not, ◌&&◌, ◌||◌, ◌==◌, if◌then◌else◌, List, [], ◌∷◌, ◌++◌, map, Option, Some, None}
use Rattle.std.specs.List.{filter, flat_map}
use Rattle.vala_tree.specs.declared.member.Class.{Class}
use Rattle.vala_tree.specs.declared.member.Declaration.{Declaration}
use Rattle.vala_tree.specs.declared.member.Member.{Member}
use Rattle.symbols.specs.Outline.{and_then, or_else}
use Rattle.symbols.specs.Search.{first_in, nearest, contains}
use Rattle.class_table.specs.Trees.{Program, name_at, owner_of, declared_in, scope_inside, is_abstract, is_virtual, is_override, is_static_or_async}
use Rattle.class_table.specs.Bases.{is_interface, chain, lineage, interfaces_of, listed_interfaces, types_above, ties_of}
use Rattle.class_table.specs.Features.{clashes}

-- 1. Virtual members

-- A member that is marked `virtual` or `abstract` introduces a slot, which has its number; one that is marked `override` as well does not.
abbrev pub introduces : Program → ℕ → Bool
introduces p n = (is_virtual p n || is_abstract p n) && not (is_override p n)

-- a member that is reached through a slot
abbrev pub is_virtual_member : Program → ℕ → Bool
is_virtual_member p n = introduces p n || is_override p n

abbrev pub if_passes : (ℕ → Bool) → ℕ → Option ℕ
if_passes test n = if test n then Some n else None

-- the member of a name that a type declares itself, where it passes a test
abbrev pub own_named : Program → (ℕ → Bool) → List ℕ → ℕ → Option ℕ
own_named p test name t = and_then (first_in p.names (scope_inside p t) name 0) (if_passes test)

-- the first of such members in these types
abbrev pub first_named : Program → (ℕ → Bool) → List ℕ → List ℕ → Option ℕ
first_named p test name [] = None
first_named p test name (t ∷ ts) = or_else (own_named p test name t) (first_named p test name ts)

-- the slots that a class or interface introduces, in order of declaration
abbrev pub own_slots : Program → ℕ → List ℕ
own_slots p t = filter (introduces p) (declared_in p t)

-- THE SLOTS of a class or interface: its own, those of its base classes, and those of its interfaces
abbrev pub slots : Program → ℕ → List ℕ
slots p c = flat_map (own_slots p) (types_above p c)

-- 2. Overriding

-- WHAT AN OVERRIDE OVERRIDES: the nearest virtual member of its name in the base classes or, where they have none, that of an interface
abbrev pub overridden : Program → ℕ → List ℕ → ℕ → Option ℕ
overridden p c cs m = first_named p (is_virtual_member p) (name_at p m) (cs ++ interfaces_of p (c ∷ cs))

-- whether it is the member that is overridden
abbrev pub is_it : ℕ → Option ℕ → Bool
is_it v None = false
is_it v (Some n) = n == v

abbrev pub is_overriding : Program → ℕ → List ℕ → ℕ → ℕ → Bool
is_overriding p c cs v m = is_override p m && is_it v (overridden p c cs m)

-- whether a member clashes with one that is found; where none is, it overrides nothing
abbrev pub clashes_or_lacks : Program → ℕ → Option ℕ → Bool
clashes_or_lacks p m None = true
clashes_or_lacks p m (Some v) = clashes (ties_of p) p m v

-- the same of what a base class declares; otherwise as it is further up
abbrev pub clashes_or : Program → ℕ → Bool → (ℕ → Bool) → Option ℕ → Bool
clashes_or p m beyond is_wrong None = beyond
clashes_or p m beyond is_wrong (Some v) = clashes (ties_of p) p m v && not (is_override p v && is_wrong v)

-- An override that overrides nothing, or what it clashes with. What it overrides must not be wrong itself.
abbrev pub is_wrong_under : Program → List ℕ → List ℕ → ℕ → Bool
is_wrong_under p [] interfaces m = clashes_or_lacks p m (first_named p (is_virtual_member p) (name_at p m) interfaces)
is_wrong_under p (b ∷ bs) interfaces m = clashes_or p m (is_wrong_under p bs interfaces m) (is_wrong_under p bs (interfaces_of p (b ∷ bs))) (own_named p (is_virtual_member p) (name_at p m) b)

abbrev pub is_wrong_in : Program → ℕ → Option ℕ → Bool
is_wrong_in p m None = false
is_wrong_in p m (Some c) = is_override p m && is_wrong_under p (chain p c) (interfaces_of p (lineage p c)) m

-- AN OVERRIDE THAT DOES NOT MATCH a virtual member
abbrev pub is_wrong : Program → ℕ → Bool
is_wrong p m = is_wrong_in p m (owner_of p m)

-- 3. What stands in a slot

-- A member of a class implements that of an interface where it is called on an instance and does not clash. A wrong override is told as
-- such, and not once more here.
abbrev pub implements : Program → ℕ → ℕ → Bool
implements p m s = not (is_static_or_async p m) && (not (clashes (ties_of p) p m s) || is_wrong p m)

abbrev pub if_implements : Program → ℕ → Option ℕ → ℕ
if_implements p s None = s
if_implements p s (Some m) = if implements p m s then m else s

-- what implements a member of an interface in classes: the nearest declaration of its name; where that does not, the member itself stands
abbrev pub implementing : Program → List ℕ → ℕ → ℕ
implementing p cs s = if_implements p s (nearest p.names (name_at p s) 0 (map (scope_inside p) cs))

abbrev pub is_owned_by_one : List ℕ → Option ℕ → Bool
is_owned_by_one ts None = false
is_owned_by_one ts (Some t) = contains ts t

-- whether a slot belongs to one of these types
abbrev pub is_slot_of : Program → List ℕ → ℕ → Bool
is_slot_of p ts s = is_owned_by_one ts (owner_of p s)

abbrev pub or_kept : ℕ → Option ℕ → ℕ
or_kept v None = v
or_kept v (Some m) = m

-- in a class, what takes the place of what stood in a slot in its base class: the class's override of it, or nothing
abbrev pub over : Program → ℕ → List ℕ → ℕ → ℕ
over p c cs v = or_kept v (own_named p (is_overriding p c cs v) (name_at p v) c)

-- What stands in a slot in a class, from what stood there in its base class: a slot of an interface that is open yet is implemented where
-- there is a member for it; otherwise an override takes the place of what it overrides.
abbrev pub goes_on : Program → ℕ → List ℕ → ℕ → ℕ → ℕ
goes_on p c cs s v = if v == s && is_slot_of p (interfaces_of p cs) s then implementing p (c ∷ cs) s else over p c cs v

-- WHAT STANDS IN A SLOT of a class, which comes first here, with its base classes: in its own slots its members; in those of the
-- interfaces that it lists what implements them; in others what goes on from its base class.
abbrev pub standing : Program → List ℕ → ℕ → Option ℕ
standing p [] s = None
standing p (c ∷ cs) s =
    if is_slot_of p (c ∷ []) s then Some s
    else if is_slot_of p (listed_interfaces p c) s then Some (implementing p (c ∷ cs) s)
    else and_then (standing p cs s) (λ v. Some (goes_on p c cs s v))

abbrev pub if_slot : Program → ℕ → (ℕ → Option ℕ) → Option ℕ
if_slot p s f = if introduces p s then f s else None

-- what stands in a slot of a class or interface; None where it has no such slot
abbrev pub standing_in : Program → ℕ → ℕ → Option ℕ
standing_in p c s = if_slot p s (standing p (lineage p c))

abbrev pub if_concrete : Program → ℕ → Option ℕ
if_concrete p m = if is_abstract p m then None else Some m

-- THE MEMBER THAT A CALL THROUGH A SLOT REACHES in objects of a class; None where the slot is not the class's, or is abstract there
abbrev pub implementor : Program → ℕ → ℕ → Option ℕ
implementor p c s = and_then (standing_in p c s) (if_concrete p)

-- 4. The slot of a member

-- the slot of an override is that of the nearest `virtual` or `abstract` member of its name above it
abbrev pub slot_above : Program → ℕ → ℕ → Option ℕ
slot_above p c m = first_named p (introduces p) (name_at p m) (chain p c ++ interfaces_of p (lineage p c))

abbrev pub slot_in : Program → ℕ → Option ℕ → Option ℕ
slot_in p m None = None
slot_in p m (Some c) = if introduces p m then Some m else if is_override p m then slot_above p c m else None

-- THE SLOT through which a class's member is called; None where the class has no such virtual member
abbrev pub slot_of : Program → ℕ → ℕ → Option ℕ
slot_of p c m = if is_slot_of p (types_above p c) m then slot_in p m (owner_of p m) else None
