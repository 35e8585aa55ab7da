-- What a name means at a place, by the table of declarations, and whether it may be used there.
use Rattle.std.specs.Prelude.{◌≡◌, ℕ, zero, suc, Bool, true, false, ◌&&◌, ◌||◌, ◌==◌, nat_le, if◌then◌else◌, List, [], ◌∷◌, ◌++◌, map, Option, Some, None, slice_get, Result, Ok, Err}
use Rattle.std.specs.List.{list_any, list_all, filter_map, flat_map}
use Rattle.std.specs.Str.{bytes_eq}
use Rattle.vg_base.specs.declared.event.Span.{Span}
use Rattle.static_rules.specs.declared.rules.Refusal.{Refusal}
use Rattle.static_rules.specs.declared.rules.Rule.{Rule}
use Rattle.static_rules.specs.declared.rules.Rule.TheVariants.{N1, N3, N4}
use Rattle.vala_tree.specs.declared.names.Identifier.{Identifier}
use Rattle.symbols.specs.declared.kinds.Access.{Access}
use Rattle.symbols.specs.declared.kinds.Access.TheVariants.{Public, Protected, Internal, Private}
use Rattle.symbols.specs.declared.kinds.Decl.{Decl}
use Rattle.symbols.specs.declared.kinds.SymbolKind.{SymbolKind}
use Rattle.symbols.specs.declared.kinds.SymbolKind.TheVariants.{EnumMember, ErrorCode}
use Rattle.symbols.specs.declared.table.Symbol.{Symbol}
use Rattle.symbols.specs.declared.table.Scope.{Scope}
use Rattle.symbols.specs.declared.table.Names.{Names}
use Rattle.symbols.specs.Outline.{or_else, first_at}

-- 1. Scopes outward

abbrev pub outer_in : Option Scope → ℕ
outer_in None = 0
outer_in (Some s) = s.outer

-- the scope around a scope
abbrev pub outer_of : Names → ℕ → ℕ
outer_of ns scope = outer_in (slice_get ns.scopes scope)

-- a scope and those around it, the innermost first; an outer scope has the smaller number
abbrev pub outward_within : Names → ℕ → ℕ → List ℕ
outward_within ns zero scope = scope ∷ []
outward_within ns (suc n) scope = scope ∷ (if scope == 0 then [] else outward_within ns n (outer_of ns scope))

abbrev pub outward : Names → ℕ → List ℕ
outward ns scope = outward_within ns scope scope

abbrev pub bases_in : Option Scope → List ℕ
bases_in None = []
bases_in (Some s) = s.bases

-- the scopes of the bases of the class or interface that opens a scope, the nearest first
abbrev pub base_scopes : Names → ℕ → List ℕ
base_scopes ns scope = bases_in (slice_get ns.scopes scope)

-- a scope, and behind that of a class its bases
abbrev pub with_bases : Names → ℕ → List ℕ
with_bases ns scope = scope ∷ base_scopes ns scope

-- THE SCOPES in which a name is looked for: blocks outward, the class, its bases from the nearest, the namespaces outward
abbrev pub looked_in : Names → ℕ → List ℕ
looked_in ns scope = flat_map (with_bases ns) (outward ns scope)

-- the namespaces in use in a file; `GLib`, whose scope is 1, always is
abbrev pub in_use : Names → ℕ → List ℕ
in_use ns file = by (slice_get ns.uses file)
  where
    by : Option (List ℕ) → List ℕ
    by None = 1 ∷ []
    by (Some scopes) = scopes

-- 2. Names in a scope

-- Members of enums and error codes are named by their types alone.
abbrev pub is_scoped : SymbolKind → Bool
is_scoped EnumMember = false
is_scoped ErrorCode = false
is_scoped _ = true

-- whether a declaration has that name in that scope, and counts at that place
abbrev pub is_declared : ℕ → List ℕ → ℕ → Symbol → Bool
is_declared scope name place s = s.scope == scope && is_scoped s.kind && nat_le s.since place && bytes_eq s.name name

-- the first declaration of that name in that scope
abbrev pub first_of : List Symbol → ℕ → List ℕ → ℕ → Option ℕ
first_of symbols scope name place = first_at (is_declared scope name place) symbols

abbrev pub first_in : Names → ℕ → List ℕ → ℕ → Option ℕ
first_in ns scope name place = first_of ns.symbols scope name place

-- the first declaration of a name in the first of these scopes that has one
abbrev pub nearest : Names → List ℕ → ℕ → List ℕ → Option ℕ
nearest ns name place [] = None
nearest ns name place (scope ∷ scopes) = or_else (first_in ns scope name place) (nearest ns name place scopes)

-- the declarations of a name in scopes that are looked at together, one of each
abbrev pub met : Names → List ℕ → ℕ → List ℕ → List ℕ
met ns name place scopes = filter_map (λ scope. first_in ns scope name place) scopes

-- 3. Meanings

pub data Meaning : Type 0 where
  Unknown : Meaning
  Ambiguous : Meaning
  Is : ℕ → Meaning

-- one declaration, however often it is met
abbrev pub only : List ℕ → Meaning
only [] = Unknown
only (s ∷ ss) = if list_all (λ t. t == s) ss then Is s else Ambiguous

-- whether nothing but this was met before
abbrev pub is_same : Option ℕ → ℕ → Bool
is_same None s = true
is_same (Some t) s = s == t

-- the declaration that is found or, where none is, what is met elsewhere
abbrev pub found_or : Meaning → Option ℕ → Meaning
found_or m None = m
found_or m (Some s) = Is s

-- WHAT A NAME MEANS in a scope, at a place: the nearest declaration or, where there is none, the only one in the namespaces in use
abbrev pub meaning_of : Names → ℕ → List ℕ → Span → Meaning
meaning_of ns scope name place = found_or (only (met ns name place.start (in_use ns place.file))) (nearest ns name place.start (looked_in ns scope))

-- 4. Answers

abbrev pub contains : List ℕ → ℕ → Bool
contains xs x = list_any (λ y. y == x) xs

-- whether a scope stands in another
abbrev pub is_inside : Names → ℕ → ℕ → Bool
is_inside ns scope home = contains (outward ns scope) home

-- whether a scope is that of a class or of one that is derived from it
abbrev pub is_derived : Names → ℕ → ℕ → Bool
is_derived ns home scope = scope == home || contains (base_scopes ns scope) home

-- whether a scope stands in that of a class or of one that is derived from it
abbrev pub is_in_derived : Names → ℕ → ℕ → Bool
is_in_derived ns scope home = list_any (is_derived ns home) (outward ns scope)

-- WHETHER A PLACE in a scope MAY USE a declaration: private ones within the scope in which they stand, protected ones within the
-- class and those that are derived from it
abbrev pub may_use : Names → ℕ → Symbol → Bool
may_use ns scope s = by s.access
  where
    by : Access → Bool
    by Public = true
    by Internal = true
    by Protected = is_in_derived ns scope s.scope
    by Private = is_inside ns scope s.scope

abbrev pub used_from : Names → ℕ → ℕ → Option Symbol → Result ℕ Rule
used_from ns scope n None = Err N1
used_from ns scope n (Some s) = if may_use ns scope s then Ok n else Err N4

-- a meaning, or the rule that is broken where there is not one
abbrev pub one_meaning : Meaning → Result ℕ Rule
one_meaning Unknown = Err N1
one_meaning Ambiguous = Err N3
one_meaning (Is n) = Ok n

abbrev pub if_usable : Names → ℕ → Result ℕ Rule → Result ℕ Rule
if_usable ns scope (Err r) = Err r
if_usable ns scope (Ok n) = used_from ns scope n (slice_get ns.symbols n)

-- what is told of a meaning
abbrev pub answer_of : Names → ℕ → Meaning → Result ℕ Rule
answer_of ns scope m = if_usable ns scope (one_meaning m)

-- THE ANSWER to a name in a scope, at a place: its declaration, or the rule that it breaks
abbrev pub answer : Names → ℕ → List ℕ → Span → Result ℕ Rule
answer ns scope name place = answer_of ns scope (meaning_of ns scope name place)

-- the same as a refusal, which names the name
abbrev pub as_refusal : Span → Result ℕ Rule → Result ℕ Refusal
as_refusal place (Ok n) = Ok n
as_refusal place (Err r) = Err (record { rule = r; phase = 4; span = place })

-- 5. Names with dots

abbrev pub answered : Result ℕ Rule → Option ℕ
answered (Ok n) = Some n
answered (Err r) = None

-- what is told of a declaration: its kind, where its name stands, and what is around it
abbrev pub decl_of : Symbol → Decl
decl_of s = record { kind = s.kind; span = s.span; owner = s.owner }

abbrev pub members_of : Symbol → List ℕ
members_of s = s.members

-- the scope that a declaration opens or, where it opens none, the scope that it stands in
abbrev pub scope_of : Symbol → ℕ
scope_of s = by s.opened
  where
    by : Option ℕ → ℕ
    by None = s.scope
    by (Some scope) = scope

abbrev pub is_meant : Option ℕ → Meaning
is_meant None = Unknown
is_meant (Some n) = Is n

-- a name in the scope that a declaration opens
abbrev pub member_answer : Names → ℕ → Identifier → Option Symbol → Result ℕ Rule
member_answer ns scope x None = Err N1
member_answer ns scope x (Some s) = answer_of ns scope (is_meant (first_in ns (scope_of s) x.text x.span.start))

-- each further word is a name in the scope of the declaration before it
abbrev pub members_named : Names → ℕ → List Identifier → Option ℕ → Option ℕ
members_named ns scope xs None = None
members_named ns scope [] (Some n) = Some n
members_named ns scope (x ∷ xs) (Some n) = members_named ns scope xs (answered (member_answer ns scope x (slice_get ns.symbols n)))

-- THE DECLARATION that a name with dots names in a scope; one that breaks a rule names none
abbrev pub named : Names → ℕ → List Identifier → Option ℕ
named ns scope [] = None
named ns scope (x ∷ xs) = members_named ns scope xs (answered (answer ns scope x.text x.span))
