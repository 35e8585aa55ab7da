-- What short programs break in bases and overriding, and which members their calls reach, computed.
use Rattle.std.proofs.Common.{◌≡◌, refl, ℕ, Bool, true, false, List, [], ◌∷◌, ◌++◌, map, Option, Some, None, codes, slice_get}
use Rattle.vg_base.specs.declared.event.Span.{Span}
use Rattle.static_rules.specs.declared.rules.Refusal.{Refusal}
use Rattle.static_rules.specs.declared.rules.Rule.TheVariants.{T5, T6, T7}
use Rattle.vala_tree.specs.declared.code.Block.{Block, roll-Block}
use Rattle.vala_tree.specs.declared.names.Identifier.{Identifier}
use Rattle.vala_tree.specs.declared.names.NameTree.{NameTree}
use Rattle.vala_tree.specs.declared.names.TypeTree.{TypeTree}
use Rattle.vala_tree.specs.declared.names.TypeShape.{TypeShape}
use Rattle.vala_tree.specs.declared.names.TypeShape.TheVariants as type
use Rattle.vala_tree.specs.declared.operators.Ownership.{Ownership}
use Rattle.vala_tree.specs.declared.operators.Ownership.TheVariants as own
use Rattle.vala_tree.specs.declared.member.Accessor.TheVariants as accessor
use Rattle.vala_tree.specs.declared.member.Direction.{Direction}
use Rattle.vala_tree.specs.declared.member.Direction.TheVariants as passing
use Rattle.vala_tree.specs.declared.member.Modifier.{Modifier}
use Rattle.vala_tree.specs.declared.member.ModifierWord.{ModifierWord}
use Rattle.vala_tree.specs.declared.member.ModifierWord.TheVariants as w
use Rattle.vala_tree.specs.declared.member.Parameter.{Parameter}
use Rattle.vala_tree.specs.declared.member.SetterWords.TheVariants as words
use Rattle.symbols.specs.declared.kinds.SymbolKind.TheVariants as kind
use Rattle.symbols.specs.BuiltIns.{Row, built_in_names}
use Rattle.symbols.specs.Outline.{Outline, Piece}
use Rattle.symbols.specs.Code.{Part, parts, block_part}
use Rattle.symbols.specs.Members.{Front, plain_head, namespace_piece, type_piece, list_piece, enum_member, error_code, field_piece, parameter_piece, callable, creation_head, get_access, set_access, property_piece, program}
use Rattle.symbols.specs.Table.{table_of}
use Rattle.class_table.specs.Trees.{Program, Written, Content, Called, Valued, Other}
use Rattle.class_table.specs.Bases.{chain, lineage}
use Rattle.class_table.specs.Slots.{slots, implementor, slot_of}
use Rattle.class_table.specs.Faults.{fault, faults_in}

abbrev at : ℕ → ℕ → ℕ → Span
at f a b = record { file = f; start = a; «end» = b }

abbrev word : ℕ → ℕ → ℕ → List ℕ → Identifier
word f a b x = record { text = x; span = at f a b }

abbrev name : List Identifier → Span → NameTree
name xs s = record { words = xs; span = s }

abbrev any_type : Option Ownership → TypeShape → Span → TypeTree
any_type o t s = record { ownership = o; shape = t; span = s }

abbrev taken : Option Direction → TypeTree → Identifier → Span → Parameter
taken o t n s = record { direction = o; declared = t; name = n; default = None; span = s }

abbrev marked : ModifierWord → Span → Modifier
marked x s = record { word = x; span = s }

abbrev block : Span → Block
block s = roll-Block (record { statements = []; span = s })

abbrev code : Span → Part
code s = block_part (record { statements = []; span = s })

abbrev part : List Modifier → Span → (Front → Piece) → Part
part ms s p = record { text = s; piece = p (record { attributes = []; modifiers = ms; text = s }) }

-- what is written of a member
abbrev saying : List Modifier → List TypeTree → Content → Written
saying ms bs x = record { modifiers = ms; bases = bs; content = x }

abbrev nothing_written : Row → Option Written
nothing_written r = None

abbrev listed : Option (Option Written) → Option Written
listed None = None
listed (Some o) = o

-- a program: what its files declare, their `using`s, and what is written of its symbols, by their numbers
abbrev sample : List Piece → List (List NameTree) → List (Option Written) → Program
sample files usings symbols = record { names = table_of (program files usings); written = λ n. listed (slice_get (map nothing_written built_in_names ++ symbols) n) }

abbrev faults : List Piece → List (List NameTree) → List (Option Written) → List Refusal
faults files usings symbols = faults_in (sample files usings symbols)

-- 1. Bases of the wrong kind

-- `class A : Object { } class B : A { } void main () { }`
base_class : faults ((parts ((part ([]) (at 0 0 20) (type_piece kind.Class (name ((word 0 6 7 (codes "A")) ∷ []) (at 0 6 7)) ((any_type None (type.Single (record { name = (name ((word 0 10 16 (codes "Object")) ∷ []) (at 0 10 16)); is_nullable = false; span = (at 0 10 16) })) (at 0 10 16)) ∷ []) ([]))) ∷ (part ([]) (at 0 21 36) (type_piece kind.Class (name ((word 0 27 28 (codes "B")) ∷ []) (at 0 27 28)) ((any_type None (type.Single (record { name = (name ((word 0 31 32 (codes "A")) ∷ []) (at 0 31 32)); is_nullable = false; span = (at 0 31 32) })) (at 0 31 32)) ∷ []) ([]))) ∷ (part ([]) (at 0 37 53) (λ f. callable (plain_head kind.Method (word 0 42 46 (codes "main")) f) ([]) (Some (code (at 0 50 53))))) ∷ [])) ∷ []) (([]) ∷ []) (Some (saying ([]) ((any_type None (type.Single (record { name = (name ((word 0 10 16 (codes "Object")) ∷ []) (at 0 10 16)); is_nullable = false; span = (at 0 10 16) })) (at 0 10 16)) ∷ []) Other) ∷ Some (saying ([]) ((any_type None (type.Single (record { name = (name ((word 0 31 32 (codes "A")) ∷ []) (at 0 31 32)); is_nullable = false; span = (at 0 31 32) })) (at 0 31 32)) ∷ []) Other) ∷ Some (saying ([]) [] (Called (Some (any_type None type.Void (at 0 37 41))) ([]) ([]))) ∷ []) ≡ []
base_class = refl

-- `interface I : Object { } class A : Object, I { } void main () { }`
base_interface : faults ((parts ((part ([]) (at 0 0 24) (type_piece kind.Interface (name ((word 0 10 11 (codes "I")) ∷ []) (at 0 10 11)) ((any_type None (type.Single (record { name = (name ((word 0 14 20 (codes "Object")) ∷ []) (at 0 14 20)); is_nullable = false; span = (at 0 14 20) })) (at 0 14 20)) ∷ []) ([]))) ∷ (part ([]) (at 0 25 48) (type_piece kind.Class (name ((word 0 31 32 (codes "A")) ∷ []) (at 0 31 32)) ((any_type None (type.Single (record { name = (name ((word 0 35 41 (codes "Object")) ∷ []) (at 0 35 41)); is_nullable = false; span = (at 0 35 41) })) (at 0 35 41)) ∷ (any_type None (type.Single (record { name = (name ((word 0 43 44 (codes "I")) ∷ []) (at 0 43 44)); is_nullable = false; span = (at 0 43 44) })) (at 0 43 44)) ∷ []) ([]))) ∷ (part ([]) (at 0 49 65) (λ f. callable (plain_head kind.Method (word 0 54 58 (codes "main")) f) ([]) (Some (code (at 0 62 65))))) ∷ [])) ∷ []) (([]) ∷ []) (Some (saying ([]) ((any_type None (type.Single (record { name = (name ((word 0 14 20 (codes "Object")) ∷ []) (at 0 14 20)); is_nullable = false; span = (at 0 14 20) })) (at 0 14 20)) ∷ []) Other) ∷ Some (saying ([]) ((any_type None (type.Single (record { name = (name ((word 0 35 41 (codes "Object")) ∷ []) (at 0 35 41)); is_nullable = false; span = (at 0 35 41) })) (at 0 35 41)) ∷ (any_type None (type.Single (record { name = (name ((word 0 43 44 (codes "I")) ∷ []) (at 0 43 44)); is_nullable = false; span = (at 0 43 44) })) (at 0 43 44)) ∷ []) Other) ∷ Some (saying ([]) [] (Called (Some (any_type None type.Void (at 0 49 53))) ([]) ([]))) ∷ []) ≡ []
base_interface = refl

-- `struct P { int x; } class A : P { } void main () { }`
base_struct : faults ((parts ((part ([]) (at 0 0 19) (type_piece kind.Struct (name ((word 0 7 8 (codes "P")) ∷ []) (at 0 7 8)) [] ((part ([]) (at 0 11 17) (field_piece (word 0 15 16 (codes "x")) (any_type None (type.Single (record { name = (name ((word 0 11 14 (codes "int")) ∷ []) (at 0 11 14)); is_nullable = false; span = (at 0 11 14) })) (at 0 11 14)) None)) ∷ []))) ∷ (part ([]) (at 0 20 35) (type_piece kind.Class (name ((word 0 26 27 (codes "A")) ∷ []) (at 0 26 27)) ((any_type None (type.Single (record { name = (name ((word 0 30 31 (codes "P")) ∷ []) (at 0 30 31)); is_nullable = false; span = (at 0 30 31) })) (at 0 30 31)) ∷ []) ([]))) ∷ (part ([]) (at 0 36 52) (λ f. callable (plain_head kind.Method (word 0 41 45 (codes "main")) f) ([]) (Some (code (at 0 49 52))))) ∷ [])) ∷ []) (([]) ∷ []) (Some (saying ([]) [] Other) ∷ Some (saying ([]) [] Other) ∷ Some (saying ([]) ((any_type None (type.Single (record { name = (name ((word 0 30 31 (codes "P")) ∷ []) (at 0 30 31)); is_nullable = false; span = (at 0 30 31) })) (at 0 30 31)) ∷ []) Other) ∷ Some (saying ([]) [] (Called (Some (any_type None type.Void (at 0 36 40))) ([]) ([]))) ∷ []) ≡ fault T5 (at 0 30 31) ∷ []
base_struct = refl

-- `enum E { X } class A : Object, E { } void main () { }`
base_enum : faults ((parts ((part ([]) (at 0 0 12) (list_piece kind.Enum (name ((word 0 5 6 (codes "E")) ∷ []) (at 0 5 6)) ((enum_member (word 0 9 10 (codes "X")) None) ∷ []))) ∷ (part ([]) (at 0 13 36) (type_piece kind.Class (name ((word 0 19 20 (codes "A")) ∷ []) (at 0 19 20)) ((any_type None (type.Single (record { name = (name ((word 0 23 29 (codes "Object")) ∷ []) (at 0 23 29)); is_nullable = false; span = (at 0 23 29) })) (at 0 23 29)) ∷ (any_type None (type.Single (record { name = (name ((word 0 31 32 (codes "E")) ∷ []) (at 0 31 32)); is_nullable = false; span = (at 0 31 32) })) (at 0 31 32)) ∷ []) ([]))) ∷ (part ([]) (at 0 37 53) (λ f. callable (plain_head kind.Method (word 0 42 46 (codes "main")) f) ([]) (Some (code (at 0 50 53))))) ∷ [])) ∷ []) (([]) ∷ []) (Some (saying ([]) [] Other) ∷ None ∷ Some (saying ([]) ((any_type None (type.Single (record { name = (name ((word 0 23 29 (codes "Object")) ∷ []) (at 0 23 29)); is_nullable = false; span = (at 0 23 29) })) (at 0 23 29)) ∷ (any_type None (type.Single (record { name = (name ((word 0 31 32 (codes "E")) ∷ []) (at 0 31 32)); is_nullable = false; span = (at 0 31 32) })) (at 0 31 32)) ∷ []) Other) ∷ Some (saying ([]) [] (Called (Some (any_type None type.Void (at 0 37 41))) ([]) ([]))) ∷ []) ≡ fault T5 (at 0 31 32) ∷ []
base_enum = refl

-- `class A : Object { } class B : Object { } class C : A, B { } void main () { }`
base_second_class : faults ((parts ((part ([]) (at 0 0 20) (type_piece kind.Class (name ((word 0 6 7 (codes "A")) ∷ []) (at 0 6 7)) ((any_type None (type.Single (record { name = (name ((word 0 10 16 (codes "Object")) ∷ []) (at 0 10 16)); is_nullable = false; span = (at 0 10 16) })) (at 0 10 16)) ∷ []) ([]))) ∷ (part ([]) (at 0 21 41) (type_piece kind.Class (name ((word 0 27 28 (codes "B")) ∷ []) (at 0 27 28)) ((any_type None (type.Single (record { name = (name ((word 0 31 37 (codes "Object")) ∷ []) (at 0 31 37)); is_nullable = false; span = (at 0 31 37) })) (at 0 31 37)) ∷ []) ([]))) ∷ (part ([]) (at 0 42 60) (type_piece kind.Class (name ((word 0 48 49 (codes "C")) ∷ []) (at 0 48 49)) ((any_type None (type.Single (record { name = (name ((word 0 52 53 (codes "A")) ∷ []) (at 0 52 53)); is_nullable = false; span = (at 0 52 53) })) (at 0 52 53)) ∷ (any_type None (type.Single (record { name = (name ((word 0 55 56 (codes "B")) ∷ []) (at 0 55 56)); is_nullable = false; span = (at 0 55 56) })) (at 0 55 56)) ∷ []) ([]))) ∷ (part ([]) (at 0 61 77) (λ f. callable (plain_head kind.Method (word 0 66 70 (codes "main")) f) ([]) (Some (code (at 0 74 77))))) ∷ [])) ∷ []) (([]) ∷ []) (Some (saying ([]) ((any_type None (type.Single (record { name = (name ((word 0 10 16 (codes "Object")) ∷ []) (at 0 10 16)); is_nullable = false; span = (at 0 10 16) })) (at 0 10 16)) ∷ []) Other) ∷ Some (saying ([]) ((any_type None (type.Single (record { name = (name ((word 0 31 37 (codes "Object")) ∷ []) (at 0 31 37)); is_nullable = false; span = (at 0 31 37) })) (at 0 31 37)) ∷ []) Other) ∷ Some (saying ([]) ((any_type None (type.Single (record { name = (name ((word 0 52 53 (codes "A")) ∷ []) (at 0 52 53)); is_nullable = false; span = (at 0 52 53) })) (at 0 52 53)) ∷ (any_type None (type.Single (record { name = (name ((word 0 55 56 (codes "B")) ∷ []) (at 0 55 56)); is_nullable = false; span = (at 0 55 56) })) (at 0 55 56)) ∷ []) Other) ∷ Some (saying ([]) [] (Called (Some (any_type None type.Void (at 0 61 65))) ([]) ([]))) ∷ []) ≡ fault T5 (at 0 55 56) ∷ []
base_second_class = refl

-- `interface I : Object { } class A : I, Object { } void main () { }`
base_after_interface : faults ((parts ((part ([]) (at 0 0 24) (type_piece kind.Interface (name ((word 0 10 11 (codes "I")) ∷ []) (at 0 10 11)) ((any_type None (type.Single (record { name = (name ((word 0 14 20 (codes "Object")) ∷ []) (at 0 14 20)); is_nullable = false; span = (at 0 14 20) })) (at 0 14 20)) ∷ []) ([]))) ∷ (part ([]) (at 0 25 48) (type_piece kind.Class (name ((word 0 31 32 (codes "A")) ∷ []) (at 0 31 32)) ((any_type None (type.Single (record { name = (name ((word 0 35 36 (codes "I")) ∷ []) (at 0 35 36)); is_nullable = false; span = (at 0 35 36) })) (at 0 35 36)) ∷ (any_type None (type.Single (record { name = (name ((word 0 38 44 (codes "Object")) ∷ []) (at 0 38 44)); is_nullable = false; span = (at 0 38 44) })) (at 0 38 44)) ∷ []) ([]))) ∷ (part ([]) (at 0 49 65) (λ f. callable (plain_head kind.Method (word 0 54 58 (codes "main")) f) ([]) (Some (code (at 0 62 65))))) ∷ [])) ∷ []) (([]) ∷ []) (Some (saying ([]) ((any_type None (type.Single (record { name = (name ((word 0 14 20 (codes "Object")) ∷ []) (at 0 14 20)); is_nullable = false; span = (at 0 14 20) })) (at 0 14 20)) ∷ []) Other) ∷ Some (saying ([]) ((any_type None (type.Single (record { name = (name ((word 0 35 36 (codes "I")) ∷ []) (at 0 35 36)); is_nullable = false; span = (at 0 35 36) })) (at 0 35 36)) ∷ (any_type None (type.Single (record { name = (name ((word 0 38 44 (codes "Object")) ∷ []) (at 0 38 44)); is_nullable = false; span = (at 0 38 44) })) (at 0 38 44)) ∷ []) Other) ∷ Some (saying ([]) [] (Called (Some (any_type None type.Void (at 0 49 53))) ([]) ([]))) ∷ []) ≡ []
base_after_interface = refl

-- `class A : Object[] { } void main () { }`
base_array : faults ((parts ((part ([]) (at 0 0 22) (type_piece kind.Class (name ((word 0 6 7 (codes "A")) ∷ []) (at 0 6 7)) ((any_type None (type.Array (record { name = (name ((word 0 10 16 (codes "Object")) ∷ []) (at 0 10 16)); is_nullable = false; span = (at 0 10 16) }) false) (at 0 10 18)) ∷ []) ([]))) ∷ (part ([]) (at 0 23 39) (λ f. callable (plain_head kind.Method (word 0 28 32 (codes "main")) f) ([]) (Some (code (at 0 36 39))))) ∷ [])) ∷ []) (([]) ∷ []) (Some (saying ([]) ((any_type None (type.Array (record { name = (name ((word 0 10 16 (codes "Object")) ∷ []) (at 0 10 16)); is_nullable = false; span = (at 0 10 16) }) false) (at 0 10 18)) ∷ []) Other) ∷ Some (saying ([]) [] (Called (Some (any_type None type.Void (at 0 23 27))) ([]) ([]))) ∷ []) ≡ fault T5 (at 0 10 18) ∷ []
base_array = refl

-- `class A : MainLoop { } void main () { }`
base_main_loop : faults ((parts ((part ([]) (at 0 0 22) (type_piece kind.Class (name ((word 0 6 7 (codes "A")) ∷ []) (at 0 6 7)) ((any_type None (type.Single (record { name = (name ((word 0 10 18 (codes "MainLoop")) ∷ []) (at 0 10 18)); is_nullable = false; span = (at 0 10 18) })) (at 0 10 18)) ∷ []) ([]))) ∷ (part ([]) (at 0 23 39) (λ f. callable (plain_head kind.Method (word 0 28 32 (codes "main")) f) ([]) (Some (code (at 0 36 39))))) ∷ [])) ∷ []) (([]) ∷ []) (Some (saying ([]) ((any_type None (type.Single (record { name = (name ((word 0 10 18 (codes "MainLoop")) ∷ []) (at 0 10 18)); is_nullable = false; span = (at 0 10 18) })) (at 0 10 18)) ∷ []) Other) ∷ Some (saying ([]) [] (Called (Some (any_type None type.Void (at 0 23 27))) ([]) ([]))) ∷ []) ≡ fault T5 (at 0 10 18) ∷ []
base_main_loop = refl

-- `errordomain E { X } class A : E { } class B : Error { } void main () { }`
base_error : faults ((parts ((part ([]) (at 0 0 19) (list_piece kind.ErrorDomain (name ((word 0 12 13 (codes "E")) ∷ []) (at 0 12 13)) ((error_code (word 0 16 17 (codes "X"))) ∷ []))) ∷ (part ([]) (at 0 20 35) (type_piece kind.Class (name ((word 0 26 27 (codes "A")) ∷ []) (at 0 26 27)) ((any_type None (type.Single (record { name = (name ((word 0 30 31 (codes "E")) ∷ []) (at 0 30 31)); is_nullable = false; span = (at 0 30 31) })) (at 0 30 31)) ∷ []) ([]))) ∷ (part ([]) (at 0 36 55) (type_piece kind.Class (name ((word 0 42 43 (codes "B")) ∷ []) (at 0 42 43)) ((any_type None (type.Single (record { name = (name ((word 0 46 51 (codes "Error")) ∷ []) (at 0 46 51)); is_nullable = false; span = (at 0 46 51) })) (at 0 46 51)) ∷ []) ([]))) ∷ (part ([]) (at 0 56 72) (λ f. callable (plain_head kind.Method (word 0 61 65 (codes "main")) f) ([]) (Some (code (at 0 69 72))))) ∷ [])) ∷ []) (([]) ∷ []) (Some (saying ([]) [] Other) ∷ None ∷ Some (saying ([]) ((any_type None (type.Single (record { name = (name ((word 0 30 31 (codes "E")) ∷ []) (at 0 30 31)); is_nullable = false; span = (at 0 30 31) })) (at 0 30 31)) ∷ []) Other) ∷ Some (saying ([]) ((any_type None (type.Single (record { name = (name ((word 0 46 51 (codes "Error")) ∷ []) (at 0 46 51)); is_nullable = false; span = (at 0 46 51) })) (at 0 46 51)) ∷ []) Other) ∷ Some (saying ([]) [] (Called (Some (any_type None type.Void (at 0 56 60))) ([]) ([]))) ∷ []) ≡ fault T5 (at 0 30 31) ∷ fault T5 (at 0 46 51) ∷ []
base_error = refl

-- `class A : Object, int { } void main () { }`
base_number : faults ((parts ((part ([]) (at 0 0 25) (type_piece kind.Class (name ((word 0 6 7 (codes "A")) ∷ []) (at 0 6 7)) ((any_type None (type.Single (record { name = (name ((word 0 10 16 (codes "Object")) ∷ []) (at 0 10 16)); is_nullable = false; span = (at 0 10 16) })) (at 0 10 16)) ∷ (any_type None (type.Single (record { name = (name ((word 0 18 21 (codes "int")) ∷ []) (at 0 18 21)); is_nullable = false; span = (at 0 18 21) })) (at 0 18 21)) ∷ []) ([]))) ∷ (part ([]) (at 0 26 42) (λ f. callable (plain_head kind.Method (word 0 31 35 (codes "main")) f) ([]) (Some (code (at 0 39 42))))) ∷ [])) ∷ []) (([]) ∷ []) (Some (saying ([]) ((any_type None (type.Single (record { name = (name ((word 0 10 16 (codes "Object")) ∷ []) (at 0 10 16)); is_nullable = false; span = (at 0 10 16) })) (at 0 10 16)) ∷ (any_type None (type.Single (record { name = (name ((word 0 18 21 (codes "int")) ∷ []) (at 0 18 21)); is_nullable = false; span = (at 0 18 21) })) (at 0 18 21)) ∷ []) Other) ∷ Some (saying ([]) [] (Called (Some (any_type None type.Void (at 0 26 30))) ([]) ([]))) ∷ []) ≡ fault T5 (at 0 18 21) ∷ []
base_number = refl

-- `class A : Object { } interface I : A { } interface J : Object, I { } void main () { }`
base_of_interface : faults ((parts ((part ([]) (at 0 0 20) (type_piece kind.Class (name ((word 0 6 7 (codes "A")) ∷ []) (at 0 6 7)) ((any_type None (type.Single (record { name = (name ((word 0 10 16 (codes "Object")) ∷ []) (at 0 10 16)); is_nullable = false; span = (at 0 10 16) })) (at 0 10 16)) ∷ []) ([]))) ∷ (part ([]) (at 0 21 40) (type_piece kind.Interface (name ((word 0 31 32 (codes "I")) ∷ []) (at 0 31 32)) ((any_type None (type.Single (record { name = (name ((word 0 35 36 (codes "A")) ∷ []) (at 0 35 36)); is_nullable = false; span = (at 0 35 36) })) (at 0 35 36)) ∷ []) ([]))) ∷ (part ([]) (at 0 41 68) (type_piece kind.Interface (name ((word 0 51 52 (codes "J")) ∷ []) (at 0 51 52)) ((any_type None (type.Single (record { name = (name ((word 0 55 61 (codes "Object")) ∷ []) (at 0 55 61)); is_nullable = false; span = (at 0 55 61) })) (at 0 55 61)) ∷ (any_type None (type.Single (record { name = (name ((word 0 63 64 (codes "I")) ∷ []) (at 0 63 64)); is_nullable = false; span = (at 0 63 64) })) (at 0 63 64)) ∷ []) ([]))) ∷ (part ([]) (at 0 69 85) (λ f. callable (plain_head kind.Method (word 0 74 78 (codes "main")) f) ([]) (Some (code (at 0 82 85))))) ∷ [])) ∷ []) (([]) ∷ []) (Some (saying ([]) ((any_type None (type.Single (record { name = (name ((word 0 10 16 (codes "Object")) ∷ []) (at 0 10 16)); is_nullable = false; span = (at 0 10 16) })) (at 0 10 16)) ∷ []) Other) ∷ Some (saying ([]) ((any_type None (type.Single (record { name = (name ((word 0 35 36 (codes "A")) ∷ []) (at 0 35 36)); is_nullable = false; span = (at 0 35 36) })) (at 0 35 36)) ∷ []) Other) ∷ Some (saying ([]) ((any_type None (type.Single (record { name = (name ((word 0 55 61 (codes "Object")) ∷ []) (at 0 55 61)); is_nullable = false; span = (at 0 55 61) })) (at 0 55 61)) ∷ (any_type None (type.Single (record { name = (name ((word 0 63 64 (codes "I")) ∷ []) (at 0 63 64)); is_nullable = false; span = (at 0 63 64) })) (at 0 63 64)) ∷ []) Other) ∷ Some (saying ([]) [] (Called (Some (any_type None type.Void (at 0 69 73))) ([]) ([]))) ∷ []) ≡ fault T5 (at 0 35 36) ∷ []
base_of_interface = refl

-- `class A : Missing { } void main () { }`
base_unknown : faults ((parts ((part ([]) (at 0 0 21) (type_piece kind.Class (name ((word 0 6 7 (codes "A")) ∷ []) (at 0 6 7)) ((any_type None (type.Single (record { name = (name ((word 0 10 17 (codes "Missing")) ∷ []) (at 0 10 17)); is_nullable = false; span = (at 0 10 17) })) (at 0 10 17)) ∷ []) ([]))) ∷ (part ([]) (at 0 22 38) (λ f. callable (plain_head kind.Method (word 0 27 31 (codes "main")) f) ([]) (Some (code (at 0 35 38))))) ∷ [])) ∷ []) (([]) ∷ []) (Some (saying ([]) ((any_type None (type.Single (record { name = (name ((word 0 10 17 (codes "Missing")) ∷ []) (at 0 10 17)); is_nullable = false; span = (at 0 10 17) })) (at 0 10 17)) ∷ []) Other) ∷ Some (saying ([]) [] (Called (Some (any_type None type.Void (at 0 22 26))) ([]) ([]))) ∷ []) ≡ []
base_unknown = refl

-- `namespace N { public class A : Object { } } class B : N.A { } void main () { }`
base_in_namespace : faults ((parts ((part ([]) (at 0 0 43) (λ f. namespace_piece (name ((word 0 10 11 (codes "N")) ∷ []) (at 0 10 11)) ((part ((marked w.Public (at 0 14 20)) ∷ []) (at 0 14 41) (type_piece kind.Class (name ((word 0 27 28 (codes "A")) ∷ []) (at 0 27 28)) ((any_type None (type.Single (record { name = (name ((word 0 31 37 (codes "Object")) ∷ []) (at 0 31 37)); is_nullable = false; span = (at 0 31 37) })) (at 0 31 37)) ∷ []) ([]))) ∷ []))) ∷ (part ([]) (at 0 44 61) (type_piece kind.Class (name ((word 0 50 51 (codes "B")) ∷ []) (at 0 50 51)) ((any_type None (type.Single (record { name = (name ((word 0 54 55 (codes "N")) ∷ (word 0 56 57 (codes "A")) ∷ []) (at 0 54 57)); is_nullable = false; span = (at 0 54 57) })) (at 0 54 57)) ∷ []) ([]))) ∷ (part ([]) (at 0 62 78) (λ f. callable (plain_head kind.Method (word 0 67 71 (codes "main")) f) ([]) (Some (code (at 0 75 78))))) ∷ [])) ∷ []) (([]) ∷ []) (None ∷ Some (saying ((marked w.Public (at 0 14 20)) ∷ []) ((any_type None (type.Single (record { name = (name ((word 0 31 37 (codes "Object")) ∷ []) (at 0 31 37)); is_nullable = false; span = (at 0 31 37) })) (at 0 31 37)) ∷ []) Other) ∷ Some (saying ([]) ((any_type None (type.Single (record { name = (name ((word 0 54 55 (codes "N")) ∷ (word 0 56 57 (codes "A")) ∷ []) (at 0 54 57)); is_nullable = false; span = (at 0 54 57) })) (at 0 54 57)) ∷ []) Other) ∷ Some (saying ([]) [] (Called (Some (any_type None type.Void (at 0 62 66))) ([]) ([]))) ∷ []) ≡ []
base_in_namespace = refl

-- `class B : A { } || class A : P { } struct P { int x; } void main () { }`
base_other_file : faults ((parts ((part ([]) (at 0 0 15) (type_piece kind.Class (name ((word 0 6 7 (codes "B")) ∷ []) (at 0 6 7)) ((any_type None (type.Single (record { name = (name ((word 0 10 11 (codes "A")) ∷ []) (at 0 10 11)); is_nullable = false; span = (at 0 10 11) })) (at 0 10 11)) ∷ []) ([]))) ∷ [])) ∷ (parts ((part ([]) (at 1 0 15) (type_piece kind.Class (name ((word 1 6 7 (codes "A")) ∷ []) (at 1 6 7)) ((any_type None (type.Single (record { name = (name ((word 1 10 11 (codes "P")) ∷ []) (at 1 10 11)); is_nullable = false; span = (at 1 10 11) })) (at 1 10 11)) ∷ []) ([]))) ∷ (part ([]) (at 1 16 35) (type_piece kind.Struct (name ((word 1 23 24 (codes "P")) ∷ []) (at 1 23 24)) [] ((part ([]) (at 1 27 33) (field_piece (word 1 31 32 (codes "x")) (any_type None (type.Single (record { name = (name ((word 1 27 30 (codes "int")) ∷ []) (at 1 27 30)); is_nullable = false; span = (at 1 27 30) })) (at 1 27 30)) None)) ∷ []))) ∷ (part ([]) (at 1 36 52) (λ f. callable (plain_head kind.Method (word 1 41 45 (codes "main")) f) ([]) (Some (code (at 1 49 52))))) ∷ [])) ∷ []) (([]) ∷ ([]) ∷ []) (Some (saying ([]) ((any_type None (type.Single (record { name = (name ((word 0 10 11 (codes "A")) ∷ []) (at 0 10 11)); is_nullable = false; span = (at 0 10 11) })) (at 0 10 11)) ∷ []) Other) ∷ Some (saying ([]) ((any_type None (type.Single (record { name = (name ((word 1 10 11 (codes "P")) ∷ []) (at 1 10 11)); is_nullable = false; span = (at 1 10 11) })) (at 1 10 11)) ∷ []) Other) ∷ Some (saying ([]) [] Other) ∷ Some (saying ([]) [] Other) ∷ Some (saying ([]) [] (Called (Some (any_type None type.Void (at 1 36 40))) ([]) ([]))) ∷ []) ≡ fault T5 (at 1 10 11) ∷ []
base_other_file = refl

-- 2. Overrides

-- `class A : Object { public virtual int f (int x, string s) { } } class B : A { public override int f (int y, string t) { } } void main () { }`
override_right : faults ((parts ((part ([]) (at 0 0 63) (type_piece kind.Class (name ((word 0 6 7 (codes "A")) ∷ []) (at 0 6 7)) ((any_type None (type.Single (record { name = (name ((word 0 10 16 (codes "Object")) ∷ []) (at 0 10 16)); is_nullable = false; span = (at 0 10 16) })) (at 0 10 16)) ∷ []) ((part ((marked w.Public (at 0 19 25)) ∷ (marked w.Virtual (at 0 26 33)) ∷ []) (at 0 19 61) (λ f. callable (plain_head kind.Method (word 0 38 39 (codes "f")) f) ((parameter_piece (word 0 45 46 (codes "x")) None) ∷ (parameter_piece (word 0 55 56 (codes "s")) None) ∷ []) (Some (code (at 0 58 61))))) ∷ []))) ∷ (part ([]) (at 0 64 123) (type_piece kind.Class (name ((word 0 70 71 (codes "B")) ∷ []) (at 0 70 71)) ((any_type None (type.Single (record { name = (name ((word 0 74 75 (codes "A")) ∷ []) (at 0 74 75)); is_nullable = false; span = (at 0 74 75) })) (at 0 74 75)) ∷ []) ((part ((marked w.Public (at 0 78 84)) ∷ (marked w.Override (at 0 85 93)) ∷ []) (at 0 78 121) (λ f. callable (plain_head kind.Method (word 0 98 99 (codes "f")) f) ((parameter_piece (word 0 105 106 (codes "y")) None) ∷ (parameter_piece (word 0 115 116 (codes "t")) None) ∷ []) (Some (code (at 0 118 121))))) ∷ []))) ∷ (part ([]) (at 0 124 140) (λ f. callable (plain_head kind.Method (word 0 129 133 (codes "main")) f) ([]) (Some (code (at 0 137 140))))) ∷ [])) ∷ []) (([]) ∷ []) (Some (saying ([]) ((any_type None (type.Single (record { name = (name ((word 0 10 16 (codes "Object")) ∷ []) (at 0 10 16)); is_nullable = false; span = (at 0 10 16) })) (at 0 10 16)) ∷ []) Other) ∷ Some (saying ((marked w.Public (at 0 19 25)) ∷ (marked w.Virtual (at 0 26 33)) ∷ []) [] (Called (Some (any_type None (type.Single (record { name = (name ((word 0 34 37 (codes "int")) ∷ []) (at 0 34 37)); is_nullable = false; span = (at 0 34 37) })) (at 0 34 37))) ((taken None (any_type None (type.Single (record { name = (name ((word 0 41 44 (codes "int")) ∷ []) (at 0 41 44)); is_nullable = false; span = (at 0 41 44) })) (at 0 41 44)) (word 0 45 46 (codes "x")) (at 0 41 46)) ∷ (taken None (any_type None (type.Single (record { name = (name ((word 0 48 54 (codes "string")) ∷ []) (at 0 48 54)); is_nullable = false; span = (at 0 48 54) })) (at 0 48 54)) (word 0 55 56 (codes "s")) (at 0 48 56)) ∷ []) ([]))) ∷ None ∷ None ∷ Some (saying ([]) ((any_type None (type.Single (record { name = (name ((word 0 74 75 (codes "A")) ∷ []) (at 0 74 75)); is_nullable = false; span = (at 0 74 75) })) (at 0 74 75)) ∷ []) Other) ∷ Some (saying ((marked w.Public (at 0 78 84)) ∷ (marked w.Override (at 0 85 93)) ∷ []) [] (Called (Some (any_type None (type.Single (record { name = (name ((word 0 94 97 (codes "int")) ∷ []) (at 0 94 97)); is_nullable = false; span = (at 0 94 97) })) (at 0 94 97))) ((taken None (any_type None (type.Single (record { name = (name ((word 0 101 104 (codes "int")) ∷ []) (at 0 101 104)); is_nullable = false; span = (at 0 101 104) })) (at 0 101 104)) (word 0 105 106 (codes "y")) (at 0 101 106)) ∷ (taken None (any_type None (type.Single (record { name = (name ((word 0 108 114 (codes "string")) ∷ []) (at 0 108 114)); is_nullable = false; span = (at 0 108 114) })) (at 0 108 114)) (word 0 115 116 (codes "t")) (at 0 108 116)) ∷ []) ([]))) ∷ None ∷ None ∷ Some (saying ([]) [] (Called (Some (any_type None type.Void (at 0 124 128))) ([]) ([]))) ∷ []) ≡ []
override_right = refl

-- `class A : Object { public override void f () { } } void main () { }`
override_nothing : faults ((parts ((part ([]) (at 0 0 50) (type_piece kind.Class (name ((word 0 6 7 (codes "A")) ∷ []) (at 0 6 7)) ((any_type None (type.Single (record { name = (name ((word 0 10 16 (codes "Object")) ∷ []) (at 0 10 16)); is_nullable = false; span = (at 0 10 16) })) (at 0 10 16)) ∷ []) ((part ((marked w.Public (at 0 19 25)) ∷ (marked w.Override (at 0 26 34)) ∷ []) (at 0 19 48) (λ f. callable (plain_head kind.Method (word 0 40 41 (codes "f")) f) ([]) (Some (code (at 0 45 48))))) ∷ []))) ∷ (part ([]) (at 0 51 67) (λ f. callable (plain_head kind.Method (word 0 56 60 (codes "main")) f) ([]) (Some (code (at 0 64 67))))) ∷ [])) ∷ []) (([]) ∷ []) (Some (saying ([]) ((any_type None (type.Single (record { name = (name ((word 0 10 16 (codes "Object")) ∷ []) (at 0 10 16)); is_nullable = false; span = (at 0 10 16) })) (at 0 10 16)) ∷ []) Other) ∷ Some (saying ((marked w.Public (at 0 19 25)) ∷ (marked w.Override (at 0 26 34)) ∷ []) [] (Called (Some (any_type None type.Void (at 0 35 39))) ([]) ([]))) ∷ Some (saying ([]) [] (Called (Some (any_type None type.Void (at 0 51 55))) ([]) ([]))) ∷ []) ≡ fault T6 (at 0 40 41) ∷ []
override_nothing = refl

-- `class A : Object { public void f () { } } class B : A { public override void f () { } } void main () { }`
override_plain : faults ((parts ((part ([]) (at 0 0 41) (type_piece kind.Class (name ((word 0 6 7 (codes "A")) ∷ []) (at 0 6 7)) ((any_type None (type.Single (record { name = (name ((word 0 10 16 (codes "Object")) ∷ []) (at 0 10 16)); is_nullable = false; span = (at 0 10 16) })) (at 0 10 16)) ∷ []) ((part ((marked w.Public (at 0 19 25)) ∷ []) (at 0 19 39) (λ f. callable (plain_head kind.Method (word 0 31 32 (codes "f")) f) ([]) (Some (code (at 0 36 39))))) ∷ []))) ∷ (part ([]) (at 0 42 87) (type_piece kind.Class (name ((word 0 48 49 (codes "B")) ∷ []) (at 0 48 49)) ((any_type None (type.Single (record { name = (name ((word 0 52 53 (codes "A")) ∷ []) (at 0 52 53)); is_nullable = false; span = (at 0 52 53) })) (at 0 52 53)) ∷ []) ((part ((marked w.Public (at 0 56 62)) ∷ (marked w.Override (at 0 63 71)) ∷ []) (at 0 56 85) (λ f. callable (plain_head kind.Method (word 0 77 78 (codes "f")) f) ([]) (Some (code (at 0 82 85))))) ∷ []))) ∷ (part ([]) (at 0 88 104) (λ f. callable (plain_head kind.Method (word 0 93 97 (codes "main")) f) ([]) (Some (code (at 0 101 104))))) ∷ [])) ∷ []) (([]) ∷ []) (Some (saying ([]) ((any_type None (type.Single (record { name = (name ((word 0 10 16 (codes "Object")) ∷ []) (at 0 10 16)); is_nullable = false; span = (at 0 10 16) })) (at 0 10 16)) ∷ []) Other) ∷ Some (saying ((marked w.Public (at 0 19 25)) ∷ []) [] (Called (Some (any_type None type.Void (at 0 26 30))) ([]) ([]))) ∷ Some (saying ([]) ((any_type None (type.Single (record { name = (name ((word 0 52 53 (codes "A")) ∷ []) (at 0 52 53)); is_nullable = false; span = (at 0 52 53) })) (at 0 52 53)) ∷ []) Other) ∷ Some (saying ((marked w.Public (at 0 56 62)) ∷ (marked w.Override (at 0 63 71)) ∷ []) [] (Called (Some (any_type None type.Void (at 0 72 76))) ([]) ([]))) ∷ Some (saying ([]) [] (Called (Some (any_type None type.Void (at 0 88 92))) ([]) ([]))) ∷ []) ≡ fault T6 (at 0 77 78) ∷ []
override_plain = refl

-- `class A : Object { public virtual void f (int x) { } } class B : A { public override void f (string x) { } } void main () { }`
override_by_name : faults ((parts ((part ([]) (at 0 0 54) (type_piece kind.Class (name ((word 0 6 7 (codes "A")) ∷ []) (at 0 6 7)) ((any_type None (type.Single (record { name = (name ((word 0 10 16 (codes "Object")) ∷ []) (at 0 10 16)); is_nullable = false; span = (at 0 10 16) })) (at 0 10 16)) ∷ []) ((part ((marked w.Public (at 0 19 25)) ∷ (marked w.Virtual (at 0 26 33)) ∷ []) (at 0 19 52) (λ f. callable (plain_head kind.Method (word 0 39 40 (codes "f")) f) ((parameter_piece (word 0 46 47 (codes "x")) None) ∷ []) (Some (code (at 0 49 52))))) ∷ []))) ∷ (part ([]) (at 0 55 108) (type_piece kind.Class (name ((word 0 61 62 (codes "B")) ∷ []) (at 0 61 62)) ((any_type None (type.Single (record { name = (name ((word 0 65 66 (codes "A")) ∷ []) (at 0 65 66)); is_nullable = false; span = (at 0 65 66) })) (at 0 65 66)) ∷ []) ((part ((marked w.Public (at 0 69 75)) ∷ (marked w.Override (at 0 76 84)) ∷ []) (at 0 69 106) (λ f. callable (plain_head kind.Method (word 0 90 91 (codes "f")) f) ((parameter_piece (word 0 100 101 (codes "x")) None) ∷ []) (Some (code (at 0 103 106))))) ∷ []))) ∷ (part ([]) (at 0 109 125) (λ f. callable (plain_head kind.Method (word 0 114 118 (codes "main")) f) ([]) (Some (code (at 0 122 125))))) ∷ [])) ∷ []) (([]) ∷ []) (Some (saying ([]) ((any_type None (type.Single (record { name = (name ((word 0 10 16 (codes "Object")) ∷ []) (at 0 10 16)); is_nullable = false; span = (at 0 10 16) })) (at 0 10 16)) ∷ []) Other) ∷ Some (saying ((marked w.Public (at 0 19 25)) ∷ (marked w.Virtual (at 0 26 33)) ∷ []) [] (Called (Some (any_type None type.Void (at 0 34 38))) ((taken None (any_type None (type.Single (record { name = (name ((word 0 42 45 (codes "int")) ∷ []) (at 0 42 45)); is_nullable = false; span = (at 0 42 45) })) (at 0 42 45)) (word 0 46 47 (codes "x")) (at 0 42 47)) ∷ []) ([]))) ∷ None ∷ Some (saying ([]) ((any_type None (type.Single (record { name = (name ((word 0 65 66 (codes "A")) ∷ []) (at 0 65 66)); is_nullable = false; span = (at 0 65 66) })) (at 0 65 66)) ∷ []) Other) ∷ Some (saying ((marked w.Public (at 0 69 75)) ∷ (marked w.Override (at 0 76 84)) ∷ []) [] (Called (Some (any_type None type.Void (at 0 85 89))) ((taken None (any_type None (type.Single (record { name = (name ((word 0 93 99 (codes "string")) ∷ []) (at 0 93 99)); is_nullable = false; span = (at 0 93 99) })) (at 0 93 99)) (word 0 100 101 (codes "x")) (at 0 93 101)) ∷ []) ([]))) ∷ None ∷ Some (saying ([]) [] (Called (Some (any_type None type.Void (at 0 109 113))) ([]) ([]))) ∷ []) ≡ fault T6 (at 0 90 91) ∷ []
override_by_name = refl

-- `class A : Object { public virtual void f (int x) { } } class B : A { public override void f (int x, int y) { } } void main () { }`
override_number : faults ((parts ((part ([]) (at 0 0 54) (type_piece kind.Class (name ((word 0 6 7 (codes "A")) ∷ []) (at 0 6 7)) ((any_type None (type.Single (record { name = (name ((word 0 10 16 (codes "Object")) ∷ []) (at 0 10 16)); is_nullable = false; span = (at 0 10 16) })) (at 0 10 16)) ∷ []) ((part ((marked w.Public (at 0 19 25)) ∷ (marked w.Virtual (at 0 26 33)) ∷ []) (at 0 19 52) (λ f. callable (plain_head kind.Method (word 0 39 40 (codes "f")) f) ((parameter_piece (word 0 46 47 (codes "x")) None) ∷ []) (Some (code (at 0 49 52))))) ∷ []))) ∷ (part ([]) (at 0 55 112) (type_piece kind.Class (name ((word 0 61 62 (codes "B")) ∷ []) (at 0 61 62)) ((any_type None (type.Single (record { name = (name ((word 0 65 66 (codes "A")) ∷ []) (at 0 65 66)); is_nullable = false; span = (at 0 65 66) })) (at 0 65 66)) ∷ []) ((part ((marked w.Public (at 0 69 75)) ∷ (marked w.Override (at 0 76 84)) ∷ []) (at 0 69 110) (λ f. callable (plain_head kind.Method (word 0 90 91 (codes "f")) f) ((parameter_piece (word 0 97 98 (codes "x")) None) ∷ (parameter_piece (word 0 104 105 (codes "y")) None) ∷ []) (Some (code (at 0 107 110))))) ∷ []))) ∷ (part ([]) (at 0 113 129) (λ f. callable (plain_head kind.Method (word 0 118 122 (codes "main")) f) ([]) (Some (code (at 0 126 129))))) ∷ [])) ∷ []) (([]) ∷ []) (Some (saying ([]) ((any_type None (type.Single (record { name = (name ((word 0 10 16 (codes "Object")) ∷ []) (at 0 10 16)); is_nullable = false; span = (at 0 10 16) })) (at 0 10 16)) ∷ []) Other) ∷ Some (saying ((marked w.Public (at 0 19 25)) ∷ (marked w.Virtual (at 0 26 33)) ∷ []) [] (Called (Some (any_type None type.Void (at 0 34 38))) ((taken None (any_type None (type.Single (record { name = (name ((word 0 42 45 (codes "int")) ∷ []) (at 0 42 45)); is_nullable = false; span = (at 0 42 45) })) (at 0 42 45)) (word 0 46 47 (codes "x")) (at 0 42 47)) ∷ []) ([]))) ∷ None ∷ Some (saying ([]) ((any_type None (type.Single (record { name = (name ((word 0 65 66 (codes "A")) ∷ []) (at 0 65 66)); is_nullable = false; span = (at 0 65 66) })) (at 0 65 66)) ∷ []) Other) ∷ Some (saying ((marked w.Public (at 0 69 75)) ∷ (marked w.Override (at 0 76 84)) ∷ []) [] (Called (Some (any_type None type.Void (at 0 85 89))) ((taken None (any_type None (type.Single (record { name = (name ((word 0 93 96 (codes "int")) ∷ []) (at 0 93 96)); is_nullable = false; span = (at 0 93 96) })) (at 0 93 96)) (word 0 97 98 (codes "x")) (at 0 93 98)) ∷ (taken None (any_type None (type.Single (record { name = (name ((word 0 100 103 (codes "int")) ∷ []) (at 0 100 103)); is_nullable = false; span = (at 0 100 103) })) (at 0 100 103)) (word 0 104 105 (codes "y")) (at 0 100 105)) ∷ []) ([]))) ∷ None ∷ None ∷ Some (saying ([]) [] (Called (Some (any_type None type.Void (at 0 113 117))) ([]) ([]))) ∷ []) ≡ fault T6 (at 0 90 91) ∷ []
override_number = refl

-- `class A : Object { public virtual int f () { } } class B : A { public override long f () { } } void main () { }`
override_result : faults ((parts ((part ([]) (at 0 0 48) (type_piece kind.Class (name ((word 0 6 7 (codes "A")) ∷ []) (at 0 6 7)) ((any_type None (type.Single (record { name = (name ((word 0 10 16 (codes "Object")) ∷ []) (at 0 10 16)); is_nullable = false; span = (at 0 10 16) })) (at 0 10 16)) ∷ []) ((part ((marked w.Public (at 0 19 25)) ∷ (marked w.Virtual (at 0 26 33)) ∷ []) (at 0 19 46) (λ f. callable (plain_head kind.Method (word 0 38 39 (codes "f")) f) ([]) (Some (code (at 0 43 46))))) ∷ []))) ∷ (part ([]) (at 0 49 94) (type_piece kind.Class (name ((word 0 55 56 (codes "B")) ∷ []) (at 0 55 56)) ((any_type None (type.Single (record { name = (name ((word 0 59 60 (codes "A")) ∷ []) (at 0 59 60)); is_nullable = false; span = (at 0 59 60) })) (at 0 59 60)) ∷ []) ((part ((marked w.Public (at 0 63 69)) ∷ (marked w.Override (at 0 70 78)) ∷ []) (at 0 63 92) (λ f. callable (plain_head kind.Method (word 0 84 85 (codes "f")) f) ([]) (Some (code (at 0 89 92))))) ∷ []))) ∷ (part ([]) (at 0 95 111) (λ f. callable (plain_head kind.Method (word 0 100 104 (codes "main")) f) ([]) (Some (code (at 0 108 111))))) ∷ [])) ∷ []) (([]) ∷ []) (Some (saying ([]) ((any_type None (type.Single (record { name = (name ((word 0 10 16 (codes "Object")) ∷ []) (at 0 10 16)); is_nullable = false; span = (at 0 10 16) })) (at 0 10 16)) ∷ []) Other) ∷ Some (saying ((marked w.Public (at 0 19 25)) ∷ (marked w.Virtual (at 0 26 33)) ∷ []) [] (Called (Some (any_type None (type.Single (record { name = (name ((word 0 34 37 (codes "int")) ∷ []) (at 0 34 37)); is_nullable = false; span = (at 0 34 37) })) (at 0 34 37))) ([]) ([]))) ∷ Some (saying ([]) ((any_type None (type.Single (record { name = (name ((word 0 59 60 (codes "A")) ∷ []) (at 0 59 60)); is_nullable = false; span = (at 0 59 60) })) (at 0 59 60)) ∷ []) Other) ∷ Some (saying ((marked w.Public (at 0 63 69)) ∷ (marked w.Override (at 0 70 78)) ∷ []) [] (Called (Some (any_type None (type.Single (record { name = (name ((word 0 79 83 (codes "long")) ∷ []) (at 0 79 83)); is_nullable = false; span = (at 0 79 83) })) (at 0 79 83))) ([]) ([]))) ∷ Some (saying ([]) [] (Called (Some (any_type None type.Void (at 0 95 99))) ([]) ([]))) ∷ []) ≡ fault T6 (at 0 84 85) ∷ []
override_result = refl

-- `class A : Object { public virtual A f () { } } class B : A { public override B f () { } } void main () { }`
override_derived_result : faults ((parts ((part ([]) (at 0 0 46) (type_piece kind.Class (name ((word 0 6 7 (codes "A")) ∷ []) (at 0 6 7)) ((any_type None (type.Single (record { name = (name ((word 0 10 16 (codes "Object")) ∷ []) (at 0 10 16)); is_nullable = false; span = (at 0 10 16) })) (at 0 10 16)) ∷ []) ((part ((marked w.Public (at 0 19 25)) ∷ (marked w.Virtual (at 0 26 33)) ∷ []) (at 0 19 44) (λ f. callable (plain_head kind.Method (word 0 36 37 (codes "f")) f) ([]) (Some (code (at 0 41 44))))) ∷ []))) ∷ (part ([]) (at 0 47 89) (type_piece kind.Class (name ((word 0 53 54 (codes "B")) ∷ []) (at 0 53 54)) ((any_type None (type.Single (record { name = (name ((word 0 57 58 (codes "A")) ∷ []) (at 0 57 58)); is_nullable = false; span = (at 0 57 58) })) (at 0 57 58)) ∷ []) ((part ((marked w.Public (at 0 61 67)) ∷ (marked w.Override (at 0 68 76)) ∷ []) (at 0 61 87) (λ f. callable (plain_head kind.Method (word 0 79 80 (codes "f")) f) ([]) (Some (code (at 0 84 87))))) ∷ []))) ∷ (part ([]) (at 0 90 106) (λ f. callable (plain_head kind.Method (word 0 95 99 (codes "main")) f) ([]) (Some (code (at 0 103 106))))) ∷ [])) ∷ []) (([]) ∷ []) (Some (saying ([]) ((any_type None (type.Single (record { name = (name ((word 0 10 16 (codes "Object")) ∷ []) (at 0 10 16)); is_nullable = false; span = (at 0 10 16) })) (at 0 10 16)) ∷ []) Other) ∷ Some (saying ((marked w.Public (at 0 19 25)) ∷ (marked w.Virtual (at 0 26 33)) ∷ []) [] (Called (Some (any_type None (type.Single (record { name = (name ((word 0 34 35 (codes "A")) ∷ []) (at 0 34 35)); is_nullable = false; span = (at 0 34 35) })) (at 0 34 35))) ([]) ([]))) ∷ Some (saying ([]) ((any_type None (type.Single (record { name = (name ((word 0 57 58 (codes "A")) ∷ []) (at 0 57 58)); is_nullable = false; span = (at 0 57 58) })) (at 0 57 58)) ∷ []) Other) ∷ Some (saying ((marked w.Public (at 0 61 67)) ∷ (marked w.Override (at 0 68 76)) ∷ []) [] (Called (Some (any_type None (type.Single (record { name = (name ((word 0 77 78 (codes "B")) ∷ []) (at 0 77 78)); is_nullable = false; span = (at 0 77 78) })) (at 0 77 78))) ([]) ([]))) ∷ Some (saying ([]) [] (Called (Some (any_type None type.Void (at 0 90 94))) ([]) ([]))) ∷ []) ≡ fault T6 (at 0 79 80) ∷ []
override_derived_result = refl

-- `class A : Object { public virtual void f (out int x) { } } class B : A { public override void f (ref int x) { } } void main () { }`
override_direction : faults ((parts ((part ([]) (at 0 0 58) (type_piece kind.Class (name ((word 0 6 7 (codes "A")) ∷ []) (at 0 6 7)) ((any_type None (type.Single (record { name = (name ((word 0 10 16 (codes "Object")) ∷ []) (at 0 10 16)); is_nullable = false; span = (at 0 10 16) })) (at 0 10 16)) ∷ []) ((part ((marked w.Public (at 0 19 25)) ∷ (marked w.Virtual (at 0 26 33)) ∷ []) (at 0 19 56) (λ f. callable (plain_head kind.Method (word 0 39 40 (codes "f")) f) ((parameter_piece (word 0 50 51 (codes "x")) None) ∷ []) (Some (code (at 0 53 56))))) ∷ []))) ∷ (part ([]) (at 0 59 113) (type_piece kind.Class (name ((word 0 65 66 (codes "B")) ∷ []) (at 0 65 66)) ((any_type None (type.Single (record { name = (name ((word 0 69 70 (codes "A")) ∷ []) (at 0 69 70)); is_nullable = false; span = (at 0 69 70) })) (at 0 69 70)) ∷ []) ((part ((marked w.Public (at 0 73 79)) ∷ (marked w.Override (at 0 80 88)) ∷ []) (at 0 73 111) (λ f. callable (plain_head kind.Method (word 0 94 95 (codes "f")) f) ((parameter_piece (word 0 105 106 (codes "x")) None) ∷ []) (Some (code (at 0 108 111))))) ∷ []))) ∷ (part ([]) (at 0 114 130) (λ f. callable (plain_head kind.Method (word 0 119 123 (codes "main")) f) ([]) (Some (code (at 0 127 130))))) ∷ [])) ∷ []) (([]) ∷ []) (Some (saying ([]) ((any_type None (type.Single (record { name = (name ((word 0 10 16 (codes "Object")) ∷ []) (at 0 10 16)); is_nullable = false; span = (at 0 10 16) })) (at 0 10 16)) ∷ []) Other) ∷ Some (saying ((marked w.Public (at 0 19 25)) ∷ (marked w.Virtual (at 0 26 33)) ∷ []) [] (Called (Some (any_type None type.Void (at 0 34 38))) ((taken (Some passing.Out) (any_type None (type.Single (record { name = (name ((word 0 46 49 (codes "int")) ∷ []) (at 0 46 49)); is_nullable = false; span = (at 0 46 49) })) (at 0 46 49)) (word 0 50 51 (codes "x")) (at 0 42 51)) ∷ []) ([]))) ∷ None ∷ Some (saying ([]) ((any_type None (type.Single (record { name = (name ((word 0 69 70 (codes "A")) ∷ []) (at 0 69 70)); is_nullable = false; span = (at 0 69 70) })) (at 0 69 70)) ∷ []) Other) ∷ Some (saying ((marked w.Public (at 0 73 79)) ∷ (marked w.Override (at 0 80 88)) ∷ []) [] (Called (Some (any_type None type.Void (at 0 89 93))) ((taken (Some passing.Ref) (any_type None (type.Single (record { name = (name ((word 0 101 104 (codes "int")) ∷ []) (at 0 101 104)); is_nullable = false; span = (at 0 101 104) })) (at 0 101 104)) (word 0 105 106 (codes "x")) (at 0 97 106)) ∷ []) ([]))) ∷ None ∷ Some (saying ([]) [] (Called (Some (any_type None type.Void (at 0 114 118))) ([]) ([]))) ∷ []) ≡ fault T6 (at 0 94 95) ∷ []
override_direction = refl

-- `class A : Object { public virtual void f (owned A x) { } public virtual void g (unowned A x) { } public virtual unowned A h () { } } class B : A { public override void f (A x) { } public override void g (A x) { } public override A h () { } } void main () { }`
override_owner : faults ((parts ((part ([]) (at 0 0 132) (type_piece kind.Class (name ((word 0 6 7 (codes "A")) ∷ []) (at 0 6 7)) ((any_type None (type.Single (record { name = (name ((word 0 10 16 (codes "Object")) ∷ []) (at 0 10 16)); is_nullable = false; span = (at 0 10 16) })) (at 0 10 16)) ∷ []) ((part ((marked w.Public (at 0 19 25)) ∷ (marked w.Virtual (at 0 26 33)) ∷ []) (at 0 19 56) (λ f. callable (plain_head kind.Method (word 0 39 40 (codes "f")) f) ((parameter_piece (word 0 50 51 (codes "x")) None) ∷ []) (Some (code (at 0 53 56))))) ∷ (part ((marked w.Public (at 0 57 63)) ∷ (marked w.Virtual (at 0 64 71)) ∷ []) (at 0 57 96) (λ f. callable (plain_head kind.Method (word 0 77 78 (codes "g")) f) ((parameter_piece (word 0 90 91 (codes "x")) None) ∷ []) (Some (code (at 0 93 96))))) ∷ (part ((marked w.Public (at 0 97 103)) ∷ (marked w.Virtual (at 0 104 111)) ∷ []) (at 0 97 130) (λ f. callable (plain_head kind.Method (word 0 122 123 (codes "h")) f) ([]) (Some (code (at 0 127 130))))) ∷ []))) ∷ (part ([]) (at 0 133 241) (type_piece kind.Class (name ((word 0 139 140 (codes "B")) ∷ []) (at 0 139 140)) ((any_type None (type.Single (record { name = (name ((word 0 143 144 (codes "A")) ∷ []) (at 0 143 144)); is_nullable = false; span = (at 0 143 144) })) (at 0 143 144)) ∷ []) ((part ((marked w.Public (at 0 147 153)) ∷ (marked w.Override (at 0 154 162)) ∷ []) (at 0 147 179) (λ f. callable (plain_head kind.Method (word 0 168 169 (codes "f")) f) ((parameter_piece (word 0 173 174 (codes "x")) None) ∷ []) (Some (code (at 0 176 179))))) ∷ (part ((marked w.Public (at 0 180 186)) ∷ (marked w.Override (at 0 187 195)) ∷ []) (at 0 180 212) (λ f. callable (plain_head kind.Method (word 0 201 202 (codes "g")) f) ((parameter_piece (word 0 206 207 (codes "x")) None) ∷ []) (Some (code (at 0 209 212))))) ∷ (part ((marked w.Public (at 0 213 219)) ∷ (marked w.Override (at 0 220 228)) ∷ []) (at 0 213 239) (λ f. callable (plain_head kind.Method (word 0 231 232 (codes "h")) f) ([]) (Some (code (at 0 236 239))))) ∷ []))) ∷ (part ([]) (at 0 242 258) (λ f. callable (plain_head kind.Method (word 0 247 251 (codes "main")) f) ([]) (Some (code (at 0 255 258))))) ∷ [])) ∷ []) (([]) ∷ []) (Some (saying ([]) ((any_type None (type.Single (record { name = (name ((word 0 10 16 (codes "Object")) ∷ []) (at 0 10 16)); is_nullable = false; span = (at 0 10 16) })) (at 0 10 16)) ∷ []) Other) ∷ Some (saying ((marked w.Public (at 0 19 25)) ∷ (marked w.Virtual (at 0 26 33)) ∷ []) [] (Called (Some (any_type None type.Void (at 0 34 38))) ((taken None (any_type (Some own.Owned) (type.Single (record { name = (name ((word 0 48 49 (codes "A")) ∷ []) (at 0 48 49)); is_nullable = false; span = (at 0 48 49) })) (at 0 42 49)) (word 0 50 51 (codes "x")) (at 0 42 51)) ∷ []) ([]))) ∷ None ∷ Some (saying ((marked w.Public (at 0 57 63)) ∷ (marked w.Virtual (at 0 64 71)) ∷ []) [] (Called (Some (any_type None type.Void (at 0 72 76))) ((taken None (any_type (Some own.Unowned) (type.Single (record { name = (name ((word 0 88 89 (codes "A")) ∷ []) (at 0 88 89)); is_nullable = false; span = (at 0 88 89) })) (at 0 80 89)) (word 0 90 91 (codes "x")) (at 0 80 91)) ∷ []) ([]))) ∷ None ∷ Some (saying ((marked w.Public (at 0 97 103)) ∷ (marked w.Virtual (at 0 104 111)) ∷ []) [] (Called (Some (any_type (Some own.Unowned) (type.Single (record { name = (name ((word 0 120 121 (codes "A")) ∷ []) (at 0 120 121)); is_nullable = false; span = (at 0 120 121) })) (at 0 112 121))) ([]) ([]))) ∷ Some (saying ([]) ((any_type None (type.Single (record { name = (name ((word 0 143 144 (codes "A")) ∷ []) (at 0 143 144)); is_nullable = false; span = (at 0 143 144) })) (at 0 143 144)) ∷ []) Other) ∷ Some (saying ((marked w.Public (at 0 147 153)) ∷ (marked w.Override (at 0 154 162)) ∷ []) [] (Called (Some (any_type None type.Void (at 0 163 167))) ((taken None (any_type None (type.Single (record { name = (name ((word 0 171 172 (codes "A")) ∷ []) (at 0 171 172)); is_nullable = false; span = (at 0 171 172) })) (at 0 171 172)) (word 0 173 174 (codes "x")) (at 0 171 174)) ∷ []) ([]))) ∷ None ∷ Some (saying ((marked w.Public (at 0 180 186)) ∷ (marked w.Override (at 0 187 195)) ∷ []) [] (Called (Some (any_type None type.Void (at 0 196 200))) ((taken None (any_type None (type.Single (record { name = (name ((word 0 204 205 (codes "A")) ∷ []) (at 0 204 205)); is_nullable = false; span = (at 0 204 205) })) (at 0 204 205)) (word 0 206 207 (codes "x")) (at 0 204 207)) ∷ []) ([]))) ∷ None ∷ Some (saying ((marked w.Public (at 0 213 219)) ∷ (marked w.Override (at 0 220 228)) ∷ []) [] (Called (Some (any_type None (type.Single (record { name = (name ((word 0 229 230 (codes "A")) ∷ []) (at 0 229 230)); is_nullable = false; span = (at 0 229 230) })) (at 0 229 230))) ([]) ([]))) ∷ Some (saying ([]) [] (Called (Some (any_type None type.Void (at 0 242 246))) ([]) ([]))) ∷ []) ≡ fault T6 (at 0 168 169) ∷ fault T6 (at 0 231 232) ∷ []
override_owner = refl

-- `class A : Object { public virtual void f (owned int x) { } } class B : A { public override void f (int x) { } } void main () { }`
override_no_owner : faults ((parts ((part ([]) (at 0 0 60) (type_piece kind.Class (name ((word 0 6 7 (codes "A")) ∷ []) (at 0 6 7)) ((any_type None (type.Single (record { name = (name ((word 0 10 16 (codes "Object")) ∷ []) (at 0 10 16)); is_nullable = false; span = (at 0 10 16) })) (at 0 10 16)) ∷ []) ((part ((marked w.Public (at 0 19 25)) ∷ (marked w.Virtual (at 0 26 33)) ∷ []) (at 0 19 58) (λ f. callable (plain_head kind.Method (word 0 39 40 (codes "f")) f) ((parameter_piece (word 0 52 53 (codes "x")) None) ∷ []) (Some (code (at 0 55 58))))) ∷ []))) ∷ (part ([]) (at 0 61 111) (type_piece kind.Class (name ((word 0 67 68 (codes "B")) ∷ []) (at 0 67 68)) ((any_type None (type.Single (record { name = (name ((word 0 71 72 (codes "A")) ∷ []) (at 0 71 72)); is_nullable = false; span = (at 0 71 72) })) (at 0 71 72)) ∷ []) ((part ((marked w.Public (at 0 75 81)) ∷ (marked w.Override (at 0 82 90)) ∷ []) (at 0 75 109) (λ f. callable (plain_head kind.Method (word 0 96 97 (codes "f")) f) ((parameter_piece (word 0 103 104 (codes "x")) None) ∷ []) (Some (code (at 0 106 109))))) ∷ []))) ∷ (part ([]) (at 0 112 128) (λ f. callable (plain_head kind.Method (word 0 117 121 (codes "main")) f) ([]) (Some (code (at 0 125 128))))) ∷ [])) ∷ []) (([]) ∷ []) (Some (saying ([]) ((any_type None (type.Single (record { name = (name ((word 0 10 16 (codes "Object")) ∷ []) (at 0 10 16)); is_nullable = false; span = (at 0 10 16) })) (at 0 10 16)) ∷ []) Other) ∷ Some (saying ((marked w.Public (at 0 19 25)) ∷ (marked w.Virtual (at 0 26 33)) ∷ []) [] (Called (Some (any_type None type.Void (at 0 34 38))) ((taken None (any_type (Some own.Owned) (type.Single (record { name = (name ((word 0 48 51 (codes "int")) ∷ []) (at 0 48 51)); is_nullable = false; span = (at 0 48 51) })) (at 0 42 51)) (word 0 52 53 (codes "x")) (at 0 42 53)) ∷ []) ([]))) ∷ None ∷ Some (saying ([]) ((any_type None (type.Single (record { name = (name ((word 0 71 72 (codes "A")) ∷ []) (at 0 71 72)); is_nullable = false; span = (at 0 71 72) })) (at 0 71 72)) ∷ []) Other) ∷ Some (saying ((marked w.Public (at 0 75 81)) ∷ (marked w.Override (at 0 82 90)) ∷ []) [] (Called (Some (any_type None type.Void (at 0 91 95))) ((taken None (any_type None (type.Single (record { name = (name ((word 0 99 102 (codes "int")) ∷ []) (at 0 99 102)); is_nullable = false; span = (at 0 99 102) })) (at 0 99 102)) (word 0 103 104 (codes "x")) (at 0 99 104)) ∷ []) ([]))) ∷ None ∷ Some (saying ([]) [] (Called (Some (any_type None type.Void (at 0 112 116))) ([]) ([]))) ∷ []) ≡ []
override_no_owner = refl

-- `class A : Object { public virtual A? f (A? x) { } } class B : A { public override A f (A x) { } } void main () { }`
override_mark : faults ((parts ((part ([]) (at 0 0 51) (type_piece kind.Class (name ((word 0 6 7 (codes "A")) ∷ []) (at 0 6 7)) ((any_type None (type.Single (record { name = (name ((word 0 10 16 (codes "Object")) ∷ []) (at 0 10 16)); is_nullable = false; span = (at 0 10 16) })) (at 0 10 16)) ∷ []) ((part ((marked w.Public (at 0 19 25)) ∷ (marked w.Virtual (at 0 26 33)) ∷ []) (at 0 19 49) (λ f. callable (plain_head kind.Method (word 0 37 38 (codes "f")) f) ((parameter_piece (word 0 43 44 (codes "x")) None) ∷ []) (Some (code (at 0 46 49))))) ∷ []))) ∷ (part ([]) (at 0 52 97) (type_piece kind.Class (name ((word 0 58 59 (codes "B")) ∷ []) (at 0 58 59)) ((any_type None (type.Single (record { name = (name ((word 0 62 63 (codes "A")) ∷ []) (at 0 62 63)); is_nullable = false; span = (at 0 62 63) })) (at 0 62 63)) ∷ []) ((part ((marked w.Public (at 0 66 72)) ∷ (marked w.Override (at 0 73 81)) ∷ []) (at 0 66 95) (λ f. callable (plain_head kind.Method (word 0 84 85 (codes "f")) f) ((parameter_piece (word 0 89 90 (codes "x")) None) ∷ []) (Some (code (at 0 92 95))))) ∷ []))) ∷ (part ([]) (at 0 98 114) (λ f. callable (plain_head kind.Method (word 0 103 107 (codes "main")) f) ([]) (Some (code (at 0 111 114))))) ∷ [])) ∷ []) (([]) ∷ []) (Some (saying ([]) ((any_type None (type.Single (record { name = (name ((word 0 10 16 (codes "Object")) ∷ []) (at 0 10 16)); is_nullable = false; span = (at 0 10 16) })) (at 0 10 16)) ∷ []) Other) ∷ Some (saying ((marked w.Public (at 0 19 25)) ∷ (marked w.Virtual (at 0 26 33)) ∷ []) [] (Called (Some (any_type None (type.Single (record { name = (name ((word 0 34 35 (codes "A")) ∷ []) (at 0 34 35)); is_nullable = true; span = (at 0 34 36) })) (at 0 34 36))) ((taken None (any_type None (type.Single (record { name = (name ((word 0 40 41 (codes "A")) ∷ []) (at 0 40 41)); is_nullable = true; span = (at 0 40 42) })) (at 0 40 42)) (word 0 43 44 (codes "x")) (at 0 40 44)) ∷ []) ([]))) ∷ None ∷ Some (saying ([]) ((any_type None (type.Single (record { name = (name ((word 0 62 63 (codes "A")) ∷ []) (at 0 62 63)); is_nullable = false; span = (at 0 62 63) })) (at 0 62 63)) ∷ []) Other) ∷ Some (saying ((marked w.Public (at 0 66 72)) ∷ (marked w.Override (at 0 73 81)) ∷ []) [] (Called (Some (any_type None (type.Single (record { name = (name ((word 0 82 83 (codes "A")) ∷ []) (at 0 82 83)); is_nullable = false; span = (at 0 82 83) })) (at 0 82 83))) ((taken None (any_type None (type.Single (record { name = (name ((word 0 87 88 (codes "A")) ∷ []) (at 0 87 88)); is_nullable = false; span = (at 0 87 88) })) (at 0 87 88)) (word 0 89 90 (codes "x")) (at 0 87 90)) ∷ []) ([]))) ∷ None ∷ Some (saying ([]) [] (Called (Some (any_type None type.Void (at 0 98 102))) ([]) ([]))) ∷ []) ≡ []
override_mark = refl

-- `errordomain E { X } class A : Object { public virtual void f () throws E { } } class B : A { public override void f () { } } void main () { }`
override_fewer_errors : faults ((parts ((part ([]) (at 0 0 19) (list_piece kind.ErrorDomain (name ((word 0 12 13 (codes "E")) ∷ []) (at 0 12 13)) ((error_code (word 0 16 17 (codes "X"))) ∷ []))) ∷ (part ([]) (at 0 20 78) (type_piece kind.Class (name ((word 0 26 27 (codes "A")) ∷ []) (at 0 26 27)) ((any_type None (type.Single (record { name = (name ((word 0 30 36 (codes "Object")) ∷ []) (at 0 30 36)); is_nullable = false; span = (at 0 30 36) })) (at 0 30 36)) ∷ []) ((part ((marked w.Public (at 0 39 45)) ∷ (marked w.Virtual (at 0 46 53)) ∷ []) (at 0 39 76) (λ f. callable (plain_head kind.Method (word 0 59 60 (codes "f")) f) ([]) (Some (code (at 0 73 76))))) ∷ []))) ∷ (part ([]) (at 0 79 124) (type_piece kind.Class (name ((word 0 85 86 (codes "B")) ∷ []) (at 0 85 86)) ((any_type None (type.Single (record { name = (name ((word 0 89 90 (codes "A")) ∷ []) (at 0 89 90)); is_nullable = false; span = (at 0 89 90) })) (at 0 89 90)) ∷ []) ((part ((marked w.Public (at 0 93 99)) ∷ (marked w.Override (at 0 100 108)) ∷ []) (at 0 93 122) (λ f. callable (plain_head kind.Method (word 0 114 115 (codes "f")) f) ([]) (Some (code (at 0 119 122))))) ∷ []))) ∷ (part ([]) (at 0 125 141) (λ f. callable (plain_head kind.Method (word 0 130 134 (codes "main")) f) ([]) (Some (code (at 0 138 141))))) ∷ [])) ∷ []) (([]) ∷ []) (Some (saying ([]) [] Other) ∷ None ∷ Some (saying ([]) ((any_type None (type.Single (record { name = (name ((word 0 30 36 (codes "Object")) ∷ []) (at 0 30 36)); is_nullable = false; span = (at 0 30 36) })) (at 0 30 36)) ∷ []) Other) ∷ Some (saying ((marked w.Public (at 0 39 45)) ∷ (marked w.Virtual (at 0 46 53)) ∷ []) [] (Called (Some (any_type None type.Void (at 0 54 58))) ([]) ((any_type None (type.Single (record { name = (name ((word 0 71 72 (codes "E")) ∷ []) (at 0 71 72)); is_nullable = false; span = (at 0 71 72) })) (at 0 71 72)) ∷ []))) ∷ Some (saying ([]) ((any_type None (type.Single (record { name = (name ((word 0 89 90 (codes "A")) ∷ []) (at 0 89 90)); is_nullable = false; span = (at 0 89 90) })) (at 0 89 90)) ∷ []) Other) ∷ Some (saying ((marked w.Public (at 0 93 99)) ∷ (marked w.Override (at 0 100 108)) ∷ []) [] (Called (Some (any_type None type.Void (at 0 109 113))) ([]) ([]))) ∷ Some (saying ([]) [] (Called (Some (any_type None type.Void (at 0 125 129))) ([]) ([]))) ∷ []) ≡ []
override_fewer_errors = refl

-- `errordomain E { X } class A : Object { public virtual void f () { } } class B : A { public override void f () throws E { } } void main () { }`
override_more_errors : faults ((parts ((part ([]) (at 0 0 19) (list_piece kind.ErrorDomain (name ((word 0 12 13 (codes "E")) ∷ []) (at 0 12 13)) ((error_code (word 0 16 17 (codes "X"))) ∷ []))) ∷ (part ([]) (at 0 20 69) (type_piece kind.Class (name ((word 0 26 27 (codes "A")) ∷ []) (at 0 26 27)) ((any_type None (type.Single (record { name = (name ((word 0 30 36 (codes "Object")) ∷ []) (at 0 30 36)); is_nullable = false; span = (at 0 30 36) })) (at 0 30 36)) ∷ []) ((part ((marked w.Public (at 0 39 45)) ∷ (marked w.Virtual (at 0 46 53)) ∷ []) (at 0 39 67) (λ f. callable (plain_head kind.Method (word 0 59 60 (codes "f")) f) ([]) (Some (code (at 0 64 67))))) ∷ []))) ∷ (part ([]) (at 0 70 124) (type_piece kind.Class (name ((word 0 76 77 (codes "B")) ∷ []) (at 0 76 77)) ((any_type None (type.Single (record { name = (name ((word 0 80 81 (codes "A")) ∷ []) (at 0 80 81)); is_nullable = false; span = (at 0 80 81) })) (at 0 80 81)) ∷ []) ((part ((marked w.Public (at 0 84 90)) ∷ (marked w.Override (at 0 91 99)) ∷ []) (at 0 84 122) (λ f. callable (plain_head kind.Method (word 0 105 106 (codes "f")) f) ([]) (Some (code (at 0 119 122))))) ∷ []))) ∷ (part ([]) (at 0 125 141) (λ f. callable (plain_head kind.Method (word 0 130 134 (codes "main")) f) ([]) (Some (code (at 0 138 141))))) ∷ [])) ∷ []) (([]) ∷ []) (Some (saying ([]) [] Other) ∷ None ∷ Some (saying ([]) ((any_type None (type.Single (record { name = (name ((word 0 30 36 (codes "Object")) ∷ []) (at 0 30 36)); is_nullable = false; span = (at 0 30 36) })) (at 0 30 36)) ∷ []) Other) ∷ Some (saying ((marked w.Public (at 0 39 45)) ∷ (marked w.Virtual (at 0 46 53)) ∷ []) [] (Called (Some (any_type None type.Void (at 0 54 58))) ([]) ([]))) ∷ Some (saying ([]) ((any_type None (type.Single (record { name = (name ((word 0 80 81 (codes "A")) ∷ []) (at 0 80 81)); is_nullable = false; span = (at 0 80 81) })) (at 0 80 81)) ∷ []) Other) ∷ Some (saying ((marked w.Public (at 0 84 90)) ∷ (marked w.Override (at 0 91 99)) ∷ []) [] (Called (Some (any_type None type.Void (at 0 100 104))) ([]) ((any_type None (type.Single (record { name = (name ((word 0 117 118 (codes "E")) ∷ []) (at 0 117 118)); is_nullable = false; span = (at 0 117 118) })) (at 0 117 118)) ∷ []))) ∷ Some (saying ([]) [] (Called (Some (any_type None type.Void (at 0 125 129))) ([]) ([]))) ∷ []) ≡ fault T6 (at 0 105 106) ∷ []
override_more_errors = refl

-- `errordomain E { X } errordomain F { Y } class A : Object { public virtual void f () throws E { } public virtual void g () throws Error { } } class B : A { public override void f () throws F { } public override void g () throws F, E { } } void main () { }`
override_other_error : faults ((parts ((part ([]) (at 0 0 19) (list_piece kind.ErrorDomain (name ((word 0 12 13 (codes "E")) ∷ []) (at 0 12 13)) ((error_code (word 0 16 17 (codes "X"))) ∷ []))) ∷ (part ([]) (at 0 20 39) (list_piece kind.ErrorDomain (name ((word 0 32 33 (codes "F")) ∷ []) (at 0 32 33)) ((error_code (word 0 36 37 (codes "Y"))) ∷ []))) ∷ (part ([]) (at 0 40 140) (type_piece kind.Class (name ((word 0 46 47 (codes "A")) ∷ []) (at 0 46 47)) ((any_type None (type.Single (record { name = (name ((word 0 50 56 (codes "Object")) ∷ []) (at 0 50 56)); is_nullable = false; span = (at 0 50 56) })) (at 0 50 56)) ∷ []) ((part ((marked w.Public (at 0 59 65)) ∷ (marked w.Virtual (at 0 66 73)) ∷ []) (at 0 59 96) (λ f. callable (plain_head kind.Method (word 0 79 80 (codes "f")) f) ([]) (Some (code (at 0 93 96))))) ∷ (part ((marked w.Public (at 0 97 103)) ∷ (marked w.Virtual (at 0 104 111)) ∷ []) (at 0 97 138) (λ f. callable (plain_head kind.Method (word 0 117 118 (codes "g")) f) ([]) (Some (code (at 0 135 138))))) ∷ []))) ∷ (part ([]) (at 0 141 237) (type_piece kind.Class (name ((word 0 147 148 (codes "B")) ∷ []) (at 0 147 148)) ((any_type None (type.Single (record { name = (name ((word 0 151 152 (codes "A")) ∷ []) (at 0 151 152)); is_nullable = false; span = (at 0 151 152) })) (at 0 151 152)) ∷ []) ((part ((marked w.Public (at 0 155 161)) ∷ (marked w.Override (at 0 162 170)) ∷ []) (at 0 155 193) (λ f. callable (plain_head kind.Method (word 0 176 177 (codes "f")) f) ([]) (Some (code (at 0 190 193))))) ∷ (part ((marked w.Public (at 0 194 200)) ∷ (marked w.Override (at 0 201 209)) ∷ []) (at 0 194 235) (λ f. callable (plain_head kind.Method (word 0 215 216 (codes "g")) f) ([]) (Some (code (at 0 232 235))))) ∷ []))) ∷ (part ([]) (at 0 238 254) (λ f. callable (plain_head kind.Method (word 0 243 247 (codes "main")) f) ([]) (Some (code (at 0 251 254))))) ∷ [])) ∷ []) (([]) ∷ []) (Some (saying ([]) [] Other) ∷ None ∷ Some (saying ([]) [] Other) ∷ None ∷ Some (saying ([]) ((any_type None (type.Single (record { name = (name ((word 0 50 56 (codes "Object")) ∷ []) (at 0 50 56)); is_nullable = false; span = (at 0 50 56) })) (at 0 50 56)) ∷ []) Other) ∷ Some (saying ((marked w.Public (at 0 59 65)) ∷ (marked w.Virtual (at 0 66 73)) ∷ []) [] (Called (Some (any_type None type.Void (at 0 74 78))) ([]) ((any_type None (type.Single (record { name = (name ((word 0 91 92 (codes "E")) ∷ []) (at 0 91 92)); is_nullable = false; span = (at 0 91 92) })) (at 0 91 92)) ∷ []))) ∷ Some (saying ((marked w.Public (at 0 97 103)) ∷ (marked w.Virtual (at 0 104 111)) ∷ []) [] (Called (Some (any_type None type.Void (at 0 112 116))) ([]) ((any_type None (type.Single (record { name = (name ((word 0 129 134 (codes "Error")) ∷ []) (at 0 129 134)); is_nullable = false; span = (at 0 129 134) })) (at 0 129 134)) ∷ []))) ∷ Some (saying ([]) ((any_type None (type.Single (record { name = (name ((word 0 151 152 (codes "A")) ∷ []) (at 0 151 152)); is_nullable = false; span = (at 0 151 152) })) (at 0 151 152)) ∷ []) Other) ∷ Some (saying ((marked w.Public (at 0 155 161)) ∷ (marked w.Override (at 0 162 170)) ∷ []) [] (Called (Some (any_type None type.Void (at 0 171 175))) ([]) ((any_type None (type.Single (record { name = (name ((word 0 188 189 (codes "F")) ∷ []) (at 0 188 189)); is_nullable = false; span = (at 0 188 189) })) (at 0 188 189)) ∷ []))) ∷ Some (saying ((marked w.Public (at 0 194 200)) ∷ (marked w.Override (at 0 201 209)) ∷ []) [] (Called (Some (any_type None type.Void (at 0 210 214))) ([]) ((any_type None (type.Single (record { name = (name ((word 0 227 228 (codes "F")) ∷ []) (at 0 227 228)); is_nullable = false; span = (at 0 227 228) })) (at 0 227 228)) ∷ (any_type None (type.Single (record { name = (name ((word 0 230 231 (codes "E")) ∷ []) (at 0 230 231)); is_nullable = false; span = (at 0 230 231) })) (at 0 230 231)) ∷ []))) ∷ Some (saying ([]) [] (Called (Some (any_type None type.Void (at 0 238 242))) ([]) ([]))) ∷ []) ≡ fault T6 (at 0 176 177) ∷ []
override_other_error = refl

-- `errordomain E { X } class A : Object { public virtual void f () throws E { } } class B : A { public override void f () { } } class C : B { public override void f () throws E { } } void main () { }`
override_errors_by_turns : faults ((parts ((part ([]) (at 0 0 19) (list_piece kind.ErrorDomain (name ((word 0 12 13 (codes "E")) ∷ []) (at 0 12 13)) ((error_code (word 0 16 17 (codes "X"))) ∷ []))) ∷ (part ([]) (at 0 20 78) (type_piece kind.Class (name ((word 0 26 27 (codes "A")) ∷ []) (at 0 26 27)) ((any_type None (type.Single (record { name = (name ((word 0 30 36 (codes "Object")) ∷ []) (at 0 30 36)); is_nullable = false; span = (at 0 30 36) })) (at 0 30 36)) ∷ []) ((part ((marked w.Public (at 0 39 45)) ∷ (marked w.Virtual (at 0 46 53)) ∷ []) (at 0 39 76) (λ f. callable (plain_head kind.Method (word 0 59 60 (codes "f")) f) ([]) (Some (code (at 0 73 76))))) ∷ []))) ∷ (part ([]) (at 0 79 124) (type_piece kind.Class (name ((word 0 85 86 (codes "B")) ∷ []) (at 0 85 86)) ((any_type None (type.Single (record { name = (name ((word 0 89 90 (codes "A")) ∷ []) (at 0 89 90)); is_nullable = false; span = (at 0 89 90) })) (at 0 89 90)) ∷ []) ((part ((marked w.Public (at 0 93 99)) ∷ (marked w.Override (at 0 100 108)) ∷ []) (at 0 93 122) (λ f. callable (plain_head kind.Method (word 0 114 115 (codes "f")) f) ([]) (Some (code (at 0 119 122))))) ∷ []))) ∷ (part ([]) (at 0 125 179) (type_piece kind.Class (name ((word 0 131 132 (codes "C")) ∷ []) (at 0 131 132)) ((any_type None (type.Single (record { name = (name ((word 0 135 136 (codes "B")) ∷ []) (at 0 135 136)); is_nullable = false; span = (at 0 135 136) })) (at 0 135 136)) ∷ []) ((part ((marked w.Public (at 0 139 145)) ∷ (marked w.Override (at 0 146 154)) ∷ []) (at 0 139 177) (λ f. callable (plain_head kind.Method (word 0 160 161 (codes "f")) f) ([]) (Some (code (at 0 174 177))))) ∷ []))) ∷ (part ([]) (at 0 180 196) (λ f. callable (plain_head kind.Method (word 0 185 189 (codes "main")) f) ([]) (Some (code (at 0 193 196))))) ∷ [])) ∷ []) (([]) ∷ []) (Some (saying ([]) [] Other) ∷ None ∷ Some (saying ([]) ((any_type None (type.Single (record { name = (name ((word 0 30 36 (codes "Object")) ∷ []) (at 0 30 36)); is_nullable = false; span = (at 0 30 36) })) (at 0 30 36)) ∷ []) Other) ∷ Some (saying ((marked w.Public (at 0 39 45)) ∷ (marked w.Virtual (at 0 46 53)) ∷ []) [] (Called (Some (any_type None type.Void (at 0 54 58))) ([]) ((any_type None (type.Single (record { name = (name ((word 0 71 72 (codes "E")) ∷ []) (at 0 71 72)); is_nullable = false; span = (at 0 71 72) })) (at 0 71 72)) ∷ []))) ∷ Some (saying ([]) ((any_type None (type.Single (record { name = (name ((word 0 89 90 (codes "A")) ∷ []) (at 0 89 90)); is_nullable = false; span = (at 0 89 90) })) (at 0 89 90)) ∷ []) Other) ∷ Some (saying ((marked w.Public (at 0 93 99)) ∷ (marked w.Override (at 0 100 108)) ∷ []) [] (Called (Some (any_type None type.Void (at 0 109 113))) ([]) ([]))) ∷ Some (saying ([]) ((any_type None (type.Single (record { name = (name ((word 0 135 136 (codes "B")) ∷ []) (at 0 135 136)); is_nullable = false; span = (at 0 135 136) })) (at 0 135 136)) ∷ []) Other) ∷ Some (saying ((marked w.Public (at 0 139 145)) ∷ (marked w.Override (at 0 146 154)) ∷ []) [] (Called (Some (any_type None type.Void (at 0 155 159))) ([]) ((any_type None (type.Single (record { name = (name ((word 0 172 173 (codes "E")) ∷ []) (at 0 172 173)); is_nullable = false; span = (at 0 172 173) })) (at 0 172 173)) ∷ []))) ∷ Some (saying ([]) [] (Called (Some (any_type None type.Void (at 0 180 184))) ([]) ([]))) ∷ []) ≡ fault T6 (at 0 160 161) ∷ []
override_errors_by_turns = refl

-- `class A : Object { public virtual void f () { } } class B : A { public void f () { } } class C : B { public override void f () { } } void main () { }`
override_beyond_plain : faults ((parts ((part ([]) (at 0 0 49) (type_piece kind.Class (name ((word 0 6 7 (codes "A")) ∷ []) (at 0 6 7)) ((any_type None (type.Single (record { name = (name ((word 0 10 16 (codes "Object")) ∷ []) (at 0 10 16)); is_nullable = false; span = (at 0 10 16) })) (at 0 10 16)) ∷ []) ((part ((marked w.Public (at 0 19 25)) ∷ (marked w.Virtual (at 0 26 33)) ∷ []) (at 0 19 47) (λ f. callable (plain_head kind.Method (word 0 39 40 (codes "f")) f) ([]) (Some (code (at 0 44 47))))) ∷ []))) ∷ (part ([]) (at 0 50 86) (type_piece kind.Class (name ((word 0 56 57 (codes "B")) ∷ []) (at 0 56 57)) ((any_type None (type.Single (record { name = (name ((word 0 60 61 (codes "A")) ∷ []) (at 0 60 61)); is_nullable = false; span = (at 0 60 61) })) (at 0 60 61)) ∷ []) ((part ((marked w.Public (at 0 64 70)) ∷ []) (at 0 64 84) (λ f. callable (plain_head kind.Method (word 0 76 77 (codes "f")) f) ([]) (Some (code (at 0 81 84))))) ∷ []))) ∷ (part ([]) (at 0 87 132) (type_piece kind.Class (name ((word 0 93 94 (codes "C")) ∷ []) (at 0 93 94)) ((any_type None (type.Single (record { name = (name ((word 0 97 98 (codes "B")) ∷ []) (at 0 97 98)); is_nullable = false; span = (at 0 97 98) })) (at 0 97 98)) ∷ []) ((part ((marked w.Public (at 0 101 107)) ∷ (marked w.Override (at 0 108 116)) ∷ []) (at 0 101 130) (λ f. callable (plain_head kind.Method (word 0 122 123 (codes "f")) f) ([]) (Some (code (at 0 127 130))))) ∷ []))) ∷ (part ([]) (at 0 133 149) (λ f. callable (plain_head kind.Method (word 0 138 142 (codes "main")) f) ([]) (Some (code (at 0 146 149))))) ∷ [])) ∷ []) (([]) ∷ []) (Some (saying ([]) ((any_type None (type.Single (record { name = (name ((word 0 10 16 (codes "Object")) ∷ []) (at 0 10 16)); is_nullable = false; span = (at 0 10 16) })) (at 0 10 16)) ∷ []) Other) ∷ Some (saying ((marked w.Public (at 0 19 25)) ∷ (marked w.Virtual (at 0 26 33)) ∷ []) [] (Called (Some (any_type None type.Void (at 0 34 38))) ([]) ([]))) ∷ Some (saying ([]) ((any_type None (type.Single (record { name = (name ((word 0 60 61 (codes "A")) ∷ []) (at 0 60 61)); is_nullable = false; span = (at 0 60 61) })) (at 0 60 61)) ∷ []) Other) ∷ Some (saying ((marked w.Public (at 0 64 70)) ∷ []) [] (Called (Some (any_type None type.Void (at 0 71 75))) ([]) ([]))) ∷ Some (saying ([]) ((any_type None (type.Single (record { name = (name ((word 0 97 98 (codes "B")) ∷ []) (at 0 97 98)); is_nullable = false; span = (at 0 97 98) })) (at 0 97 98)) ∷ []) Other) ∷ Some (saying ((marked w.Public (at 0 101 107)) ∷ (marked w.Override (at 0 108 116)) ∷ []) [] (Called (Some (any_type None type.Void (at 0 117 121))) ([]) ([]))) ∷ Some (saying ([]) [] (Called (Some (any_type None type.Void (at 0 133 137))) ([]) ([]))) ∷ []) ≡ []
override_beyond_plain = refl

-- `class C : B { public override void f () { } } class B : A { public override int f () { } } class A : Object { public virtual void f () { } } void main () { }`
override_on_wrong : faults ((parts ((part ([]) (at 0 0 45) (type_piece kind.Class (name ((word 0 6 7 (codes "C")) ∷ []) (at 0 6 7)) ((any_type None (type.Single (record { name = (name ((word 0 10 11 (codes "B")) ∷ []) (at 0 10 11)); is_nullable = false; span = (at 0 10 11) })) (at 0 10 11)) ∷ []) ((part ((marked w.Public (at 0 14 20)) ∷ (marked w.Override (at 0 21 29)) ∷ []) (at 0 14 43) (λ f. callable (plain_head kind.Method (word 0 35 36 (codes "f")) f) ([]) (Some (code (at 0 40 43))))) ∷ []))) ∷ (part ([]) (at 0 46 90) (type_piece kind.Class (name ((word 0 52 53 (codes "B")) ∷ []) (at 0 52 53)) ((any_type None (type.Single (record { name = (name ((word 0 56 57 (codes "A")) ∷ []) (at 0 56 57)); is_nullable = false; span = (at 0 56 57) })) (at 0 56 57)) ∷ []) ((part ((marked w.Public (at 0 60 66)) ∷ (marked w.Override (at 0 67 75)) ∷ []) (at 0 60 88) (λ f. callable (plain_head kind.Method (word 0 80 81 (codes "f")) f) ([]) (Some (code (at 0 85 88))))) ∷ []))) ∷ (part ([]) (at 0 91 140) (type_piece kind.Class (name ((word 0 97 98 (codes "A")) ∷ []) (at 0 97 98)) ((any_type None (type.Single (record { name = (name ((word 0 101 107 (codes "Object")) ∷ []) (at 0 101 107)); is_nullable = false; span = (at 0 101 107) })) (at 0 101 107)) ∷ []) ((part ((marked w.Public (at 0 110 116)) ∷ (marked w.Virtual (at 0 117 124)) ∷ []) (at 0 110 138) (λ f. callable (plain_head kind.Method (word 0 130 131 (codes "f")) f) ([]) (Some (code (at 0 135 138))))) ∷ []))) ∷ (part ([]) (at 0 141 157) (λ f. callable (plain_head kind.Method (word 0 146 150 (codes "main")) f) ([]) (Some (code (at 0 154 157))))) ∷ [])) ∷ []) (([]) ∷ []) (Some (saying ([]) ((any_type None (type.Single (record { name = (name ((word 0 10 11 (codes "B")) ∷ []) (at 0 10 11)); is_nullable = false; span = (at 0 10 11) })) (at 0 10 11)) ∷ []) Other) ∷ Some (saying ((marked w.Public (at 0 14 20)) ∷ (marked w.Override (at 0 21 29)) ∷ []) [] (Called (Some (any_type None type.Void (at 0 30 34))) ([]) ([]))) ∷ Some (saying ([]) ((any_type None (type.Single (record { name = (name ((word 0 56 57 (codes "A")) ∷ []) (at 0 56 57)); is_nullable = false; span = (at 0 56 57) })) (at 0 56 57)) ∷ []) Other) ∷ Some (saying ((marked w.Public (at 0 60 66)) ∷ (marked w.Override (at 0 67 75)) ∷ []) [] (Called (Some (any_type None (type.Single (record { name = (name ((word 0 76 79 (codes "int")) ∷ []) (at 0 76 79)); is_nullable = false; span = (at 0 76 79) })) (at 0 76 79))) ([]) ([]))) ∷ Some (saying ([]) ((any_type None (type.Single (record { name = (name ((word 0 101 107 (codes "Object")) ∷ []) (at 0 101 107)); is_nullable = false; span = (at 0 101 107) })) (at 0 101 107)) ∷ []) Other) ∷ Some (saying ((marked w.Public (at 0 110 116)) ∷ (marked w.Virtual (at 0 117 124)) ∷ []) [] (Called (Some (any_type None type.Void (at 0 125 129))) ([]) ([]))) ∷ Some (saying ([]) [] (Called (Some (any_type None type.Void (at 0 141 145))) ([]) ([]))) ∷ []) ≡ fault T6 (at 0 80 81) ∷ []
override_on_wrong = refl

-- `class A : Object { public virtual void f (int x) { } } class B : A { public override int f (Missing x, int y) { } } void main () { }`
override_unknown : faults ((parts ((part ([]) (at 0 0 54) (type_piece kind.Class (name ((word 0 6 7 (codes "A")) ∷ []) (at 0 6 7)) ((any_type None (type.Single (record { name = (name ((word 0 10 16 (codes "Object")) ∷ []) (at 0 10 16)); is_nullable = false; span = (at 0 10 16) })) (at 0 10 16)) ∷ []) ((part ((marked w.Public (at 0 19 25)) ∷ (marked w.Virtual (at 0 26 33)) ∷ []) (at 0 19 52) (λ f. callable (plain_head kind.Method (word 0 39 40 (codes "f")) f) ((parameter_piece (word 0 46 47 (codes "x")) None) ∷ []) (Some (code (at 0 49 52))))) ∷ []))) ∷ (part ([]) (at 0 55 115) (type_piece kind.Class (name ((word 0 61 62 (codes "B")) ∷ []) (at 0 61 62)) ((any_type None (type.Single (record { name = (name ((word 0 65 66 (codes "A")) ∷ []) (at 0 65 66)); is_nullable = false; span = (at 0 65 66) })) (at 0 65 66)) ∷ []) ((part ((marked w.Public (at 0 69 75)) ∷ (marked w.Override (at 0 76 84)) ∷ []) (at 0 69 113) (λ f. callable (plain_head kind.Method (word 0 89 90 (codes "f")) f) ((parameter_piece (word 0 100 101 (codes "x")) None) ∷ (parameter_piece (word 0 107 108 (codes "y")) None) ∷ []) (Some (code (at 0 110 113))))) ∷ []))) ∷ (part ([]) (at 0 116 132) (λ f. callable (plain_head kind.Method (word 0 121 125 (codes "main")) f) ([]) (Some (code (at 0 129 132))))) ∷ [])) ∷ []) (([]) ∷ []) (Some (saying ([]) ((any_type None (type.Single (record { name = (name ((word 0 10 16 (codes "Object")) ∷ []) (at 0 10 16)); is_nullable = false; span = (at 0 10 16) })) (at 0 10 16)) ∷ []) Other) ∷ Some (saying ((marked w.Public (at 0 19 25)) ∷ (marked w.Virtual (at 0 26 33)) ∷ []) [] (Called (Some (any_type None type.Void (at 0 34 38))) ((taken None (any_type None (type.Single (record { name = (name ((word 0 42 45 (codes "int")) ∷ []) (at 0 42 45)); is_nullable = false; span = (at 0 42 45) })) (at 0 42 45)) (word 0 46 47 (codes "x")) (at 0 42 47)) ∷ []) ([]))) ∷ None ∷ Some (saying ([]) ((any_type None (type.Single (record { name = (name ((word 0 65 66 (codes "A")) ∷ []) (at 0 65 66)); is_nullable = false; span = (at 0 65 66) })) (at 0 65 66)) ∷ []) Other) ∷ Some (saying ((marked w.Public (at 0 69 75)) ∷ (marked w.Override (at 0 76 84)) ∷ []) [] (Called (Some (any_type None (type.Single (record { name = (name ((word 0 85 88 (codes "int")) ∷ []) (at 0 85 88)); is_nullable = false; span = (at 0 85 88) })) (at 0 85 88))) ((taken None (any_type None (type.Single (record { name = (name ((word 0 92 99 (codes "Missing")) ∷ []) (at 0 92 99)); is_nullable = false; span = (at 0 92 99) })) (at 0 92 99)) (word 0 100 101 (codes "x")) (at 0 92 101)) ∷ (taken None (any_type None (type.Single (record { name = (name ((word 0 103 106 (codes "int")) ∷ []) (at 0 103 106)); is_nullable = false; span = (at 0 103 106) })) (at 0 103 106)) (word 0 107 108 (codes "y")) (at 0 103 108)) ∷ []) ([]))) ∷ None ∷ None ∷ Some (saying ([]) [] (Called (Some (any_type None type.Void (at 0 116 120))) ([]) ([]))) ∷ []) ≡ []
override_unknown = refl

-- `interface I : Object { public abstract int f (); } class A : Object, I { public override int f () { } } class B : Object, I { public override void f () { } } void main () { }`
override_interface : faults ((parts ((part ([]) (at 0 0 50) (type_piece kind.Interface (name ((word 0 10 11 (codes "I")) ∷ []) (at 0 10 11)) ((any_type None (type.Single (record { name = (name ((word 0 14 20 (codes "Object")) ∷ []) (at 0 14 20)); is_nullable = false; span = (at 0 14 20) })) (at 0 14 20)) ∷ []) ((part ((marked w.Public (at 0 23 29)) ∷ (marked w.Abstract (at 0 30 38)) ∷ []) (at 0 23 48) (λ f. callable (plain_head kind.Method (word 0 43 44 (codes "f")) f) ([]) None)) ∷ []))) ∷ (part ([]) (at 0 51 103) (type_piece kind.Class (name ((word 0 57 58 (codes "A")) ∷ []) (at 0 57 58)) ((any_type None (type.Single (record { name = (name ((word 0 61 67 (codes "Object")) ∷ []) (at 0 61 67)); is_nullable = false; span = (at 0 61 67) })) (at 0 61 67)) ∷ (any_type None (type.Single (record { name = (name ((word 0 69 70 (codes "I")) ∷ []) (at 0 69 70)); is_nullable = false; span = (at 0 69 70) })) (at 0 69 70)) ∷ []) ((part ((marked w.Public (at 0 73 79)) ∷ (marked w.Override (at 0 80 88)) ∷ []) (at 0 73 101) (λ f. callable (plain_head kind.Method (word 0 93 94 (codes "f")) f) ([]) (Some (code (at 0 98 101))))) ∷ []))) ∷ (part ([]) (at 0 104 157) (type_piece kind.Class (name ((word 0 110 111 (codes "B")) ∷ []) (at 0 110 111)) ((any_type None (type.Single (record { name = (name ((word 0 114 120 (codes "Object")) ∷ []) (at 0 114 120)); is_nullable = false; span = (at 0 114 120) })) (at 0 114 120)) ∷ (any_type None (type.Single (record { name = (name ((word 0 122 123 (codes "I")) ∷ []) (at 0 122 123)); is_nullable = false; span = (at 0 122 123) })) (at 0 122 123)) ∷ []) ((part ((marked w.Public (at 0 126 132)) ∷ (marked w.Override (at 0 133 141)) ∷ []) (at 0 126 155) (λ f. callable (plain_head kind.Method (word 0 147 148 (codes "f")) f) ([]) (Some (code (at 0 152 155))))) ∷ []))) ∷ (part ([]) (at 0 158 174) (λ f. callable (plain_head kind.Method (word 0 163 167 (codes "main")) f) ([]) (Some (code (at 0 171 174))))) ∷ [])) ∷ []) (([]) ∷ []) (Some (saying ([]) ((any_type None (type.Single (record { name = (name ((word 0 14 20 (codes "Object")) ∷ []) (at 0 14 20)); is_nullable = false; span = (at 0 14 20) })) (at 0 14 20)) ∷ []) Other) ∷ Some (saying ((marked w.Public (at 0 23 29)) ∷ (marked w.Abstract (at 0 30 38)) ∷ []) [] (Called (Some (any_type None (type.Single (record { name = (name ((word 0 39 42 (codes "int")) ∷ []) (at 0 39 42)); is_nullable = false; span = (at 0 39 42) })) (at 0 39 42))) ([]) ([]))) ∷ Some (saying ([]) ((any_type None (type.Single (record { name = (name ((word 0 61 67 (codes "Object")) ∷ []) (at 0 61 67)); is_nullable = false; span = (at 0 61 67) })) (at 0 61 67)) ∷ (any_type None (type.Single (record { name = (name ((word 0 69 70 (codes "I")) ∷ []) (at 0 69 70)); is_nullable = false; span = (at 0 69 70) })) (at 0 69 70)) ∷ []) Other) ∷ Some (saying ((marked w.Public (at 0 73 79)) ∷ (marked w.Override (at 0 80 88)) ∷ []) [] (Called (Some (any_type None (type.Single (record { name = (name ((word 0 89 92 (codes "int")) ∷ []) (at 0 89 92)); is_nullable = false; span = (at 0 89 92) })) (at 0 89 92))) ([]) ([]))) ∷ Some (saying ([]) ((any_type None (type.Single (record { name = (name ((word 0 114 120 (codes "Object")) ∷ []) (at 0 114 120)); is_nullable = false; span = (at 0 114 120) })) (at 0 114 120)) ∷ (any_type None (type.Single (record { name = (name ((word 0 122 123 (codes "I")) ∷ []) (at 0 122 123)); is_nullable = false; span = (at 0 122 123) })) (at 0 122 123)) ∷ []) Other) ∷ Some (saying ((marked w.Public (at 0 126 132)) ∷ (marked w.Override (at 0 133 141)) ∷ []) [] (Called (Some (any_type None type.Void (at 0 142 146))) ([]) ([]))) ∷ Some (saying ([]) [] (Called (Some (any_type None type.Void (at 0 158 162))) ([]) ([]))) ∷ []) ≡ fault T6 (at 0 147 148) ∷ []
override_interface = refl

-- `class A : Object { public virtual int n { get; set; } public virtual int m { get; } } class B : A { public override int n { get { } set { } } public override int m { get; set; } } void main () { }`
override_property : faults ((parts ((part ([]) (at 0 0 85) (type_piece kind.Class (name ((word 0 6 7 (codes "A")) ∷ []) (at 0 6 7)) ((any_type None (type.Single (record { name = (name ((word 0 10 16 (codes "Object")) ∷ []) (at 0 10 16)); is_nullable = false; span = (at 0 10 16) })) (at 0 10 16)) ∷ []) ((part ((marked w.Public (at 0 19 25)) ∷ (marked w.Virtual (at 0 26 33)) ∷ []) (at 0 19 53) (property_piece (word 0 38 39 (codes "n")) ((get_access (at 0 42 45) None) ∷ (set_access (words.Set (at 0 47 50)) None) ∷ []))) ∷ (part ((marked w.Public (at 0 54 60)) ∷ (marked w.Virtual (at 0 61 68)) ∷ []) (at 0 54 83) (property_piece (word 0 73 74 (codes "m")) ((get_access (at 0 77 80) None) ∷ []))) ∷ []))) ∷ (part ([]) (at 0 86 179) (type_piece kind.Class (name ((word 0 92 93 (codes "B")) ∷ []) (at 0 92 93)) ((any_type None (type.Single (record { name = (name ((word 0 96 97 (codes "A")) ∷ []) (at 0 96 97)); is_nullable = false; span = (at 0 96 97) })) (at 0 96 97)) ∷ []) ((part ((marked w.Public (at 0 100 106)) ∷ (marked w.Override (at 0 107 115)) ∷ []) (at 0 100 141) (property_piece (word 0 120 121 (codes "n")) ((get_access (at 0 124 127) (Some (code (at 0 128 131)))) ∷ (set_access (words.Set (at 0 132 135)) (Some (code (at 0 136 139)))) ∷ []))) ∷ (part ((marked w.Public (at 0 142 148)) ∷ (marked w.Override (at 0 149 157)) ∷ []) (at 0 142 177) (property_piece (word 0 162 163 (codes "m")) ((get_access (at 0 166 169) None) ∷ (set_access (words.Set (at 0 171 174)) None) ∷ []))) ∷ []))) ∷ (part ([]) (at 0 180 196) (λ f. callable (plain_head kind.Method (word 0 185 189 (codes "main")) f) ([]) (Some (code (at 0 193 196))))) ∷ [])) ∷ []) (([]) ∷ []) (Some (saying ([]) ((any_type None (type.Single (record { name = (name ((word 0 10 16 (codes "Object")) ∷ []) (at 0 10 16)); is_nullable = false; span = (at 0 10 16) })) (at 0 10 16)) ∷ []) Other) ∷ Some (saying ((marked w.Public (at 0 19 25)) ∷ (marked w.Virtual (at 0 26 33)) ∷ []) [] (Valued (any_type None (type.Single (record { name = (name ((word 0 34 37 (codes "int")) ∷ []) (at 0 34 37)); is_nullable = false; span = (at 0 34 37) })) (at 0 34 37)) ((accessor.Get (record { modifier = None; is_owned = false; word = (at 0 42 45); body = None }) (at 0 42 46)) ∷ (accessor.Set (record { modifier = None; words = words.Set (at 0 47 50); body = None }) (at 0 47 51)) ∷ []))) ∷ Some (saying ((marked w.Public (at 0 54 60)) ∷ (marked w.Virtual (at 0 61 68)) ∷ []) [] (Valued (any_type None (type.Single (record { name = (name ((word 0 69 72 (codes "int")) ∷ []) (at 0 69 72)); is_nullable = false; span = (at 0 69 72) })) (at 0 69 72)) ((accessor.Get (record { modifier = None; is_owned = false; word = (at 0 77 80); body = None }) (at 0 77 81)) ∷ []))) ∷ Some (saying ([]) ((any_type None (type.Single (record { name = (name ((word 0 96 97 (codes "A")) ∷ []) (at 0 96 97)); is_nullable = false; span = (at 0 96 97) })) (at 0 96 97)) ∷ []) Other) ∷ Some (saying ((marked w.Public (at 0 100 106)) ∷ (marked w.Override (at 0 107 115)) ∷ []) [] (Valued (any_type None (type.Single (record { name = (name ((word 0 116 119 (codes "int")) ∷ []) (at 0 116 119)); is_nullable = false; span = (at 0 116 119) })) (at 0 116 119)) ((accessor.Get (record { modifier = None; is_owned = false; word = (at 0 124 127); body = (Some (block (at 0 128 131))) }) (at 0 124 131)) ∷ (accessor.Set (record { modifier = None; words = words.Set (at 0 132 135); body = (Some (block (at 0 136 139))) }) (at 0 132 139)) ∷ []))) ∷ None ∷ Some (saying ((marked w.Public (at 0 142 148)) ∷ (marked w.Override (at 0 149 157)) ∷ []) [] (Valued (any_type None (type.Single (record { name = (name ((word 0 158 161 (codes "int")) ∷ []) (at 0 158 161)); is_nullable = false; span = (at 0 158 161) })) (at 0 158 161)) ((accessor.Get (record { modifier = None; is_owned = false; word = (at 0 166 169); body = None }) (at 0 166 170)) ∷ (accessor.Set (record { modifier = None; words = words.Set (at 0 171 174); body = None }) (at 0 171 175)) ∷ []))) ∷ Some (saying ([]) [] (Called (Some (any_type None type.Void (at 0 180 184))) ([]) ([]))) ∷ []) ≡ fault T6 (at 0 162 163) ∷ []
override_property = refl

-- `class A : Object { public virtual string n { get; set; } } class B : A { public override unowned string n { get; set; } } void main () { }`
override_property_type : faults ((parts ((part ([]) (at 0 0 58) (type_piece kind.Class (name ((word 0 6 7 (codes "A")) ∷ []) (at 0 6 7)) ((any_type None (type.Single (record { name = (name ((word 0 10 16 (codes "Object")) ∷ []) (at 0 10 16)); is_nullable = false; span = (at 0 10 16) })) (at 0 10 16)) ∷ []) ((part ((marked w.Public (at 0 19 25)) ∷ (marked w.Virtual (at 0 26 33)) ∷ []) (at 0 19 56) (property_piece (word 0 41 42 (codes "n")) ((get_access (at 0 45 48) None) ∷ (set_access (words.Set (at 0 50 53)) None) ∷ []))) ∷ []))) ∷ (part ([]) (at 0 59 121) (type_piece kind.Class (name ((word 0 65 66 (codes "B")) ∷ []) (at 0 65 66)) ((any_type None (type.Single (record { name = (name ((word 0 69 70 (codes "A")) ∷ []) (at 0 69 70)); is_nullable = false; span = (at 0 69 70) })) (at 0 69 70)) ∷ []) ((part ((marked w.Public (at 0 73 79)) ∷ (marked w.Override (at 0 80 88)) ∷ []) (at 0 73 119) (property_piece (word 0 104 105 (codes "n")) ((get_access (at 0 108 111) None) ∷ (set_access (words.Set (at 0 113 116)) None) ∷ []))) ∷ []))) ∷ (part ([]) (at 0 122 138) (λ f. callable (plain_head kind.Method (word 0 127 131 (codes "main")) f) ([]) (Some (code (at 0 135 138))))) ∷ [])) ∷ []) (([]) ∷ []) (Some (saying ([]) ((any_type None (type.Single (record { name = (name ((word 0 10 16 (codes "Object")) ∷ []) (at 0 10 16)); is_nullable = false; span = (at 0 10 16) })) (at 0 10 16)) ∷ []) Other) ∷ Some (saying ((marked w.Public (at 0 19 25)) ∷ (marked w.Virtual (at 0 26 33)) ∷ []) [] (Valued (any_type None (type.Single (record { name = (name ((word 0 34 40 (codes "string")) ∷ []) (at 0 34 40)); is_nullable = false; span = (at 0 34 40) })) (at 0 34 40)) ((accessor.Get (record { modifier = None; is_owned = false; word = (at 0 45 48); body = None }) (at 0 45 49)) ∷ (accessor.Set (record { modifier = None; words = words.Set (at 0 50 53); body = None }) (at 0 50 54)) ∷ []))) ∷ Some (saying ([]) ((any_type None (type.Single (record { name = (name ((word 0 69 70 (codes "A")) ∷ []) (at 0 69 70)); is_nullable = false; span = (at 0 69 70) })) (at 0 69 70)) ∷ []) Other) ∷ Some (saying ((marked w.Public (at 0 73 79)) ∷ (marked w.Override (at 0 80 88)) ∷ []) [] (Valued (any_type (Some own.Unowned) (type.Single (record { name = (name ((word 0 97 103 (codes "string")) ∷ []) (at 0 97 103)); is_nullable = false; span = (at 0 97 103) })) (at 0 89 103)) ((accessor.Get (record { modifier = None; is_owned = false; word = (at 0 108 111); body = None }) (at 0 108 112)) ∷ (accessor.Set (record { modifier = None; words = words.Set (at 0 113 116); body = None }) (at 0 113 117)) ∷ []))) ∷ Some (saying ([]) [] (Called (Some (any_type None type.Void (at 0 122 126))) ([]) ([]))) ∷ []) ≡ fault T6 (at 0 104 105) ∷ []
override_property_type = refl

-- `class A : Object { public virtual int n { get; } } class B : A { public override int n () { } } void main () { }`
override_other_kind : faults ((parts ((part ([]) (at 0 0 50) (type_piece kind.Class (name ((word 0 6 7 (codes "A")) ∷ []) (at 0 6 7)) ((any_type None (type.Single (record { name = (name ((word 0 10 16 (codes "Object")) ∷ []) (at 0 10 16)); is_nullable = false; span = (at 0 10 16) })) (at 0 10 16)) ∷ []) ((part ((marked w.Public (at 0 19 25)) ∷ (marked w.Virtual (at 0 26 33)) ∷ []) (at 0 19 48) (property_piece (word 0 38 39 (codes "n")) ((get_access (at 0 42 45) None) ∷ []))) ∷ []))) ∷ (part ([]) (at 0 51 95) (type_piece kind.Class (name ((word 0 57 58 (codes "B")) ∷ []) (at 0 57 58)) ((any_type None (type.Single (record { name = (name ((word 0 61 62 (codes "A")) ∷ []) (at 0 61 62)); is_nullable = false; span = (at 0 61 62) })) (at 0 61 62)) ∷ []) ((part ((marked w.Public (at 0 65 71)) ∷ (marked w.Override (at 0 72 80)) ∷ []) (at 0 65 93) (λ f. callable (plain_head kind.Method (word 0 85 86 (codes "n")) f) ([]) (Some (code (at 0 90 93))))) ∷ []))) ∷ (part ([]) (at 0 96 112) (λ f. callable (plain_head kind.Method (word 0 101 105 (codes "main")) f) ([]) (Some (code (at 0 109 112))))) ∷ [])) ∷ []) (([]) ∷ []) (Some (saying ([]) ((any_type None (type.Single (record { name = (name ((word 0 10 16 (codes "Object")) ∷ []) (at 0 10 16)); is_nullable = false; span = (at 0 10 16) })) (at 0 10 16)) ∷ []) Other) ∷ Some (saying ((marked w.Public (at 0 19 25)) ∷ (marked w.Virtual (at 0 26 33)) ∷ []) [] (Valued (any_type None (type.Single (record { name = (name ((word 0 34 37 (codes "int")) ∷ []) (at 0 34 37)); is_nullable = false; span = (at 0 34 37) })) (at 0 34 37)) ((accessor.Get (record { modifier = None; is_owned = false; word = (at 0 42 45); body = None }) (at 0 42 46)) ∷ []))) ∷ Some (saying ([]) ((any_type None (type.Single (record { name = (name ((word 0 61 62 (codes "A")) ∷ []) (at 0 61 62)); is_nullable = false; span = (at 0 61 62) })) (at 0 61 62)) ∷ []) Other) ∷ Some (saying ((marked w.Public (at 0 65 71)) ∷ (marked w.Override (at 0 72 80)) ∷ []) [] (Called (Some (any_type None (type.Single (record { name = (name ((word 0 81 84 (codes "int")) ∷ []) (at 0 81 84)); is_nullable = false; span = (at 0 81 84) })) (at 0 81 84))) ([]) ([]))) ∷ Some (saying ([]) [] (Called (Some (any_type None type.Void (at 0 96 100))) ([]) ([]))) ∷ []) ≡ fault T6 (at 0 85 86) ∷ []
override_other_kind = refl

-- `class A : Object { public virtual signal void hit (int x) { } } class B : A { public override void hit (int x) { } } class C : A { public override int hit (int x) { } } void main () { }`
override_signal : faults ((parts ((part ([]) (at 0 0 63) (type_piece kind.Class (name ((word 0 6 7 (codes "A")) ∷ []) (at 0 6 7)) ((any_type None (type.Single (record { name = (name ((word 0 10 16 (codes "Object")) ∷ []) (at 0 10 16)); is_nullable = false; span = (at 0 10 16) })) (at 0 10 16)) ∷ []) ((part ((marked w.Public (at 0 19 25)) ∷ (marked w.Virtual (at 0 26 33)) ∷ []) (at 0 19 61) (λ f. callable (plain_head kind.Signal (word 0 46 49 (codes "hit")) f) ((parameter_piece (word 0 55 56 (codes "x")) None) ∷ []) (Some (code (at 0 58 61))))) ∷ []))) ∷ (part ([]) (at 0 64 116) (type_piece kind.Class (name ((word 0 70 71 (codes "B")) ∷ []) (at 0 70 71)) ((any_type None (type.Single (record { name = (name ((word 0 74 75 (codes "A")) ∷ []) (at 0 74 75)); is_nullable = false; span = (at 0 74 75) })) (at 0 74 75)) ∷ []) ((part ((marked w.Public (at 0 78 84)) ∷ (marked w.Override (at 0 85 93)) ∷ []) (at 0 78 114) (λ f. callable (plain_head kind.Method (word 0 99 102 (codes "hit")) f) ((parameter_piece (word 0 108 109 (codes "x")) None) ∷ []) (Some (code (at 0 111 114))))) ∷ []))) ∷ (part ([]) (at 0 117 168) (type_piece kind.Class (name ((word 0 123 124 (codes "C")) ∷ []) (at 0 123 124)) ((any_type None (type.Single (record { name = (name ((word 0 127 128 (codes "A")) ∷ []) (at 0 127 128)); is_nullable = false; span = (at 0 127 128) })) (at 0 127 128)) ∷ []) ((part ((marked w.Public (at 0 131 137)) ∷ (marked w.Override (at 0 138 146)) ∷ []) (at 0 131 166) (λ f. callable (plain_head kind.Method (word 0 151 154 (codes "hit")) f) ((parameter_piece (word 0 160 161 (codes "x")) None) ∷ []) (Some (code (at 0 163 166))))) ∷ []))) ∷ (part ([]) (at 0 169 185) (λ f. callable (plain_head kind.Method (word 0 174 178 (codes "main")) f) ([]) (Some (code (at 0 182 185))))) ∷ [])) ∷ []) (([]) ∷ []) (Some (saying ([]) ((any_type None (type.Single (record { name = (name ((word 0 10 16 (codes "Object")) ∷ []) (at 0 10 16)); is_nullable = false; span = (at 0 10 16) })) (at 0 10 16)) ∷ []) Other) ∷ Some (saying ((marked w.Public (at 0 19 25)) ∷ (marked w.Virtual (at 0 26 33)) ∷ []) [] (Called None ((taken None (any_type None (type.Single (record { name = (name ((word 0 51 54 (codes "int")) ∷ []) (at 0 51 54)); is_nullable = false; span = (at 0 51 54) })) (at 0 51 54)) (word 0 55 56 (codes "x")) (at 0 51 56)) ∷ []) [])) ∷ None ∷ Some (saying ([]) ((any_type None (type.Single (record { name = (name ((word 0 74 75 (codes "A")) ∷ []) (at 0 74 75)); is_nullable = false; span = (at 0 74 75) })) (at 0 74 75)) ∷ []) Other) ∷ Some (saying ((marked w.Public (at 0 78 84)) ∷ (marked w.Override (at 0 85 93)) ∷ []) [] (Called (Some (any_type None type.Void (at 0 94 98))) ((taken None (any_type None (type.Single (record { name = (name ((word 0 104 107 (codes "int")) ∷ []) (at 0 104 107)); is_nullable = false; span = (at 0 104 107) })) (at 0 104 107)) (word 0 108 109 (codes "x")) (at 0 104 109)) ∷ []) ([]))) ∷ None ∷ Some (saying ([]) ((any_type None (type.Single (record { name = (name ((word 0 127 128 (codes "A")) ∷ []) (at 0 127 128)); is_nullable = false; span = (at 0 127 128) })) (at 0 127 128)) ∷ []) Other) ∷ Some (saying ((marked w.Public (at 0 131 137)) ∷ (marked w.Override (at 0 138 146)) ∷ []) [] (Called (Some (any_type None (type.Single (record { name = (name ((word 0 147 150 (codes "int")) ∷ []) (at 0 147 150)); is_nullable = false; span = (at 0 147 150) })) (at 0 147 150))) ((taken None (any_type None (type.Single (record { name = (name ((word 0 156 159 (codes "int")) ∷ []) (at 0 156 159)); is_nullable = false; span = (at 0 156 159) })) (at 0 156 159)) (word 0 160 161 (codes "x")) (at 0 156 161)) ∷ []) ([]))) ∷ None ∷ Some (saying ([]) [] (Called (Some (any_type None type.Void (at 0 169 173))) ([]) ([]))) ∷ []) ≡ fault T6 (at 0 151 154) ∷ []
override_signal = refl

-- `interface I : Object { public abstract void f (); } interface J : I { public override void f (); public override void g (); } void main () { }`
override_in_interface : faults ((parts ((part ([]) (at 0 0 51) (type_piece kind.Interface (name ((word 0 10 11 (codes "I")) ∷ []) (at 0 10 11)) ((any_type None (type.Single (record { name = (name ((word 0 14 20 (codes "Object")) ∷ []) (at 0 14 20)); is_nullable = false; span = (at 0 14 20) })) (at 0 14 20)) ∷ []) ((part ((marked w.Public (at 0 23 29)) ∷ (marked w.Abstract (at 0 30 38)) ∷ []) (at 0 23 49) (λ f. callable (plain_head kind.Method (word 0 44 45 (codes "f")) f) ([]) None)) ∷ []))) ∷ (part ([]) (at 0 52 125) (type_piece kind.Interface (name ((word 0 62 63 (codes "J")) ∷ []) (at 0 62 63)) ((any_type None (type.Single (record { name = (name ((word 0 66 67 (codes "I")) ∷ []) (at 0 66 67)); is_nullable = false; span = (at 0 66 67) })) (at 0 66 67)) ∷ []) ((part ((marked w.Public (at 0 70 76)) ∷ (marked w.Override (at 0 77 85)) ∷ []) (at 0 70 96) (λ f. callable (plain_head kind.Method (word 0 91 92 (codes "f")) f) ([]) None)) ∷ (part ((marked w.Public (at 0 97 103)) ∷ (marked w.Override (at 0 104 112)) ∷ []) (at 0 97 123) (λ f. callable (plain_head kind.Method (word 0 118 119 (codes "g")) f) ([]) None)) ∷ []))) ∷ (part ([]) (at 0 126 142) (λ f. callable (plain_head kind.Method (word 0 131 135 (codes "main")) f) ([]) (Some (code (at 0 139 142))))) ∷ [])) ∷ []) (([]) ∷ []) (Some (saying ([]) ((any_type None (type.Single (record { name = (name ((word 0 14 20 (codes "Object")) ∷ []) (at 0 14 20)); is_nullable = false; span = (at 0 14 20) })) (at 0 14 20)) ∷ []) Other) ∷ Some (saying ((marked w.Public (at 0 23 29)) ∷ (marked w.Abstract (at 0 30 38)) ∷ []) [] (Called (Some (any_type None type.Void (at 0 39 43))) ([]) ([]))) ∷ Some (saying ([]) ((any_type None (type.Single (record { name = (name ((word 0 66 67 (codes "I")) ∷ []) (at 0 66 67)); is_nullable = false; span = (at 0 66 67) })) (at 0 66 67)) ∷ []) Other) ∷ Some (saying ((marked w.Public (at 0 70 76)) ∷ (marked w.Override (at 0 77 85)) ∷ []) [] (Called (Some (any_type None type.Void (at 0 86 90))) ([]) ([]))) ∷ Some (saying ((marked w.Public (at 0 97 103)) ∷ (marked w.Override (at 0 104 112)) ∷ []) [] (Called (Some (any_type None type.Void (at 0 113 117))) ([]) ([]))) ∷ Some (saying ([]) [] (Called (Some (any_type None type.Void (at 0 126 130))) ([]) ([]))) ∷ []) ≡ fault T6 (at 0 118 119) ∷ []
override_in_interface = refl

-- `class A : Object { public virtual void f () { } } class B : A { public static override void f () { } } void main () { }`
override_static : faults ((parts ((part ([]) (at 0 0 49) (type_piece kind.Class (name ((word 0 6 7 (codes "A")) ∷ []) (at 0 6 7)) ((any_type None (type.Single (record { name = (name ((word 0 10 16 (codes "Object")) ∷ []) (at 0 10 16)); is_nullable = false; span = (at 0 10 16) })) (at 0 10 16)) ∷ []) ((part ((marked w.Public (at 0 19 25)) ∷ (marked w.Virtual (at 0 26 33)) ∷ []) (at 0 19 47) (λ f. callable (plain_head kind.Method (word 0 39 40 (codes "f")) f) ([]) (Some (code (at 0 44 47))))) ∷ []))) ∷ (part ([]) (at 0 50 102) (type_piece kind.Class (name ((word 0 56 57 (codes "B")) ∷ []) (at 0 56 57)) ((any_type None (type.Single (record { name = (name ((word 0 60 61 (codes "A")) ∷ []) (at 0 60 61)); is_nullable = false; span = (at 0 60 61) })) (at 0 60 61)) ∷ []) ((part ((marked w.Public (at 0 64 70)) ∷ (marked w.Static (at 0 71 77)) ∷ (marked w.Override (at 0 78 86)) ∷ []) (at 0 64 100) (λ f. callable (plain_head kind.Method (word 0 92 93 (codes "f")) f) ([]) (Some (code (at 0 97 100))))) ∷ []))) ∷ (part ([]) (at 0 103 119) (λ f. callable (plain_head kind.Method (word 0 108 112 (codes "main")) f) ([]) (Some (code (at 0 116 119))))) ∷ [])) ∷ []) (([]) ∷ []) (Some (saying ([]) ((any_type None (type.Single (record { name = (name ((word 0 10 16 (codes "Object")) ∷ []) (at 0 10 16)); is_nullable = false; span = (at 0 10 16) })) (at 0 10 16)) ∷ []) Other) ∷ Some (saying ((marked w.Public (at 0 19 25)) ∷ (marked w.Virtual (at 0 26 33)) ∷ []) [] (Called (Some (any_type None type.Void (at 0 34 38))) ([]) ([]))) ∷ Some (saying ([]) ((any_type None (type.Single (record { name = (name ((word 0 60 61 (codes "A")) ∷ []) (at 0 60 61)); is_nullable = false; span = (at 0 60 61) })) (at 0 60 61)) ∷ []) Other) ∷ Some (saying ((marked w.Public (at 0 64 70)) ∷ (marked w.Static (at 0 71 77)) ∷ (marked w.Override (at 0 78 86)) ∷ []) [] (Called (Some (any_type None type.Void (at 0 87 91))) ([]) ([]))) ∷ Some (saying ([]) [] (Called (Some (any_type None type.Void (at 0 103 107))) ([]) ([]))) ∷ []) ≡ []
override_static = refl

-- 3. Abstract members

-- `abstract class A : Object { public abstract void f (); } class B : A {} void main () {}`
abstract_left : faults ((parts ((part ((marked w.Abstract (at 0 0 8)) ∷ []) (at 0 0 56) (type_piece kind.Class (name ((word 0 15 16 (codes "A")) ∷ []) (at 0 15 16)) ((any_type None (type.Single (record { name = (name ((word 0 19 25 (codes "Object")) ∷ []) (at 0 19 25)); is_nullable = false; span = (at 0 19 25) })) (at 0 19 25)) ∷ []) ((part ((marked w.Public (at 0 28 34)) ∷ (marked w.Abstract (at 0 35 43)) ∷ []) (at 0 28 54) (λ f. callable (plain_head kind.Method (word 0 49 50 (codes "f")) f) ([]) None)) ∷ []))) ∷ (part ([]) (at 0 57 71) (type_piece kind.Class (name ((word 0 63 64 (codes "B")) ∷ []) (at 0 63 64)) ((any_type None (type.Single (record { name = (name ((word 0 67 68 (codes "A")) ∷ []) (at 0 67 68)); is_nullable = false; span = (at 0 67 68) })) (at 0 67 68)) ∷ []) ([]))) ∷ (part ([]) (at 0 72 87) (λ f. callable (plain_head kind.Method (word 0 77 81 (codes "main")) f) ([]) (Some (code (at 0 85 87))))) ∷ [])) ∷ []) (([]) ∷ []) (Some (saying ((marked w.Abstract (at 0 0 8)) ∷ []) ((any_type None (type.Single (record { name = (name ((word 0 19 25 (codes "Object")) ∷ []) (at 0 19 25)); is_nullable = false; span = (at 0 19 25) })) (at 0 19 25)) ∷ []) Other) ∷ Some (saying ((marked w.Public (at 0 28 34)) ∷ (marked w.Abstract (at 0 35 43)) ∷ []) [] (Called (Some (any_type None type.Void (at 0 44 48))) ([]) ([]))) ∷ Some (saying ([]) ((any_type None (type.Single (record { name = (name ((word 0 67 68 (codes "A")) ∷ []) (at 0 67 68)); is_nullable = false; span = (at 0 67 68) })) (at 0 67 68)) ∷ []) Other) ∷ Some (saying ([]) [] (Called (Some (any_type None type.Void (at 0 72 76))) ([]) ([]))) ∷ []) ≡ fault T7 (at 0 63 64) ∷ []
abstract_left = refl

-- `abstract class A : Object { public abstract void f (); } class B : A { public override void f () { } } void main () { }`
abstract_done : faults ((parts ((part ((marked w.Abstract (at 0 0 8)) ∷ []) (at 0 0 56) (type_piece kind.Class (name ((word 0 15 16 (codes "A")) ∷ []) (at 0 15 16)) ((any_type None (type.Single (record { name = (name ((word 0 19 25 (codes "Object")) ∷ []) (at 0 19 25)); is_nullable = false; span = (at 0 19 25) })) (at 0 19 25)) ∷ []) ((part ((marked w.Public (at 0 28 34)) ∷ (marked w.Abstract (at 0 35 43)) ∷ []) (at 0 28 54) (λ f. callable (plain_head kind.Method (word 0 49 50 (codes "f")) f) ([]) None)) ∷ []))) ∷ (part ([]) (at 0 57 102) (type_piece kind.Class (name ((word 0 63 64 (codes "B")) ∷ []) (at 0 63 64)) ((any_type None (type.Single (record { name = (name ((word 0 67 68 (codes "A")) ∷ []) (at 0 67 68)); is_nullable = false; span = (at 0 67 68) })) (at 0 67 68)) ∷ []) ((part ((marked w.Public (at 0 71 77)) ∷ (marked w.Override (at 0 78 86)) ∷ []) (at 0 71 100) (λ f. callable (plain_head kind.Method (word 0 92 93 (codes "f")) f) ([]) (Some (code (at 0 97 100))))) ∷ []))) ∷ (part ([]) (at 0 103 119) (λ f. callable (plain_head kind.Method (word 0 108 112 (codes "main")) f) ([]) (Some (code (at 0 116 119))))) ∷ [])) ∷ []) (([]) ∷ []) (Some (saying ((marked w.Abstract (at 0 0 8)) ∷ []) ((any_type None (type.Single (record { name = (name ((word 0 19 25 (codes "Object")) ∷ []) (at 0 19 25)); is_nullable = false; span = (at 0 19 25) })) (at 0 19 25)) ∷ []) Other) ∷ Some (saying ((marked w.Public (at 0 28 34)) ∷ (marked w.Abstract (at 0 35 43)) ∷ []) [] (Called (Some (any_type None type.Void (at 0 44 48))) ([]) ([]))) ∷ Some (saying ([]) ((any_type None (type.Single (record { name = (name ((word 0 67 68 (codes "A")) ∷ []) (at 0 67 68)); is_nullable = false; span = (at 0 67 68) })) (at 0 67 68)) ∷ []) Other) ∷ Some (saying ((marked w.Public (at 0 71 77)) ∷ (marked w.Override (at 0 78 86)) ∷ []) [] (Called (Some (any_type None type.Void (at 0 87 91))) ([]) ([]))) ∷ Some (saying ([]) [] (Called (Some (any_type None type.Void (at 0 103 107))) ([]) ([]))) ∷ []) ≡ []
abstract_done = refl

-- `abstract class A : Object { public abstract void f (); } abstract class B : A { } class C : B { public override void f () { } } class D : B { } void main () { }`
abstract_to_grandchild : faults ((parts ((part ((marked w.Abstract (at 0 0 8)) ∷ []) (at 0 0 56) (type_piece kind.Class (name ((word 0 15 16 (codes "A")) ∷ []) (at 0 15 16)) ((any_type None (type.Single (record { name = (name ((word 0 19 25 (codes "Object")) ∷ []) (at 0 19 25)); is_nullable = false; span = (at 0 19 25) })) (at 0 19 25)) ∷ []) ((part ((marked w.Public (at 0 28 34)) ∷ (marked w.Abstract (at 0 35 43)) ∷ []) (at 0 28 54) (λ f. callable (plain_head kind.Method (word 0 49 50 (codes "f")) f) ([]) None)) ∷ []))) ∷ (part ((marked w.Abstract (at 0 57 65)) ∷ []) (at 0 57 81) (type_piece kind.Class (name ((word 0 72 73 (codes "B")) ∷ []) (at 0 72 73)) ((any_type None (type.Single (record { name = (name ((word 0 76 77 (codes "A")) ∷ []) (at 0 76 77)); is_nullable = false; span = (at 0 76 77) })) (at 0 76 77)) ∷ []) ([]))) ∷ (part ([]) (at 0 82 127) (type_piece kind.Class (name ((word 0 88 89 (codes "C")) ∷ []) (at 0 88 89)) ((any_type None (type.Single (record { name = (name ((word 0 92 93 (codes "B")) ∷ []) (at 0 92 93)); is_nullable = false; span = (at 0 92 93) })) (at 0 92 93)) ∷ []) ((part ((marked w.Public (at 0 96 102)) ∷ (marked w.Override (at 0 103 111)) ∷ []) (at 0 96 125) (λ f. callable (plain_head kind.Method (word 0 117 118 (codes "f")) f) ([]) (Some (code (at 0 122 125))))) ∷ []))) ∷ (part ([]) (at 0 128 143) (type_piece kind.Class (name ((word 0 134 135 (codes "D")) ∷ []) (at 0 134 135)) ((any_type None (type.Single (record { name = (name ((word 0 138 139 (codes "B")) ∷ []) (at 0 138 139)); is_nullable = false; span = (at 0 138 139) })) (at 0 138 139)) ∷ []) ([]))) ∷ (part ([]) (at 0 144 160) (λ f. callable (plain_head kind.Method (word 0 149 153 (codes "main")) f) ([]) (Some (code (at 0 157 160))))) ∷ [])) ∷ []) (([]) ∷ []) (Some (saying ((marked w.Abstract (at 0 0 8)) ∷ []) ((any_type None (type.Single (record { name = (name ((word 0 19 25 (codes "Object")) ∷ []) (at 0 19 25)); is_nullable = false; span = (at 0 19 25) })) (at 0 19 25)) ∷ []) Other) ∷ Some (saying ((marked w.Public (at 0 28 34)) ∷ (marked w.Abstract (at 0 35 43)) ∷ []) [] (Called (Some (any_type None type.Void (at 0 44 48))) ([]) ([]))) ∷ Some (saying ((marked w.Abstract (at 0 57 65)) ∷ []) ((any_type None (type.Single (record { name = (name ((word 0 76 77 (codes "A")) ∷ []) (at 0 76 77)); is_nullable = false; span = (at 0 76 77) })) (at 0 76 77)) ∷ []) Other) ∷ Some (saying ([]) ((any_type None (type.Single (record { name = (name ((word 0 92 93 (codes "B")) ∷ []) (at 0 92 93)); is_nullable = false; span = (at 0 92 93) })) (at 0 92 93)) ∷ []) Other) ∷ Some (saying ((marked w.Public (at 0 96 102)) ∷ (marked w.Override (at 0 103 111)) ∷ []) [] (Called (Some (any_type None type.Void (at 0 112 116))) ([]) ([]))) ∷ Some (saying ([]) ((any_type None (type.Single (record { name = (name ((word 0 138 139 (codes "B")) ∷ []) (at 0 138 139)); is_nullable = false; span = (at 0 138 139) })) (at 0 138 139)) ∷ []) Other) ∷ Some (saying ([]) [] (Called (Some (any_type None type.Void (at 0 144 148))) ([]) ([]))) ∷ []) ≡ fault T7 (at 0 134 135) ∷ []
abstract_to_grandchild = refl

-- `abstract class A : Object { public abstract void f (); } class B : A { public void f () { } } void main () { }`
abstract_hidden : faults ((parts ((part ((marked w.Abstract (at 0 0 8)) ∷ []) (at 0 0 56) (type_piece kind.Class (name ((word 0 15 16 (codes "A")) ∷ []) (at 0 15 16)) ((any_type None (type.Single (record { name = (name ((word 0 19 25 (codes "Object")) ∷ []) (at 0 19 25)); is_nullable = false; span = (at 0 19 25) })) (at 0 19 25)) ∷ []) ((part ((marked w.Public (at 0 28 34)) ∷ (marked w.Abstract (at 0 35 43)) ∷ []) (at 0 28 54) (λ f. callable (plain_head kind.Method (word 0 49 50 (codes "f")) f) ([]) None)) ∷ []))) ∷ (part ([]) (at 0 57 93) (type_piece kind.Class (name ((word 0 63 64 (codes "B")) ∷ []) (at 0 63 64)) ((any_type None (type.Single (record { name = (name ((word 0 67 68 (codes "A")) ∷ []) (at 0 67 68)); is_nullable = false; span = (at 0 67 68) })) (at 0 67 68)) ∷ []) ((part ((marked w.Public (at 0 71 77)) ∷ []) (at 0 71 91) (λ f. callable (plain_head kind.Method (word 0 83 84 (codes "f")) f) ([]) (Some (code (at 0 88 91))))) ∷ []))) ∷ (part ([]) (at 0 94 110) (λ f. callable (plain_head kind.Method (word 0 99 103 (codes "main")) f) ([]) (Some (code (at 0 107 110))))) ∷ [])) ∷ []) (([]) ∷ []) (Some (saying ((marked w.Abstract (at 0 0 8)) ∷ []) ((any_type None (type.Single (record { name = (name ((word 0 19 25 (codes "Object")) ∷ []) (at 0 19 25)); is_nullable = false; span = (at 0 19 25) })) (at 0 19 25)) ∷ []) Other) ∷ Some (saying ((marked w.Public (at 0 28 34)) ∷ (marked w.Abstract (at 0 35 43)) ∷ []) [] (Called (Some (any_type None type.Void (at 0 44 48))) ([]) ([]))) ∷ Some (saying ([]) ((any_type None (type.Single (record { name = (name ((word 0 67 68 (codes "A")) ∷ []) (at 0 67 68)); is_nullable = false; span = (at 0 67 68) })) (at 0 67 68)) ∷ []) Other) ∷ Some (saying ((marked w.Public (at 0 71 77)) ∷ []) [] (Called (Some (any_type None type.Void (at 0 78 82))) ([]) ([]))) ∷ Some (saying ([]) [] (Called (Some (any_type None type.Void (at 0 94 98))) ([]) ([]))) ∷ []) ≡ fault T7 (at 0 63 64) ∷ []
abstract_hidden = refl

-- `abstract class A : Object { public virtual void f () { } } abstract class B : A { public abstract override void f (); } class C : B { } void main () { }`
abstract_again : faults ((parts ((part ((marked w.Abstract (at 0 0 8)) ∷ []) (at 0 0 58) (type_piece kind.Class (name ((word 0 15 16 (codes "A")) ∷ []) (at 0 15 16)) ((any_type None (type.Single (record { name = (name ((word 0 19 25 (codes "Object")) ∷ []) (at 0 19 25)); is_nullable = false; span = (at 0 19 25) })) (at 0 19 25)) ∷ []) ((part ((marked w.Public (at 0 28 34)) ∷ (marked w.Virtual (at 0 35 42)) ∷ []) (at 0 28 56) (λ f. callable (plain_head kind.Method (word 0 48 49 (codes "f")) f) ([]) (Some (code (at 0 53 56))))) ∷ []))) ∷ (part ((marked w.Abstract (at 0 59 67)) ∷ []) (at 0 59 119) (type_piece kind.Class (name ((word 0 74 75 (codes "B")) ∷ []) (at 0 74 75)) ((any_type None (type.Single (record { name = (name ((word 0 78 79 (codes "A")) ∷ []) (at 0 78 79)); is_nullable = false; span = (at 0 78 79) })) (at 0 78 79)) ∷ []) ((part ((marked w.Public (at 0 82 88)) ∷ (marked w.Abstract (at 0 89 97)) ∷ (marked w.Override (at 0 98 106)) ∷ []) (at 0 82 117) (λ f. callable (plain_head kind.Method (word 0 112 113 (codes "f")) f) ([]) None)) ∷ []))) ∷ (part ([]) (at 0 120 135) (type_piece kind.Class (name ((word 0 126 127 (codes "C")) ∷ []) (at 0 126 127)) ((any_type None (type.Single (record { name = (name ((word 0 130 131 (codes "B")) ∷ []) (at 0 130 131)); is_nullable = false; span = (at 0 130 131) })) (at 0 130 131)) ∷ []) ([]))) ∷ (part ([]) (at 0 136 152) (λ f. callable (plain_head kind.Method (word 0 141 145 (codes "main")) f) ([]) (Some (code (at 0 149 152))))) ∷ [])) ∷ []) (([]) ∷ []) (Some (saying ((marked w.Abstract (at 0 0 8)) ∷ []) ((any_type None (type.Single (record { name = (name ((word 0 19 25 (codes "Object")) ∷ []) (at 0 19 25)); is_nullable = false; span = (at 0 19 25) })) (at 0 19 25)) ∷ []) Other) ∷ Some (saying ((marked w.Public (at 0 28 34)) ∷ (marked w.Virtual (at 0 35 42)) ∷ []) [] (Called (Some (any_type None type.Void (at 0 43 47))) ([]) ([]))) ∷ Some (saying ((marked w.Abstract (at 0 59 67)) ∷ []) ((any_type None (type.Single (record { name = (name ((word 0 78 79 (codes "A")) ∷ []) (at 0 78 79)); is_nullable = false; span = (at 0 78 79) })) (at 0 78 79)) ∷ []) Other) ∷ Some (saying ((marked w.Public (at 0 82 88)) ∷ (marked w.Abstract (at 0 89 97)) ∷ (marked w.Override (at 0 98 106)) ∷ []) [] (Called (Some (any_type None type.Void (at 0 107 111))) ([]) ([]))) ∷ Some (saying ([]) ((any_type None (type.Single (record { name = (name ((word 0 130 131 (codes "B")) ∷ []) (at 0 130 131)); is_nullable = false; span = (at 0 130 131) })) (at 0 130 131)) ∷ []) Other) ∷ Some (saying ([]) [] (Called (Some (any_type None type.Void (at 0 136 140))) ([]) ([]))) ∷ []) ≡ fault T7 (at 0 126 127) ∷ []
abstract_again = refl

-- `class A : Object { public abstract void f (); } void main () { }`
abstract_in_plain : faults ((parts ((part ([]) (at 0 0 47) (type_piece kind.Class (name ((word 0 6 7 (codes "A")) ∷ []) (at 0 6 7)) ((any_type None (type.Single (record { name = (name ((word 0 10 16 (codes "Object")) ∷ []) (at 0 10 16)); is_nullable = false; span = (at 0 10 16) })) (at 0 10 16)) ∷ []) ((part ((marked w.Public (at 0 19 25)) ∷ (marked w.Abstract (at 0 26 34)) ∷ []) (at 0 19 45) (λ f. callable (plain_head kind.Method (word 0 40 41 (codes "f")) f) ([]) None)) ∷ []))) ∷ (part ([]) (at 0 48 64) (λ f. callable (plain_head kind.Method (word 0 53 57 (codes "main")) f) ([]) (Some (code (at 0 61 64))))) ∷ [])) ∷ []) (([]) ∷ []) (Some (saying ([]) ((any_type None (type.Single (record { name = (name ((word 0 10 16 (codes "Object")) ∷ []) (at 0 10 16)); is_nullable = false; span = (at 0 10 16) })) (at 0 10 16)) ∷ []) Other) ∷ Some (saying ((marked w.Public (at 0 19 25)) ∷ (marked w.Abstract (at 0 26 34)) ∷ []) [] (Called (Some (any_type None type.Void (at 0 35 39))) ([]) ([]))) ∷ Some (saying ([]) [] (Called (Some (any_type None type.Void (at 0 48 52))) ([]) ([]))) ∷ []) ≡ fault T7 (at 0 6 7) ∷ []
abstract_in_plain = refl

-- `abstract class A : Object { public abstract int n { get; } } class B : A { public int n { get; } } class C : A { public override int n { get { } } } void main () { }`
abstract_property : faults ((parts ((part ((marked w.Abstract (at 0 0 8)) ∷ []) (at 0 0 60) (type_piece kind.Class (name ((word 0 15 16 (codes "A")) ∷ []) (at 0 15 16)) ((any_type None (type.Single (record { name = (name ((word 0 19 25 (codes "Object")) ∷ []) (at 0 19 25)); is_nullable = false; span = (at 0 19 25) })) (at 0 19 25)) ∷ []) ((part ((marked w.Public (at 0 28 34)) ∷ (marked w.Abstract (at 0 35 43)) ∷ []) (at 0 28 58) (property_piece (word 0 48 49 (codes "n")) ((get_access (at 0 52 55) None) ∷ []))) ∷ []))) ∷ (part ([]) (at 0 61 98) (type_piece kind.Class (name ((word 0 67 68 (codes "B")) ∷ []) (at 0 67 68)) ((any_type None (type.Single (record { name = (name ((word 0 71 72 (codes "A")) ∷ []) (at 0 71 72)); is_nullable = false; span = (at 0 71 72) })) (at 0 71 72)) ∷ []) ((part ((marked w.Public (at 0 75 81)) ∷ []) (at 0 75 96) (property_piece (word 0 86 87 (codes "n")) ((get_access (at 0 90 93) None) ∷ []))) ∷ []))) ∷ (part ([]) (at 0 99 148) (type_piece kind.Class (name ((word 0 105 106 (codes "C")) ∷ []) (at 0 105 106)) ((any_type None (type.Single (record { name = (name ((word 0 109 110 (codes "A")) ∷ []) (at 0 109 110)); is_nullable = false; span = (at 0 109 110) })) (at 0 109 110)) ∷ []) ((part ((marked w.Public (at 0 113 119)) ∷ (marked w.Override (at 0 120 128)) ∷ []) (at 0 113 146) (property_piece (word 0 133 134 (codes "n")) ((get_access (at 0 137 140) (Some (code (at 0 141 144)))) ∷ []))) ∷ []))) ∷ (part ([]) (at 0 149 165) (λ f. callable (plain_head kind.Method (word 0 154 158 (codes "main")) f) ([]) (Some (code (at 0 162 165))))) ∷ [])) ∷ []) (([]) ∷ []) (Some (saying ((marked w.Abstract (at 0 0 8)) ∷ []) ((any_type None (type.Single (record { name = (name ((word 0 19 25 (codes "Object")) ∷ []) (at 0 19 25)); is_nullable = false; span = (at 0 19 25) })) (at 0 19 25)) ∷ []) Other) ∷ Some (saying ((marked w.Public (at 0 28 34)) ∷ (marked w.Abstract (at 0 35 43)) ∷ []) [] (Valued (any_type None (type.Single (record { name = (name ((word 0 44 47 (codes "int")) ∷ []) (at 0 44 47)); is_nullable = false; span = (at 0 44 47) })) (at 0 44 47)) ((accessor.Get (record { modifier = None; is_owned = false; word = (at 0 52 55); body = None }) (at 0 52 56)) ∷ []))) ∷ Some (saying ([]) ((any_type None (type.Single (record { name = (name ((word 0 71 72 (codes "A")) ∷ []) (at 0 71 72)); is_nullable = false; span = (at 0 71 72) })) (at 0 71 72)) ∷ []) Other) ∷ Some (saying ((marked w.Public (at 0 75 81)) ∷ []) [] (Valued (any_type None (type.Single (record { name = (name ((word 0 82 85 (codes "int")) ∷ []) (at 0 82 85)); is_nullable = false; span = (at 0 82 85) })) (at 0 82 85)) ((accessor.Get (record { modifier = None; is_owned = false; word = (at 0 90 93); body = None }) (at 0 90 94)) ∷ []))) ∷ Some (saying ([]) ((any_type None (type.Single (record { name = (name ((word 0 109 110 (codes "A")) ∷ []) (at 0 109 110)); is_nullable = false; span = (at 0 109 110) })) (at 0 109 110)) ∷ []) Other) ∷ Some (saying ((marked w.Public (at 0 113 119)) ∷ (marked w.Override (at 0 120 128)) ∷ []) [] (Valued (any_type None (type.Single (record { name = (name ((word 0 129 132 (codes "int")) ∷ []) (at 0 129 132)); is_nullable = false; span = (at 0 129 132) })) (at 0 129 132)) ((accessor.Get (record { modifier = None; is_owned = false; word = (at 0 137 140); body = (Some (block (at 0 141 144))) }) (at 0 137 144)) ∷ []))) ∷ Some (saying ([]) [] (Called (Some (any_type None type.Void (at 0 149 153))) ([]) ([]))) ∷ []) ≡ fault T7 (at 0 67 68) ∷ []
abstract_property = refl

-- `abstract class A : Object { public abstract void f (); } class B : A { public override int f () { } } void main () { }`
abstract_wrong_override : faults ((parts ((part ((marked w.Abstract (at 0 0 8)) ∷ []) (at 0 0 56) (type_piece kind.Class (name ((word 0 15 16 (codes "A")) ∷ []) (at 0 15 16)) ((any_type None (type.Single (record { name = (name ((word 0 19 25 (codes "Object")) ∷ []) (at 0 19 25)); is_nullable = false; span = (at 0 19 25) })) (at 0 19 25)) ∷ []) ((part ((marked w.Public (at 0 28 34)) ∷ (marked w.Abstract (at 0 35 43)) ∷ []) (at 0 28 54) (λ f. callable (plain_head kind.Method (word 0 49 50 (codes "f")) f) ([]) None)) ∷ []))) ∷ (part ([]) (at 0 57 101) (type_piece kind.Class (name ((word 0 63 64 (codes "B")) ∷ []) (at 0 63 64)) ((any_type None (type.Single (record { name = (name ((word 0 67 68 (codes "A")) ∷ []) (at 0 67 68)); is_nullable = false; span = (at 0 67 68) })) (at 0 67 68)) ∷ []) ((part ((marked w.Public (at 0 71 77)) ∷ (marked w.Override (at 0 78 86)) ∷ []) (at 0 71 99) (λ f. callable (plain_head kind.Method (word 0 91 92 (codes "f")) f) ([]) (Some (code (at 0 96 99))))) ∷ []))) ∷ (part ([]) (at 0 102 118) (λ f. callable (plain_head kind.Method (word 0 107 111 (codes "main")) f) ([]) (Some (code (at 0 115 118))))) ∷ [])) ∷ []) (([]) ∷ []) (Some (saying ((marked w.Abstract (at 0 0 8)) ∷ []) ((any_type None (type.Single (record { name = (name ((word 0 19 25 (codes "Object")) ∷ []) (at 0 19 25)); is_nullable = false; span = (at 0 19 25) })) (at 0 19 25)) ∷ []) Other) ∷ Some (saying ((marked w.Public (at 0 28 34)) ∷ (marked w.Abstract (at 0 35 43)) ∷ []) [] (Called (Some (any_type None type.Void (at 0 44 48))) ([]) ([]))) ∷ Some (saying ([]) ((any_type None (type.Single (record { name = (name ((word 0 67 68 (codes "A")) ∷ []) (at 0 67 68)); is_nullable = false; span = (at 0 67 68) })) (at 0 67 68)) ∷ []) Other) ∷ Some (saying ((marked w.Public (at 0 71 77)) ∷ (marked w.Override (at 0 78 86)) ∷ []) [] (Called (Some (any_type None (type.Single (record { name = (name ((word 0 87 90 (codes "int")) ∷ []) (at 0 87 90)); is_nullable = false; span = (at 0 87 90) })) (at 0 87 90))) ([]) ([]))) ∷ Some (saying ([]) [] (Called (Some (any_type None type.Void (at 0 102 106))) ([]) ([]))) ∷ []) ≡ fault T6 (at 0 91 92) ∷ []
abstract_wrong_override = refl

-- `interface I : Object { public abstract void f (); } class A : Object, I { } void main () { }`
interface_left : faults ((parts ((part ([]) (at 0 0 51) (type_piece kind.Interface (name ((word 0 10 11 (codes "I")) ∷ []) (at 0 10 11)) ((any_type None (type.Single (record { name = (name ((word 0 14 20 (codes "Object")) ∷ []) (at 0 14 20)); is_nullable = false; span = (at 0 14 20) })) (at 0 14 20)) ∷ []) ((part ((marked w.Public (at 0 23 29)) ∷ (marked w.Abstract (at 0 30 38)) ∷ []) (at 0 23 49) (λ f. callable (plain_head kind.Method (word 0 44 45 (codes "f")) f) ([]) None)) ∷ []))) ∷ (part ([]) (at 0 52 75) (type_piece kind.Class (name ((word 0 58 59 (codes "A")) ∷ []) (at 0 58 59)) ((any_type None (type.Single (record { name = (name ((word 0 62 68 (codes "Object")) ∷ []) (at 0 62 68)); is_nullable = false; span = (at 0 62 68) })) (at 0 62 68)) ∷ (any_type None (type.Single (record { name = (name ((word 0 70 71 (codes "I")) ∷ []) (at 0 70 71)); is_nullable = false; span = (at 0 70 71) })) (at 0 70 71)) ∷ []) ([]))) ∷ (part ([]) (at 0 76 92) (λ f. callable (plain_head kind.Method (word 0 81 85 (codes "main")) f) ([]) (Some (code (at 0 89 92))))) ∷ [])) ∷ []) (([]) ∷ []) (Some (saying ([]) ((any_type None (type.Single (record { name = (name ((word 0 14 20 (codes "Object")) ∷ []) (at 0 14 20)); is_nullable = false; span = (at 0 14 20) })) (at 0 14 20)) ∷ []) Other) ∷ Some (saying ((marked w.Public (at 0 23 29)) ∷ (marked w.Abstract (at 0 30 38)) ∷ []) [] (Called (Some (any_type None type.Void (at 0 39 43))) ([]) ([]))) ∷ Some (saying ([]) ((any_type None (type.Single (record { name = (name ((word 0 62 68 (codes "Object")) ∷ []) (at 0 62 68)); is_nullable = false; span = (at 0 62 68) })) (at 0 62 68)) ∷ (any_type None (type.Single (record { name = (name ((word 0 70 71 (codes "I")) ∷ []) (at 0 70 71)); is_nullable = false; span = (at 0 70 71) })) (at 0 70 71)) ∷ []) Other) ∷ Some (saying ([]) [] (Called (Some (any_type None type.Void (at 0 76 80))) ([]) ([]))) ∷ []) ≡ fault T7 (at 0 58 59) ∷ []
interface_left = refl

-- `interface I : Object { public abstract void f (); public abstract int n { get; set; } } class A : Object, I { public void f () { } public int n { get; set; } } void main () { }`
interface_done : faults ((parts ((part ([]) (at 0 0 87) (type_piece kind.Interface (name ((word 0 10 11 (codes "I")) ∷ []) (at 0 10 11)) ((any_type None (type.Single (record { name = (name ((word 0 14 20 (codes "Object")) ∷ []) (at 0 14 20)); is_nullable = false; span = (at 0 14 20) })) (at 0 14 20)) ∷ []) ((part ((marked w.Public (at 0 23 29)) ∷ (marked w.Abstract (at 0 30 38)) ∷ []) (at 0 23 49) (λ f. callable (plain_head kind.Method (word 0 44 45 (codes "f")) f) ([]) None)) ∷ (part ((marked w.Public (at 0 50 56)) ∷ (marked w.Abstract (at 0 57 65)) ∷ []) (at 0 50 85) (property_piece (word 0 70 71 (codes "n")) ((get_access (at 0 74 77) None) ∷ (set_access (words.Set (at 0 79 82)) None) ∷ []))) ∷ []))) ∷ (part ([]) (at 0 88 159) (type_piece kind.Class (name ((word 0 94 95 (codes "A")) ∷ []) (at 0 94 95)) ((any_type None (type.Single (record { name = (name ((word 0 98 104 (codes "Object")) ∷ []) (at 0 98 104)); is_nullable = false; span = (at 0 98 104) })) (at 0 98 104)) ∷ (any_type None (type.Single (record { name = (name ((word 0 106 107 (codes "I")) ∷ []) (at 0 106 107)); is_nullable = false; span = (at 0 106 107) })) (at 0 106 107)) ∷ []) ((part ((marked w.Public (at 0 110 116)) ∷ []) (at 0 110 130) (λ f. callable (plain_head kind.Method (word 0 122 123 (codes "f")) f) ([]) (Some (code (at 0 127 130))))) ∷ (part ((marked w.Public (at 0 131 137)) ∷ []) (at 0 131 157) (property_piece (word 0 142 143 (codes "n")) ((get_access (at 0 146 149) None) ∷ (set_access (words.Set (at 0 151 154)) None) ∷ []))) ∷ []))) ∷ (part ([]) (at 0 160 176) (λ f. callable (plain_head kind.Method (word 0 165 169 (codes "main")) f) ([]) (Some (code (at 0 173 176))))) ∷ [])) ∷ []) (([]) ∷ []) (Some (saying ([]) ((any_type None (type.Single (record { name = (name ((word 0 14 20 (codes "Object")) ∷ []) (at 0 14 20)); is_nullable = false; span = (at 0 14 20) })) (at 0 14 20)) ∷ []) Other) ∷ Some (saying ((marked w.Public (at 0 23 29)) ∷ (marked w.Abstract (at 0 30 38)) ∷ []) [] (Called (Some (any_type None type.Void (at 0 39 43))) ([]) ([]))) ∷ Some (saying ((marked w.Public (at 0 50 56)) ∷ (marked w.Abstract (at 0 57 65)) ∷ []) [] (Valued (any_type None (type.Single (record { name = (name ((word 0 66 69 (codes "int")) ∷ []) (at 0 66 69)); is_nullable = false; span = (at 0 66 69) })) (at 0 66 69)) ((accessor.Get (record { modifier = None; is_owned = false; word = (at 0 74 77); body = None }) (at 0 74 78)) ∷ (accessor.Set (record { modifier = None; words = words.Set (at 0 79 82); body = None }) (at 0 79 83)) ∷ []))) ∷ Some (saying ([]) ((any_type None (type.Single (record { name = (name ((word 0 98 104 (codes "Object")) ∷ []) (at 0 98 104)); is_nullable = false; span = (at 0 98 104) })) (at 0 98 104)) ∷ (any_type None (type.Single (record { name = (name ((word 0 106 107 (codes "I")) ∷ []) (at 0 106 107)); is_nullable = false; span = (at 0 106 107) })) (at 0 106 107)) ∷ []) Other) ∷ Some (saying ((marked w.Public (at 0 110 116)) ∷ []) [] (Called (Some (any_type None type.Void (at 0 117 121))) ([]) ([]))) ∷ Some (saying ((marked w.Public (at 0 131 137)) ∷ []) [] (Valued (any_type None (type.Single (record { name = (name ((word 0 138 141 (codes "int")) ∷ []) (at 0 138 141)); is_nullable = false; span = (at 0 138 141) })) (at 0 138 141)) ((accessor.Get (record { modifier = None; is_owned = false; word = (at 0 146 149); body = None }) (at 0 146 150)) ∷ (accessor.Set (record { modifier = None; words = words.Set (at 0 151 154); body = None }) (at 0 151 155)) ∷ []))) ∷ Some (saying ([]) [] (Called (Some (any_type None type.Void (at 0 160 164))) ([]) ([]))) ∷ []) ≡ []
interface_done = refl

-- `interface I : Object { public abstract int f (); } class A : Object { public int f () { } } class B : A, I { } void main () { }`
interface_by_base : faults ((parts ((part ([]) (at 0 0 50) (type_piece kind.Interface (name ((word 0 10 11 (codes "I")) ∷ []) (at 0 10 11)) ((any_type None (type.Single (record { name = (name ((word 0 14 20 (codes "Object")) ∷ []) (at 0 14 20)); is_nullable = false; span = (at 0 14 20) })) (at 0 14 20)) ∷ []) ((part ((marked w.Public (at 0 23 29)) ∷ (marked w.Abstract (at 0 30 38)) ∷ []) (at 0 23 48) (λ f. callable (plain_head kind.Method (word 0 43 44 (codes "f")) f) ([]) None)) ∷ []))) ∷ (part ([]) (at 0 51 91) (type_piece kind.Class (name ((word 0 57 58 (codes "A")) ∷ []) (at 0 57 58)) ((any_type None (type.Single (record { name = (name ((word 0 61 67 (codes "Object")) ∷ []) (at 0 61 67)); is_nullable = false; span = (at 0 61 67) })) (at 0 61 67)) ∷ []) ((part ((marked w.Public (at 0 70 76)) ∷ []) (at 0 70 89) (λ f. callable (plain_head kind.Method (word 0 81 82 (codes "f")) f) ([]) (Some (code (at 0 86 89))))) ∷ []))) ∷ (part ([]) (at 0 92 110) (type_piece kind.Class (name ((word 0 98 99 (codes "B")) ∷ []) (at 0 98 99)) ((any_type None (type.Single (record { name = (name ((word 0 102 103 (codes "A")) ∷ []) (at 0 102 103)); is_nullable = false; span = (at 0 102 103) })) (at 0 102 103)) ∷ (any_type None (type.Single (record { name = (name ((word 0 105 106 (codes "I")) ∷ []) (at 0 105 106)); is_nullable = false; span = (at 0 105 106) })) (at 0 105 106)) ∷ []) ([]))) ∷ (part ([]) (at 0 111 127) (λ f. callable (plain_head kind.Method (word 0 116 120 (codes "main")) f) ([]) (Some (code (at 0 124 127))))) ∷ [])) ∷ []) (([]) ∷ []) (Some (saying ([]) ((any_type None (type.Single (record { name = (name ((word 0 14 20 (codes "Object")) ∷ []) (at 0 14 20)); is_nullable = false; span = (at 0 14 20) })) (at 0 14 20)) ∷ []) Other) ∷ Some (saying ((marked w.Public (at 0 23 29)) ∷ (marked w.Abstract (at 0 30 38)) ∷ []) [] (Called (Some (any_type None (type.Single (record { name = (name ((word 0 39 42 (codes "int")) ∷ []) (at 0 39 42)); is_nullable = false; span = (at 0 39 42) })) (at 0 39 42))) ([]) ([]))) ∷ Some (saying ([]) ((any_type None (type.Single (record { name = (name ((word 0 61 67 (codes "Object")) ∷ []) (at 0 61 67)); is_nullable = false; span = (at 0 61 67) })) (at 0 61 67)) ∷ []) Other) ∷ Some (saying ((marked w.Public (at 0 70 76)) ∷ []) [] (Called (Some (any_type None (type.Single (record { name = (name ((word 0 77 80 (codes "int")) ∷ []) (at 0 77 80)); is_nullable = false; span = (at 0 77 80) })) (at 0 77 80))) ([]) ([]))) ∷ Some (saying ([]) ((any_type None (type.Single (record { name = (name ((word 0 102 103 (codes "A")) ∷ []) (at 0 102 103)); is_nullable = false; span = (at 0 102 103) })) (at 0 102 103)) ∷ (any_type None (type.Single (record { name = (name ((word 0 105 106 (codes "I")) ∷ []) (at 0 105 106)); is_nullable = false; span = (at 0 105 106) })) (at 0 105 106)) ∷ []) Other) ∷ Some (saying ([]) [] (Called (Some (any_type None type.Void (at 0 111 115))) ([]) ([]))) ∷ []) ≡ []
interface_by_base = refl

-- `interface I : Object { public abstract int f (); } class A : Object, I { public void f () { } } void main () { }`
interface_signature : faults ((parts ((part ([]) (at 0 0 50) (type_piece kind.Interface (name ((word 0 10 11 (codes "I")) ∷ []) (at 0 10 11)) ((any_type None (type.Single (record { name = (name ((word 0 14 20 (codes "Object")) ∷ []) (at 0 14 20)); is_nullable = false; span = (at 0 14 20) })) (at 0 14 20)) ∷ []) ((part ((marked w.Public (at 0 23 29)) ∷ (marked w.Abstract (at 0 30 38)) ∷ []) (at 0 23 48) (λ f. callable (plain_head kind.Method (word 0 43 44 (codes "f")) f) ([]) None)) ∷ []))) ∷ (part ([]) (at 0 51 95) (type_piece kind.Class (name ((word 0 57 58 (codes "A")) ∷ []) (at 0 57 58)) ((any_type None (type.Single (record { name = (name ((word 0 61 67 (codes "Object")) ∷ []) (at 0 61 67)); is_nullable = false; span = (at 0 61 67) })) (at 0 61 67)) ∷ (any_type None (type.Single (record { name = (name ((word 0 69 70 (codes "I")) ∷ []) (at 0 69 70)); is_nullable = false; span = (at 0 69 70) })) (at 0 69 70)) ∷ []) ((part ((marked w.Public (at 0 73 79)) ∷ []) (at 0 73 93) (λ f. callable (plain_head kind.Method (word 0 85 86 (codes "f")) f) ([]) (Some (code (at 0 90 93))))) ∷ []))) ∷ (part ([]) (at 0 96 112) (λ f. callable (plain_head kind.Method (word 0 101 105 (codes "main")) f) ([]) (Some (code (at 0 109 112))))) ∷ [])) ∷ []) (([]) ∷ []) (Some (saying ([]) ((any_type None (type.Single (record { name = (name ((word 0 14 20 (codes "Object")) ∷ []) (at 0 14 20)); is_nullable = false; span = (at 0 14 20) })) (at 0 14 20)) ∷ []) Other) ∷ Some (saying ((marked w.Public (at 0 23 29)) ∷ (marked w.Abstract (at 0 30 38)) ∷ []) [] (Called (Some (any_type None (type.Single (record { name = (name ((word 0 39 42 (codes "int")) ∷ []) (at 0 39 42)); is_nullable = false; span = (at 0 39 42) })) (at 0 39 42))) ([]) ([]))) ∷ Some (saying ([]) ((any_type None (type.Single (record { name = (name ((word 0 61 67 (codes "Object")) ∷ []) (at 0 61 67)); is_nullable = false; span = (at 0 61 67) })) (at 0 61 67)) ∷ (any_type None (type.Single (record { name = (name ((word 0 69 70 (codes "I")) ∷ []) (at 0 69 70)); is_nullable = false; span = (at 0 69 70) })) (at 0 69 70)) ∷ []) Other) ∷ Some (saying ((marked w.Public (at 0 73 79)) ∷ []) [] (Called (Some (any_type None type.Void (at 0 80 84))) ([]) ([]))) ∷ Some (saying ([]) [] (Called (Some (any_type None type.Void (at 0 96 100))) ([]) ([]))) ∷ []) ≡ fault T7 (at 0 57 58) ∷ []
interface_signature = refl

-- `interface I : Object { public abstract void f (); } class A : Object, I { public static void f () { } } class B : Object, I { public async void f () { } } void main () { }`
interface_static : faults ((parts ((part ([]) (at 0 0 51) (type_piece kind.Interface (name ((word 0 10 11 (codes "I")) ∷ []) (at 0 10 11)) ((any_type None (type.Single (record { name = (name ((word 0 14 20 (codes "Object")) ∷ []) (at 0 14 20)); is_nullable = false; span = (at 0 14 20) })) (at 0 14 20)) ∷ []) ((part ((marked w.Public (at 0 23 29)) ∷ (marked w.Abstract (at 0 30 38)) ∷ []) (at 0 23 49) (λ f. callable (plain_head kind.Method (word 0 44 45 (codes "f")) f) ([]) None)) ∷ []))) ∷ (part ([]) (at 0 52 103) (type_piece kind.Class (name ((word 0 58 59 (codes "A")) ∷ []) (at 0 58 59)) ((any_type None (type.Single (record { name = (name ((word 0 62 68 (codes "Object")) ∷ []) (at 0 62 68)); is_nullable = false; span = (at 0 62 68) })) (at 0 62 68)) ∷ (any_type None (type.Single (record { name = (name ((word 0 70 71 (codes "I")) ∷ []) (at 0 70 71)); is_nullable = false; span = (at 0 70 71) })) (at 0 70 71)) ∷ []) ((part ((marked w.Public (at 0 74 80)) ∷ (marked w.Static (at 0 81 87)) ∷ []) (at 0 74 101) (λ f. callable (plain_head kind.Method (word 0 93 94 (codes "f")) f) ([]) (Some (code (at 0 98 101))))) ∷ []))) ∷ (part ([]) (at 0 104 154) (type_piece kind.Class (name ((word 0 110 111 (codes "B")) ∷ []) (at 0 110 111)) ((any_type None (type.Single (record { name = (name ((word 0 114 120 (codes "Object")) ∷ []) (at 0 114 120)); is_nullable = false; span = (at 0 114 120) })) (at 0 114 120)) ∷ (any_type None (type.Single (record { name = (name ((word 0 122 123 (codes "I")) ∷ []) (at 0 122 123)); is_nullable = false; span = (at 0 122 123) })) (at 0 122 123)) ∷ []) ((part ((marked w.Public (at 0 126 132)) ∷ (marked w.Async (at 0 133 138)) ∷ []) (at 0 126 152) (λ f. callable (plain_head kind.Method (word 0 144 145 (codes "f")) f) ([]) (Some (code (at 0 149 152))))) ∷ []))) ∷ (part ([]) (at 0 155 171) (λ f. callable (plain_head kind.Method (word 0 160 164 (codes "main")) f) ([]) (Some (code (at 0 168 171))))) ∷ [])) ∷ []) (([]) ∷ []) (Some (saying ([]) ((any_type None (type.Single (record { name = (name ((word 0 14 20 (codes "Object")) ∷ []) (at 0 14 20)); is_nullable = false; span = (at 0 14 20) })) (at 0 14 20)) ∷ []) Other) ∷ Some (saying ((marked w.Public (at 0 23 29)) ∷ (marked w.Abstract (at 0 30 38)) ∷ []) [] (Called (Some (any_type None type.Void (at 0 39 43))) ([]) ([]))) ∷ Some (saying ([]) ((any_type None (type.Single (record { name = (name ((word 0 62 68 (codes "Object")) ∷ []) (at 0 62 68)); is_nullable = false; span = (at 0 62 68) })) (at 0 62 68)) ∷ (any_type None (type.Single (record { name = (name ((word 0 70 71 (codes "I")) ∷ []) (at 0 70 71)); is_nullable = false; span = (at 0 70 71) })) (at 0 70 71)) ∷ []) Other) ∷ Some (saying ((marked w.Public (at 0 74 80)) ∷ (marked w.Static (at 0 81 87)) ∷ []) [] (Called (Some (any_type None type.Void (at 0 88 92))) ([]) ([]))) ∷ Some (saying ([]) ((any_type None (type.Single (record { name = (name ((word 0 114 120 (codes "Object")) ∷ []) (at 0 114 120)); is_nullable = false; span = (at 0 114 120) })) (at 0 114 120)) ∷ (any_type None (type.Single (record { name = (name ((word 0 122 123 (codes "I")) ∷ []) (at 0 122 123)); is_nullable = false; span = (at 0 122 123) })) (at 0 122 123)) ∷ []) Other) ∷ Some (saying ((marked w.Public (at 0 126 132)) ∷ (marked w.Async (at 0 133 138)) ∷ []) [] (Called (Some (any_type None type.Void (at 0 139 143))) ([]) ([]))) ∷ Some (saying ([]) [] (Called (Some (any_type None type.Void (at 0 155 159))) ([]) ([]))) ∷ []) ≡ fault T7 (at 0 58 59) ∷ fault T7 (at 0 110 111) ∷ []
interface_static = refl

-- `interface I : Object { public abstract int n { get; } } class A : Object, I { public int n; } void main () { }`
interface_field : faults ((parts ((part ([]) (at 0 0 55) (type_piece kind.Interface (name ((word 0 10 11 (codes "I")) ∷ []) (at 0 10 11)) ((any_type None (type.Single (record { name = (name ((word 0 14 20 (codes "Object")) ∷ []) (at 0 14 20)); is_nullable = false; span = (at 0 14 20) })) (at 0 14 20)) ∷ []) ((part ((marked w.Public (at 0 23 29)) ∷ (marked w.Abstract (at 0 30 38)) ∷ []) (at 0 23 53) (property_piece (word 0 43 44 (codes "n")) ((get_access (at 0 47 50) None) ∷ []))) ∷ []))) ∷ (part ([]) (at 0 56 93) (type_piece kind.Class (name ((word 0 62 63 (codes "A")) ∷ []) (at 0 62 63)) ((any_type None (type.Single (record { name = (name ((word 0 66 72 (codes "Object")) ∷ []) (at 0 66 72)); is_nullable = false; span = (at 0 66 72) })) (at 0 66 72)) ∷ (any_type None (type.Single (record { name = (name ((word 0 74 75 (codes "I")) ∷ []) (at 0 74 75)); is_nullable = false; span = (at 0 74 75) })) (at 0 74 75)) ∷ []) ((part ((marked w.Public (at 0 78 84)) ∷ []) (at 0 78 91) (field_piece (word 0 89 90 (codes "n")) (any_type None (type.Single (record { name = (name ((word 0 85 88 (codes "int")) ∷ []) (at 0 85 88)); is_nullable = false; span = (at 0 85 88) })) (at 0 85 88)) None)) ∷ []))) ∷ (part ([]) (at 0 94 110) (λ f. callable (plain_head kind.Method (word 0 99 103 (codes "main")) f) ([]) (Some (code (at 0 107 110))))) ∷ [])) ∷ []) (([]) ∷ []) (Some (saying ([]) ((any_type None (type.Single (record { name = (name ((word 0 14 20 (codes "Object")) ∷ []) (at 0 14 20)); is_nullable = false; span = (at 0 14 20) })) (at 0 14 20)) ∷ []) Other) ∷ Some (saying ((marked w.Public (at 0 23 29)) ∷ (marked w.Abstract (at 0 30 38)) ∷ []) [] (Valued (any_type None (type.Single (record { name = (name ((word 0 39 42 (codes "int")) ∷ []) (at 0 39 42)); is_nullable = false; span = (at 0 39 42) })) (at 0 39 42)) ((accessor.Get (record { modifier = None; is_owned = false; word = (at 0 47 50); body = None }) (at 0 47 51)) ∷ []))) ∷ Some (saying ([]) ((any_type None (type.Single (record { name = (name ((word 0 66 72 (codes "Object")) ∷ []) (at 0 66 72)); is_nullable = false; span = (at 0 66 72) })) (at 0 66 72)) ∷ (any_type None (type.Single (record { name = (name ((word 0 74 75 (codes "I")) ∷ []) (at 0 74 75)); is_nullable = false; span = (at 0 74 75) })) (at 0 74 75)) ∷ []) Other) ∷ Some (saying ((marked w.Public (at 0 78 84)) ∷ []) [] Other) ∷ Some (saying ([]) [] (Called (Some (any_type None type.Void (at 0 94 98))) ([]) ([]))) ∷ []) ≡ fault T7 (at 0 62 63) ∷ []
interface_field = refl

-- `interface I : Object { public abstract void f (); } interface J : I { public abstract void g (); } class A : Object, J { public void g () { } } class B : Object, J { public void g () { } public void f () { } } void main () { }`
interface_prerequisite : faults ((parts ((part ([]) (at 0 0 51) (type_piece kind.Interface (name ((word 0 10 11 (codes "I")) ∷ []) (at 0 10 11)) ((any_type None (type.Single (record { name = (name ((word 0 14 20 (codes "Object")) ∷ []) (at 0 14 20)); is_nullable = false; span = (at 0 14 20) })) (at 0 14 20)) ∷ []) ((part ((marked w.Public (at 0 23 29)) ∷ (marked w.Abstract (at 0 30 38)) ∷ []) (at 0 23 49) (λ f. callable (plain_head kind.Method (word 0 44 45 (codes "f")) f) ([]) None)) ∷ []))) ∷ (part ([]) (at 0 52 98) (type_piece kind.Interface (name ((word 0 62 63 (codes "J")) ∷ []) (at 0 62 63)) ((any_type None (type.Single (record { name = (name ((word 0 66 67 (codes "I")) ∷ []) (at 0 66 67)); is_nullable = false; span = (at 0 66 67) })) (at 0 66 67)) ∷ []) ((part ((marked w.Public (at 0 70 76)) ∷ (marked w.Abstract (at 0 77 85)) ∷ []) (at 0 70 96) (λ f. callable (plain_head kind.Method (word 0 91 92 (codes "g")) f) ([]) None)) ∷ []))) ∷ (part ([]) (at 0 99 143) (type_piece kind.Class (name ((word 0 105 106 (codes "A")) ∷ []) (at 0 105 106)) ((any_type None (type.Single (record { name = (name ((word 0 109 115 (codes "Object")) ∷ []) (at 0 109 115)); is_nullable = false; span = (at 0 109 115) })) (at 0 109 115)) ∷ (any_type None (type.Single (record { name = (name ((word 0 117 118 (codes "J")) ∷ []) (at 0 117 118)); is_nullable = false; span = (at 0 117 118) })) (at 0 117 118)) ∷ []) ((part ((marked w.Public (at 0 121 127)) ∷ []) (at 0 121 141) (λ f. callable (plain_head kind.Method (word 0 133 134 (codes "g")) f) ([]) (Some (code (at 0 138 141))))) ∷ []))) ∷ (part ([]) (at 0 144 209) (type_piece kind.Class (name ((word 0 150 151 (codes "B")) ∷ []) (at 0 150 151)) ((any_type None (type.Single (record { name = (name ((word 0 154 160 (codes "Object")) ∷ []) (at 0 154 160)); is_nullable = false; span = (at 0 154 160) })) (at 0 154 160)) ∷ (any_type None (type.Single (record { name = (name ((word 0 162 163 (codes "J")) ∷ []) (at 0 162 163)); is_nullable = false; span = (at 0 162 163) })) (at 0 162 163)) ∷ []) ((part ((marked w.Public (at 0 166 172)) ∷ []) (at 0 166 186) (λ f. callable (plain_head kind.Method (word 0 178 179 (codes "g")) f) ([]) (Some (code (at 0 183 186))))) ∷ (part ((marked w.Public (at 0 187 193)) ∷ []) (at 0 187 207) (λ f. callable (plain_head kind.Method (word 0 199 200 (codes "f")) f) ([]) (Some (code (at 0 204 207))))) ∷ []))) ∷ (part ([]) (at 0 210 226) (λ f. callable (plain_head kind.Method (word 0 215 219 (codes "main")) f) ([]) (Some (code (at 0 223 226))))) ∷ [])) ∷ []) (([]) ∷ []) (Some (saying ([]) ((any_type None (type.Single (record { name = (name ((word 0 14 20 (codes "Object")) ∷ []) (at 0 14 20)); is_nullable = false; span = (at 0 14 20) })) (at 0 14 20)) ∷ []) Other) ∷ Some (saying ((marked w.Public (at 0 23 29)) ∷ (marked w.Abstract (at 0 30 38)) ∷ []) [] (Called (Some (any_type None type.Void (at 0 39 43))) ([]) ([]))) ∷ Some (saying ([]) ((any_type None (type.Single (record { name = (name ((word 0 66 67 (codes "I")) ∷ []) (at 0 66 67)); is_nullable = false; span = (at 0 66 67) })) (at 0 66 67)) ∷ []) Other) ∷ Some (saying ((marked w.Public (at 0 70 76)) ∷ (marked w.Abstract (at 0 77 85)) ∷ []) [] (Called (Some (any_type None type.Void (at 0 86 90))) ([]) ([]))) ∷ Some (saying ([]) ((any_type None (type.Single (record { name = (name ((word 0 109 115 (codes "Object")) ∷ []) (at 0 109 115)); is_nullable = false; span = (at 0 109 115) })) (at 0 109 115)) ∷ (any_type None (type.Single (record { name = (name ((word 0 117 118 (codes "J")) ∷ []) (at 0 117 118)); is_nullable = false; span = (at 0 117 118) })) (at 0 117 118)) ∷ []) Other) ∷ Some (saying ((marked w.Public (at 0 121 127)) ∷ []) [] (Called (Some (any_type None type.Void (at 0 128 132))) ([]) ([]))) ∷ Some (saying ([]) ((any_type None (type.Single (record { name = (name ((word 0 154 160 (codes "Object")) ∷ []) (at 0 154 160)); is_nullable = false; span = (at 0 154 160) })) (at 0 154 160)) ∷ (any_type None (type.Single (record { name = (name ((word 0 162 163 (codes "J")) ∷ []) (at 0 162 163)); is_nullable = false; span = (at 0 162 163) })) (at 0 162 163)) ∷ []) Other) ∷ Some (saying ((marked w.Public (at 0 166 172)) ∷ []) [] (Called (Some (any_type None type.Void (at 0 173 177))) ([]) ([]))) ∷ Some (saying ((marked w.Public (at 0 187 193)) ∷ []) [] (Called (Some (any_type None type.Void (at 0 194 198))) ([]) ([]))) ∷ Some (saying ([]) [] (Called (Some (any_type None type.Void (at 0 210 214))) ([]) ([]))) ∷ []) ≡ fault T7 (at 0 105 106) ∷ []
interface_prerequisite = refl

-- `interface I : Object { public abstract void f (); } abstract class A : Object, I { } class B : A { public void f () { } } class C : A { } void main () { }`
interface_left_by_abstract : faults ((parts ((part ([]) (at 0 0 51) (type_piece kind.Interface (name ((word 0 10 11 (codes "I")) ∷ []) (at 0 10 11)) ((any_type None (type.Single (record { name = (name ((word 0 14 20 (codes "Object")) ∷ []) (at 0 14 20)); is_nullable = false; span = (at 0 14 20) })) (at 0 14 20)) ∷ []) ((part ((marked w.Public (at 0 23 29)) ∷ (marked w.Abstract (at 0 30 38)) ∷ []) (at 0 23 49) (λ f. callable (plain_head kind.Method (word 0 44 45 (codes "f")) f) ([]) None)) ∷ []))) ∷ (part ((marked w.Abstract (at 0 52 60)) ∷ []) (at 0 52 84) (type_piece kind.Class (name ((word 0 67 68 (codes "A")) ∷ []) (at 0 67 68)) ((any_type None (type.Single (record { name = (name ((word 0 71 77 (codes "Object")) ∷ []) (at 0 71 77)); is_nullable = false; span = (at 0 71 77) })) (at 0 71 77)) ∷ (any_type None (type.Single (record { name = (name ((word 0 79 80 (codes "I")) ∷ []) (at 0 79 80)); is_nullable = false; span = (at 0 79 80) })) (at 0 79 80)) ∷ []) ([]))) ∷ (part ([]) (at 0 85 121) (type_piece kind.Class (name ((word 0 91 92 (codes "B")) ∷ []) (at 0 91 92)) ((any_type None (type.Single (record { name = (name ((word 0 95 96 (codes "A")) ∷ []) (at 0 95 96)); is_nullable = false; span = (at 0 95 96) })) (at 0 95 96)) ∷ []) ((part ((marked w.Public (at 0 99 105)) ∷ []) (at 0 99 119) (λ f. callable (plain_head kind.Method (word 0 111 112 (codes "f")) f) ([]) (Some (code (at 0 116 119))))) ∷ []))) ∷ (part ([]) (at 0 122 137) (type_piece kind.Class (name ((word 0 128 129 (codes "C")) ∷ []) (at 0 128 129)) ((any_type None (type.Single (record { name = (name ((word 0 132 133 (codes "A")) ∷ []) (at 0 132 133)); is_nullable = false; span = (at 0 132 133) })) (at 0 132 133)) ∷ []) ([]))) ∷ (part ([]) (at 0 138 154) (λ f. callable (plain_head kind.Method (word 0 143 147 (codes "main")) f) ([]) (Some (code (at 0 151 154))))) ∷ [])) ∷ []) (([]) ∷ []) (Some (saying ([]) ((any_type None (type.Single (record { name = (name ((word 0 14 20 (codes "Object")) ∷ []) (at 0 14 20)); is_nullable = false; span = (at 0 14 20) })) (at 0 14 20)) ∷ []) Other) ∷ Some (saying ((marked w.Public (at 0 23 29)) ∷ (marked w.Abstract (at 0 30 38)) ∷ []) [] (Called (Some (any_type None type.Void (at 0 39 43))) ([]) ([]))) ∷ Some (saying ((marked w.Abstract (at 0 52 60)) ∷ []) ((any_type None (type.Single (record { name = (name ((word 0 71 77 (codes "Object")) ∷ []) (at 0 71 77)); is_nullable = false; span = (at 0 71 77) })) (at 0 71 77)) ∷ (any_type None (type.Single (record { name = (name ((word 0 79 80 (codes "I")) ∷ []) (at 0 79 80)); is_nullable = false; span = (at 0 79 80) })) (at 0 79 80)) ∷ []) Other) ∷ Some (saying ([]) ((any_type None (type.Single (record { name = (name ((word 0 95 96 (codes "A")) ∷ []) (at 0 95 96)); is_nullable = false; span = (at 0 95 96) })) (at 0 95 96)) ∷ []) Other) ∷ Some (saying ((marked w.Public (at 0 99 105)) ∷ []) [] (Called (Some (any_type None type.Void (at 0 106 110))) ([]) ([]))) ∷ Some (saying ([]) ((any_type None (type.Single (record { name = (name ((word 0 132 133 (codes "A")) ∷ []) (at 0 132 133)); is_nullable = false; span = (at 0 132 133) })) (at 0 132 133)) ∷ []) Other) ∷ Some (saying ([]) [] (Called (Some (any_type None type.Void (at 0 138 142))) ([]) ([]))) ∷ []) ≡ fault T7 (at 0 128 129) ∷ []
interface_left_by_abstract = refl

-- `interface I : Object { public abstract void f (); } abstract class A : Object, I { public abstract void f (); } class B : A { } class C : A { public override void f () { } } void main () { }`
interface_by_abstract : faults ((parts ((part ([]) (at 0 0 51) (type_piece kind.Interface (name ((word 0 10 11 (codes "I")) ∷ []) (at 0 10 11)) ((any_type None (type.Single (record { name = (name ((word 0 14 20 (codes "Object")) ∷ []) (at 0 14 20)); is_nullable = false; span = (at 0 14 20) })) (at 0 14 20)) ∷ []) ((part ((marked w.Public (at 0 23 29)) ∷ (marked w.Abstract (at 0 30 38)) ∷ []) (at 0 23 49) (λ f. callable (plain_head kind.Method (word 0 44 45 (codes "f")) f) ([]) None)) ∷ []))) ∷ (part ((marked w.Abstract (at 0 52 60)) ∷ []) (at 0 52 111) (type_piece kind.Class (name ((word 0 67 68 (codes "A")) ∷ []) (at 0 67 68)) ((any_type None (type.Single (record { name = (name ((word 0 71 77 (codes "Object")) ∷ []) (at 0 71 77)); is_nullable = false; span = (at 0 71 77) })) (at 0 71 77)) ∷ (any_type None (type.Single (record { name = (name ((word 0 79 80 (codes "I")) ∷ []) (at 0 79 80)); is_nullable = false; span = (at 0 79 80) })) (at 0 79 80)) ∷ []) ((part ((marked w.Public (at 0 83 89)) ∷ (marked w.Abstract (at 0 90 98)) ∷ []) (at 0 83 109) (λ f. callable (plain_head kind.Method (word 0 104 105 (codes "f")) f) ([]) None)) ∷ []))) ∷ (part ([]) (at 0 112 127) (type_piece kind.Class (name ((word 0 118 119 (codes "B")) ∷ []) (at 0 118 119)) ((any_type None (type.Single (record { name = (name ((word 0 122 123 (codes "A")) ∷ []) (at 0 122 123)); is_nullable = false; span = (at 0 122 123) })) (at 0 122 123)) ∷ []) ([]))) ∷ (part ([]) (at 0 128 173) (type_piece kind.Class (name ((word 0 134 135 (codes "C")) ∷ []) (at 0 134 135)) ((any_type None (type.Single (record { name = (name ((word 0 138 139 (codes "A")) ∷ []) (at 0 138 139)); is_nullable = false; span = (at 0 138 139) })) (at 0 138 139)) ∷ []) ((part ((marked w.Public (at 0 142 148)) ∷ (marked w.Override (at 0 149 157)) ∷ []) (at 0 142 171) (λ f. callable (plain_head kind.Method (word 0 163 164 (codes "f")) f) ([]) (Some (code (at 0 168 171))))) ∷ []))) ∷ (part ([]) (at 0 174 190) (λ f. callable (plain_head kind.Method (word 0 179 183 (codes "main")) f) ([]) (Some (code (at 0 187 190))))) ∷ [])) ∷ []) (([]) ∷ []) (Some (saying ([]) ((any_type None (type.Single (record { name = (name ((word 0 14 20 (codes "Object")) ∷ []) (at 0 14 20)); is_nullable = false; span = (at 0 14 20) })) (at 0 14 20)) ∷ []) Other) ∷ Some (saying ((marked w.Public (at 0 23 29)) ∷ (marked w.Abstract (at 0 30 38)) ∷ []) [] (Called (Some (any_type None type.Void (at 0 39 43))) ([]) ([]))) ∷ Some (saying ((marked w.Abstract (at 0 52 60)) ∷ []) ((any_type None (type.Single (record { name = (name ((word 0 71 77 (codes "Object")) ∷ []) (at 0 71 77)); is_nullable = false; span = (at 0 71 77) })) (at 0 71 77)) ∷ (any_type None (type.Single (record { name = (name ((word 0 79 80 (codes "I")) ∷ []) (at 0 79 80)); is_nullable = false; span = (at 0 79 80) })) (at 0 79 80)) ∷ []) Other) ∷ Some (saying ((marked w.Public (at 0 83 89)) ∷ (marked w.Abstract (at 0 90 98)) ∷ []) [] (Called (Some (any_type None type.Void (at 0 99 103))) ([]) ([]))) ∷ Some (saying ([]) ((any_type None (type.Single (record { name = (name ((word 0 122 123 (codes "A")) ∷ []) (at 0 122 123)); is_nullable = false; span = (at 0 122 123) })) (at 0 122 123)) ∷ []) Other) ∷ Some (saying ([]) ((any_type None (type.Single (record { name = (name ((word 0 138 139 (codes "A")) ∷ []) (at 0 138 139)); is_nullable = false; span = (at 0 138 139) })) (at 0 138 139)) ∷ []) Other) ∷ Some (saying ((marked w.Public (at 0 142 148)) ∷ (marked w.Override (at 0 149 157)) ∷ []) [] (Called (Some (any_type None type.Void (at 0 158 162))) ([]) ([]))) ∷ Some (saying ([]) [] (Called (Some (any_type None type.Void (at 0 174 178))) ([]) ([]))) ∷ []) ≡ fault T7 (at 0 118 119) ∷ []
interface_by_abstract = refl

-- `interface I : Object { public abstract void f (Missing x); } class A : Object, I { public int f () { } } void main () { }`
interface_unknown : faults ((parts ((part ([]) (at 0 0 60) (type_piece kind.Interface (name ((word 0 10 11 (codes "I")) ∷ []) (at 0 10 11)) ((any_type None (type.Single (record { name = (name ((word 0 14 20 (codes "Object")) ∷ []) (at 0 14 20)); is_nullable = false; span = (at 0 14 20) })) (at 0 14 20)) ∷ []) ((part ((marked w.Public (at 0 23 29)) ∷ (marked w.Abstract (at 0 30 38)) ∷ []) (at 0 23 58) (λ f. callable (plain_head kind.Method (word 0 44 45 (codes "f")) f) ((parameter_piece (word 0 55 56 (codes "x")) None) ∷ []) None)) ∷ []))) ∷ (part ([]) (at 0 61 104) (type_piece kind.Class (name ((word 0 67 68 (codes "A")) ∷ []) (at 0 67 68)) ((any_type None (type.Single (record { name = (name ((word 0 71 77 (codes "Object")) ∷ []) (at 0 71 77)); is_nullable = false; span = (at 0 71 77) })) (at 0 71 77)) ∷ (any_type None (type.Single (record { name = (name ((word 0 79 80 (codes "I")) ∷ []) (at 0 79 80)); is_nullable = false; span = (at 0 79 80) })) (at 0 79 80)) ∷ []) ((part ((marked w.Public (at 0 83 89)) ∷ []) (at 0 83 102) (λ f. callable (plain_head kind.Method (word 0 94 95 (codes "f")) f) ([]) (Some (code (at 0 99 102))))) ∷ []))) ∷ (part ([]) (at 0 105 121) (λ f. callable (plain_head kind.Method (word 0 110 114 (codes "main")) f) ([]) (Some (code (at 0 118 121))))) ∷ [])) ∷ []) (([]) ∷ []) (Some (saying ([]) ((any_type None (type.Single (record { name = (name ((word 0 14 20 (codes "Object")) ∷ []) (at 0 14 20)); is_nullable = false; span = (at 0 14 20) })) (at 0 14 20)) ∷ []) Other) ∷ Some (saying ((marked w.Public (at 0 23 29)) ∷ (marked w.Abstract (at 0 30 38)) ∷ []) [] (Called (Some (any_type None type.Void (at 0 39 43))) ((taken None (any_type None (type.Single (record { name = (name ((word 0 47 54 (codes "Missing")) ∷ []) (at 0 47 54)); is_nullable = false; span = (at 0 47 54) })) (at 0 47 54)) (word 0 55 56 (codes "x")) (at 0 47 56)) ∷ []) ([]))) ∷ None ∷ Some (saying ([]) ((any_type None (type.Single (record { name = (name ((word 0 71 77 (codes "Object")) ∷ []) (at 0 71 77)); is_nullable = false; span = (at 0 71 77) })) (at 0 71 77)) ∷ (any_type None (type.Single (record { name = (name ((word 0 79 80 (codes "I")) ∷ []) (at 0 79 80)); is_nullable = false; span = (at 0 79 80) })) (at 0 79 80)) ∷ []) Other) ∷ Some (saying ((marked w.Public (at 0 83 89)) ∷ []) [] (Called (Some (any_type None (type.Single (record { name = (name ((word 0 90 93 (codes "int")) ∷ []) (at 0 90 93)); is_nullable = false; span = (at 0 90 93) })) (at 0 90 93))) ([]) ([]))) ∷ Some (saying ([]) [] (Called (Some (any_type None type.Void (at 0 105 109))) ([]) ([]))) ∷ []) ≡ []
interface_unknown = refl

-- `interface I : Object { public abstract void f (); } class A : Object { public virtual void f () { } } class B : A, I { public override int f () { } } void main () { }`
interface_wrong_override : faults ((parts ((part ([]) (at 0 0 51) (type_piece kind.Interface (name ((word 0 10 11 (codes "I")) ∷ []) (at 0 10 11)) ((any_type None (type.Single (record { name = (name ((word 0 14 20 (codes "Object")) ∷ []) (at 0 14 20)); is_nullable = false; span = (at 0 14 20) })) (at 0 14 20)) ∷ []) ((part ((marked w.Public (at 0 23 29)) ∷ (marked w.Abstract (at 0 30 38)) ∷ []) (at 0 23 49) (λ f. callable (plain_head kind.Method (word 0 44 45 (codes "f")) f) ([]) None)) ∷ []))) ∷ (part ([]) (at 0 52 101) (type_piece kind.Class (name ((word 0 58 59 (codes "A")) ∷ []) (at 0 58 59)) ((any_type None (type.Single (record { name = (name ((word 0 62 68 (codes "Object")) ∷ []) (at 0 62 68)); is_nullable = false; span = (at 0 62 68) })) (at 0 62 68)) ∷ []) ((part ((marked w.Public (at 0 71 77)) ∷ (marked w.Virtual (at 0 78 85)) ∷ []) (at 0 71 99) (λ f. callable (plain_head kind.Method (word 0 91 92 (codes "f")) f) ([]) (Some (code (at 0 96 99))))) ∷ []))) ∷ (part ([]) (at 0 102 149) (type_piece kind.Class (name ((word 0 108 109 (codes "B")) ∷ []) (at 0 108 109)) ((any_type None (type.Single (record { name = (name ((word 0 112 113 (codes "A")) ∷ []) (at 0 112 113)); is_nullable = false; span = (at 0 112 113) })) (at 0 112 113)) ∷ (any_type None (type.Single (record { name = (name ((word 0 115 116 (codes "I")) ∷ []) (at 0 115 116)); is_nullable = false; span = (at 0 115 116) })) (at 0 115 116)) ∷ []) ((part ((marked w.Public (at 0 119 125)) ∷ (marked w.Override (at 0 126 134)) ∷ []) (at 0 119 147) (λ f. callable (plain_head kind.Method (word 0 139 140 (codes "f")) f) ([]) (Some (code (at 0 144 147))))) ∷ []))) ∷ (part ([]) (at 0 150 166) (λ f. callable (plain_head kind.Method (word 0 155 159 (codes "main")) f) ([]) (Some (code (at 0 163 166))))) ∷ [])) ∷ []) (([]) ∷ []) (Some (saying ([]) ((any_type None (type.Single (record { name = (name ((word 0 14 20 (codes "Object")) ∷ []) (at 0 14 20)); is_nullable = false; span = (at 0 14 20) })) (at 0 14 20)) ∷ []) Other) ∷ Some (saying ((marked w.Public (at 0 23 29)) ∷ (marked w.Abstract (at 0 30 38)) ∷ []) [] (Called (Some (any_type None type.Void (at 0 39 43))) ([]) ([]))) ∷ Some (saying ([]) ((any_type None (type.Single (record { name = (name ((word 0 62 68 (codes "Object")) ∷ []) (at 0 62 68)); is_nullable = false; span = (at 0 62 68) })) (at 0 62 68)) ∷ []) Other) ∷ Some (saying ((marked w.Public (at 0 71 77)) ∷ (marked w.Virtual (at 0 78 85)) ∷ []) [] (Called (Some (any_type None type.Void (at 0 86 90))) ([]) ([]))) ∷ Some (saying ([]) ((any_type None (type.Single (record { name = (name ((word 0 112 113 (codes "A")) ∷ []) (at 0 112 113)); is_nullable = false; span = (at 0 112 113) })) (at 0 112 113)) ∷ (any_type None (type.Single (record { name = (name ((word 0 115 116 (codes "I")) ∷ []) (at 0 115 116)); is_nullable = false; span = (at 0 115 116) })) (at 0 115 116)) ∷ []) Other) ∷ Some (saying ((marked w.Public (at 0 119 125)) ∷ (marked w.Override (at 0 126 134)) ∷ []) [] (Called (Some (any_type None (type.Single (record { name = (name ((word 0 135 138 (codes "int")) ∷ []) (at 0 135 138)); is_nullable = false; span = (at 0 135 138) })) (at 0 135 138))) ([]) ([]))) ∷ Some (saying ([]) [] (Called (Some (any_type None type.Void (at 0 150 154))) ([]) ([]))) ∷ []) ≡ fault T6 (at 0 139 140) ∷ []
interface_wrong_override = refl

-- 4. Base classes, slots, and the member that is reached. The first declaration of a program has the number 65.

-- `class A : Object { public virtual int f () { } } class B : A { public override int f () { } } class C : B { }`
abbrev overriding : Program
overriding = sample ((parts ((part ([]) (at 0 0 48) (type_piece kind.Class (name ((word 0 6 7 (codes "A")) ∷ []) (at 0 6 7)) ((any_type None (type.Single (record { name = (name ((word 0 10 16 (codes "Object")) ∷ []) (at 0 10 16)); is_nullable = false; span = (at 0 10 16) })) (at 0 10 16)) ∷ []) ((part ((marked w.Public (at 0 19 25)) ∷ (marked w.Virtual (at 0 26 33)) ∷ []) (at 0 19 46) (λ f. callable (plain_head kind.Method (word 0 38 39 (codes "f")) f) ([]) (Some (code (at 0 43 46))))) ∷ []))) ∷ (part ([]) (at 0 49 93) (type_piece kind.Class (name ((word 0 55 56 (codes "B")) ∷ []) (at 0 55 56)) ((any_type None (type.Single (record { name = (name ((word 0 59 60 (codes "A")) ∷ []) (at 0 59 60)); is_nullable = false; span = (at 0 59 60) })) (at 0 59 60)) ∷ []) ((part ((marked w.Public (at 0 63 69)) ∷ (marked w.Override (at 0 70 78)) ∷ []) (at 0 63 91) (λ f. callable (plain_head kind.Method (word 0 83 84 (codes "f")) f) ([]) (Some (code (at 0 88 91))))) ∷ []))) ∷ (part ([]) (at 0 94 109) (type_piece kind.Class (name ((word 0 100 101 (codes "C")) ∷ []) (at 0 100 101)) ((any_type None (type.Single (record { name = (name ((word 0 104 105 (codes "B")) ∷ []) (at 0 104 105)); is_nullable = false; span = (at 0 104 105) })) (at 0 104 105)) ∷ []) ([]))) ∷ [])) ∷ []) (([]) ∷ []) (Some (saying ([]) ((any_type None (type.Single (record { name = (name ((word 0 10 16 (codes "Object")) ∷ []) (at 0 10 16)); is_nullable = false; span = (at 0 10 16) })) (at 0 10 16)) ∷ []) Other) ∷ Some (saying ((marked w.Public (at 0 19 25)) ∷ (marked w.Virtual (at 0 26 33)) ∷ []) [] (Called (Some (any_type None (type.Single (record { name = (name ((word 0 34 37 (codes "int")) ∷ []) (at 0 34 37)); is_nullable = false; span = (at 0 34 37) })) (at 0 34 37))) ([]) ([]))) ∷ Some (saying ([]) ((any_type None (type.Single (record { name = (name ((word 0 59 60 (codes "A")) ∷ []) (at 0 59 60)); is_nullable = false; span = (at 0 59 60) })) (at 0 59 60)) ∷ []) Other) ∷ Some (saying ((marked w.Public (at 0 63 69)) ∷ (marked w.Override (at 0 70 78)) ∷ []) [] (Called (Some (any_type None (type.Single (record { name = (name ((word 0 79 82 (codes "int")) ∷ []) (at 0 79 82)); is_nullable = false; span = (at 0 79 82) })) (at 0 79 82))) ([]) ([]))) ∷ Some (saying ([]) ((any_type None (type.Single (record { name = (name ((word 0 104 105 (codes "B")) ∷ []) (at 0 104 105)); is_nullable = false; span = (at 0 104 105) })) (at 0 104 105)) ∷ []) Other) ∷ [])

overriding_chain : chain overriding 69 ≡ 67 ∷ 65 ∷ 22 ∷ []
overriding_chain = refl

overriding_slots : slots overriding 69 ≡ 66 ∷ []
overriding_slots = refl

overriding_reached : implementor overriding 69 66 ≡ Some 68
overriding_reached = refl

overriding_base : implementor overriding 65 66 ≡ Some 66
overriding_base = refl

overriding_no_slot : implementor overriding 22 66 ≡ None
overriding_no_slot = refl

overriding_no_introduction : implementor overriding 69 68 ≡ None
overriding_no_introduction = refl

overriding_slot : slot_of overriding 69 68 ≡ Some 66
overriding_slot = refl

overriding_not_seen : slot_of overriding 65 68 ≡ None
overriding_not_seen = refl

-- the slot of an interface is fixed in the class that lists it

-- `interface I : Object { public abstract int f (); } class A : Object, I { public int f () { } } class B : A { public int f () { } }`
abbrev fixed : Program
fixed = sample ((parts ((part ([]) (at 0 0 50) (type_piece kind.Interface (name ((word 0 10 11 (codes "I")) ∷ []) (at 0 10 11)) ((any_type None (type.Single (record { name = (name ((word 0 14 20 (codes "Object")) ∷ []) (at 0 14 20)); is_nullable = false; span = (at 0 14 20) })) (at 0 14 20)) ∷ []) ((part ((marked w.Public (at 0 23 29)) ∷ (marked w.Abstract (at 0 30 38)) ∷ []) (at 0 23 48) (λ f. callable (plain_head kind.Method (word 0 43 44 (codes "f")) f) ([]) None)) ∷ []))) ∷ (part ([]) (at 0 51 94) (type_piece kind.Class (name ((word 0 57 58 (codes "A")) ∷ []) (at 0 57 58)) ((any_type None (type.Single (record { name = (name ((word 0 61 67 (codes "Object")) ∷ []) (at 0 61 67)); is_nullable = false; span = (at 0 61 67) })) (at 0 61 67)) ∷ (any_type None (type.Single (record { name = (name ((word 0 69 70 (codes "I")) ∷ []) (at 0 69 70)); is_nullable = false; span = (at 0 69 70) })) (at 0 69 70)) ∷ []) ((part ((marked w.Public (at 0 73 79)) ∷ []) (at 0 73 92) (λ f. callable (plain_head kind.Method (word 0 84 85 (codes "f")) f) ([]) (Some (code (at 0 89 92))))) ∷ []))) ∷ (part ([]) (at 0 95 130) (type_piece kind.Class (name ((word 0 101 102 (codes "B")) ∷ []) (at 0 101 102)) ((any_type None (type.Single (record { name = (name ((word 0 105 106 (codes "A")) ∷ []) (at 0 105 106)); is_nullable = false; span = (at 0 105 106) })) (at 0 105 106)) ∷ []) ((part ((marked w.Public (at 0 109 115)) ∷ []) (at 0 109 128) (λ f. callable (plain_head kind.Method (word 0 120 121 (codes "f")) f) ([]) (Some (code (at 0 125 128))))) ∷ []))) ∷ [])) ∷ []) (([]) ∷ []) (Some (saying ([]) ((any_type None (type.Single (record { name = (name ((word 0 14 20 (codes "Object")) ∷ []) (at 0 14 20)); is_nullable = false; span = (at 0 14 20) })) (at 0 14 20)) ∷ []) Other) ∷ Some (saying ((marked w.Public (at 0 23 29)) ∷ (marked w.Abstract (at 0 30 38)) ∷ []) [] (Called (Some (any_type None (type.Single (record { name = (name ((word 0 39 42 (codes "int")) ∷ []) (at 0 39 42)); is_nullable = false; span = (at 0 39 42) })) (at 0 39 42))) ([]) ([]))) ∷ Some (saying ([]) ((any_type None (type.Single (record { name = (name ((word 0 61 67 (codes "Object")) ∷ []) (at 0 61 67)); is_nullable = false; span = (at 0 61 67) })) (at 0 61 67)) ∷ (any_type None (type.Single (record { name = (name ((word 0 69 70 (codes "I")) ∷ []) (at 0 69 70)); is_nullable = false; span = (at 0 69 70) })) (at 0 69 70)) ∷ []) Other) ∷ Some (saying ((marked w.Public (at 0 73 79)) ∷ []) [] (Called (Some (any_type None (type.Single (record { name = (name ((word 0 80 83 (codes "int")) ∷ []) (at 0 80 83)); is_nullable = false; span = (at 0 80 83) })) (at 0 80 83))) ([]) ([]))) ∷ Some (saying ([]) ((any_type None (type.Single (record { name = (name ((word 0 105 106 (codes "A")) ∷ []) (at 0 105 106)); is_nullable = false; span = (at 0 105 106) })) (at 0 105 106)) ∷ []) Other) ∷ Some (saying ((marked w.Public (at 0 109 115)) ∷ []) [] (Called (Some (any_type None (type.Single (record { name = (name ((word 0 116 119 (codes "int")) ∷ []) (at 0 116 119)); is_nullable = false; span = (at 0 116 119) })) (at 0 116 119))) ([]) ([]))) ∷ [])

fixed_there : implementor fixed 67 66 ≡ Some 68
fixed_there = refl

fixed_below : implementor fixed 69 66 ≡ Some 68
fixed_below = refl

fixed_slots : slots fixed 69 ≡ 66 ∷ []
fixed_slots = refl

fixed_plain : slot_of fixed 69 70 ≡ None
fixed_plain = refl

fixed_in_interface : implementor fixed 65 66 ≡ None
fixed_in_interface = refl

fixed_slot : slot_of fixed 65 66 ≡ Some 66
fixed_slot = refl

fixed_object : lineage fixed 65 ≡ 65 ∷ 22 ∷ []
fixed_object = refl

-- a class that lists it again has its own

-- `interface I : Object { public abstract int f (); } class A : Object, I { public int f () { } } class B : A, I { public int f () { } }`
abbrev again : Program
again = sample ((parts ((part ([]) (at 0 0 50) (type_piece kind.Interface (name ((word 0 10 11 (codes "I")) ∷ []) (at 0 10 11)) ((any_type None (type.Single (record { name = (name ((word 0 14 20 (codes "Object")) ∷ []) (at 0 14 20)); is_nullable = false; span = (at 0 14 20) })) (at 0 14 20)) ∷ []) ((part ((marked w.Public (at 0 23 29)) ∷ (marked w.Abstract (at 0 30 38)) ∷ []) (at 0 23 48) (λ f. callable (plain_head kind.Method (word 0 43 44 (codes "f")) f) ([]) None)) ∷ []))) ∷ (part ([]) (at 0 51 94) (type_piece kind.Class (name ((word 0 57 58 (codes "A")) ∷ []) (at 0 57 58)) ((any_type None (type.Single (record { name = (name ((word 0 61 67 (codes "Object")) ∷ []) (at 0 61 67)); is_nullable = false; span = (at 0 61 67) })) (at 0 61 67)) ∷ (any_type None (type.Single (record { name = (name ((word 0 69 70 (codes "I")) ∷ []) (at 0 69 70)); is_nullable = false; span = (at 0 69 70) })) (at 0 69 70)) ∷ []) ((part ((marked w.Public (at 0 73 79)) ∷ []) (at 0 73 92) (λ f. callable (plain_head kind.Method (word 0 84 85 (codes "f")) f) ([]) (Some (code (at 0 89 92))))) ∷ []))) ∷ (part ([]) (at 0 95 133) (type_piece kind.Class (name ((word 0 101 102 (codes "B")) ∷ []) (at 0 101 102)) ((any_type None (type.Single (record { name = (name ((word 0 105 106 (codes "A")) ∷ []) (at 0 105 106)); is_nullable = false; span = (at 0 105 106) })) (at 0 105 106)) ∷ (any_type None (type.Single (record { name = (name ((word 0 108 109 (codes "I")) ∷ []) (at 0 108 109)); is_nullable = false; span = (at 0 108 109) })) (at 0 108 109)) ∷ []) ((part ((marked w.Public (at 0 112 118)) ∷ []) (at 0 112 131) (λ f. callable (plain_head kind.Method (word 0 123 124 (codes "f")) f) ([]) (Some (code (at 0 128 131))))) ∷ []))) ∷ [])) ∷ []) (([]) ∷ []) (Some (saying ([]) ((any_type None (type.Single (record { name = (name ((word 0 14 20 (codes "Object")) ∷ []) (at 0 14 20)); is_nullable = false; span = (at 0 14 20) })) (at 0 14 20)) ∷ []) Other) ∷ Some (saying ((marked w.Public (at 0 23 29)) ∷ (marked w.Abstract (at 0 30 38)) ∷ []) [] (Called (Some (any_type None (type.Single (record { name = (name ((word 0 39 42 (codes "int")) ∷ []) (at 0 39 42)); is_nullable = false; span = (at 0 39 42) })) (at 0 39 42))) ([]) ([]))) ∷ Some (saying ([]) ((any_type None (type.Single (record { name = (name ((word 0 61 67 (codes "Object")) ∷ []) (at 0 61 67)); is_nullable = false; span = (at 0 61 67) })) (at 0 61 67)) ∷ (any_type None (type.Single (record { name = (name ((word 0 69 70 (codes "I")) ∷ []) (at 0 69 70)); is_nullable = false; span = (at 0 69 70) })) (at 0 69 70)) ∷ []) Other) ∷ Some (saying ((marked w.Public (at 0 73 79)) ∷ []) [] (Called (Some (any_type None (type.Single (record { name = (name ((word 0 80 83 (codes "int")) ∷ []) (at 0 80 83)); is_nullable = false; span = (at 0 80 83) })) (at 0 80 83))) ([]) ([]))) ∷ Some (saying ([]) ((any_type None (type.Single (record { name = (name ((word 0 105 106 (codes "A")) ∷ []) (at 0 105 106)); is_nullable = false; span = (at 0 105 106) })) (at 0 105 106)) ∷ (any_type None (type.Single (record { name = (name ((word 0 108 109 (codes "I")) ∷ []) (at 0 108 109)); is_nullable = false; span = (at 0 108 109) })) (at 0 108 109)) ∷ []) Other) ∷ Some (saying ((marked w.Public (at 0 112 118)) ∷ []) [] (Called (Some (any_type None (type.Single (record { name = (name ((word 0 119 122 (codes "int")) ∷ []) (at 0 119 122)); is_nullable = false; span = (at 0 119 122) })) (at 0 119 122))) ([]) ([]))) ∷ [])

again_above : implementor again 67 66 ≡ Some 68
again_above = refl

again_below : implementor again 69 66 ≡ Some 70
again_below = refl

-- an override takes the place of what it overrides in each slot

-- `interface I : Object { public abstract int f (); } class A : Object, I { public virtual int f () { } } class B : A { public override int f () { } }`
abbrev both : Program
both = sample ((parts ((part ([]) (at 0 0 50) (type_piece kind.Interface (name ((word 0 10 11 (codes "I")) ∷ []) (at 0 10 11)) ((any_type None (type.Single (record { name = (name ((word 0 14 20 (codes "Object")) ∷ []) (at 0 14 20)); is_nullable = false; span = (at 0 14 20) })) (at 0 14 20)) ∷ []) ((part ((marked w.Public (at 0 23 29)) ∷ (marked w.Abstract (at 0 30 38)) ∷ []) (at 0 23 48) (λ f. callable (plain_head kind.Method (word 0 43 44 (codes "f")) f) ([]) None)) ∷ []))) ∷ (part ([]) (at 0 51 102) (type_piece kind.Class (name ((word 0 57 58 (codes "A")) ∷ []) (at 0 57 58)) ((any_type None (type.Single (record { name = (name ((word 0 61 67 (codes "Object")) ∷ []) (at 0 61 67)); is_nullable = false; span = (at 0 61 67) })) (at 0 61 67)) ∷ (any_type None (type.Single (record { name = (name ((word 0 69 70 (codes "I")) ∷ []) (at 0 69 70)); is_nullable = false; span = (at 0 69 70) })) (at 0 69 70)) ∷ []) ((part ((marked w.Public (at 0 73 79)) ∷ (marked w.Virtual (at 0 80 87)) ∷ []) (at 0 73 100) (λ f. callable (plain_head kind.Method (word 0 92 93 (codes "f")) f) ([]) (Some (code (at 0 97 100))))) ∷ []))) ∷ (part ([]) (at 0 103 147) (type_piece kind.Class (name ((word 0 109 110 (codes "B")) ∷ []) (at 0 109 110)) ((any_type None (type.Single (record { name = (name ((word 0 113 114 (codes "A")) ∷ []) (at 0 113 114)); is_nullable = false; span = (at 0 113 114) })) (at 0 113 114)) ∷ []) ((part ((marked w.Public (at 0 117 123)) ∷ (marked w.Override (at 0 124 132)) ∷ []) (at 0 117 145) (λ f. callable (plain_head kind.Method (word 0 137 138 (codes "f")) f) ([]) (Some (code (at 0 142 145))))) ∷ []))) ∷ [])) ∷ []) (([]) ∷ []) (Some (saying ([]) ((any_type None (type.Single (record { name = (name ((word 0 14 20 (codes "Object")) ∷ []) (at 0 14 20)); is_nullable = false; span = (at 0 14 20) })) (at 0 14 20)) ∷ []) Other) ∷ Some (saying ((marked w.Public (at 0 23 29)) ∷ (marked w.Abstract (at 0 30 38)) ∷ []) [] (Called (Some (any_type None (type.Single (record { name = (name ((word 0 39 42 (codes "int")) ∷ []) (at 0 39 42)); is_nullable = false; span = (at 0 39 42) })) (at 0 39 42))) ([]) ([]))) ∷ Some (saying ([]) ((any_type None (type.Single (record { name = (name ((word 0 61 67 (codes "Object")) ∷ []) (at 0 61 67)); is_nullable = false; span = (at 0 61 67) })) (at 0 61 67)) ∷ (any_type None (type.Single (record { name = (name ((word 0 69 70 (codes "I")) ∷ []) (at 0 69 70)); is_nullable = false; span = (at 0 69 70) })) (at 0 69 70)) ∷ []) Other) ∷ Some (saying ((marked w.Public (at 0 73 79)) ∷ (marked w.Virtual (at 0 80 87)) ∷ []) [] (Called (Some (any_type None (type.Single (record { name = (name ((word 0 88 91 (codes "int")) ∷ []) (at 0 88 91)); is_nullable = false; span = (at 0 88 91) })) (at 0 88 91))) ([]) ([]))) ∷ Some (saying ([]) ((any_type None (type.Single (record { name = (name ((word 0 113 114 (codes "A")) ∷ []) (at 0 113 114)); is_nullable = false; span = (at 0 113 114) })) (at 0 113 114)) ∷ []) Other) ∷ Some (saying ((marked w.Public (at 0 117 123)) ∷ (marked w.Override (at 0 124 132)) ∷ []) [] (Called (Some (any_type None (type.Single (record { name = (name ((word 0 133 136 (codes "int")) ∷ []) (at 0 133 136)); is_nullable = false; span = (at 0 133 136) })) (at 0 133 136))) ([]) ([]))) ∷ [])

both_interface : implementor both 69 66 ≡ Some 70
both_interface = refl

both_class : implementor both 69 68 ≡ Some 70
both_class = refl

both_slot : slot_of both 69 70 ≡ Some 68
both_slot = refl

both_slots : slots both 69 ≡ 68 ∷ 66 ∷ []
both_slots = refl

-- a member of the name that is virtual anew has a slot of its own

-- `abstract class A : Object { public abstract void f (); } class B : A { public override void f () { } } class C : B { public virtual void f () { } } class D : C { public override void f () { } }`
abbrev anew : Program
anew = sample ((parts ((part ((marked w.Abstract (at 0 0 8)) ∷ []) (at 0 0 56) (type_piece kind.Class (name ((word 0 15 16 (codes "A")) ∷ []) (at 0 15 16)) ((any_type None (type.Single (record { name = (name ((word 0 19 25 (codes "Object")) ∷ []) (at 0 19 25)); is_nullable = false; span = (at 0 19 25) })) (at 0 19 25)) ∷ []) ((part ((marked w.Public (at 0 28 34)) ∷ (marked w.Abstract (at 0 35 43)) ∷ []) (at 0 28 54) (λ f. callable (plain_head kind.Method (word 0 49 50 (codes "f")) f) ([]) None)) ∷ []))) ∷ (part ([]) (at 0 57 102) (type_piece kind.Class (name ((word 0 63 64 (codes "B")) ∷ []) (at 0 63 64)) ((any_type None (type.Single (record { name = (name ((word 0 67 68 (codes "A")) ∷ []) (at 0 67 68)); is_nullable = false; span = (at 0 67 68) })) (at 0 67 68)) ∷ []) ((part ((marked w.Public (at 0 71 77)) ∷ (marked w.Override (at 0 78 86)) ∷ []) (at 0 71 100) (λ f. callable (plain_head kind.Method (word 0 92 93 (codes "f")) f) ([]) (Some (code (at 0 97 100))))) ∷ []))) ∷ (part ([]) (at 0 103 147) (type_piece kind.Class (name ((word 0 109 110 (codes "C")) ∷ []) (at 0 109 110)) ((any_type None (type.Single (record { name = (name ((word 0 113 114 (codes "B")) ∷ []) (at 0 113 114)); is_nullable = false; span = (at 0 113 114) })) (at 0 113 114)) ∷ []) ((part ((marked w.Public (at 0 117 123)) ∷ (marked w.Virtual (at 0 124 131)) ∷ []) (at 0 117 145) (λ f. callable (plain_head kind.Method (word 0 137 138 (codes "f")) f) ([]) (Some (code (at 0 142 145))))) ∷ []))) ∷ (part ([]) (at 0 148 193) (type_piece kind.Class (name ((word 0 154 155 (codes "D")) ∷ []) (at 0 154 155)) ((any_type None (type.Single (record { name = (name ((word 0 158 159 (codes "C")) ∷ []) (at 0 158 159)); is_nullable = false; span = (at 0 158 159) })) (at 0 158 159)) ∷ []) ((part ((marked w.Public (at 0 162 168)) ∷ (marked w.Override (at 0 169 177)) ∷ []) (at 0 162 191) (λ f. callable (plain_head kind.Method (word 0 183 184 (codes "f")) f) ([]) (Some (code (at 0 188 191))))) ∷ []))) ∷ [])) ∷ []) (([]) ∷ []) (Some (saying ((marked w.Abstract (at 0 0 8)) ∷ []) ((any_type None (type.Single (record { name = (name ((word 0 19 25 (codes "Object")) ∷ []) (at 0 19 25)); is_nullable = false; span = (at 0 19 25) })) (at 0 19 25)) ∷ []) Other) ∷ Some (saying ((marked w.Public (at 0 28 34)) ∷ (marked w.Abstract (at 0 35 43)) ∷ []) [] (Called (Some (any_type None type.Void (at 0 44 48))) ([]) ([]))) ∷ Some (saying ([]) ((any_type None (type.Single (record { name = (name ((word 0 67 68 (codes "A")) ∷ []) (at 0 67 68)); is_nullable = false; span = (at 0 67 68) })) (at 0 67 68)) ∷ []) Other) ∷ Some (saying ((marked w.Public (at 0 71 77)) ∷ (marked w.Override (at 0 78 86)) ∷ []) [] (Called (Some (any_type None type.Void (at 0 87 91))) ([]) ([]))) ∷ Some (saying ([]) ((any_type None (type.Single (record { name = (name ((word 0 113 114 (codes "B")) ∷ []) (at 0 113 114)); is_nullable = false; span = (at 0 113 114) })) (at 0 113 114)) ∷ []) Other) ∷ Some (saying ((marked w.Public (at 0 117 123)) ∷ (marked w.Virtual (at 0 124 131)) ∷ []) [] (Called (Some (any_type None type.Void (at 0 132 136))) ([]) ([]))) ∷ Some (saying ([]) ((any_type None (type.Single (record { name = (name ((word 0 158 159 (codes "C")) ∷ []) (at 0 158 159)); is_nullable = false; span = (at 0 158 159) })) (at 0 158 159)) ∷ []) Other) ∷ Some (saying ((marked w.Public (at 0 162 168)) ∷ (marked w.Override (at 0 169 177)) ∷ []) [] (Called (Some (any_type None type.Void (at 0 178 182))) ([]) ([]))) ∷ [])

anew_abstract : implementor anew 65 66 ≡ None
anew_abstract = refl

anew_old : implementor anew 71 66 ≡ Some 68
anew_old = refl

anew_new : implementor anew 71 70 ≡ Some 72
anew_new = refl

anew_slot : slot_of anew 71 72 ≡ Some 70
anew_slot = refl

anew_old_slot : slot_of anew 71 68 ≡ Some 66
anew_old_slot = refl

-- an override without a class's slot goes on from the interface's

-- `interface I : Object { public abstract int f (); } class A : Object, I { public override int f () { } } class B : A { public override int f () { } }`
abbrev listed_override : Program
listed_override = sample ((parts ((part ([]) (at 0 0 50) (type_piece kind.Interface (name ((word 0 10 11 (codes "I")) ∷ []) (at 0 10 11)) ((any_type None (type.Single (record { name = (name ((word 0 14 20 (codes "Object")) ∷ []) (at 0 14 20)); is_nullable = false; span = (at 0 14 20) })) (at 0 14 20)) ∷ []) ((part ((marked w.Public (at 0 23 29)) ∷ (marked w.Abstract (at 0 30 38)) ∷ []) (at 0 23 48) (λ f. callable (plain_head kind.Method (word 0 43 44 (codes "f")) f) ([]) None)) ∷ []))) ∷ (part ([]) (at 0 51 103) (type_piece kind.Class (name ((word 0 57 58 (codes "A")) ∷ []) (at 0 57 58)) ((any_type None (type.Single (record { name = (name ((word 0 61 67 (codes "Object")) ∷ []) (at 0 61 67)); is_nullable = false; span = (at 0 61 67) })) (at 0 61 67)) ∷ (any_type None (type.Single (record { name = (name ((word 0 69 70 (codes "I")) ∷ []) (at 0 69 70)); is_nullable = false; span = (at 0 69 70) })) (at 0 69 70)) ∷ []) ((part ((marked w.Public (at 0 73 79)) ∷ (marked w.Override (at 0 80 88)) ∷ []) (at 0 73 101) (λ f. callable (plain_head kind.Method (word 0 93 94 (codes "f")) f) ([]) (Some (code (at 0 98 101))))) ∷ []))) ∷ (part ([]) (at 0 104 148) (type_piece kind.Class (name ((word 0 110 111 (codes "B")) ∷ []) (at 0 110 111)) ((any_type None (type.Single (record { name = (name ((word 0 114 115 (codes "A")) ∷ []) (at 0 114 115)); is_nullable = false; span = (at 0 114 115) })) (at 0 114 115)) ∷ []) ((part ((marked w.Public (at 0 118 124)) ∷ (marked w.Override (at 0 125 133)) ∷ []) (at 0 118 146) (λ f. callable (plain_head kind.Method (word 0 138 139 (codes "f")) f) ([]) (Some (code (at 0 143 146))))) ∷ []))) ∷ [])) ∷ []) (([]) ∷ []) (Some (saying ([]) ((any_type None (type.Single (record { name = (name ((word 0 14 20 (codes "Object")) ∷ []) (at 0 14 20)); is_nullable = false; span = (at 0 14 20) })) (at 0 14 20)) ∷ []) Other) ∷ Some (saying ((marked w.Public (at 0 23 29)) ∷ (marked w.Abstract (at 0 30 38)) ∷ []) [] (Called (Some (any_type None (type.Single (record { name = (name ((word 0 39 42 (codes "int")) ∷ []) (at 0 39 42)); is_nullable = false; span = (at 0 39 42) })) (at 0 39 42))) ([]) ([]))) ∷ Some (saying ([]) ((any_type None (type.Single (record { name = (name ((word 0 61 67 (codes "Object")) ∷ []) (at 0 61 67)); is_nullable = false; span = (at 0 61 67) })) (at 0 61 67)) ∷ (any_type None (type.Single (record { name = (name ((word 0 69 70 (codes "I")) ∷ []) (at 0 69 70)); is_nullable = false; span = (at 0 69 70) })) (at 0 69 70)) ∷ []) Other) ∷ Some (saying ((marked w.Public (at 0 73 79)) ∷ (marked w.Override (at 0 80 88)) ∷ []) [] (Called (Some (any_type None (type.Single (record { name = (name ((word 0 89 92 (codes "int")) ∷ []) (at 0 89 92)); is_nullable = false; span = (at 0 89 92) })) (at 0 89 92))) ([]) ([]))) ∷ Some (saying ([]) ((any_type None (type.Single (record { name = (name ((word 0 114 115 (codes "A")) ∷ []) (at 0 114 115)); is_nullable = false; span = (at 0 114 115) })) (at 0 114 115)) ∷ []) Other) ∷ Some (saying ((marked w.Public (at 0 118 124)) ∷ (marked w.Override (at 0 125 133)) ∷ []) [] (Called (Some (any_type None (type.Single (record { name = (name ((word 0 134 137 (codes "int")) ∷ []) (at 0 134 137)); is_nullable = false; span = (at 0 134 137) })) (at 0 134 137))) ([]) ([]))) ∷ [])

listed_override_reached : implementor listed_override 69 66 ≡ Some 70
listed_override_reached = refl

listed_override_slot : slot_of listed_override 69 70 ≡ Some 66
listed_override_slot = refl

-- a signal's handler of the class

-- `class A : Object { public virtual signal void hit (int x) { } } class B : A { public override void hit (int x) { } }`
abbrev handler : Program
handler = sample ((parts ((part ([]) (at 0 0 63) (type_piece kind.Class (name ((word 0 6 7 (codes "A")) ∷ []) (at 0 6 7)) ((any_type None (type.Single (record { name = (name ((word 0 10 16 (codes "Object")) ∷ []) (at 0 10 16)); is_nullable = false; span = (at 0 10 16) })) (at 0 10 16)) ∷ []) ((part ((marked w.Public (at 0 19 25)) ∷ (marked w.Virtual (at 0 26 33)) ∷ []) (at 0 19 61) (λ f. callable (plain_head kind.Signal (word 0 46 49 (codes "hit")) f) ((parameter_piece (word 0 55 56 (codes "x")) None) ∷ []) (Some (code (at 0 58 61))))) ∷ []))) ∷ (part ([]) (at 0 64 116) (type_piece kind.Class (name ((word 0 70 71 (codes "B")) ∷ []) (at 0 70 71)) ((any_type None (type.Single (record { name = (name ((word 0 74 75 (codes "A")) ∷ []) (at 0 74 75)); is_nullable = false; span = (at 0 74 75) })) (at 0 74 75)) ∷ []) ((part ((marked w.Public (at 0 78 84)) ∷ (marked w.Override (at 0 85 93)) ∷ []) (at 0 78 114) (λ f. callable (plain_head kind.Method (word 0 99 102 (codes "hit")) f) ((parameter_piece (word 0 108 109 (codes "x")) None) ∷ []) (Some (code (at 0 111 114))))) ∷ []))) ∷ [])) ∷ []) (([]) ∷ []) (Some (saying ([]) ((any_type None (type.Single (record { name = (name ((word 0 10 16 (codes "Object")) ∷ []) (at 0 10 16)); is_nullable = false; span = (at 0 10 16) })) (at 0 10 16)) ∷ []) Other) ∷ Some (saying ((marked w.Public (at 0 19 25)) ∷ (marked w.Virtual (at 0 26 33)) ∷ []) [] (Called None ((taken None (any_type None (type.Single (record { name = (name ((word 0 51 54 (codes "int")) ∷ []) (at 0 51 54)); is_nullable = false; span = (at 0 51 54) })) (at 0 51 54)) (word 0 55 56 (codes "x")) (at 0 51 56)) ∷ []) [])) ∷ None ∷ Some (saying ([]) ((any_type None (type.Single (record { name = (name ((word 0 74 75 (codes "A")) ∷ []) (at 0 74 75)); is_nullable = false; span = (at 0 74 75) })) (at 0 74 75)) ∷ []) Other) ∷ Some (saying ((marked w.Public (at 0 78 84)) ∷ (marked w.Override (at 0 85 93)) ∷ []) [] (Called (Some (any_type None type.Void (at 0 94 98))) ((taken None (any_type None (type.Single (record { name = (name ((word 0 104 107 (codes "int")) ∷ []) (at 0 104 107)); is_nullable = false; span = (at 0 104 107) })) (at 0 104 107)) (word 0 108 109 (codes "x")) (at 0 104 109)) ∷ []) ([]))) ∷ None ∷ [])

handler_reached : implementor handler 68 66 ≡ Some 69
handler_reached = refl

handler_slot : slot_of handler 68 69 ≡ Some 66
handler_slot = refl
