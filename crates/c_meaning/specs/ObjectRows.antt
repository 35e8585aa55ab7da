-- The library's functions of properties, and the making of objects.
use Rattle.std.specs.Prelude.{ℕ, ◌-◌, ◌/◌, ◌%◌, ◌^◌, ◌==◌, ◌&&◌, ◌||◌, Bool, false, if◌then◌else◌, ℤ, pos, List, [], ◌∷◌, ◌++◌, reverse, Option, Some, None, Ok, Err}
use Rattle.std.specs.Str.{bytes_eq}
use Rattle.vg_base.specs.declared.event.ThingKind.TheVariants as thing
use Rattle.vg_base.specs.declared.event.UndefKind.TheVariants as undef
use Rattle.c_tree.specs.declared.kinds.Kind.{Kind}
use Rattle.c_tree.specs.Kinds.{int, uint, long, ulong, char, uchar}
use Rattle.c_tree.specs.Constants.{modulo}
use Rattle.c_meaning.specs.declared.cell.Cell.{Cell}
use Rattle.c_meaning.specs.declared.cell.Cell.TheVariants.{Int, Uns, Ptr, Null}
use Rattle.c_meaning.specs.State
use Rattle.c_meaning.specs.State.{Place, TypeRow, Spec, Property, Item, Free, SetProperty, Constructed, Answer as Answers}
use Rattle.c_meaning.specs.Blocks.{Answer, bind, on, get, make, make_thing, next_block, next_pointer, zeroed}
use Rattle.c_meaning.specs.Numbers.{number, number_of, pointer_of}
use Rattle.c_meaning.specs.Texts.{text_of, give, give_nothing}
use Rattle.c_meaning.specs.BlockRows.{Does, Found, found, where_it_is, stuck}
use Rattle.c_meaning.specs.TypeRows.{type_of, class_of, not_interface, chain, ask, push}
use Rattle.c_meaning.specs.Counts.{class_function}

-- 1. The kinds of properties, by the numbers of their types

-- the kind of numbers of a type; None where it has pointers
abbrev pub number_kind : ℕ → Option Kind
number_kind n =
    if n == 20 then Some int
    else (if n == 12 then Some char
    else (if n == 16 then Some uchar
    else (if n == 24 then Some int
    else (if n == 28 then Some uint
    else (if n == 32 then Some long
    else (if n == 36 then Some ulong
    else (if n == 40 then Some long
    else (if n == 44 then Some ulong else None))))))))

abbrev pub number_given : Kind → Cell → Answer Cell
number_given k (Int z) = Ok (number k z)
number_given k (Uns n) = Ok (number k (pos n))
number_given k c = Err undef.Kind

abbrev pub given_as : Option Kind → Cell → Answer Cell
given_as (Some k) c = number_given k c
given_as None c = pointer_of c

-- a value of a type: numbers are converted, and what pointers and functions lead to is not looked at
abbrev pub value_as : ℕ → Cell → Answer Cell
value_as n c = given_as (number_kind n) c

-- 2. Properties

-- `G_PARAM_CONSTRUCT` is the bit 4
abbrev pub has_construct : ℤ → Bool
has_construct z = (modulo z (2 ^ 32) / 4) % 2 == 1

-- its block has one cell, the name that was given
abbrev pub new_spec : State.State → ℕ → Cell → List ℕ → Cell → ℤ → State.State
new_spec s n name bytes default flags =
    give (record (make s (name ∷ [])) { specs = s.specs ++ record { block = next_block s; name = bytes; holds = n; default = default; is_construct = has_construct flags } ∷ [] }) (next_pointer s)

-- name, nick and blurb are texts, and then the default is looked at
abbrev pub spec_by : State.State → ℕ → Cell → Cell → Cell → Answer Cell → Cell → State.State
spec_by s n name nick blurb default flags =
    on s (text_of s name) (λ bytes.
    on s (text_of s nick) (λ x. on s (text_of s blurb) (λ y. on s default (λ d. on s (number_of flags) (new_spec s n name bytes d)))))

-- a boolean or a text
abbrev pub param_spec_plain : ℕ → Does
param_spec_plain n s t (name ∷ nick ∷ blurb ∷ default ∷ flags ∷ []) = spec_by s n name nick blurb (value_as n default) flags
param_spec_plain n s t cs = stuck s

-- a number, where the least and the greatest do nothing
abbrev pub param_spec_number : ℕ → Does
param_spec_number n s t (name ∷ nick ∷ blurb ∷ least ∷ most ∷ default ∷ flags ∷ []) = spec_by s n name nick blurb (value_as n default) flags
param_spec_number n s t cs = stuck s

-- an object of a type, which is null by default
abbrev pub param_spec_object : Does
param_spec_object s t (name ∷ nick ∷ blurb ∷ Uns type ∷ flags ∷ []) = spec_by s 80 name nick blurb (bind (type_of s type) (λ x. Ok Null)) flags
param_spec_object s t cs = stuck s

abbrev pub spec_in : List Spec → ℕ → Answer Spec
spec_in [] b = Err undef.Kind
spec_in (p ∷ ps) b = if p.block == b then Ok p else spec_in ps b

abbrev pub with_property : List TypeRow → Property → List TypeRow
with_property [] p = []
with_property (t ∷ ts) p = if t.number == p.owner then record t { properties = t.properties ++ p ∷ [] } ∷ ts else t ∷ with_property ts p

abbrev pub g_object_class_install_property : Does
g_object_class_install_property s t (c ∷ Uns id ∷ p ∷ []) =
    on s (class_of s c) (λ class. on s (bind (found s p) (λ f. spec_in s.specs f.number)) (λ spec.
    give_nothing (record s { types = with_property s.types (record { owner = class.number; id = id; spec = spec }) })))
g_object_class_install_property s t cs = stuck s

abbrev pub or_later : Property → Option Property → Property
or_later p None = p
or_later p (Some q) = q

-- the last of that name in one class
abbrev pub last_named : List ℕ → List Property → Option Property
last_named x [] = None
last_named x (p ∷ ps) = if bytes_eq p.spec.name x then Some (or_later p (last_named x ps)) else last_named x ps

abbrev pub or_base : Option Property → Answer Property → Answer Property
or_base (Some p) q = Ok p
or_base None q = q

-- the property of a name: the most derived class that has it decides
abbrev pub property_named : List ℕ → List TypeRow → Answer Property
property_named x [] = Err undef.Kind
property_named x (t ∷ ts) = or_base (last_named x t.properties) (property_named x ts)

-- 3. The value that `set_property` gets

-- such a value is there while a call that got it lasts
abbrev pub frees : ℕ → List Item → Bool
frees b [] = false
frees b (Free n ∷ is) = n == b || frees b is
frees b (i ∷ is) = frees b is

-- its cells are the number of its type and what it holds
abbrev pub held_in : State.State → ℕ → Found → Answer Cell
held_in s n f =
    bind (where_it_is (frees f.number s.work) f) (λ g. bind (bind (get s (record { block = f.number; at = 0 })) number_of) (λ z.
    bind (where_it_is (modulo z (2 ^ 64) == n) f) (λ h. get s (record { block = f.number; at = 1 }))))

abbrev pub value_get : ℕ → Does
value_get n s t (v ∷ []) = on s (bind (bind (found s v) (held_in s n)) (value_as n)) (give s)
value_get n s t cs = stuck s

-- `set_property` of the class that has the property gets the object, the id, the value and the property
abbrev pub set_by : State.State → ℕ → Property → Cell → Cell → State.State
set_by s o p v Null = s
set_by s o p v f =
    push (ask f (Ptr o 0 ∷ Uns p.id ∷ next_pointer s ∷ Ptr p.spec.block 0 ∷ []) ++ Free (next_block s) ∷ []) (make s (Uns p.spec.holds ∷ v ∷ []))

abbrev pub setter_of : State.State → Property → Answer Cell
setter_of s p = bind (type_of s p.owner) (λ t. bind (get s (record { block = t.class; at = 2 })) pointer_of)

abbrev pub set_property : State.State → ℕ → Property → Cell → State.State
set_property s o p v = on s (setter_of s p) (set_by s o p v)

-- 4. Making objects

-- a property and the value that was given for it
pub record Set : Type 0 where
  pub property : Property
  pub value : Cell

abbrev pub one_set : State.State → TypeRow → Cell → Cell → Answer Set
one_set s t name v = bind (text_of s name) (λ x. bind (property_named x (chain s t)) (λ p. bind (value_as p.spec.holds v) (λ w. Ok (record { property = p; value = w }))))

-- names and values, and null behind the last
abbrev pub sets_of : State.State → TypeRow → List Cell → Answer (List Set)
sets_of s t (name ∷ v ∷ cs) = bind (one_set s t name v) (λ x. bind (sets_of s t cs) (λ xs. Ok (x ∷ xs)))
sets_of s t cs = Ok []

-- the value given last, or the default
abbrev pub last_given : Property → Cell → List Set → Cell
last_given p v [] = v
last_given p v (x ∷ xs) = last_given p (if x.property.spec.block == p.spec.block then x.value else v) xs

-- those of a class that are set at construction, and that neither a later one of their name in it nor a more derived class hides
abbrev pub construct_items : List TypeRow → ℕ → List Set → List Property → List Item
construct_items ts o xs [] = []
construct_items ts o xs (p ∷ ps) = (if p.spec.is_construct && is_last p (last_named p.spec.name ps) (property_named p.spec.name ts) then SetProperty o p (last_given p p.spec.default xs) ∷ [] else []) ++ construct_items ts o xs ps
  where
    is_last : Property → Option Property → Answer Property → Bool
    is_last p None (Ok q) = q.owner == p.owner
    is_last p later q = false

-- classes from the base on
abbrev pub construct_all : List TypeRow → ℕ → List Set → List TypeRow → List Item
construct_all all o xs [] = []
construct_all all o xs (t ∷ ts) = construct_items all o xs t.properties ++ construct_all all o xs ts

-- the others, in the order written, each time that one is given
abbrev pub other_items : ℕ → List Set → List Item
other_items o [] = []
other_items o (x ∷ xs) = if x.property.spec.is_construct then other_items o xs else SetProperty o x.property x.value ∷ other_items o xs

abbrev pub init_items : ℕ → List TypeRow → List Item
init_items o [] = []
init_items o (t ∷ ts) = ask t.instance_init (Ptr o 0 ∷ []) ++ init_items o ts

-- An object is made with the count 1. Instance inits run, base first; construct properties are set; `constructed` is called; the others are set.
abbrev pub made_object : State.State → TypeRow → List Set → State.State
made_object s t xs =
    let o : ℕ = next_block s in
    let ts : List TypeRow = chain s t in
    push (init_items o (reverse ts) ++ construct_all ts o xs (reverse ts) ++ Constructed o ∷ other_items o xs ++ Answers (Ptr o 0) ∷ []) (
    make_thing s thing.Object (Some 1) false (Ptr t.class 0 ∷ Uns 1 ∷ zeroed (t.instance_size - 2))
    )

abbrev pub g_object_new : Does
g_object_new s t (Uns n ∷ cs) = on s (bind (type_of s n) not_interface) (λ type. on s (sets_of s type cs) (made_object s type))
g_object_new s t cs = stuck s

-- `constructed` of the object's class
abbrev pub construct : State.State → ℕ → State.State
construct s o = on s (class_function s o 1) (λ f. push (ask f (Ptr o 0 ∷ [])) s)
