-- The library's functions of types: class structs, interfaces and their tables.
use Rattle.std.specs.Prelude.{ℕ, zero, suc, ◌+◌, ◌-◌, ◌==◌, ◌&&◌, ◌||◌, nat_le, Bool, true, false, if◌then◌else◌, List, [], ◌∷◌, ◌++◌, length, Option, Some, None, Ok, Err}
use Rattle.vg_base.specs.declared.event.ThingKind.TheVariants as thing
use Rattle.vg_base.specs.declared.event.UndefKind.TheVariants as undef
use Rattle.c_meaning.specs.declared.cell.Cell.{Cell}
use Rattle.c_meaning.specs.declared.cell.Cell.TheVariants.{Uns, Ptr, Null}
use Rattle.c_meaning.specs.State
use Rattle.c_meaning.specs.State.{Block, Place, Thing, TypeRow, Implements, Item, Ask, Answer as Answers}
use Rattle.c_meaning.specs.Blocks.{Answer, bind, on, get, get_cells, make, next_block, over, zeroed}
use Rattle.c_meaning.specs.Numbers.{pointed, pointer_of, truth}
use Rattle.c_meaning.specs.Texts.{text_of, give, give_nothing}
use Rattle.c_meaning.specs.BlockRows.{Does, Found, found, is_kind, where_it_is, stuck}

-- 1. Looking types up

abbrev pub type_in : List TypeRow → ℕ → Answer TypeRow
type_in [] n = Err undef.Kind
type_in (t ∷ ts) n = if t.number == n then Ok t else type_in ts n

-- the type with a number
abbrev pub type_of : State.State → ℕ → Answer TypeRow
type_of s n = type_in s.types n

-- the type whose class struct is a block
abbrev pub class_in : List TypeRow → ℕ → Answer TypeRow
class_in [] b = Err undef.Kind
class_in (t ∷ ts) b = if t.class == b then Ok t else class_in ts b

-- the type that a pointer to a class struct names
abbrev pub class_of : State.State → Cell → Answer TypeRow
class_of s c = bind (found s c) (λ f. class_in s.types f.number)

abbrev pub not_interface : TypeRow → Answer TypeRow
not_interface t = where_it_is (if t.is_interface then false else true) t

abbrev pub is_interface : TypeRow → Answer TypeRow
is_interface t = where_it_is t.is_interface t

-- the type with that number, if it is there
abbrev pub known_type : Answer TypeRow → List TypeRow
known_type (Ok t) = t ∷ []
known_type (Err u) = []

abbrev pub optional_type : List TypeRow → Option ℕ → List TypeRow
optional_type ts None = []
optional_type ts (Some n) = known_type (type_in ts n)

-- a type and its bases, at most so many
abbrev pub chain_of : ℕ → List TypeRow → List TypeRow → List TypeRow
chain_of zero ts t = []
chain_of (suc n) ts [] = []
chain_of (suc n) ts (t ∷ us) = t ∷ chain_of n ts (optional_type ts t.parent)

-- a type and its bases, the most derived first
abbrev pub chain : State.State → TypeRow → List TypeRow
chain s t = chain_of (length s.types) s.types (t ∷ [])

abbrev pub has_interface : ℕ → List Implements → Bool
has_interface n [] = false
has_interface n (i ∷ is) = i.interface == n || has_interface n is

-- a type of the chain is that one, or has it as an interface
abbrev pub is_in : ℕ → List TypeRow → Bool
is_in n [] = false
is_in n (t ∷ ts) = t.number == n || has_interface n t.interfaces || is_in n ts

-- a type is another, or derived from it, or implements it
abbrev pub is_a : State.State → TypeRow → ℕ → Bool
is_a s t n = is_in n (chain s t)

-- 2. Instances

abbrev pub is_place : ℕ → Option ℕ → Bool
is_place n None = false
is_place n (Some at) = at == n

abbrev pub is_counted_at : ℕ → Option Thing → Bool
is_counted_at n None = false
is_counted_at n (Some t) = is_kind thing.Object t.kind && is_place n t.count

-- an object of a class: its block is a thing with its count behind its class
abbrev pub instance_of : State.State → Cell → Answer Found
instance_of s c = bind (found s c) (λ f. where_it_is (is_counted_at 1 f.block.thing) f)

-- the class of an object is the one whose struct its first cell leads to
abbrev pub class_of_object : State.State → ℕ → Answer TypeRow
class_of_object s n = bind (get s (record { block = n; at = 0 })) (class_of s)

-- 3. The functions

-- a call is asked for, unless the function is null
abbrev pub ask : Cell → List Cell → List Item
ask Null cs = []
ask f cs = Ask f cs ∷ []

-- items are put in front of the work
abbrev pub push : List Item → State.State → State.State
push items s = record s { work = items ++ s.work }

-- the parent of a new type is `Object`, another class, or what all interfaces are under
abbrev pub may_be_parent : TypeRow → Bool
may_be_parent t = if t.is_interface then t.number == 8 else true

-- no smaller than the parent's
abbrev pub sizes_fit : TypeRow → ℕ → ℕ → Bool
sizes_fit parent class instance = nat_le parent.class_size class && nat_le parent.instance_size instance

-- numbers of new types
abbrev pub next_type : State.State → ℕ
next_type s = 998 + length s.types

-- the cells of a class struct: a copy of the parent's, zeros behind them, and its own number in front
abbrev pub class_cells : ℕ → ℕ → List Cell → List Cell
class_cells number size parent = over (parent ++ zeroed (size - length parent)) 0 (Uns number ∷ [])

-- a type is there before its class init runs
abbrev pub registered : State.State → TypeRow → ℕ → Cell → ℕ → Cell → List Cell → State.State
registered s parent class class_init instance instance_init cells =
    push (ask class_init (Ptr (next_block s) 0 ∷ []) ++ Answers (Uns (next_type s)) ∷ []) (
    record (make s (class_cells (next_type s) class cells)) {
      types = s.types ++ record {
        number = next_type s;
        parent = Some parent.number;
        is_interface = parent.is_interface;
        class = next_block s;
        class_size = class;
        instance_size = instance;
        instance_init = instance_init;
        interfaces = [];
        properties = [];
      } ∷ [];
    }
    )

abbrev pub g_type_register_static_simple : Does
g_type_register_static_simple s t (Uns p ∷ name ∷ Uns class ∷ class_init ∷ Uns instance ∷ instance_init ∷ flags ∷ []) =
    on s (bind (type_of s p) (λ parent. where_it_is (may_be_parent parent) parent)) (λ parent.
    on s (text_of s name) (λ bytes.
    on s (where_it_is (sizes_fit parent class instance) parent) (λ p.
    on s (get_cells s (record { block = parent.class; at = 0 }) parent.class_size) (registered s parent class class_init instance instance_init))))
g_type_register_static_simple s t cs = stuck s

abbrev pub table_in : ℕ → List Implements → Option ℕ
table_in n [] = None
table_in n (i ∷ is) = if i.interface == n then Some i.table else table_in n is

abbrev pub or_further : Option ℕ → Option ℕ → Option ℕ
or_further (Some b) o = Some b
or_further None o = o

-- the table of the class, or of the nearest base that has one
abbrev pub nearest_table : ℕ → List TypeRow → Option ℕ
nearest_table n [] = None
nearest_table n (t ∷ ts) = or_further (table_in n t.interfaces) (nearest_table n ts)

abbrev pub or_block : Option ℕ → ℕ → ℕ
or_block None n = n
or_block (Some b) n = b

abbrev pub with_interface : List TypeRow → ℕ → Implements → List TypeRow
with_interface [] n i = []
with_interface (t ∷ ts) n i = if t.number == n then record t { interfaces = i ∷ t.interfaces } ∷ ts else t ∷ with_interface ts n i

-- A table is a copy of the nearest base's, or of the interface's own class struct; the two types stand in front of it. Then its init is called.
abbrev pub implemented : State.State → TypeRow → TypeRow → Cell → List Cell → State.State
implemented s class interface init cells =
    push (ask init (Ptr (next_block s) 0 ∷ [])) (
    record (give_nothing (make s (over cells 0 (Uns interface.number ∷ Uns class.number ∷ [])))) {
      types = with_interface s.types class.number (record { interface = interface.number; table = next_block s });
    }
    )

abbrev pub implement : State.State → TypeRow → TypeRow → Cell → State.State
implement s class interface init =
    on s (get_cells s (record { block = or_block (nearest_table interface.number (chain s class)) interface.class; at = 0 }) interface.class_size) (implemented s class interface init)

-- an interface that was not added to the class yet
abbrev pub not_added : TypeRow → TypeRow → Answer TypeRow
not_added class interface = where_it_is (if has_interface interface.number class.interfaces then false else true) interface

abbrev pub g_type_add_interface_static : Does
g_type_add_interface_static s t (Uns c ∷ Uns i ∷ info ∷ []) =
    on s (bind (type_of s c) not_interface) (λ class.
    on s (bind (bind (type_of s i) is_interface) (not_added class)) (λ interface.
    on s (bind (bind (pointed s info) (get s)) pointer_of) (implement s class interface)))
g_type_add_interface_static s t cs = stuck s

-- prerequisites are never looked at
abbrev pub g_type_interface_add_prerequisite : Does
g_type_interface_add_prerequisite s t (Uns i ∷ Uns p ∷ []) = on s (bind (type_of s i) is_interface) (λ x. on s (type_of s p) (λ y. give_nothing s))
g_type_interface_add_prerequisite s t cs = stuck s

abbrev pub block_pointer : Option ℕ → Cell
block_pointer None = Null
block_pointer (Some b) = Ptr b 0

abbrev pub g_type_interface_peek : Does
g_type_interface_peek s t (c ∷ Uns i ∷ []) = on s (class_of s c) (λ class. on s (bind (type_of s i) is_interface) (λ x. give s (block_pointer (nearest_table x.number (chain s class)))))
g_type_interface_peek s t cs = stuck s

abbrev pub parent_struct : List TypeRow → Cell
parent_struct [] = Null
parent_struct (t ∷ ts) = Ptr t.class 0

abbrev pub g_type_class_peek_parent : Does
g_type_class_peek_parent s t (c ∷ []) = on s (class_of s c) (λ class. give s (parent_struct (optional_type s.types class.parent)))
g_type_class_peek_parent s t cs = stuck s

abbrev pub g_type_check_instance_is_a : Does
g_type_check_instance_is_a s t (Null ∷ Uns n ∷ []) = give s (truth false)
g_type_check_instance_is_a s t (o ∷ Uns n ∷ []) =
    on s (bind (instance_of s o) (λ f. class_of_object s f.number)) (λ class. on s (type_of s n) (λ x. give s (truth (is_a s class x.number))))
g_type_check_instance_is_a s t cs = stuck s
