-- The library's functions of signals: handlers, emissions and notifications.
use Rattle.std.specs.Prelude.{ℕ, zero, suc, ◌/◌, ◌%◌, ◌^◌, ◌==◌, ◌&&◌, ◌||◌, nat_le, nat_lt, Bool, true, false, if◌then◌else◌, ℤ, List, [], ◌∷◌, ◌++◌, length, drop, Option, Some, None, Ok, Err, codes}
use Rattle.std.specs.Str.{bytes_eq}
use Rattle.vg_base.specs.declared.event.UndefKind.TheVariants as undef
use Rattle.c_tree.specs.Constants.{modulo}
use Rattle.c_meaning.specs.declared.cell.Cell.{Cell}
use Rattle.c_meaning.specs.declared.cell.Cell.TheVariants.{Uns, Ptr, Null}
use Rattle.c_meaning.specs.State
use Rattle.c_meaning.specs.State.{Block, Thing, Place, TypeRow, Implements, Signal, Handler, Emission, Phase, Before, Class, After, Item, Ask, Emit, Release, Disconnect, Answer as Answers}
use Rattle.c_meaning.specs.Blocks.{Answer, bind, on, undefined, block_of}
use Rattle.c_meaning.specs.Numbers.{number_of, same}
use Rattle.c_meaning.specs.Texts.{text_of, is_front, give, give_nothing}
use Rattle.c_meaning.specs.BlockRows.{Does, Found, found, where_it_is, stuck}
use Rattle.c_meaning.specs.TypeRows.{type_of, instance_of, class_of_object, is_a, chain, ask, push}
use Rattle.c_meaning.specs.Counts.{count_place, count_at, live_count, hold, class_function, remove_handler}
use Rattle.c_meaning.specs.ObjectRows.{value_as, number_kind, property_named}

-- 1. Signals

-- a number that names a type: one of the kinds of properties, or a class or interface
abbrev pub is_type : State.State → ℕ → Bool
is_type s n = is_fundamental (number_kind n) || n == 64 || is_known (type_of s n)
  where
    is_fundamental : {A : Type 0} → Option A → Bool
    is_fundamental None = false
    is_fundamental (Some k) = true

    is_known : {A : Type 0} → Answer A → Bool
    is_known (Ok t) = true
    is_known (Err u) = false

abbrev pub types_given : State.State → List Cell → Answer (List ℕ)
types_given s [] = Ok []
types_given s (c ∷ cs) = bind (number_of c) (λ z. bind (where_it_is (is_type s (modulo z (2 ^ 64))) (modulo z (2 ^ 64))) (λ n. bind (types_given s cs) (λ ns. Ok (n ∷ ns))))

-- an interface has no class handler
abbrev pub offset_fits : TypeRow → ℕ → Bool
offset_fits t n = if t.is_interface then n == 0 else true

abbrev pub new_signal : State.State → List ℕ → TypeRow → ℕ → List ℕ → State.State
new_signal s name t offset types =
    give (record s { signals = s.signals ++ record { id = suc (length s.signals); name = name; owner = t.number; offset = offset; types = types } ∷ [] }) (Uns (suc (length s.signals)))

abbrev pub g_signal_new : Does
g_signal_new s t (name ∷ Uns type ∷ flags ∷ Uns offset ∷ a ∷ b ∷ c ∷ none ∷ Uns n ∷ types) =
    on s (text_of s name) (λ x. on s (bind (type_of s type) (λ y. where_it_is (offset_fits y offset && n == length types) y)) (λ y.
    on s (types_given s types) (new_signal s x y offset)))
g_signal_new s t cs = stuck s

abbrev pub signal_in : List Signal → ℕ → Answer Signal
signal_in [] n = Err undef.Kind
signal_in (x ∷ xs) n = if x.id == n then Ok x else signal_in xs n

-- the last signal of a name that a type has
abbrev pub signal_named : List ℕ → ℕ → Option ℕ → List Signal → Option ℕ
signal_named x owner found [] = found
signal_named x owner found (y ∷ ys) = signal_named x owner (if y.owner == owner && bytes_eq y.name x then Some y.id else found) ys

abbrev pub or_else : Option ℕ → Option ℕ → Option ℕ
or_else (Some n) o = Some n
or_else None o = o

abbrev pub signal_of_interfaces : State.State → List ℕ → List Implements → Option ℕ
signal_of_interfaces s x [] = None
signal_of_interfaces s x (i ∷ is) = or_else (signal_named x i.interface None s.signals) (signal_of_interfaces s x is)

-- in the class, then its interfaces, then the same of its bases
abbrev pub signal_of : State.State → List ℕ → List TypeRow → Option ℕ
signal_of s x [] = None
signal_of s x (t ∷ ts) = or_else (signal_named x t.number None s.signals) (or_else (signal_of_interfaces s x t.interfaces) (signal_of s x ts))

-- 2. Connecting

-- a signal that a name stands for, and the detail; `notify` of `Object` has the number 0
pub record Target : Type 0 where
  pub signal : ℕ
  pub detail : Option (List ℕ)

abbrev pub detailed : List ℕ → Answer Target
detailed x = if is_front (codes "notify::") x then Ok (record { signal = 0; detail = Some (drop 8 x) }) else (if bytes_eq x (codes "notify") then Ok (record { signal = 0; detail = None }) else Err undef.Kind)

abbrev pub target_by : List ℕ → Option ℕ → Answer Target
target_by x (Some n) = Ok (record { signal = n; detail = None })
target_by x None = detailed x

abbrev pub target_named : State.State → Found → List ℕ → Answer Target
target_named s f x = bind (class_of_object s f.number) (λ t. target_by x (signal_of s x (chain s t)))

-- `G_CONNECT_AFTER` is the bit 1
abbrev pub has_after : ℤ → Bool
has_after z = modulo z 2 == 1

abbrev pub connect : State.State → Found → Target → Cell → Cell → Cell → ℤ → Option ℕ → State.State
connect s o x f argument destroy flags tied =
    give (record s {
      handlers = s.handlers ++ record {
        id = suc s.last_handler;
        object = o.number;
        signal = x.signal;
        detail = x.detail;
        function = f;
        argument = argument;
        destroy = destroy;
        is_after = has_after flags;
        tied = tied;
      } ∷ [];
      last_handler = suc s.last_handler;
    }) (Uns (suc s.last_handler))

abbrev pub named_on : State.State → Cell → Cell → (Found → Target → State.State) → State.State
named_on s o name go = on s (instance_of s o) (λ f. on s (bind (text_of s name) (target_named s f)) (go f))

abbrev pub g_signal_connect_data : Does
g_signal_connect_data s t (o ∷ name ∷ f ∷ argument ∷ destroy ∷ flags ∷ []) =
    named_on s o name (λ i x. on s (number_of flags) (λ z. connect s i x f argument destroy z None))
g_signal_connect_data s t cs = stuck s

-- such a handler owns nothing, and goes with its target
abbrev pub g_signal_connect_object : Does
g_signal_connect_object s t (o ∷ name ∷ f ∷ target ∷ flags ∷ []) =
    named_on s o name (λ i x. on s (instance_of s target) (λ j. on s (number_of flags) (λ z. connect s i x f target Null z (Some j.number))))
g_signal_connect_object s t cs = stuck s

-- 3. Disconnecting

abbrev pub handler_in : List Handler → ℕ → Option Handler
handler_in [] n = None
handler_in (h ∷ hs) n = if h.id == n then Some h else handler_in hs n

abbrev pub of_object : ℕ → Option Handler → Option Handler
of_object b None = None
of_object b (Some h) = if h.object == b then Some h else None

abbrev pub remove_one : State.State → Option Handler → State.State
remove_one s None = s
remove_one s (Some h) = remove_handler s h []

abbrev pub g_signal_handler_disconnect : Does
g_signal_handler_disconnect s t (o ∷ Uns id ∷ []) = on s (instance_of s o) (λ f. remove_one (give_nothing s) (of_object f.number (handler_in s.handlers id)))
g_signal_handler_disconnect s t cs = stuck s

-- whether a bit of a mask is set
abbrev pub has_bit : ℤ → ℕ → Bool
has_bit z bit = (modulo z (2 ^ 32) / bit) % 2 == 1

abbrev pub implies : Bool → Bool → Bool
implies false b = true
implies true b = b

-- a handler that has what the mask asks for: the signal is the bit 1, the function 8, the data 16
abbrev pub is_matched : ℕ → ℤ → ℕ → Cell → Cell → Handler → Bool
is_matched o mask id f argument h =
    h.object == o && (has_bit mask 1 || has_bit mask 8 || has_bit mask 16)
    && implies (has_bit mask 1) (h.signal == id && nat_lt 0 id) && implies (has_bit mask 8) (same h.function f) && implies (has_bit mask 16) (same h.argument argument)

abbrev pub matched : ℕ → ℤ → ℕ → Cell → Cell → List Handler → List ℕ
matched o mask id f argument [] = []
matched o mask id f argument (h ∷ hs) = (if is_matched o mask id f argument h then h.id ∷ [] else []) ++ matched o mask id f argument hs

-- where the signal is asked for, its id must be one
abbrev pub signal_asked : State.State → Bool → ℕ → Answer ℕ
signal_asked s true id = bind (signal_in s.signals id) (λ x. Ok x.id)
signal_asked s false id = Ok id

abbrev pub g_signal_handlers_disconnect_matched : Does
g_signal_handlers_disconnect_matched s t (o ∷ mask ∷ Uns id ∷ detail ∷ closure ∷ f ∷ argument ∷ []) =
    on s (instance_of s o) (λ i.
    on s (number_of mask) (λ z. on s (signal_asked s (has_bit z 1) id) (λ x. push (Disconnect (matched i.number z id f argument s.handlers) 0 ∷ []) s)))
g_signal_handlers_disconnect_matched s t cs = stuck s

-- The first that is still there is removed. The number removed is given.
abbrev pub disconnect : State.State → List ℕ → ℕ → State.State
disconnect s [] n = give s (Uns n)
disconnect s (id ∷ ids) n = elim (handler_in s.handlers id) as (λ o. State.State) [ None ↦ disconnect s ids n | Some h ↦ remove_handler s h (Disconnect ids (suc n) ∷ []) ]

-- 4. Emissions

abbrev pub values_as : List ℕ → List Cell → Answer (List Cell)
values_as [] [] = Ok []
values_as (t ∷ ts) (c ∷ cs) = bind (value_as t c) (λ x. bind (values_as ts cs) (λ xs. Ok (x ∷ xs)))
values_as ts cs = Err undef.Kind

-- an emission holds its object
abbrev pub begin : State.State → ℕ → ℕ → Option (List ℕ) → List Cell → State.State
begin s o signal detail cs =
    push (Emit (record { object = o; signal = signal; detail = detail; arguments = cs; limit = s.last_handler; last = 0 }) Before ∷ []) (hold s (count_place o))

-- a signal that an object of a class has
abbrev pub has_signal : State.State → TypeRow → Signal → Answer Signal
has_signal s t x = where_it_is (is_a s t x.owner) x

abbrev pub g_signal_emit : Does
g_signal_emit s t (o ∷ Uns id ∷ detail ∷ cs) =
    on s (instance_of s o) (λ f. on s (live_count s (count_place f.number)) (λ n.
    on s (bind (class_of_object s f.number) (λ c. bind (signal_in s.signals id) (has_signal s c))) (λ x.
    on s (values_as x.types cs) (begin s f.number x.id None))))
g_signal_emit s t cs = stuck s

-- connected without a detail, or with the emission's own
abbrev pub same_detail : Option (List ℕ) → Option (List ℕ) → Bool
same_detail None d = true
same_detail (Some x) None = false
same_detail (Some x) (Some y) = bytes_eq x y

abbrev pub in_phase : Phase → Bool → Bool
in_phase Before is_after = if is_after then false else true
in_phase Class is_after = false
in_phase After is_after = is_after

abbrev pub is_null : Cell → Bool
is_null Null = true
is_null c = false

-- A handler that an emission runs in a phase: one that was there when it began, that has a function, and that did not run yet.
abbrev pub is_next : Emission → Phase → Handler → Bool
is_next e p h =
    h.object == e.object && h.signal == e.signal && same_detail h.detail e.detail && nat_le h.id e.limit && nat_lt e.last h.id && in_phase p h.is_after && (if is_null h.function then false else true)

abbrev pub next_handler : Emission → Phase → List Handler → Option Handler
next_handler e p [] = None
next_handler e p (h ∷ hs) = if is_next e p h then Some h else next_handler e p hs

-- what is held while a handler runs, and what gives it back
pub record Held : Type 0 where
  pub state : State.State
  pub items : List Item

abbrev pub holds_nothing : State.State → Held
holds_nothing s = record { state = s; items = [] }

-- a thing with a count that `destroy` gives back
abbrev pub hold_thing : State.State → Cell → Cell → ℕ → Option Thing → Held
hold_thing s argument destroy b None = holds_nothing s
hold_thing s argument destroy b (Some t) = by_count t.count
  where
    by_count : Option ℕ → Held
    by_count None = holds_nothing s
    by_count (Some at) = record { state = hold s (record { block = b; at = at }); items = Ask destroy (argument ∷ []) ∷ [] }

abbrev pub hold_block : State.State → Cell → Cell → ℕ → Answer Block → Held
hold_block s argument destroy b (Err u) = holds_nothing (undefined s u)
hold_block s argument destroy b (Ok x) = hold_thing s argument destroy b x.thing

-- data that leads to the start of such a thing; where it leads to what is freed, the run ends
abbrev pub hold_data : State.State → Cell → Cell → Held
hold_data s (Ptr b zero) Null = holds_nothing s
hold_data s (Ptr b zero) destroy = hold_block s (Ptr b zero) destroy b (block_of s b)
hold_data s (Ptr b (suc at)) Null = holds_nothing s
hold_data s (Ptr b (suc at)) destroy = dead (block_of s b)
  where
    dead : Answer Block → Held
    dead (Ok x) = holds_nothing s
    dead (Err u) = holds_nothing (undefined s u)
hold_data s c destroy = holds_nothing s

-- a target that a handler is tied to
abbrev pub hold_tied : State.State → ℕ → Answer Block → Held
hold_tied s b (Ok x) = record { state = hold s (count_place b); items = Release b ∷ [] }
hold_tied s b (Err u) = holds_nothing (undefined s u)

-- A handler's target is held while it runs: the object that it is tied to, or a counted thing that its `destroy` gives back.
abbrev pub hold_target : State.State → Handler → Option ℕ → Held
hold_target s h (Some b) = hold_tied s b (block_of s b)
hold_target s h None = hold_data s h.argument h.destroy

-- a handler is called with the object, the arguments and its data
abbrev pub run_handler : Held → Emission → Phase → Handler → State.State
run_handler x e p h = push (Ask h.function (Ptr e.object 0 ∷ e.arguments ++ h.argument ∷ []) ∷ x.items ++ Emit (record e { last = h.id }) p ∷ []) x.state

abbrev pub signal_offset : Answer Signal → ℕ
signal_offset (Err u) = 0
signal_offset (Ok x) = x.offset

-- the class handler is read from the object's class struct when its turn comes; the offset 0 is none
abbrev pub run_class : State.State → Emission → ℕ → State.State
run_class s e zero = push (Emit (record e { last = 0 }) After ∷ []) s
run_class s e (suc n) = on s (class_function s e.object (suc n)) (λ f. push (ask f (Ptr e.object 0 ∷ e.arguments) ++ Emit (record e { last = 0 }) After ∷ []) s)

abbrev pub behind_phase : State.State → Emission → Phase → State.State
behind_phase s e Before = push (Emit e Class ∷ []) s
behind_phase s e Class = run_class s e (signal_offset (signal_in s.signals e.signal))
behind_phase s e After = push (Release e.object ∷ []) s

abbrev pub emit_by : State.State → Emission → Phase → Option Handler → State.State
emit_by s e p None = behind_phase s e p
emit_by s e p (Some h) = run_handler (hold_target s h h.tied) e p h

-- the next handler of an emission runs, or the next phase comes; at the end the object is released
abbrev pub emit : State.State → Emission → Phase → State.State
emit s e p = emit_by s e p (next_handler e p s.handlers)

-- 5. Notifications

abbrev pub notify_by : State.State → Cell → Found → ℕ → State.State
notify_by s name f zero = give_nothing s
notify_by s name f (suc n) =
    on s (bind (text_of s name) (λ x. bind (class_of_object s f.number) (λ t. property_named x (chain s t)))) (λ p.
    begin s f.number 0 (Some p.spec.name) (Ptr p.spec.block 0 ∷ []))

-- `notify` is emitted with the property's name as its detail; of an object whose count is 0 it does nothing
abbrev pub g_object_notify : Does
g_object_notify s t (o ∷ name ∷ []) = on s (instance_of s o) (λ f. on s (count_at s (count_place f.number)) (notify_by s name f))
g_object_notify s t cs = stuck s
