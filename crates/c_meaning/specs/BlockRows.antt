-- The library's functions of blocks, arrays, texts and errors, of printing, and of the input.
use Rattle.std.specs.Prelude.{ℕ, zero, suc, ◌+◌, ◌-◌, ◌*◌, ◌%◌, ◌^◌, ◌&&◌, ◌||◌, nat_le, Bool, true, false, if◌then◌else◌, ℤ, int_le, List, [], ◌∷◌, ◌++◌, length, take, Option, Some, None, Ok, Err, codes}
use Rattle.std.specs.Str.{bytes_eq}
use Rattle.vg_base.specs.declared.event.ThingKind.{ThingKind}
use Rattle.vg_base.specs.declared.event.ThingKind.TheVariants as thing
use Rattle.vg_base.specs.declared.event.TrapKind.{TrapKind}
use Rattle.vg_base.specs.declared.event.TrapKind.TheVariants as trap
use Rattle.vg_base.specs.declared.event.CEnd.TheVariants as «end»
use Rattle.vg_base.specs.declared.event.Event.TheVariants as event
use Rattle.vg_base.specs.declared.event.Stream.{Stream}
use Rattle.vg_base.specs.declared.event.UndefKind.TheVariants as undef
use Rattle.c_tree.specs.Kinds.{int, uint}
use Rattle.c_meaning.specs.declared.cell.Cell.{Cell}
use Rattle.c_meaning.specs.declared.cell.Cell.TheVariants.{Int, Uns, Ptr, Null}
use Rattle.c_meaning.specs.State
use Rattle.c_meaning.specs.State.{Block, Place, Thing}
use Rattle.c_meaning.specs.Blocks.{Answer, bind, on, stop, undefined, happens, block_of, get, set, get_cells, add_block, make_thing, free, next_pointer, next_block, zeroed, unset}
use Rattle.c_meaning.specs.Numbers.{pointed, as_kind, number_of, truth}
use Rattle.c_meaning.specs.Texts.{text_of, text_up_to, optional_text, text_cells, give, give_nothing, give_text, compared_optional, is_front, is_back, place_in, number_read, line_of, behind_line, before_zero}
use Rattle.c_meaning.specs.Formats.{formatted}

-- A type that stands before the arguments: its cells, and the name of its first field where it is a struct.
pub record TypeArgument : Type 0 where
  pub cells : ℕ
  pub first : List ℕ

-- what a function does with its arguments
abbrev pub Does : Type 0
Does = State.State → TypeArgument → List Cell → State.State

-- arguments of another number, which no well-formed unit has
abbrev pub stuck : State.State → State.State
stuck s = undefined s undef.Kind

-- 1. Blocks that functions take

-- the block that a pointer to its start leads to, and its number
pub record Found : Type 0 where
  pub number : ℕ
  pub block : Block

abbrev pub at_start : ℕ → ℕ → Block → Answer Found
at_start n zero b = Ok (record { number = n; block = b })
at_start n (suc at) b = Err undef.Kind

abbrev pub found : State.State → Cell → Answer Found
found s c = bind (pointed s c) (λ p. bind (block_of s p.block) (at_start p.block p.at))

abbrev pub is_kind : ThingKind → ThingKind → Bool
is_kind thing.Object thing.Object = true
is_kind thing.Text thing.Text = true
is_kind thing.Array thing.Array = true
is_kind thing.Scope thing.Scope = true
is_kind thing.Error thing.Error = true
is_kind thing.Activation thing.Activation = true
is_kind k j = false

abbrev pub is_thing : ThingKind → Option Thing → Bool
is_thing k None = false
is_thing k (Some t) = is_kind k t.kind

abbrev pub where_it_is : {A : Type 0} → Bool → A → Answer A
where_it_is true a = Ok a
where_it_is false a = Err undef.Kind

-- the thing of a kind that a pointer to its start leads to
abbrev pub thing_of : State.State → ThingKind → Cell → Answer Found
thing_of s k c = bind (found s c) (λ f. where_it_is (is_thing k f.block.thing) f)

-- 2. Blocks and arrays

-- what `g_slice_new0` makes, by the name of the first field
abbrev pub slice_thing : State.State → ℕ → Bool → Bool → State.State
slice_thing s n true a = make_thing s thing.Scope (Some 0) true (zeroed n)
slice_thing s n false true = make_thing s thing.Activation None true (zeroed n)
slice_thing s n false false = add_block s (record { cells = zeroed n; is_live = true; thing = None; is_sliced = true })

abbrev pub g_slice_new0 : Does
g_slice_new0 s t cs = give (slice_thing s t.cells (bytes_eq t.first (codes "_ref_count_")) (bytes_eq t.first (codes "_state_"))) (next_pointer s)

abbrev pub g_slice_free : Does
g_slice_free s t (c ∷ []) = on s (bind (found s c) (λ f. where_it_is f.block.is_sliced f)) (λ f. give_nothing (free s f.number))
g_slice_free s t cs = stuck s

-- `g_free` takes texts, arrays and what `g_slice_new0` made
abbrev pub is_freed_by_g_free : Block → Bool
is_freed_by_g_free b = b.is_sliced || is_thing thing.Text b.thing || is_thing thing.Array b.thing

abbrev pub g_free : Does
g_free s t (Null ∷ []) = give_nothing s
g_free s t (c ∷ []) = on s (bind (found s c) (λ f. where_it_is (is_freed_by_g_free f.block) f)) (λ f. give_nothing (free s f.number))
g_free s t cs = stuck s

-- an array of so many cells, if it is not too long
abbrev pub new_array : Bool → State.State → ℕ → State.State
new_array true s n = stop s («end».Aborted trap.Length)
new_array false s n = give (make_thing s thing.Array None false (zeroed n)) (next_pointer s)

abbrev pub is_too_long : ℕ → Bool
is_too_long n = nat_le (2 ^ 63) n

abbrev pub g_new0 : Does
g_new0 s t (Uns n ∷ []) = new_array (is_too_long n) s (n * t.cells)
g_new0 s t cs = stuck s

-- the first cells of an array, and unset ones behind them
abbrev pub resized : List Cell → ℕ → List Cell
resized cells n = take n cells ++ unset (n - length cells)

abbrev pub renewed : Bool → State.State → List Cell → ℕ → State.State
renewed true s cells n = stop s («end».Aborted trap.Length)
renewed false s cells n = give (make_thing s thing.Array None false (resized cells n)) (next_pointer s)

abbrev pub freed_after : State.State → ℕ → State.State
freed_after s n = elim s.ended as (λ e. State.State) [ Some e ↦ s | None ↦ free s n ]

-- the new array is made before the old one goes
abbrev pub g_renew : Does
g_renew s t (Null ∷ Uns n ∷ []) = renewed (is_too_long n) s [] (n * t.cells)
g_renew s t (c ∷ Uns n ∷ []) = on s (thing_of s thing.Array c) (λ f. freed_after (renewed (is_too_long n) s f.block.cells (n * t.cells)) f.number)
g_renew s t cs = stuck s

-- 3. Texts

abbrev pub give_optional : State.State → Option (List ℕ) → State.State
give_optional s None = give s Null
give_optional s (Some bytes) = give_text s bytes

abbrev pub g_strdup : Does
g_strdup s t (c ∷ []) = on s (optional_text s c) (give_optional s)
g_strdup s t cs = stuck s

abbrev pub g_strndup : Does
g_strndup s t (c ∷ Uns n ∷ []) = on s (text_up_to s c n) (give_text s)
g_strndup s t cs = stuck s

abbrev pub g_strconcat : Does
g_strconcat s t (a ∷ b ∷ Null ∷ []) = on s (text_of s a) (λ x. on s (text_of s b) (λ y. give_text s (x ++ y)))
g_strconcat s t cs = stuck s

abbrev pub g_strdup_printf : Does
g_strdup_printf s t (f ∷ cs) = on s (formatted s f cs) (give_text s)
g_strdup_printf s t [] = stuck s

abbrev pub g_strcmp0 : Does
g_strcmp0 s t (a ∷ b ∷ []) = on s (optional_text s a) (λ x. on s (optional_text s b) (λ y. give s (Int (compared_optional x y))))
g_strcmp0 s t cs = stuck s

abbrev pub strlen : Does
strlen s t (c ∷ []) = on s (text_of s c) (λ x. give s (Uns (length x)))
strlen s t cs = stuck s

abbrev pub g_str_has_prefix : Does
g_str_has_prefix s t (a ∷ b ∷ []) = on s (text_of s a) (λ x. on s (text_of s b) (λ y. give s (truth (is_front y x))))
g_str_has_prefix s t cs = stuck s

abbrev pub g_str_has_suffix : Does
g_str_has_suffix s t (a ∷ b ∷ []) = on s (text_of s a) (λ x. on s (text_of s b) (λ y. give s (truth (is_back y x))))
g_str_has_suffix s t cs = stuck s

-- a pointer to the least place, or null
abbrev pub pointer_at : Cell → Option ℕ → Cell
pointer_at (Ptr b at) (Some n) = Ptr b (at + n)
pointer_at c o = Null

abbrev pub g_strstr_len : Does
g_strstr_len s t (a ∷ n ∷ b ∷ []) = on s (text_of s a) (λ x. on s (text_of s b) (λ y. give s (pointer_at a (place_in y x))))
g_strstr_len s t cs = stuck s

abbrev pub g_ascii_strtoll : Does
g_ascii_strtoll s t (a ∷ e ∷ n ∷ []) = on s (text_of s a) (λ x. give s (Int (number_read x)))
g_ascii_strtoll s t cs = stuck s

-- 4. Printing, ends, the input, quarks

abbrev pub print_to : Stream → Does
print_to to s t (f ∷ cs) = on s (formatted s f cs) (λ bytes. give_nothing (happens s (event.Print to bytes)))
print_to to s t [] = stuck s

abbrev pub trap_word : TrapKind → List ℕ
trap_word trap.Null = codes "null"
trap_word trap.Division = codes "division"
trap_word trap.Index = codes "index"
trap_word trap.Cast = codes "cast"
trap_word trap.Length = codes "length"
trap_word trap.Range = codes "range"
trap_word trap.Assert = codes "assert"
trap_word trap.Resume = codes "resume"
trap_word trap.Loop = codes "loop"

abbrev pub all_traps : List TrapKind
all_traps = trap.Null ∷ trap.Division ∷ trap.Index ∷ trap.Cast ∷ trap.Length ∷ trap.Range ∷ trap.Assert ∷ trap.Resume ∷ trap.Loop ∷ []

-- the trap whose word is that text
abbrev pub trap_named : List TrapKind → List ℕ → Answer TrapKind
trap_named [] x = Err undef.Kind
trap_named (k ∷ ks) x = if bytes_eq (trap_word k) x then Ok k else trap_named ks x

abbrev pub g_error : Does
g_error s t (c ∷ []) = on s (bind (text_of s c) (trap_named all_traps)) (λ k. stop s («end».Aborted k))
g_error s t cs = stuck s

-- the next line, cut at a zero byte, or null at the end
abbrev pub line_read : State.State → List ℕ → State.State
line_read s [] = give s Null
line_read s (b ∷ bs) = give_text (record s { input = behind_line (b ∷ bs) }) (before_zero (line_of (b ∷ bs)))

abbrev pub vala_rt_read_line : Does
vala_rt_read_line s t cs = line_read s s.input

-- the place of a text among those given so far, counted from a number on; a new one is the next
abbrev pub quark_in : ℕ → List (List ℕ) → List ℕ → ℕ
quark_in n [] x = n
quark_in n (q ∷ qs) x = if bytes_eq q x then n else quark_in (suc n) qs x

abbrev pub with_quark : List (List ℕ) → List ℕ → List (List ℕ)
with_quark [] x = x ∷ []
with_quark (q ∷ qs) x = if bytes_eq q x then q ∷ qs else q ∷ with_quark qs x

abbrev pub g_quark_from_static_string : Does
g_quark_from_static_string s t (c ∷ []) = on s (text_of s c) (λ x. give (record s { quarks = with_quark s.quarks x }) (Uns (quark_in 1 s.quarks x % 2 ^ 32)))
g_quark_from_static_string s t cs = stuck s

-- 5. Errors: domain, code, and a pointer to the message, which stands behind them in the same block

abbrev pub new_error : Bool → State.State → Cell → Cell → List ℕ → State.State
new_error true s d c bytes = stop s («end».Aborted trap.Length)
new_error false s d c bytes = give (make_thing s thing.Error None false (d ∷ c ∷ Ptr (next_block s) 3 ∷ text_cells bytes)) (next_pointer s)

abbrev pub give_error : State.State → Cell → Cell → List ℕ → State.State
give_error s d c bytes = new_error (is_too_long (length bytes)) s d c bytes

abbrev pub g_error_new : Does
g_error_new s t (d ∷ c ∷ f ∷ cs) = on s (formatted s f cs) (give_error s d c)
g_error_new s t cs = stuck s

-- the cell of a block at a place
abbrev pub part : State.State → Found → ℕ → Answer Cell
part s f at = get s (record { block = f.number; at = at })

abbrev pub g_error_copy : Does
g_error_copy s t (e ∷ []) =
    on s (thing_of s thing.Error e) (λ f.
    on s (bind (part s f 0) (as_kind uint)) (λ d.
    on s (bind (part s f 1) (as_kind int)) (λ c.
    on s (bind (part s f 2) (text_of s)) (λ bytes. give_error s d c bytes))))
g_error_copy s t cs = stuck s

abbrev pub g_error_free : Does
g_error_free s t (e ∷ []) = on s (thing_of s thing.Error e) (λ f. give_nothing (free s f.number))
g_error_free s t cs = stuck s

-- an error moves to a place, where what was there is lost
abbrev pub g_propagate_error : Does
g_propagate_error s t (Null ∷ e ∷ []) = on s (thing_of s thing.Error e) (λ f. give_nothing (free s f.number))
g_propagate_error s t (d ∷ e ∷ []) = on s (bind (pointed s d) (λ p. bind (get_cells s p 1) (λ old. Ok p))) (λ p. on s (thing_of s thing.Error e) (λ f. give_nothing (set s p e)))
g_propagate_error s t cs = stuck s

-- two numbers are equal
abbrev pub same_number : ℤ → ℤ → Bool
same_number a b = int_le a b && int_le b a

-- the domain and the code in an error, as numbers of their types
abbrev pub domain_of : State.State → Found → Answer ℤ
domain_of s f = bind (bind (part s f 0) (as_kind uint)) number_of

abbrev pub code_of : State.State → Found → Answer ℤ
code_of s f = bind (bind (part s f 1) (as_kind int)) number_of

abbrev pub matches : State.State → Found → Cell → Cell → Answer Cell
matches s f d c = bind (domain_of s f) (λ x. bind (number_of d) (λ y. bind (code_of s f) (λ z. bind (number_of c) (λ w. Ok (truth (same_number x y && same_number z w))))))

abbrev pub g_error_matches : Does
g_error_matches s t (Null ∷ d ∷ c ∷ []) = give s (truth false)
g_error_matches s t (e ∷ d ∷ c ∷ []) = on s (bind (thing_of s thing.Error e) (λ f. matches s f d c)) (give s)
g_error_matches s t cs = stuck s
