-- Counts of objects: they are taken and given back, and an object that has none left ends.
use Rattle.std.specs.Prelude.{ℕ, zero, suc, ◌+◌, ◌-◌, ◌%◌, ◌^◌, ◌==◌, Bool, false, if◌then◌else◌, List, [], ◌∷◌, ◌++◌, Option, Some, None, Ok, Err}
use Rattle.vg_base.specs.declared.event.UndefKind.TheVariants as undef
use Rattle.c_tree.specs.Constants.{modulo}
use Rattle.c_meaning.specs.declared.cell.Cell.{Cell}
use Rattle.c_meaning.specs.declared.cell.Cell.TheVariants.{Uns, Ptr}
use Rattle.c_meaning.specs.State
use Rattle.c_meaning.specs.State.{Place, TypeRow, Handler, Item, DropHandlers}
use Rattle.c_meaning.specs.Blocks.{Answer, bind, on, get, set, free}
use Rattle.c_meaning.specs.Numbers.{number_of, pointer_of}
use Rattle.c_meaning.specs.Texts.{give, give_nothing}
use Rattle.c_meaning.specs.BlockRows.{Does, stuck}
use Rattle.c_meaning.specs.TypeRows.{instance_of, class_of_object, ask, push}

-- the number in a count cell, as a `gsize`
abbrev pub count_at : State.State → Place → Answer ℕ
count_at s p = bind (bind (get s p) number_of) (λ z. Ok (modulo z (2 ^ 64)))

-- one more or one less, modulo 2^64
abbrev pub one_more : State.State → Place → ℕ → State.State
one_more s p n = set s p (Uns (suc n % 2 ^ 64))

abbrev pub one_less : State.State → Place → ℕ → State.State
one_less s p n = set s p (Uns ((n + (2 ^ 64 - 1)) % 2 ^ 64))

abbrev pub alive : ℕ → Answer ℕ
alive zero = Err undef.Freed
alive (suc n) = Ok (suc n)

-- a count that is not 0; with a count of 0 an object is used as one that is freed
abbrev pub live_count : State.State → Place → Answer ℕ
live_count s p = bind (count_at s p) alive

-- one count is taken; where there is none left, it is a use of what is freed
abbrev pub hold : State.State → Place → State.State
hold s p = on s (live_count s p) (one_more s p)

-- where the count of an object is
abbrev pub count_place : ℕ → Place
count_place b = record { block = b; at = 1 }

-- handlers that are tied to an object
abbrev pub is_tied : ℕ → Option ℕ → Bool
is_tied b None = false
is_tied b (Some t) = t == b

abbrev pub without_tied : ℕ → List Handler → List Handler
without_tied b [] = []
without_tied b (h ∷ hs) = if is_tied b h.tied then without_tied b hs else h ∷ without_tied b hs

-- the function at a place of an object's class struct
abbrev pub class_function : State.State → ℕ → ℕ → Answer Cell
class_function s b at = bind (class_of_object s b) (λ t. bind (get s (record { block = t.class; at = at })) pointer_of)

-- An object ends: the handlers that are tied to it go, `finalize` is called, its own handlers go, and it is freed.
abbrev pub end_object : State.State → ℕ → State.State
end_object s b =
    on s (class_function s b 4) (λ f. push (ask f (Ptr b 0 ∷ []) ++ DropHandlers b ∷ []) (give_nothing (record s { handlers = without_tied b s.handlers })))

abbrev pub ended_if : ℕ → ℕ → State.State → State.State
ended_if (suc zero) b s = end_object s b
ended_if n b s = give_nothing s

-- one count of an object is given back; with the last one it ends
abbrev pub release : State.State → ℕ → State.State
release s b = on s (live_count s (count_place b)) (λ n. ended_if n b (one_less s (count_place b) n))

abbrev pub g_object_ref : Does
g_object_ref s t (o ∷ []) = on s (instance_of s o) (λ f. give (hold s (count_place f.number)) o)
g_object_ref s t cs = stuck s

abbrev pub g_object_unref : Does
g_object_unref s t (o ∷ []) = on s (instance_of s o) (λ f. release s f.number)
g_object_unref s t cs = stuck s

-- the first handler of an object
abbrev pub first_of : ℕ → List Handler → Option Handler
first_of b [] = None
first_of b (h ∷ hs) = if h.object == b then Some h else first_of b hs

abbrev pub without_handler : ℕ → List Handler → List Handler
without_handler n [] = []
without_handler n (h ∷ hs) = if h.id == n then hs else h ∷ without_handler n hs

-- a handler is removed, and its `destroy` asked for
abbrev pub remove_handler : State.State → Handler → List Item → State.State
remove_handler s h items = push (ask h.destroy (h.argument ∷ []) ++ items) (record s { handlers = without_handler h.id s.handlers })

abbrev pub drop_next : State.State → ℕ → Option Handler → State.State
drop_next s b None = give_nothing (free s b)
drop_next s b (Some h) = remove_handler s h (DropHandlers b ∷ [])

-- an object's own handlers go one by one, and then it is freed
abbrev pub drop_handlers : State.State → ℕ → State.State
drop_handlers s b = drop_next s b (first_of b s.handlers)
