-- The library's functions of the main loop: loops, sources and turns.
use Rattle.std.specs.Prelude.{ℕ, zero, suc, ◌%◌, ◌^◌, ◌==◌, Bool, true, false, if◌then◌else◌, List, [], ◌∷◌, ◌++◌, Option, Some, None}
use Rattle.vg_base.specs.declared.event.ThingKind.TheVariants as thing
use Rattle.vg_base.specs.declared.event.TrapKind.TheVariants as trap
use Rattle.vg_base.specs.declared.event.CEnd.TheVariants as «end»
use Rattle.vg_base.specs.declared.event.Event.TheVariants as event
use Rattle.vg_base.specs.declared.event.UndefKind.TheVariants as undef
use Rattle.vg_base.specs.Headline.{Returns}
use Rattle.vg_base.specs.Turn.{Due, Choice, Moved, NoSource, Turn, turn, later}
use Rattle.vg_base.specs.Turn as choice
use Rattle.c_tree.specs.Kinds.{int}
use Rattle.c_meaning.specs.declared.cell.Cell.{Cell}
use Rattle.c_meaning.specs.declared.cell.Cell.TheVariants.{Uns, Null}
use Rattle.c_meaning.specs.State
use Rattle.c_meaning.specs.State.{Place, Value, Scalar, Source, Item, Ask, Gave, Answer as Answers}
use Rattle.c_meaning.specs.Blocks.{Answer, bind, on, stop, undefined, say, happens, make_thing, free, next_pointer, live}
use Rattle.c_meaning.specs.Numbers.{scalar, as_kind, is_false, truth}
use Rattle.c_meaning.specs.Texts.{give, give_nothing}
use Rattle.c_meaning.specs.BlockRows.{Does, Found, found, where_it_is, stuck}
use Rattle.c_meaning.specs.TypeRows.{is_counted_at, ask, push}
use Rattle.c_meaning.specs.Counts.{count_at, one_more, one_less}

-- 1. Loops

-- a loop: its block is a thing with its count in front
abbrev pub loop_of : State.State → Cell → Answer Found
loop_of s c = bind (found s c) (λ f. where_it_is (is_counted_at 0 f.block.thing) f)

abbrev pub loop_count : ℕ → Place
loop_count b = record { block = b; at = 0 }

abbrev pub g_main_loop_new : Does
g_main_loop_new s t cs = give (make_thing s thing.Object (Some 0) false (Uns 1 ∷ Null ∷ [])) (next_pointer s)

abbrev pub one_more_of : State.State → ℕ → State.State
one_more_of s b = on s (count_at s (loop_count b)) (one_more s (loop_count b))

abbrev pub g_main_loop_ref : Does
g_main_loop_ref s t (l ∷ []) = on s (loop_of s l) (λ f. give (one_more_of s f.number) l)
g_main_loop_ref s t cs = stuck s

abbrev pub freed_if : ℕ → ℕ → State.State → State.State
freed_if (suc zero) b s = free s b
freed_if n b s = s

-- with its last count a loop is freed
abbrev pub release_loop : State.State → ℕ → State.State
release_loop s b = on s (count_at s (loop_count b)) (λ n. freed_if n b (one_less s (loop_count b) n))

abbrev pub g_main_loop_unref : Does
g_main_loop_unref s t (l ∷ []) = on s (loop_of s l) (λ f. release_loop (give_nothing s) f.number)
g_main_loop_unref s t cs = stuck s

-- the loop that runs is held
abbrev pub start : State.State → ℕ → Option ℕ → State.State
start s b (Some n) = stop s («end».Aborted trap.Loop)
start s b None = push (State.Turn b ∷ []) (record (one_more_of s b) { running = Some b; is_quitting = false })

abbrev pub g_main_loop_run : Does
g_main_loop_run s t (l ∷ []) = on s (loop_of s l) (λ f. start s f.number s.running)
g_main_loop_run s t cs = stuck s

abbrev pub is_running : ℕ → Option ℕ → Bool
is_running b None = false
is_running b (Some n) = n == b

-- the loop that runs returns after this dispatch; of another one it does nothing
abbrev pub g_main_loop_quit : Does
g_main_loop_quit s t (l ∷ []) = on s (loop_of s l) (λ f. give_nothing (if is_running f.number s.running then record s { is_quitting = true } else s))
g_main_loop_quit s t cs = stuck s

-- 2. Sources

abbrev pub add_source : State.State → Option ℕ → ℕ → Cell → Cell → Cell → State.State
add_source s interval due f argument destroy =
    give (record s {
      sources = s.sources ++ record { id = suc s.last_source; interval = interval; due = due; function = f; argument = argument; destroy = destroy } ∷ [];
      last_source = suc s.last_source;
    }) (Uns (suc s.last_source % 2 ^ 32))

abbrev pub g_idle_add_full : Does
g_idle_add_full s t (p ∷ f ∷ argument ∷ destroy ∷ []) = add_source s None 0 f argument destroy
g_idle_add_full s t cs = stuck s

abbrev pub g_timeout_add_full : Does
g_timeout_add_full s t (p ∷ Uns ms ∷ f ∷ argument ∷ destroy ∷ []) = add_source s (Some ms) (later s.clock ms) f argument destroy
g_timeout_add_full s t cs = stuck s

abbrev pub source_with : ℕ → List Source → Option Source
source_with n [] = None
source_with n (x ∷ xs) = if x.id == n then Some x else source_with n xs

abbrev pub without_source : ℕ → List Source → List Source
without_source n [] = []
without_source n (x ∷ xs) = if x.id == n then xs else x ∷ without_source n xs

-- a source is removed, and its `destroy` asked for
abbrev pub remove_source : State.State → Source → List Item → State.State
remove_source s x items = push (ask x.destroy (x.argument ∷ []) ++ items) (record s { sources = without_source x.id s.sources })

-- the first source whose id is this number modulo 2^32
abbrev pub first_with : ℕ → List Source → Option Source
first_with n [] = None
first_with n (x ∷ xs) = if x.id % 2 ^ 32 == n then Some x else first_with n xs

abbrev pub remove_first : State.State → Option Source → State.State
remove_first s None = give s (truth false)
remove_first s (Some x) = remove_source s x (Answers (truth true) ∷ [])

abbrev pub g_source_remove : Does
g_source_remove s t (Uns id ∷ []) = remove_first s (first_with id s.sources)
g_source_remove s t cs = stuck s

-- 3. Turns

abbrev pub dues : List Source → List Due
dues [] = []
dues (x ∷ xs) = record { id = x.id; due = x.due } ∷ dues xs

-- a null function counts as one that gave false
abbrev pub called : Source → Cell → State.State → State.State
called x Null s = give s (truth false)
called x f s = push (Ask f (x.argument ∷ []) ∷ []) s

abbrev pub call_source : State.State → Option Source → State.State
call_source s None = s
call_source s (Some x) = called x x.function s

-- the source's function is called, and then the loop has control again
abbrev pub dispatch : State.State → ℕ → ℕ → State.State
dispatch s b id = call_source (push (Gave id ∷ State.Dispatched b ∷ []) (happens s (event.Dispatch id))) (source_with id s.sources)

-- a move of the clock is followed by another turn
abbrev pub choose : State.State → ℕ → Choice → State.State
choose s b (choice.Dispatched id) = dispatch s b id
choose s b Moved = push (State.Turn b ∷ []) s
choose s b NoSource = stop s «end».Waiting

abbrev pub after_turn : State.State → ℕ → Turn → State.State
after_turn s b t = choose (record s { entries = t.entries; clock = t.clock }) b t.choice

abbrev pub take_turn : State.State → ℕ → State.State
take_turn s b = after_turn s b (turn s.entries s.clock (dues s.sources))

-- when a source is due that stays
abbrev pub due_again : ℕ → Option ℕ → ℕ
due_again clock None = 0
due_again clock (Some interval) = later clock interval

abbrev pub renewed : ℕ → ℕ → List Source → List Source
renewed n clock [] = []
renewed n clock (x ∷ xs) = if x.id == n then record x { due = due_again clock x.interval } ∷ xs else x ∷ renewed n clock xs

-- true keeps a source that is still there, and false removes it
abbrev pub gave_by : State.State → ℕ → Bool → Option Source → State.State
gave_by s id gave None = s
gave_by s id true (Some x) = record s { sources = renewed id s.clock s.sources }
gave_by s id false (Some x) = remove_source s x []

abbrev pub gave_value : State.State → ℕ → Option Value → State.State
gave_value s id None = undefined s undef.Unset
gave_value s id (Some v) = on s (bind (scalar v) (as_kind int)) (λ c. gave_by s id (if is_false c then false else true) (source_with id s.sources))

abbrev pub gave : State.State → ℕ → State.State
gave s id = gave_value s id s.given

-- The dispatch is done: what lives is told, and then the loop returns or takes another turn.
abbrev pub end_dispatch : State.State → ℕ → State.State
end_dispatch s b = after (say s (Returns (live s)))
  where
    after : State.State → State.State
    after t = if t.is_quitting then give_nothing (release_loop (record t { running = None; is_quitting = false }) b) else push (State.Turn b ∷ []) t
