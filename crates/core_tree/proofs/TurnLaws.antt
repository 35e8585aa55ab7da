-- What a turn dispatches is there and ready.
use Rattle.std.proofs.Common.{◌≡◌, refl, ap, sym, subst, ℕ, zero, suc, ◌%◌, Bool, true, false, List, [], ◌∷◌, length, Option, Some, None, arith, true≢false}
use Rattle.std.specs.Prelude.{slice_get, IsTrue, ◌==◌, ◌&&◌, ◌||◌, nat_le, if◌then◌else◌}
use Rattle.std.specs.List.{list_any}
use Rattle.vg_base.specs.declared.event.Entry.{Entry}
use Rattle.vg_base.specs.declared.event.Entry.TheVariants.{Pick, Wait}
use Rattle.vg_base.specs.Turn.{Due, Choice, Dispatched, Moved, NoSource, dispatched, ready, pick_from, move_on, turn_of, clock_after, after_waits}
use Rattle.core_tree.specs.Laws.{DispatchesReadySource}

-- the sources that are ready at a time and have an id
abbrev is_ready : ℕ → ℕ → Due → Bool
is_ready clock id d = d.id == id && nat_le d.due clock

id_of : Choice → Option ℕ
id_of (Dispatched n) = Some n
id_of Moved = None
id_of NoSource = None

chosen_is : (o : Option ℕ) (id : ℕ) → dispatched o ≡ Dispatched id → o ≡ Some id
unfolding id_of
chosen_is None id e = ap id_of e
chosen_is (Some n) id e = ap id_of e

value_or : ℕ → Option ℕ → ℕ
value_or d None = d
value_or d (Some n) = n

same : (a b : ℕ) → Some a ≡ Some b → a ≡ b
unfolding value_or
same a b e = ap (value_or a) e

or_right : (a b : Bool) → IsTrue b → IsTrue (a || b)
or_right true b h = refl
or_right false b h = h

or_left : (a b : Bool) → IsTrue a → IsTrue (a || b)
or_left true b h = refl
or_left false b h = absurd (true≢false (sym h))

at_first : (a b : ℕ) → a ≡ b → IsTrue ((a == b) && true)
at_first a b e = grind arith

among_at : (d : Due) (id : ℕ) (rest : List ℕ) (any : Bool) (b : Bool) → ((k : ℕ) → slice_get rest k ≡ Some id → IsTrue any)
    → (k : ℕ) → slice_get (if b then d.id ∷ rest else rest) k ≡ Some id → IsTrue (((d.id == id) && b) || any)
among_at d id rest any false h k e = or_right _ any (h k e)
among_at d id rest any true h zero e = or_left _ any (at_first d.id id (same d.id id e))
among_at d id rest any true h (suc k) e = or_right _ any (h k e)

has_item : Option ℕ → Bool
has_item None = false
has_item (Some n) = true

no_item : (k id : ℕ) → slice_get {X = ℕ} [] k ≡ Some id → IsTrue false
unfolding has_item
no_item k id e = ap has_item e

among : (clock : ℕ) (ds : List Due) (k id : ℕ) → slice_get (ready clock ds) k ≡ Some id → IsTrue (list_any (is_ready clock id) ds)
among clock [] k id e = no_item k id e
among clock (d ∷ ds) k id e = among_at d id (ready clock ds) (list_any (is_ready clock id) ds) (nat_le d.due clock) (λ j. among clock ds j id) k e

picked : (entries : List Entry) (clock : ℕ) (ids : List ℕ) (id : ℕ) → (pick_from entries clock ids).choice ≡ Dispatched id → (k : ℕ) × (slice_get ids k ≡ Some id)
picked [] clock ids id e = (0, chosen_is (slice_get ids 0) id e)
picked (Pick k ∷ entries) clock ids id e = (k % length ids, chosen_is (slice_get ids (k % length ids)) id e)
picked (Wait ms ∷ entries) clock ids id e = (0, chosen_is (slice_get ids 0) id e)

clock_stays : (entries : List Entry) (clock : ℕ) (ids : List ℕ) → (pick_from entries clock ids).clock ≡ clock
clock_stays [] clock ids = refl
clock_stays (Pick k ∷ entries) clock ids = refl
clock_stays (Wait ms ∷ entries) clock ids = refl

is_dispatch : Choice → Bool
is_dispatch (Dispatched n) = true
is_dispatch Moved = false
is_dispatch NoSource = false

not_moved : (entries : List Entry) (clock : ℕ) (ds : List Due) (id : ℕ) → (move_on entries clock ds).choice ≡ Dispatched id → IsTrue (list_any (is_ready (move_on entries clock ds).clock id) ds)
unfolding is_dispatch
not_moved entries clock [] id e = ap is_dispatch e
not_moved entries clock (d ∷ ds) id e = absurd (true≢false (sym (ap is_dispatch e)))

turn_by : (entries : List Entry) (clock : ℕ) (ds : List Due) (ids : List ℕ) (id : ℕ) → ready clock ds ≡ ids → (turn_of entries clock ds ids).choice ≡ Dispatched id
    → IsTrue (list_any (is_ready (turn_of entries clock ds ids).clock id) ds)
turn_by entries clock ds [] id r e = not_moved entries clock ds id e
turn_by entries clock ds (i ∷ ids) id r e =
    let p : (k : ℕ) × (slice_get (i ∷ ids) k ≡ Some id) = picked entries clock (i ∷ ids) id e in
    subst (λ (c : ℕ). IsTrue (list_any (is_ready c id) ds)) (sym (clock_stays entries clock (i ∷ ids)))
    (among clock ds p.0 id (subst (λ (xs : List ℕ). slice_get xs p.0 ≡ Some id) (sym r) p.1))

pub dispatches : DispatchesReadySource
dispatches entries clock ds id e = turn_by (after_waits entries) (clock_after entries clock) ds (ready (clock_after entries clock) ds) id refl e
