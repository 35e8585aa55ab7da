-- Who owns a thing: the places, all of which are gone through.
use Rattle.std.specs.Prelude.{ℕ, zero, suc, ◌+◌, ◌==◌, ◌&&◌, Bool, true, false, max, List, [], ◌∷◌, count_by, Option, Some, None, slice_get}
use Rattle.vg_base.specs.declared.event.ThingKind.{ThingKind}
use Rattle.vg_base.specs.declared.event.ThingKind.TheVariants as kind
use Rattle.vg_base.specs.declared.event.LiveRow.{LiveRow}
use Rattle.core_tree.specs.State.{Value, Thing, Delegate, Method, Body, Place, Item, End, Status, Gone, Content, ObjectOf, LoopOf, TextOf, ArrayOf, ScopeOf, ErrorOf, ActivationOf, ThingState, State}

-- The thing that an owning place owns while it holds this: the thing itself, or the target of a delegate.
-- What resumes an activation owns nothing.
abbrev pub owned_by : Value → Option ℕ
owned_by (Thing t) = Some t
owned_by (Delegate (Method m) (Thing t)) = Some t
owned_by (Delegate (Body lambda body at) (Thing t)) = Some t
owned_by _ = None

-- it is this thing
abbrev pub is_thing : ℕ → Option ℕ → Bool
is_thing t None = false
is_thing t (Some u) = t == u

-- the place owns the thing
abbrev pub owns : ℕ → Place → Bool
owns t p = p.owning && is_thing t (owned_by p.holds)

-- the work that ends a thing
abbrev pub ends : ℕ → Item → Bool
ends t (End u stage) = t == u
ends t _ = false

-- the kinds of which the work that ends a thing counts as an owner of it
abbrev pub owned_by_ending : Content → Bool
owned_by_ending (TextOf bytes) = true
owned_by_ending (ArrayOf item n) = true
owned_by_ending (ErrorOf domain code message) = true
owned_by_ending (ActivationOf method slot waiter) = true
owned_by_ending _ = false

-- how many owners a thing has that is this
abbrev pub owners_of : State → ℕ → Content → ℕ
owners_of s t content = count_by (owns t) s.places + count_by (λ i. owned_by_ending content && ends t i) s.work

-- no place owns the thing
abbrev pub is_unowned : State → ℕ → Bool
is_unowned s t = count_by (owns t) s.places == 0

-- the thing with a serial; serials count from 1
abbrev pub thing_at : State → ℕ → Option ThingState
thing_at s zero = None
thing_at s (suc n) = slice_get s.things n

-- the kind of a thing, as the trace names it
abbrev pub kind_of : Content → ThingKind
kind_of (ObjectOf class) = kind.Object
kind_of LoopOf = kind.Object
kind_of (TextOf bytes) = kind.Text
kind_of (ArrayOf item n) = kind.Array
kind_of (ScopeOf n has_outer has_this) = kind.Scope
kind_of (ErrorOf domain code message) = kind.Error
kind_of (ActivationOf method slot waiter) = kind.Activation

-- the thing is gone
abbrev pub is_gone_status : Status → Bool
is_gone_status Gone = true
is_gone_status _ = false

-- a row for a thing that is not gone
abbrev pub row_for : Bool → LiveRow → List LiveRow → List LiveRow
row_for true row rows = rows
row_for false row rows = row ∷ rows

-- the rows of the things from a serial on
abbrev pub rows_from : State → ℕ → List ThingState → List LiveRow
rows_from s t [] = []
rows_from s t (x ∷ xs) =
    row_for (is_gone_status x.status) (record { kind = kind_of x.content; serial = t; owners = owners_of s t x.content }) (rows_from s (suc t) xs)

-- what lives: kind, serial and owners of each thing that is not gone, by serial
abbrev pub live : State → List LiveRow
live s = rows_from s 1 s.things

-- the most owners in a list of rows
abbrev pub most_owned : List LiveRow → ℕ
most_owned [] = 0
most_owned (r ∷ rs) = max r.owners (most_owned rs)
