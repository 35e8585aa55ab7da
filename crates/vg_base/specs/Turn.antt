-- The choice of a turn of the main loop: which source is dispatched next, or how the clock goes on.
use Rattle.std.specs.Prelude.{ℕ, zero, suc, ◌+◌, ◌-◌, ◌%◌, ◌^◌, nat_le, min, Bool, true, false, if◌then◌else◌, List, [], ◌∷◌, length, Option, Some, None, slice_get}
use Rattle.vg_base.specs.declared.event.Entry.{Entry}
use Rattle.vg_base.specs.declared.event.Entry.TheVariants.{Pick, Wait}

-- a source, as far as a turn looks at it: its id, and the time from which on it is ready, which is 0 where it always is
pub record Due : Type 0 where
  pub id : ℕ
  pub due : ℕ

-- what a turn does
pub data Choice : Type 0 where
  -- the source with this id is dispatched
  Dispatched : ℕ → Choice
  -- no source is ready yet, and the clock goes to the least due time
  Moved : Choice
  -- there is no source, and the run ends
  NoSource : Choice

-- a turn: the entries that are left, the clock, and what it does
pub record Turn : Type 0 where
  pub entries : List Entry
  pub clock : ℕ
  pub choice : Choice

-- the clock stops at the greatest number of 64 bits
abbrev pub later : ℕ → ℕ → ℕ
later clock ms = min (clock + ms) (2 ^ 64 - 1)

-- all `wait` entries in front are used up, each adding its milliseconds to the clock
abbrev pub clock_after : List Entry → ℕ → ℕ
clock_after (Wait ms ∷ entries) clock = clock_after entries (later clock ms)
clock_after _ clock = clock

abbrev pub after_waits : List Entry → List Entry
after_waits (Wait ms ∷ entries) = after_waits entries
after_waits entries = entries

-- those that are ready, by rising id
abbrev pub ready : ℕ → List Due → List ℕ
ready clock [] = []
ready clock (d ∷ ds) = if nat_le d.due clock then d.id ∷ ready clock ds else ready clock ds

abbrev pub least_due : ℕ → List Due → ℕ
least_due least [] = least
least_due least (d ∷ ds) = least_due (min least d.due) ds

abbrev pub dispatched : Option ℕ → Choice
dispatched None = NoSource
dispatched (Some id) = Dispatched id

-- Where some are ready, an entry `pick` in front chooses by its number modulo their count, and without one the first is taken.
abbrev pub pick_from : List Entry → ℕ → List ℕ → Turn
pick_from (Pick k ∷ entries) clock ids = record { entries = entries; clock = clock; choice = dispatched (slice_get ids (k % length ids)) }
pick_from entries clock ids = record { entries = entries; clock = clock; choice = dispatched (slice_get ids 0) }

-- Where none is ready, the clock goes on to the least due time.
abbrev pub move_on : List Entry → ℕ → List Due → Turn
move_on entries clock [] = record { entries = entries; clock = clock; choice = NoSource }
move_on entries clock (d ∷ ds) = record { entries = entries; clock = least_due d.due ds; choice = Moved }

abbrev pub turn_of : List Entry → ℕ → List Due → List ℕ → Turn
turn_of entries clock sources [] = move_on entries clock sources
turn_of entries clock sources (id ∷ ids) = pick_from entries clock (id ∷ ids)

-- A TURN, from the entries, the clock and the sources by rising id.
abbrev pub turn : List Entry → ℕ → List Due → Turn
turn entries clock sources =
    let now : ℕ = clock_after entries clock in
    turn_of (after_waits entries) now sources (ready now sources)
