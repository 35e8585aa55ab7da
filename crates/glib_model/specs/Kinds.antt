-- Which blocks are things, and which `g_slice_new0` made.
use Rattle.std.specs.Prelude.{◌≡◌, ℕ, zero, suc, Bool, true, false, List, Option, Some, None, Ok, Err, slice_get, nat_eq, if◌then◌else◌}
use Rattle.vg_base.specs.declared.event.ThingKind.{ThingKind}
use Rattle.c_meaning.specs.declared.cell.Cell.{Cell}
use Rattle.c_meaning.specs.State
use Rattle.c_meaning.specs.State.{Block, Thing}
use Rattle.c_meaning.specs.Blocks.{Answer, block_of}
use Rattle.c_meaning.specs.BlockRows.{Found, is_kind}
use Rattle.cell_heap.specs.States.{heap_of}
use Rattle.glib_model.specs.declared.kinds.Mark.{Mark}

-- what is at a place of a list that may hold nothing there
abbrev pub joined : Option (Option Mark) → Option Mark
joined None = None
joined (Some mark) = mark

-- the mark of the block with a number, which counts from 1
abbrev pub mark_at : List (Option Mark) → ℕ → Option Mark
mark_at marks zero = None
mark_at marks (suc n) = joined (slice_get marks n)

-- the mark of what a block is, if it is a thing or sliced
abbrev pub mark_by : Option Thing → Bool → Option Mark
mark_by (Some t) sliced = Some (record { kind = Some t.kind; count = t.count; is_sliced = sliced })
mark_by None true = Some (record { kind = None; count = None; is_sliced = true })
mark_by None false = None

abbrev pub mark_of : Answer Block → Option Mark
mark_of (Ok b) = mark_by b.thing b.is_sliced
mark_of (Err u) = None

-- THE RUN GOES ON, AND HAS THAT HEAP AND THOSE MARKS
pub record Sees (s : State.State) (heap : List (Option (List Cell))) (marks : List (Option Mark)) : Type 0 where
  pub going : s.ended ≡ None
  pub blocks : heap_of s ≡ heap
  pub things : (n : ℕ) → mark_at marks n ≡ mark_of (block_of s n)

-- after a change of one number each other one is as it was
abbrev pub Changed : List (Option Mark) → List (Option Mark) → ℕ → Option Mark → Type 0
Changed old new n mark = (k : ℕ) → mark_at new k ≡ (if nat_eq k n then mark else mark_at old k)

-- the kind of thing that a mark tells
abbrev pub is_marked : ThingKind → Option Mark → Bool
is_marked k None = false
is_marked k (Some m) = is_some_kind k m.kind
  where
    is_some_kind : ThingKind → Option ThingKind → Bool
    is_some_kind k None = false
    is_some_kind k (Some j) = is_kind k j

-- whether `g_slice_new0` made it
abbrev pub is_marked_sliced : Option Mark → Bool
is_marked_sliced None = false
is_marked_sliced (Some m) = m.is_sliced

-- the number of what is found
abbrev pub numbered : Answer Found → Answer ℕ
numbered (Ok f) = Ok f.number
numbered (Err u) = Err u
