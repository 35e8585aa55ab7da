-- What is observed of a run, and the sentence that the C run and the Vala run agree in it.
use Rattle.std.specs.Prelude.{◌≡◌, ℕ, ◌<◌, ◌^◌, List, [], ◌∷◌, ◌++◌, Option, Some, slice_get, IsSome}
use Rattle.vg_base.specs.declared.event.Event.{Event}
use Rattle.vg_base.specs.declared.event.Event.TheVariants.{Print}
use Rattle.vg_base.specs.declared.event.Stream.{Stream}
use Rattle.vg_base.specs.declared.event.Stream.TheVariants.{Out, Err}
use Rattle.vg_base.specs.declared.event.LiveRow.{LiveRow}
use Rattle.vg_base.specs.declared.event.VEnd.{VEnd}
use Rattle.vg_base.specs.declared.event.CEnd.{CEnd}
use Rattle.vg_base.specs.Run.{Begins, EndGoes, flipped}
use Rattle.vg_base.specs.Machine.{Machine, moves, said, most}
use Rattle.vg_base.specs.World.{Mates}

-- What a step says: an event of the trace, or, at a return to the main loop, what lives.
pub data Said : Type 0 where
  Happens : Event → Said
  Returns : List LiveRow → Said

-- A meaning: a machine that says these, and what lives in a state.
pub record Meaning (S F : Type 0) : Type 0 where
  pub machine : Machine S Said F
  pub live : S → List LiveRow

abbrev pub events : List Said → List Event
events [] = []
events (Happens e ∷ xs) = e ∷ events xs
events (Returns rows ∷ xs) = events xs

abbrev pub returns : List Said → List (List LiveRow)
returns [] = []
returns (Happens e ∷ xs) = returns xs
returns (Returns rows ∷ xs) = rows ∷ returns xs

-- What is observed of a run after n steps: its trace, what lived at each return to the main loop, what lives, its end,
-- and the most owners that a thing had and handlers that were connected so far.
pub record Observed (F : Type 0) : Type 0 where
  pub trace : ℕ → List Event
  pub returned : ℕ → List (List LiveRow)
  pub live : ℕ → List LiveRow
  pub ended : ℕ → Option F
  pub peak : ℕ → ℕ

abbrev pub observed : {S F : Type 0} → Meaning S F → S → Observed F
observed M s =
    record {
      trace = λ n. events (said M.machine n s);
      returned = λ n. returns (said M.machine n s);
      live = λ n. M.live (moves M.machine n s);
      ended = λ n. M.machine.ended (moves M.machine n s);
      peak = λ n. most M.machine n s;
    }

-- up to n steps no thing had 2^63 owners, and fewer than 2^63 handlers were connected
abbrev pub WithinLimits : {F : Type 0} → Observed F → ℕ → Type 0
WithinLimits X n = X.peak n < 2 ^ 63

-- the trace of the first after n steps is a front of the second's after some number of steps, and an end has its mate there
abbrev pub Follows : {F G : Type 0} → (F → G → Type 0) → Observed F → Observed G → Type 0
Follows mate X Y =
    (n : ℕ) → WithinLimits X n → (m : ℕ) × Begins (X.trace n) (Y.trace m) × EndGoes mate (X.ended n) (Y.ended m)

-- what lived at the k-th return to the main loop, and at the end, is the same in both
pub record SameLive {F G : Type 0} (X : Observed F) (Y : Observed G) : Type 0 where
  pub at_return : (k n m : ℕ) (x y : List LiveRow) → WithinLimits X n → WithinLimits Y m → slice_get (X.returned n) k ≡ Some x → slice_get (Y.returned m) k ≡ Some y → x ≡ y
  pub at_end : (n m : ℕ) → WithinLimits X n → WithinLimits Y m → IsSome (X.ended n) → IsSome (Y.ended m) → X.live n ≡ Y.live m

-- THE HEADLINE, for one world. The C run does what the Vala run does, up to every bound; it does nothing else; and at each
-- return to the main loop and at the end every thing's count is the number of places that own it.
pub record Headline (V : Observed VEnd) (C : Observed CEnd) : Type 0 where
  pub forward : Follows Mates V C
  pub backward : Follows (flipped Mates) C V
  pub live : SameLive V C

-- the bytes printed on a stream
abbrev pub printed : Stream → List Event → List ℕ
printed s [] = []
printed Out (Print Out bytes ∷ es) = bytes ++ printed Out es
printed Err (Print Err bytes ∷ es) = bytes ++ printed Err es
printed s (e ∷ es) = printed s es
