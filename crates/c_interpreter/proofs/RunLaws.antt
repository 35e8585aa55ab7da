-- What the sinks took after some steps, and what one more step adds.
use Rattle.std.proofs.Common.{◌≡◌, ℕ, ◌+◌, ◌-◌, ◌≤◌, ◌<◌, List, [], ◌∷◌, ◌++◌, take, subst, Option, Some, None, Ok, Err, refl, sym, ap, ◌∙◌, arith, append_assoc, append-nil}
use Rattle.vg_base.specs.declared.event.CEnd.{CEnd}
use Rattle.vg_base.specs.declared.event.Event.TheVariants as event
use Rattle.vg_base.specs.declared.event.Memory.{Memory}
use Rattle.vg_base.specs.declared.event.Stream.{Stream}
use Rattle.vg_base.specs.declared.event.Stream.TheVariants as to
use Rattle.vg_base.specs.Machine.{Machine, move, moves, said}
use Rattle.vg_base.specs.Run.{Begins}
use Rattle.vg_base.specs.Headline.{Said, Happens, Returns}
use Rattle.vg_base.specs.Laws.{printed_by}
use Rattle.vg_base.specs.Outside.{Takes}
use Rattle.vg_base.proofs.RunLaws.{begins_trans, cut_begins}
use Rattle.vg_base.proofs.MachineLaws.{moves_add, said_add, moves_ended, said_ended, run_is}
use Rattle.vg_base.proofs.HeadlineLaws.{printed_by_append}
use Rattle.vg_base.proofs.OutsideLaws.{takes_none, takes_both}
use Rattle.c_tree.specs.declared.unit.Unit.{Unit as CUnit}
use Rattle.c_meaning.specs.State
use Rattle.c_interpreter.specs.declared.machine.Stepped.{Stepped}
use Rattle.c_interpreter.specs.declared.machine.Stepped.TheVariants.{Ran, Printed, Ended}
use Rattle.c_interpreter.specs.declared.run.RunEnd.{RunEnd}
use Rattle.c_interpreter.specs.declared.run.RunEnd.TheVariants.{Done}
use Rattle.c_interpreter.specs.declared.run.RunFault.{RunFault}
use Rattle.c_interpreter.specs.declared.run.RunFault.TheVariants as fault
use Rattle.c_interpreter.specs.Kept.{Kept, IsStep, Piece, Steps, Tells, machine_of, made_unless, pieces, state_of, steps_made}
use Rattle.c_interpreter.specs.Runs.{Finished, PutsOn, PutsPiece, PutsTold, Refused, RunsSteps, Sinks, TookFront, TookFronts, end_of, other, prints, sink}
use Rattle.c_interpreter.proofs.CourseLaws.{at_end}
use Rattle.c_interpreter.proofs.StepCounts.{made_add, made_all, made_bound, made_end, none_before}
use Rattle.c_interpreter.proofs.Fronts.{front_of_text}

-- 1. Pieces and prints

-- what a piece puts on a stream
abbrev pub piece_on : Stream → Stream → List ℕ → List ℕ
piece_on to.Out to.Out bytes = bytes
piece_on to.Err to.Err bytes = bytes
piece_on p s bytes = []

abbrev pub pieces_on : Stream → List Piece → List ℕ
pieces_on p [] = []
pieces_on p (q ∷ qs) = piece_on p q.stream q.bytes ++ pieces_on p qs

pub by_pieces : (p : Stream) (xs : List Said) → printed_by p xs ≡ pieces_on p (pieces xs)
by_pieces to.Out [] = refl
by_pieces to.Err [] = refl
by_pieces to.Out (Happens (event.Print to.Out bytes) ∷ xs) = ap (λ l. bytes ++ l) (by_pieces to.Out xs)
by_pieces to.Out (Happens (event.Print to.Err bytes) ∷ xs) = by_pieces to.Out xs
by_pieces to.Err (Happens (event.Print to.Out bytes) ∷ xs) = by_pieces to.Err xs
by_pieces to.Err (Happens (event.Print to.Err bytes) ∷ xs) = ap (λ l. bytes ++ l) (by_pieces to.Err xs)
by_pieces to.Out (Happens (event.Made k) ∷ xs) = by_pieces to.Out xs
by_pieces to.Err (Happens (event.Made k) ∷ xs) = by_pieces to.Err xs
by_pieces to.Out (Happens (event.Gone n) ∷ xs) = by_pieces to.Out xs
by_pieces to.Err (Happens (event.Gone n) ∷ xs) = by_pieces to.Err xs
by_pieces to.Out (Happens (event.Dispatch n) ∷ xs) = by_pieces to.Out xs
by_pieces to.Err (Happens (event.Dispatch n) ∷ xs) = by_pieces to.Err xs
by_pieces to.Out (Returns rows ∷ xs) = by_pieces to.Out xs
by_pieces to.Err (Returns rows ∷ xs) = by_pieces to.Err xs

pub prints_none : (p : Stream) (xs : List Said) → pieces xs ≡ [] → printed_by p xs ≡ []
prints_none p xs e = by_pieces p xs ∙ ap (pieces_on p) e

pub prints_one : (p s : Stream) (bytes : List ℕ) (xs : List Said) → pieces xs ≡ record { stream = s; bytes = bytes } ∷ [] → printed_by p xs ≡ piece_on p s bytes
prints_one p s bytes xs e = by_pieces p xs ∙ ap (pieces_on p) e ∙ append-nil (piece_on p s bytes)

-- a step that prints had no end in front of it
pub said_live : (unit : CUnit) (s : State.State) (q : Piece) → pieces (move (machine_of unit) s).1 ≡ q ∷ [] → s.ended ≡ None
said_live unit s q e = go s.ended refl
  where
    go : (o : Option CEnd) → s.ended ≡ o → s.ended ≡ None
    go None h = h
    go (Some x) h = let none : pieces (move (machine_of unit) s).1 ≡ [] = ap (λ m. pieces m.1) (at_end unit s x h) in cc

-- 2. Prints of steps

pub prints_add : (unit : CUnit) (n m : ℕ) (s : State.State) (p : Stream)
    → prints unit (n + m) s p ≡ prints unit n s p ++ prints unit m (moves (machine_of unit) n s) p
prints_add unit n m s p =
    ap (printed_by p) (said_add (machine_of unit) n m s) ∙ printed_by_append p (said (machine_of unit) n s) (said (machine_of unit) m (moves (machine_of unit) n s))

-- more steps print no less
pub prints_grow : (unit : CUnit) (n m : ℕ) (s : State.State) (p : Stream) → n ≤ m → Begins (prints unit n s p) (prints unit m s p)
prints_grow unit n m s p h =
    cut_begins (printed_by p) (printed_by_append p) (said (machine_of unit) n s) (said (machine_of unit) m s) ((run_is (machine_of unit) s).grows n m h)

pub prints_next : (unit : CUnit) (i : ℕ) (s now : State.State) (p : Stream) → now ≡ moves (machine_of unit) i s
    → prints unit (i + 1) s p ≡ prints unit i s p ++ printed_by p (move (machine_of unit) now).1
prints_next unit i s now p e =
    prints_add unit i 1 s p
    ∙ ap (λ x. prints unit i s p ++ printed_by p ((move (machine_of unit) x).1 ++ [])) (sym e)
    ∙ ap (λ l. prints unit i s p ++ printed_by p l) (append-nil (move (machine_of unit) now).1)

-- 3. Steps so far

-- Some steps were asked for and made, up to an end, and their prints were put.
pub record SoFar (old : Kept) (i : ℕ) (before : Sinks) (now : Kept) (after : Sinks) : Type 0 where
  pub finished : Finished old i before now after
  pub unit : now.unit ≡ old.unit
  pub world : now.world ≡ old.world
  pub keeps : now.keeps ≡ old.keeps
  pub exhausted : now.exhausted ≡ old.exhausted

-- a step of a unit
pub record StepOf (unit : CUnit) (now : Kept) (answer : Stepped) (new : Kept) : Type 0 where
  pub done : new.done ≡ now.done + steps_made (machine_of unit) 1 (state_of now)
  pub state : state_of new ≡ (move (machine_of unit) (state_of now)).0
  pub tells : Tells answer (move (machine_of unit) (state_of now)).1 (state_of new).ended

pub step_of : (unit : CUnit) (now : Kept) (answer : Stepped) (new : Kept) → now.unit ≡ unit → IsStep now answer new → StepOf unit now answer new
step_of unit now answer new e s = subst (λ u. StepOf u now answer new) e (record { done = s.done; state = s.state; tells = s.tells })

pub nothing_yet : (old : Kept) (before : Sinks) → SoFar old 0 before old before
nothing_yet old before =
    record {
      finished = record { done = omega arith; state = refl; took = λ p. takes_none (sink p before) (sink p before) refl; faults = λ p. omega arith };
      unit = refl;
      world = refl;
      keeps = refl;
      exhausted = refl;
    }

-- what a step puts on the sinks
pub record Puts (xs : List Said) (old new : Sinks) : Type 0 where
  pub took : (p : Stream) → Takes (sink p old) (printed_by p xs) (sink p new)
  pub faults : (p : Stream) → (sink p old).faults ≤ (sink p new).faults

pub puts_none : (xs : List Said) (old : Sinks) → pieces xs ≡ [] → Puts xs old old
puts_none xs old e =
    record {
      took = λ p. subst (λ l. Takes (sink p old) l (sink p old)) (sym (prints_none p xs e))
          (takes_none (sink p old) (sink p old) refl);
      faults = λ p. omega arith;
    }

-- a piece that was put on its sink
pub puts_one : (xs : List Said) (s : Stream) (bytes : List ℕ) (u : Unit {0}) (old new : Sinks) → pieces xs ≡ record { stream = s; bytes = bytes } ∷ []
    → PutsOn s bytes old (Ok u) new → Puts xs old new
puts_one xs s bytes u old new e puts =
    record {
      took = λ p. subst (λ l. Takes (sink p old) l (sink p new)) (sym (prints_one p s bytes xs e)) (took p s puts.here puts.there);
      faults = λ p. more p s puts.here puts.there;
    }
  where
    took : (p s : Stream) → PutsPiece s (sink s old) bytes (Ok u) (sink s new) → sink (other s) new ≡ sink (other s) old
        → Takes (sink p old) (piece_on p s bytes) (sink p new)
    took to.Out to.Out here there = here.1
    took to.Err to.Err here there = here.1
    took to.Out to.Err here there = takes_none old.out new.out (ap (λ v. v.taken) there)
    took to.Err to.Out here there = takes_none old.err new.err (ap (λ v. v.taken) there)

    more : (p s : Stream) → PutsPiece s (sink s old) bytes (Ok u) (sink s new) → sink (other s) new ≡ sink (other s) old → (sink p old).faults ≤ (sink p new).faults
    more to.Out to.Out here there = here.0
    more to.Err to.Err here there = here.0
    more to.Out to.Err here there = omega (arith, ap (λ v. v.faults) there)
    more to.Err to.Out here there = omega (arith, ap (λ v. v.faults) there)

-- one more step, whose print was put
pub one_more : (old : Kept) (i : ℕ) (before : Sinks) (now : Kept) (mid : Sinks) (new : Kept) (after : Sinks) (answer : Stepped) → SoFar old i before now mid
    → Steps now (Ok answer) new → Puts (move (machine_of old.unit) (state_of now)).1 mid after → SoFar old (i + 1) before new after
one_more old i before now mid new after answer far steps puts =
    let M = machine_of old.unit in
    let s = state_of old in
    let f = far.finished in
    let step : StepOf old.unit now answer new = step_of old.unit now answer new far.unit steps.by_answer in
    let made : steps_made M (i + 1) s ≡ steps_made M i s + steps_made M 1 (moves M i s) = made_add M i 1 s in
    let here : steps_made M 1 (state_of now) ≡ steps_made M 1 (moves M i s) = ap (steps_made M 1) f.state in
    record {
      finished = record {
        done = omega (arith, step.done, f.done, made, here);
        state = step.state ∙ ap (λ x. (move M x).0) f.state ∙ sym (moves_add M i 1 s);
        took = λ p. subst (λ l. Takes (sink p before) l (sink p after)) (sym (prints_next old.unit i s (state_of now) p f.state))
            (takes_both (sink p before) (sink p mid) (sink p after) (prints old.unit i s p) (printed_by p (move M (state_of now)).1) (f.took p) (puts.took p));
        faults = λ p. omega (arith, f.faults p, puts.faults p);
      };
      unit = steps.unit ∙ far.unit;
      world = steps.world ∙ far.world;
      keeps = steps.keeps ∙ far.keeps;
      exhausted = steps.exhausted ∙ far.exhausted;
    }

-- at an end the steps that are left do nothing
pub all_at_end : (old : Kept) (i steps : ℕ) (before : Sinks) (now : Kept) (after : Sinks) (e : CEnd) → Finished old i before now after
    → (state_of now).ended ≡ Some e
    → i ≤ steps → Finished old steps before now after
all_at_end old i steps before now after e f ended h =
    let all : i + (steps - i) ≡ steps = omega arith in subst (λ k. Finished old k before now after) all (left (steps - i))
  where
    left : (m : ℕ) → Finished old (i + m) before now after
    left m =
        let M = machine_of old.unit in
        let s = state_of old in
        let there = moves M i s in
        let ended_there : there.ended ≡ Some e = ap (λ x. x.ended) (sym f.state) ∙ ended in
        let no_more : steps_made M m there ≡ 0 = made_end M m there e ended_there in
        let silent : (p : Stream) → prints old.unit (i + m) s p ≡ prints old.unit i s p =
        λ p. prints_add old.unit i m s p ∙ ap (λ l. prints old.unit i s p ++ printed_by p l) (said_ended M m there e ended_there) ∙ append-nil
        (prints old.unit i s p)
        in
        record {
          state = f.state ∙ sym (moves_add M i m s ∙ moves_ended M m there e ended_there);
          done = omega (arith, f.done, made_add M i m s, no_more);
          took = λ p. subst (λ l. Takes (sink p before) l (sink p after)) (sym (silent p)) (f.took p);
          faults = f.faults;
        }

-- 4. Answers

pub fronts_finished : (old : Kept) (i steps : ℕ) (before : Sinks) (now : Kept) (after : Sinks) → Finished old i before now after → i ≤ steps
    → TookFronts old steps before after
fronts_finished old i steps before now after f h =
    λ p. record { front = prints old.unit i (state_of old) p; begins = prints_grow old.unit i steps (state_of old) p h; took = f.took p; faults = f.faults p }

-- all steps were made
pub runs_finished : (old : Kept) (i steps : ℕ) (before : Sinks) (now : Kept) (after : Sinks) (e : RunEnd) → SoFar old i before now after
    → Finished old steps before now after
    → e ≡ end_of (state_of now).ended → RunsSteps old steps before (Ok e) now after
runs_finished old i steps before now after e far f told =
    record {
      by_answer = f;
      answered = told;
      fronts = fronts_finished old steps steps before now after f (omega arith);
      bound = omega (arith, f.done, made_bound (machine_of old.unit) steps (state_of old));
      unit = far.unit;
      world = far.world;
      keeps = far.keeps;
      same = far.exhausted;
    }

-- memory ran out in a step
pub runs_out : (old : Kept) (i steps : ℕ) (before : Sinks) (now : Kept) (after : Sinks) (new : Kept) (m : Memory) → SoFar old i before now after → i < steps
    → Steps now (Err m) new
    → RunsSteps old steps before (Err fault.Memory) new after
runs_out old i steps before now after new m far h s =
    record {
      by_answer = tt;
      answered = tt;
      fronts = fronts_finished old i steps before now after far.finished (omega (arith, h));
      bound = omega (arith, far.finished.done, made_bound (machine_of old.unit) i (state_of old), s.by_answer, h);
      unit = s.unit ∙ far.unit;
      world = s.world ∙ far.world;
      keeps = s.keeps ∙ far.keeps;
      same = refl;
    }

-- the print of a step was not put whole
module _ (old : Kept) (i steps : ℕ) (before : Sinks) (now : Kept) (mid : Sinks) (new : Kept) (after : Sinks) (stream : Stream) (bytes : List ℕ)
    (far : SoFar old i before now mid) (h : i < steps) (step : Steps now (Ok (Printed stream bytes)) new)
    (there : sink (other stream) after ≡ sink (other stream) mid) where
  abbrev M : Machine State.State Said CEnd
  M = machine_of old.unit

  abbrev s0 : State.State
  s0 = state_of old

  abbrev f : Finished old i before now mid
  f = far.finished

  one : StepOf old.unit now (Printed stream bytes) new
  one = step_of old.unit now (Printed stream bytes) new far.unit step.by_answer

  last : pieces (move M (moves M i s0)).1 ≡ record { stream = stream; bytes = bytes } ∷ []
  last = ap (λ x. pieces (move M x).1) (sym f.state) ∙ one.tells

  live : (moves M i s0).ended ≡ None
  live = said_live old.unit (moves M i s0) (record { stream = stream; bytes = bytes }) last

  counted : new.done ≡ old.done + (i + 1)
  counted =
      let made : steps_made M i s0 ≡ i = made_all M i s0 live in
      let here : steps_made M 1 (state_of now) ≡ 1 = ap (steps_made M 1) f.state ∙ ap (λ o. made_unless o 0) live in
      omega (arith, one.done, f.done, made, here)

  -- a front of the print was taken
  pub fronts_cut : TookFront (sink stream mid) bytes (sink stream after) → TookFronts old steps before after
  fronts_cut cut p = go p stream refl
    where
      cut_there : (q : Stream) → q ≡ stream → TookFront (sink q before) (prints old.unit steps s0 q) (sink q after)
      cut_there q e = subst (λ r. TookFront (sink r before) (prints old.unit steps s0 r) (sink r after)) (sym e) (record {
        front = prints old.unit i s0 stream ++ cut.front;
        begins = begins_trans (prints old.unit i s0 stream ++ cut.front) (prints old.unit (i + 1) s0 stream) (prints old.unit steps s0 stream) (
          cut.begins.0,
          append_assoc (prints old.unit i s0 stream) cut.front cut.begins.0
              ∙ ap (λ l. prints old.unit i s0 stream ++ l) (cut.begins.1 ∙ sym (prints_one stream stream bytes (move M (state_of now)).1 one.tells ∙ itself stream))
              ∙ sym (prints_next old.unit i s0 (state_of now) stream f.state),
        )
            (prints_grow old.unit (i + 1) steps s0 stream (omega (arith, h)));
        took = takes_both (sink stream before) (sink stream mid) (sink stream after) (prints old.unit i s0 stream) cut.front (f.took stream) cut.took;
        faults = omega (arith, f.faults stream, cut.faults);
      })
        where
          itself : (r : Stream) → piece_on r r bytes ≡ bytes
          itself to.Out = refl
          itself to.Err = refl

      not_there : (q : Stream) → q ≡ other stream → TookFront (sink q before) (prints old.unit steps s0 q) (sink q after)
      not_there q e = subst (λ r. TookFront (sink r before) (prints old.unit steps s0 r) (sink r after)) (sym e) (record {
        front = prints old.unit i s0 (other stream);
        begins = prints_grow old.unit i steps s0 (other stream) (omega (arith, h));
        took = subst (λ v. Takes (sink (other stream) before) (prints old.unit i s0 (other stream)) v) (sym there) (f.took (other stream));
        faults = omega (arith, f.faults (other stream), ap (λ v. v.faults) there);
      })

      go : (p s : Stream) → s ≡ stream → TookFront (sink p before) (prints old.unit steps s0 p) (sink p after)
      go to.Out to.Out e = cut_there to.Out e
      go to.Err to.Err e = cut_there to.Err e
      go to.Out to.Err e = not_there to.Out (ap other e)
      go to.Err to.Out e = not_there to.Err (ap other e)

  -- what is answered where a sink refused
  pub runs_refused : (u : Stream) (taken : ℕ) → PutsPiece stream (sink stream mid) bytes (Err (fault.Out u taken)) (sink stream after)
      → RunsSteps old steps before (Err (fault.Out u taken)) new after
  runs_refused u taken puts =
      record {
        by_answer = subst (λ v. Refused old steps before v taken new after) (sym puts.0) (record {
          earlier = i;
          fewer = h;
          unended = λ k w. none_before M k i s0 w live;
          piece = bytes;
          said_last = last;
          part = puts.1;
          took = takes_both (sink stream before) (sink stream mid) (sink stream after) (prints old.unit i s0 stream) (take taken bytes) (f.took stream) puts.4;
          rose = omega (arith, puts.3, f.faults stream);
          took_other = subst (λ v. Takes (sink (other stream) before) (prints old.unit i s0 (other stream)) v) (sym there) (f.took (other stream));
          faults_other = omega (arith, f.faults (other stream), ap (λ v. v.faults) there);
          state = one.state ∙ ap (λ x. (move M x).0) f.state ∙ sym (moves_add M i 1 s0);
          done = counted;
        });
        answered = tt;
        fronts = fronts_cut (front_of_text (sink stream mid) bytes taken (sink stream after) puts.2 puts.4);
        bound = omega (arith, counted, h);
        unit = step.unit ∙ far.unit;
        world = step.world ∙ far.world;
        keeps = step.keeps ∙ far.keeps;
        same = step.exhausted ∙ far.exhausted;
      }

  -- what is answered where memory ran out in a put
  pub runs_cut : PutsPiece stream (sink stream mid) bytes (Err fault.Memory) (sink stream after) → RunsSteps old steps before (Err fault.Memory) new after
  runs_cut cut =
      record {
        by_answer = tt;
        answered = tt;
        fronts = fronts_cut cut;
        bound = omega (arith, counted, h);
        unit = step.unit ∙ far.unit;
        world = step.world ∙ far.world;
        keeps = step.keeps ∙ far.keeps;
        same = refl;
      }

  pub runs_stopped : (e : RunFault) → PutsOn stream bytes mid (Err e) after → RunsSteps old steps before (Err e) new after
  runs_stopped (fault.Out u taken) puts = runs_refused u taken puts.here
  runs_stopped fault.Memory puts = runs_cut puts.here

-- a step more keeps within what was asked for
pub room_left : (old : Kept) (i steps bound : ℕ) (before : Sinks) (now : Kept) (after : Sinks) → SoFar old i before now after → i < steps → old.done + steps ≤ bound
    → now.done + 1 ≤ bound
room_left old i steps bound before now after far h room = omega (arith, far.finished.done, made_bound (machine_of old.unit) i (state_of old), h, room)

-- 5. What a step told

pub puts_told : (told : Stepped) (xs : List Said) (o : Option CEnd) (u : Unit {0}) (old new : Sinks) → Tells told xs o → PutsTold told old (Ok u) new
    → Puts xs old new
puts_told Ran xs o u old new tells puts = subst (Puts xs old) (sym puts.1) (puts_none xs old tells.0)
puts_told (Printed stream bytes) xs o u old new tells puts = puts_one xs stream bytes u old new tells puts
puts_told (Ended e) xs o u old new tells puts = subst (Puts xs old) (sym puts.1) (puts_none xs old tells.0)

-- one more step, whatever it told
pub more_told : (old : Kept) (i : ℕ) (before : Sinks) (now : Kept) (mid : Sinks) (new : Kept) (after : Sinks) (told : Stepped) (u : Unit {0})
    → SoFar old i before now mid
    → Steps now (Ok told) new → PutsTold told mid (Ok u) after → SoFar old (i + 1) before new after
more_told old i before now mid new after told u far steps puts =
    one_more old i before now mid new after told far steps
    (puts_told told (move (machine_of old.unit) (state_of now)).1 (state_of new).ended u mid after
    (step_of old.unit now told new far.unit steps.by_answer).tells puts)

-- an end was told
pub runs_ended : (old : Kept) (i steps : ℕ) (before : Sinks) (now : Kept) (mid : Sinks) (new : Kept) (after : Sinks) (told : Stepped) (e : CEnd) (u : Unit {0})
    → SoFar old i before now mid
    → i < steps → Steps now (Ok told) new → PutsTold told mid (Ok u) after → told ≡ Ended e → RunsSteps old steps before (Ok (Done e)) new after
runs_ended old i steps before now mid new after told e u far h s puts is =
    let more : SoFar old (i + 1) before new after = more_told old i before now mid new after told u far s puts in
    let tells : Tells (Ended e) (move (machine_of old.unit) (state_of now)).1 (state_of new).ended =
    subst (λ t. Tells t (move (machine_of old.unit) (state_of now)).1 (state_of new).ended) is (step_of old.unit now told new far.unit s.by_answer).tells
    in
    let all : Finished old steps before new after = all_at_end old (i + 1) steps before new after e more.finished tells.1 (omega (arith, h)) in
    runs_finished old (i + 1) steps before new after (Done e) more all (ap end_of (sym tells.1))

-- what was told was not put whole
pub told_stopped : (old : Kept) (i steps : ℕ) (before : Sinks) (now : Kept) (mid : Sinks) (new : Kept) (after : Sinks) (told : Stepped) (e : RunFault)
    → SoFar old i before now mid
    → i < steps → Steps now (Ok told) new → PutsTold told mid (Err e) after → RunsSteps old steps before (Err e) new after
told_stopped old i steps before now mid new after (Printed stream bytes) e far h s puts =
    runs_stopped old i steps before now mid new after stream bytes far h s puts.there e puts
told_stopped old i steps before now mid new after Ran e far h s puts = let no = puts.0 in cc
told_stopped old i steps before now mid new after (Ended x) e far h s puts = let no = puts.0 in cc

-- all steps that were asked for were made
pub runs_all : (old : Kept) (i steps : ℕ) (before : Sinks) (now : Kept) (after : Sinks) (o : Option CEnd) → SoFar old i before now after → i ≤ steps → steps ≤ i
    → o ≡ (state_of now).ended → RunsSteps old steps before (Ok (end_of o)) now after
runs_all old i steps before now after o far h k e =
    let same : i ≡ steps = omega (arith, h, k) in
    runs_finished old i steps before now after (end_of o) far (subst (λ n. Finished old n before now after) same far.finished) (ap end_of e)
