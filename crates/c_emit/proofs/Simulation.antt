-- The run of the unit goes in step with the run of the program.
use Rattle.std.proofs.Common.{◌≡◌, ◌∙◌, refl, sym, ap, ap₂, subst, ℕ, zero, suc, ◌+◌, ◌<◌, ◌≤◌, true, false, List, [], ◌∷◌, ◌++◌, map, drop, Some, None, pos, append-nil, arith}
use Rattle.std.specs.Prelude.{max}
use Rattle.std.specs.List.{AllByRecursion}
use Rattle.vg_base.specs.declared.event.VEnd.TheVariants as v
use Rattle.vg_base.specs.declared.event.CEnd.TheVariants as c
use Rattle.vg_base.specs.Run.{SameEnd}
use Rattle.vg_base.specs.Machine.{Answers, unless_ended, move, moves, said, most}
use Rattle.vg_base.specs.World.{Mates}
use Rattle.vg_base.specs.Headline.{Headline, observed}
use Rattle.vg_base.proofs.HeadlineLaws.{answers_headline}
use Rattle.c_tree.specs.declared.kinds.Kind.{Kind}
use Rattle.c_tree.specs.Kinds.{int, is_struct}
use Rattle.c_tree.specs.Env.{Env}
use Rattle.c_meaning.specs.declared.cell.Cell.{Cell}
use Rattle.c_meaning.specs.State
use Rattle.c_meaning.specs.State.{Block, Literal, Scope, Statement, Body, Item, Run, Enter, Finish}
use Rattle.c_meaning.specs.Blocks.{block_at, plain, next_block, live, most_owned, make}
use Rattle.c_meaning.specs.Steps.{step}
use Rattle.c_meaning.specs.Values.{Program}
use Rattle.c_meaning.specs.Runs.{meaning}
use Rattle.c_emit.specs.Program.{Program as Texts, AreTexts}
use Rattle.c_emit.specs.VMeaning.{VState, v_opening, v_meaning, v_live}
use Rattle.c_emit.specs.VMeaning as vala
use Rattle.c_emit.proofs.States.{ArePlain, IsQuiet, Holds, none_live, plain_with, quiet_make, held_make, held_on, block_last}
use Rattle.c_emit.proofs.Steps.{Prints, returns, prints, frame, behind, got, program, not_silent, arguments_of, after_print, print_step, after_return, return_step, after_entry, enter_step, frame_cells}

-- the program in `main`, with these statements left
abbrev v_inside : Texts → VState
v_inside rest = record { things = []; places = []; values = []; work = map vala.Statement rest ++ vala.Leave ∷ []; ended = None }

-- the program at its end
abbrev v_over : VState
v_over = record { things = []; places = []; values = []; work = []; ended = Some (v.Ended (pos 0)) }

module _ (env : Env) (name : List ℕ) (body : Body) (sc : Scope) (k : Kind) (takes : body.parameters ≡ int ∷ k ∷ []) (no_struct : is_struct k ≡ false) where
  abbrev p : Program
  p = program env name body

  -- 1. The states that belong together

  -- the unit in front of its `main`
  pub record IsBefore (texts : Texts) (s : State.State) : Type 0 where
    pub block : ℕ
    pub quiet : IsQuiet s
    pub work : s.work ≡ Enter 0 (arguments_of env name body block) ∷ Finish ∷ []
    pub literals : List Literal
    pub code : Prints sc texts literals body.code
    pub held : AllByRecursion (Holds s) literals
    pub bytes : AreTexts texts

  -- the unit in `main`, in front of the statements that print these texts
  pub record IsInside (rest : Texts) (s : State.State) : Type 0 where
    pub at : ℕ
    pub block : ℕ
    pub cells : List Cell
    pub quiet : IsQuiet s
    pub work : s.work ≡ Run (frame at block) ∷ Finish ∷ []
    pub framed : block_at s.blocks block ≡ Some (plain cells)
    pub literals : List Literal
    pub code : List Statement
    pub comes : drop at body.code ≡ code
    pub prints : Prints sc rest literals code
    pub held : AllByRecursion (Holds s) literals
    pub bytes : AreTexts rest

  -- no more lives in it
  pub record IsLow (s : State.State) : Type 0 where
    pub blocks : ArePlain s.blocks
    pub last : s.last_handler ≡ 0

  pub record IsOver (s : State.State) : Type 0 where
    pub ended : s.ended ≡ Some (c.Ended (pos 0))
    pub low : IsLow s

  pub data Together : VState → State.State → Type 0 where
    before : (texts : Texts) (s : State.State) → IsBefore texts s → Together (v_opening texts) s
    inside : (rest : Texts) (s : State.State) → IsInside rest s → Together (v_inside rest) s
    over : (s : State.State) → IsOver s → Together v_over s

  -- 2. What is counted and what lives

  quiet_low : (s : State.State) → IsQuiet s → IsLow s
  quiet_low s q = record { blocks = q.blocks; last = q.last }

  none_owned : (s : State.State) → IsLow s → (meaning p).machine.top s ≡ 0
  none_owned s l = ap (λ r. max (most_owned r) s.last_handler) (none_live s.blocks l.blocks) ∙ ap (λ n. max 0 n) l.last

  low_of : (x : VState) (s : State.State) → Together x s → IsLow s
  low_of _ _ (before texts s b) = quiet_low s b.quiet
  low_of _ _ (inside rest s i) = quiet_low s i.quiet
  low_of _ _ (over s o) = o.low

  lives : (x : VState) (s : State.State) → Together x s → v_live x ≡ live s
  lives _ _ (before texts s b) = sym (none_live s.blocks b.quiet.blocks)
  lives _ _ (inside rest s i) = sym (none_live s.blocks i.quiet.blocks)
  lives _ _ (over s o) = sym (none_live s.blocks o.low.blocks)

  ends : (x : VState) (s : State.State) → Together x s → SameEnd Mates x.ended s.ended
  ends _ _ (before texts s b) = subst (λ o. SameEnd Mates None o) (sym b.quiet.ended) tt
  ends _ _ (inside rest s i) = subst (λ o. SameEnd Mates None o) (sym i.quiet.ended) tt
  ends _ _ (over s o) = subst (λ e. SameEnd Mates (Some (v.Ended (pos 0))) e) (sym o.ended) refl

  -- 3. Blocks of steps

  abbrev AnswersOf : VState → State.State → Type 0
  AnswersOf x s = Answers true 0 3 v_meaning.machine (meaning p).machine Together x s

  -- one step of the unit answers
  abbrev Answered : VState → State.State → Type 0
  Answered x s = (a : AnswersOf x s) × (a.j ≡ 1)

  none_over : (a b : ℕ) → a ≡ 0 → b ≡ 0 → max a b ≤ 0
  none_over a b e f = rw (e, f) (omega arith)

  -- some steps of the program and one of the unit
  answer : (n : ℕ) (x : VState) (s t : State.State) → 0 < n → n ≤ 3 → s.ended ≡ None → step p s ≡ t → IsLow s → IsLow t → most v_meaning.machine n x ≡ 0
      → said v_meaning.machine n x ≡ t.said
      → Together (moves v_meaning.machine n x) t → Answered x s
  answer n x s t some short e h low low_too peak says kept =
      let moved : move (meaning p).machine s ≡ (t, t.said) = ap (λ o. unless_ended o s ((meaning p).machine.next s)) e ∙ ap (λ z. (z, z.said)) h in
      let tops : max ((meaning p).machine.top s) ((meaning p).machine.top t) ≤ 0 =
      none_over ((meaning p).machine.top s) ((meaning p).machine.top t) (none_owned s low) (none_owned t low_too) in (
        record {
          n = n;
          j = 1;
          some = some;
          some_too = omega arith;
          short = λ _. short;
          short_too = λ _. omega arith;
          peak = subst (λ z. z ≤ (meaning p).machine.top s + 0) (sym peak) (omega arith);
          peak_too = let low_peak : max ((meaning p).machine.top s) ((meaning p).machine.top (move (meaning p).machine s).0) ≤ 0 =
              subst (λ m. max ((meaning p).machine.top s) ((meaning p).machine.top m.0) ≤ 0) (sym moved) tops in omega arith;
          said = says ∙ sym (append-nil t.said) ∙ ap (λ m. m.1 ++ []) (sym moved);
          kept = subst (λ m. Together (moves v_meaning.machine n x) m.0) (sym moved) kept;
        },
        refl,
      )

  entered : (texts : Texts) (s : State.State) (b : IsBefore texts s) → IsInside texts (after_entry env name body s b.block)
  entered texts s b =
      let quiet : IsQuiet (make s (frame_cells env name body b.block)) = quiet_make s (frame_cells env name body b.block) b.quiet in
      record {
        at = 0;
        block = next_block s;
        cells = frame_cells env name body b.block;
        quiet = record { ended = quiet.ended; blocks = quiet.blocks; last = quiet.last };
        work = refl;
        framed = block_last s.blocks (plain (frame_cells env name body b.block));
        literals = b.literals;
        code = body.code;
        comes = refl;
        prints = b.code;
        held = held_on (make s (frame_cells env name body b.block)) (after_entry env name body s b.block) b.literals refl refl
            (held_make s (frame_cells env name body b.block) b.literals b.held);
        bytes = b.bytes;
      }

  begins : (texts : Texts) (s : State.State) → IsBefore texts s → Answered (v_opening texts) s
  begins texts s b =
      let i : IsInside texts (after_entry env name body s b.block) = entered texts s b in
      answer 1 (v_opening texts) s (after_entry env name body s b.block) (omega arith) (omega arith) b.quiet.ended
      (enter_step env name body s b.block k b.quiet.ended b.work takes no_struct (not_silent env name body 0 (next_block s) sc refl b.code))
      (quiet_low s b.quiet) (quiet_low (after_entry env name body s b.block) i.quiet) refl refl
      (inside texts (after_entry env name body s b.block) i)

  -- where the statements are left, and nothing is behind them yet
  goes_on : (rest : Texts) (s : State.State) (i : IsInside rest s) (texts : Texts) (ls : List Literal) (code : List Statement) → rest ≡ texts
      → drop i.at body.code ≡ code → Prints sc texts ls code → AllByRecursion (Holds s) ls → AreTexts texts
      → Answered (v_inside texts) s
  goes_on rest s i _ _ _ same comes (returns a z) held bytes =
      let t : State.State = after_return env name body s i.block i.cells in
      let low : IsLow t = record {
        blocks = plain_with s.blocks i.block (record (plain i.cells) { is_live = false }) i.quiet.blocks refl;
        last =
            i.quiet.last;
      } in
      answer 1 (v_inside []) s t (omega arith) (omega arith) i.quiet.ended
      (return_step env name body s i.at i.block sc a i.cells i.quiet.ended i.work (got body.code i.at _ _ comes) z i.framed)
      (quiet_low s i.quiet) low refl refl
      (over t (record { ended = refl; low = low }))
  goes_on rest s i _ _ _ same comes (prints text start x {texts} {ls} {code} q more) held bytes =
      let t : State.State = after_print env name body s i.at i.block text in
      let low : IsLow t = record { blocks = i.quiet.blocks; last = i.quiet.last } in
      let behind_it = behind body.code i.at _ _ comes in
      answer 3 (v_inside (text ∷ texts)) s t (omega arith) (omega arith) i.quiet.ended
      (print_step env name body s i.at i.block sc start x text i.quiet.ended i.work (got body.code i.at _ _ comes) q held.0 bytes.0
      (not_silent env name body (suc i.at) i.block sc behind_it more)) (quiet_low s i.quiet) low refl refl
      (inside texts t
      (record {
        at = suc i.at;
        block = i.block;
        cells = i.cells;
        quiet = record { ended = i.quiet.ended; blocks = i.quiet.blocks; last = i.quiet.last };
        work = refl;
        framed = i.framed;
        literals = ls;
        code = code;
        comes = behind_it;
        prints = more;
        held = held_on s t ls refl refl held.1;
        bytes = bytes.1;
      }))

  stays : (s : State.State) → IsOver s → Answered v_over s
  stays s o =
      let moved : move (meaning p).machine s ≡ (s, []) = ap (λ e. unless_ended e s ((meaning p).machine.next s)) o.ended in
      let tops : max ((meaning p).machine.top s) ((meaning p).machine.top s) ≤ 0 =
      none_over ((meaning p).machine.top s) ((meaning p).machine.top s) (none_owned s o.low) (none_owned s o.low) in (
        record {
          n = 1;
          j = 1;
          some = omega arith;
          some_too = omega arith;
          short = λ _. omega arith;
          short_too = λ _. omega arith;
          peak = omega arith;
          peak_too = let low_peak : max ((meaning p).machine.top s) ((meaning p).machine.top (move (meaning p).machine s).0) ≤ 0 =
              subst (λ m. max ((meaning p).machine.top s) ((meaning p).machine.top m.0) ≤ 0) (sym moved) tops in omega arith;
          said = ap (λ m. m.1 ++ []) (sym moved);
          kept = subst (λ m. Together v_over m.0) (sym moved) (over s o);
        },
        refl,
      )

  -- The call of `main` answers to the entry, a statement to a call, leaving `main` to its return, and at the end both stay.
  answers : (x : VState) (s : State.State) → Together x s → Answered x s
  answers _ _ (before texts s b) = begins texts s b
  answers _ _ (inside rest s i) = goes_on rest s i rest i.literals i.code refl i.comes i.prints i.held i.bytes
  answers _ _ (over s o) = stays s o

  -- From the state before `main` on the two runs agree.
  pub agree : (texts : Texts) (s : State.State) → IsBefore texts s → Headline (observed v_meaning (v_opening texts)) (observed (meaning p) s)
  agree texts s b =
      answers_headline v_meaning (meaning p) Together ends (λ x y r _. lives x y r) 0 3 true (λ x y r. (answers x y r).0) (v_opening texts) s
      (before texts s b) (omega arith)
      (subst (λ n. n ≤ 0) (sym (none_owned s (quiet_low s b.quiet))) (omega arith))

  -- no count is above 0, however many steps there are
  none_counted : (n : ℕ) (x : VState) (s : State.State) → Together x s → most (meaning p).machine n s ≡ 0
  none_counted zero x s r = none_owned s (low_of x s r)
  none_counted (suc n) x s r =
      let a = answers x s r in
      let after : Together (moves v_meaning.machine a.0.n x) (move (meaning p).machine s).0 =
      subst (λ j. Together (moves v_meaning.machine a.0.n x) (moves (meaning p).machine j s)) a.1 a.0.kept in
      ap₂ max (none_owned s (low_of x s r)) (none_counted n (moves v_meaning.machine a.0.n x) (move (meaning p).machine s).0 after)

  pub nothing_counted : (texts : Texts) (s : State.State) → IsBefore texts s → (n : ℕ) → most (meaning p).machine n s ≡ 0
  nothing_counted texts s b n = none_counted n (v_opening texts) s (before texts s b)
