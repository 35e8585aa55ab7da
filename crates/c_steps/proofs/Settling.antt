-- Items that take no step are done, one by one.
use Rattle.std.proofs.Common.{◌≡◌, ◌∙◌, refl, sym, ap, subst, ℕ, zero, suc, Bool, true, false, true≢false, List, Option, Some, None}
use Rattle.vg_base.specs.declared.event.CEnd.{CEnd}
use Rattle.c_tree.specs.Env.{Env}
use Rattle.c_meaning.specs.State
use Rattle.c_meaning.specs.State.{Item}
use Rattle.c_meaning.specs.Values.{Program}
use Rattle.c_code.specs.declared.program.Routine.{Routine}
use Rattle.c_code.specs.Machine.{do_first, first_is_silent, settled}
use Rattle.c_run_state.specs.declared.state.Run.{Run}
use Rattle.c_run_state.specs.Shows.{Shows}
use Rattle.c_steps.specs.Performs.{DoesFirst, Settles, TellsSilence}

-- what is left to do of so many items is all that was to do
pub record Leaves (rs : List Routine) (p : Program) (env : Env) (most left : ℕ) (new : Run) (s : State.State) : Type 0 where
  pub state : State.State
  pub shows : Shows env new state
  pub same : settled rs p left state ≡ settled rs p most s

abbrev pub SettlesSoFar : List Routine → ℕ → ℕ → Run → Run → Type 0
SettlesSoFar rs most left old new = (env : Env) (p : Program) (s : State.State) → p.env ≡ env → Shows env old s → Leaves rs p env most left new s

pub begun : (rs : List Routine) (most left : ℕ) (run : Run) → left ≡ most → SettlesSoFar rs most left run run
begun rs most left run all env p s same shows = record { state = s; shows = shows; same = ap (λ n. settled rs p n s) all }

-- only a run that goes on has a first item that takes no step
goes_on : (rs : List Routine) (e : Option CEnd) (is : List Item) → first_is_silent rs e is ≡ true → e ≡ None
goes_on rs None is silent = refl
goes_on rs (Some e) is silent = absurd (true≢false (sym silent))

one_more : (rs : List Routine) (p : Program) (n : ℕ) (s : State.State) → first_is_silent rs s.ended s.work ≡ true
    → settled rs p (suc n) s ≡ settled rs p n (do_first rs p s s.work)
one_more rs p n s silent = ap (λ (b : Bool). elim b as (λ b. State.State) [ true ↦ settled rs p n (do_first rs p s s.work) | false ↦ s ]) silent

no_more : (rs : List Routine) (p : Program) (n : ℕ) (s : State.State) → first_is_silent rs s.ended s.work ≡ false → settled rs p n s ≡ s
no_more rs p zero s loud = refl
no_more rs p (suc n) s loud = ap (λ (b : Bool). elim b as (λ b. State.State) [ true ↦ settled rs p n (do_first rs p s s.work) | false ↦ s ]) loud

-- one item is done
pub gone_on : (rs : List Routine) (most left less : ℕ) (old mid new : Run) (b : Bool) → left ≡ suc less → SettlesSoFar rs most left old mid
    → TellsSilence rs mid b → b ≡ true → DoesFirst rs mid new → SettlesSoFar rs most less old new
gone_on rs most left less old mid new b next so_far tells silent does env p s same shows =
    let l : Leaves rs p env most left mid s = so_far env p s same shows in
    let is = sym (tells env l.state l.shows) ∙ silent in
    record {
      state = do_first rs p l.state l.state.work;
      shows = does env p l.state same (goes_on rs l.state.ended l.state.work is) l.shows;
      same = sym (one_more rs p less l.state is) ∙ ap (λ n. settled rs p n l.state) (sym next) ∙ l.same;
    }

-- none is left that takes no step
pub settled_by_one : (rs : List Routine) (most left : ℕ) (old new : Run) (b : Bool) → SettlesSoFar rs most left old new → TellsSilence rs new b → b ≡ false
    → Settles rs most old new
settled_by_one rs most left old new b so_far tells loud env p s same shows =
    let l : Leaves rs p env most left new s = so_far env p s same shows in
    subst (Shows env new) (sym (no_more rs p left l.state (sym (tells env l.state l.shows) ∙ loud)) ∙ l.same) l.shows

-- as many are done as there can be
pub settled_by_all : (rs : List Routine) (most left : ℕ) (old new : Run) → left ≡ 0 → SettlesSoFar rs most left old new → Settles rs most old new
settled_by_all rs most left old new none so_far env p s same shows =
    let l : Leaves rs p env most left new s = so_far env p s same shows in
    subst (Shows env new) (ap (λ n. settled rs p n l.state) (sym none) ∙ l.same) l.shows
