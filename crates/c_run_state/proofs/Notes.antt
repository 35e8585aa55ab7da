-- What is noted of blocks that are made and freed.
use Rattle.std.proofs.Common.{Vec, Global, inl, inr, ◌≡◌, ◌∙◌, refl, sym, ap, subst, ℕ, suc, ◌+◌, Bool, true, false, List, [], ◌∷◌, ◌++◌, length, map, Option, Some, None, Ok, Err, cond, nat_eq, arith}
use Rattle.std.proofs.lemmas.List.{length-map}
use Rattle.std.proofs.lemmas.Bool.Decides.{eqb_tells}
use Rattle.vg_base.specs.declared.event.Event.{Event}
use Rattle.vg_base.specs.declared.event.Event.TheVariants as event
use Rattle.vg_base.specs.declared.event.ThingKind.{ThingKind}
use Rattle.vg_base.specs.declared.event.UndefKind.{UndefKind}
use Rattle.vg_base.specs.declared.event.UndefKind.TheVariants as undef
use Rattle.c_tree.specs.Env.{Env}
use Rattle.c_meaning.specs.declared.cell.Cell.{Cell}
use Rattle.c_meaning.specs.State
use Rattle.c_meaning.specs.State.{Block, Thing}
use Rattle.c_meaning.specs.Blocks.{Answer, on, undefined, say_gone, block_of, block_at, live_block, with_block, add_block, make, make_thing, free, plain, class_size, raised, live_of_size}
use Rattle.glib_model.specs.declared.kinds.Mark.{Mark}
use Rattle.glib_model.specs.Kinds.{mark_at, Changed}
use Rattle.c_run_state.specs.declared.state.Standing.{Standing}
use Rattle.c_run_state.specs.declared.state.Standing.TheVariants as standing
use Rattle.c_run_state.specs.declared.state.Run.{Run}
use Rattle.c_run_state.specs.Standings.{standing_at, struck}
use Rattle.c_run_state.specs.Shows.{Books, standing_of, standing_by}
use Rattle.c_run_state.proofs.Listed.{marked, marks_listed, mark_added, no_mark_behind, standings_added, marks_added, standings_struck, mark_struck, standing_found, standing_is}
use Rattle.c_run_state.proofs.Parts.{with_blocks, with_said}

-- 1. A block is made

as_many : (env : Env) (run : Run) (s : State.State) → Books env run s → length run.standings.items ≡ length (map marked s.blocks)
as_many env run s b = ap length b.standings ∙ length-map s.blocks standing_of ∙ sym (length-map s.blocks marked)

marks_are : (env : Env) (run : Run) (s : State.State) → Books env run s → (n : ℕ) → mark_at run.kinds n ≡ mark_at (map marked s.blocks) n
marks_are env run s b n = b.marks n ∙ marks_listed s.blocks n

-- the marks with that of one more block
marks_with : (env : Env) (run : Run) (s : State.State) (x : Block) (kinds : List (Option Mark)) → Changed run.kinds kinds (length run.standings.items + 1) (marked x) → Books env run s
    → (n : ℕ) → mark_at kinds n ≡ mark_at (map marked (s.blocks ++ x ∷ [])) n
marks_with env run s x kinds changed b n =
    changed n
    ∙ ap (λ k. cond (nat_eq n (k + 1)) (marked x) (mark_at run.kinds n)) (as_many env run s b)
    ∙ ap (λ m. cond (nat_eq n (length (map marked s.blocks) + 1)) (marked x) m) (marks_are env run s b n)
    ∙ sym (mark_added (map marked s.blocks) (marked x) n)
    ∙ ap (λ ms. mark_at ms n) (sym (marks_added s.blocks x))

-- no block has the next number
unmarked : (env : Env) (run : Run) (s : State.State) → Books env run s → Changed run.kinds run.kinds (length run.standings.items + 1) None
unmarked env run s b k =
    elim (eqb_tells k (length run.standings.items + 1)) [
      | inl same ↦ (let is : k ≡ length run.standings.items + 1 = same.1 in
          marks_are env run s b k ∙ ap (mark_at (map marked s.blocks)) (is ∙ ap (λ n. n + 1) (as_many env run s b)) ∙ no_mark_behind (map marked s.blocks)
          ∙ ap (λ c. let o : Option Mark = cond c None (mark_at run.kinds k) in o) (sym same.0))
      | inr apart ↦ ap (λ c. let o : Option Mark = cond c None (mark_at run.kinds k) in o) (sym apart.0)
    ]

standings_with : (env : Env) (run : Run) (s : State.State) (x : Block) (standings : Vec Standing Global) → standings.items ≡ run.standings.items ++ standing_of x ∷ [] → Books env run s → standings.items ≡ map standing_of (s.blocks ++ x ∷ [])
standings_with env run s x standings more b = more ∙ ap (λ xs. xs ++ standing_of x ∷ []) b.standings ∙ sym (standings_added s.blocks x)

-- the peaks behind the making of a block
abbrev peaks_with : State.State → Block → List (ℕ × ℕ)
peaks_with s x = let c : ℕ = class_size (length x.cells) in raised s.peaks c (live_of_size c (s.blocks ++ x ∷ []))

-- any live block is made
block_noted : (env : Env) (run : Run) (s : State.State) (x : Block) (kinds : List (Option Mark)) (standings : Vec Standing Global) (made most : ℕ) → made ≡ most
    → Changed run.kinds kinds (length run.standings.items + 1) (marked x) → standings.items ≡ run.standings.items ++ standing_of x ∷ [] → Books env run s
    → Books env (record run { kinds = kinds; standings = standings; made = made }) (add_block (record s { made = most }) x)
block_noted env run s x kinds standings made most same changed more b =
    with_blocks env run s (s.blocks ++ x ∷ []) (peaks_with s x) made most kinds standings same (standings_with env run s x standings more b) (marks_with env run s x kinds changed b) b

pub plain_noted : (env : Env) (run : Run) (s : State.State) (cells : List Cell) (standings : Vec Standing Global) → standings.items ≡ run.standings.items ++ standing.Plain ∷ [] → Books env run s
    → Books env (record run { standings = standings }) (make s cells)
plain_noted env run s cells standings more b = block_noted env run s (plain cells) run.kinds standings run.made s.made b.made (unmarked env run s b) more b

pub sliced_noted : (env : Env) (run : Run) (s : State.State) (cells : List Cell) (kinds : List (Option Mark)) (standings : Vec Standing Global) (n : ℕ) → n ≡ length run.standings.items + 1
    → Changed run.kinds kinds n (Some (record { kind = None; count = None; is_sliced = true })) → standings.items ≡ run.standings.items ++ standing.Plain ∷ [] → Books env run s
    → Books env (record run { kinds = kinds; standings = standings }) (add_block s (record { cells = cells; is_live = true; thing = None; is_sliced = true }))
sliced_noted env run s cells kinds standings n next changed more b =
    let m : Option Mark = Some (record { kind = None; count = None; is_sliced = true }) in
    block_noted env run s (record { cells = cells; is_live = true; thing = None; is_sliced = true }) kinds standings run.made s.made b.made (subst (λ k. Changed run.kinds kinds k m) next changed) more b

pub thing_noted : (env : Env) (run : Run) (s : State.State) (kind : ThingKind) (count : Option ℕ) (sliced : Bool) (cells : List Cell) (kinds : List (Option Mark)) (standings : Vec Standing Global) (said : Vec Event Global) (serial n : ℕ)
    → serial ≡ run.made + 1 → n ≡ length run.standings.items + 1 → Changed run.kinds kinds n (Some (record { kind = Some kind; count = count; is_sliced = sliced }))
    → standings.items ≡ run.standings.items ++ standing.Thing serial ∷ [] → said.items ≡ run.said.items ++ event.Made kind ∷ [] → Books env run s
    → Books env (record run { kinds = kinds; standings = standings; made = serial; said = said }) (make_thing s kind count sliced cells)
thing_noted env run s kind count sliced cells kinds standings said serial n next number changed more says b =
    let m : Option Mark = Some (record { kind = Some kind; count = count; is_sliced = sliced }) in
    let same : serial ≡ suc s.made = next ∙ ap (λ n. n + 1) b.made ∙ (let one : s.made + 1 ≡ suc s.made = omega arith in one) in
    let x : Block = record { cells = cells; is_live = true; thing = Some (record { kind = kind; serial = suc s.made; count = count }); is_sliced = sliced } in
    with_said env (record run { kinds = kinds; standings = standings; made = serial }) (add_block (record s { made = suc s.made }) x) (event.Made kind) said says
    (block_noted env run s x kinds standings serial (suc s.made) same (subst (λ k. Changed run.kinds kinds k m) number changed) (more ∙ ap (λ n. run.standings.items ++ standing.Thing n ∷ []) same) b)

-- 2. A block is freed

-- the blocks without it
abbrev without : State.State → ℕ → Block → State.State
without s n x = record s { blocks = with_block s.blocks n (record x { is_live = false }) }

abbrev free_by : State.State → ℕ → Answer Block → State.State
free_by s n r = on s r (λ x. say_gone (without s n x) x.thing)

block_struck : (env : Env) (run : Run) (s : State.State) (n : ℕ) (x : Block) (kinds : List (Option Mark)) (standings : Vec Standing Global) → Changed run.kinds kinds n None → standings.items ≡ struck run.standings.items n → Books env run s
    → Books env (record run { kinds = kinds; standings = standings }) (without s n x)
block_struck env run s n x kinds standings changed less b =
    with_blocks env run s (with_block s.blocks n (record x { is_live = false })) s.peaks run.made s.made kinds standings b.made
    (less ∙ ap (λ xs. struck xs n) b.standings ∙ sym (standings_struck s.blocks n x))
    (λ k. changed k ∙ ap (λ m. let o : Option Mark = cond (nat_eq k n) None m in o) (marks_are env run s b k) ∙ sym (mark_struck s.blocks n x k)) b

standing_was : (env : Env) (run : Run) (s : State.State) (n : ℕ) → Books env run s → standing_at run.standings.items n ≡ standing_found (block_of s n)
standing_was env run s n b = ap (λ xs. standing_at xs n) b.standings ∙ standing_is s.blocks n

only_freed : (o : Option Block) (u : UndefKind) → live_block o ≡ Err u → u ≡ undef.Freed
only_freed None u is = cc
only_freed (Some x) u is = by x.is_live is
  where
    by : (live : Bool) → cond live (let r : Answer Block = Ok x in r) (Err undef.Freed) ≡ Err u → u ≡ undef.Freed
    by true k = cc
    by false k = cc

-- what is not live cannot be freed
pub gone_is : (env : Env) (run : Run) (s : State.State) (n : ℕ) → standing_at run.standings.items n ≡ standing.Freed → Books env run s → free s n ≡ undefined s undef.Freed
gone_is env run s n is b = by (block_of s n) refl (sym (standing_was env run s n b) ∙ is)
  where
    not_thing : (t : Option Thing) → standing_by t ≡ standing.Freed → ⊥
    not_thing None k = cc
    not_thing (Some t) k = cc

    by : (r : Answer Block) → block_of s n ≡ r → standing_found r ≡ standing.Freed → free_by s n r ≡ undefined s undef.Freed
    by (Ok x) e k = absurd (not_thing x.thing k)
    by (Err u) e k = ap (undefined s) (only_freed (block_at s.blocks n) u e)

pub freed_noted : (env : Env) (run : Run) (s : State.State) (n : ℕ) (kinds : List (Option Mark)) (standings : Vec Standing Global) → standing_at run.standings.items n ≡ standing.Plain → Changed run.kinds kinds n None → standings.items ≡ struck run.standings.items n → Books env run s
    → Books env (record run { kinds = kinds; standings = standings }) (free s n)
freed_noted env run s n kinds standings is changed less b = by (block_of s n) (sym (standing_was env run s n b) ∙ is)
  where
    told : (x : Block) (t : Option Thing) → standing_by t ≡ standing.Plain → Books env (record run { kinds = kinds; standings = standings }) (say_gone (without s n x) t)
    told x None k = block_struck env run s n x kinds standings changed less b
    told x (Some t) k = cc

    by : (r : Answer Block) → standing_found r ≡ standing.Plain → Books env (record run { kinds = kinds; standings = standings }) (free_by s n r)
    by (Err u) k = cc
    by (Ok x) k = told x x.thing k

pub thing_freed : (env : Env) (run : Run) (s : State.State) (n serial : ℕ) (kinds : List (Option Mark)) (standings : Vec Standing Global) (said : Vec Event Global) → standing_at run.standings.items n ≡ standing.Thing serial → Changed run.kinds kinds n None
    → standings.items ≡ struck run.standings.items n → said.items ≡ run.said.items ++ event.Gone serial ∷ [] → Books env run s → Books env (record run { kinds = kinds; standings = standings; said = said }) (free s n)
thing_freed env run s n serial kinds standings said is changed less says b = by (block_of s n) (sym (standing_was env run s n b) ∙ is)
  where
    same_serial : (t : Thing) → standing.Thing t.serial ≡ standing.Thing serial → serial ≡ t.serial
    same_serial t k = cc

    told : (x : Block) (t : Option Thing) → standing_by t ≡ standing.Thing serial → Books env (record run { kinds = kinds; standings = standings; said = said }) (say_gone (without s n x) t)
    told x None k = cc
    told x (Some t) k =
        with_said env (record run { kinds = kinds; standings = standings }) (without s n x) (event.Gone t.serial) said
        (says ∙ ap (λ m. run.said.items ++ event.Gone m ∷ []) (same_serial t k)) (block_struck env run s n x kinds standings changed less b)

    by : (r : Answer Block) → standing_found r ≡ standing.Thing serial → Books env (record run { kinds = kinds; standings = standings; said = said }) (free_by s n r)
    by (Err u) k = cc
    by (Ok x) k = told x x.thing k
