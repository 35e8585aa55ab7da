-- States before the first step: blocks that are no things, and text literals that are found.
use Rattle.std.proofs.Common.{◌≡◌, ◌∙◌, refl, sym, ap, ℕ, zero, suc, ◌≤◌, ◌<◌, ◌==◌, cond, Bool, true, false, List, [], ◌∷◌, ◌++◌, length, Some, None, Ok, arith}
use Rattle.std.specs.Prelude.{slice_get}
use Rattle.std.specs.List.{AllByRecursion}
use Rattle.std.proofs.lemmas.Bool.{eq-eqb, ne_eqb}
use Rattle.vg_base.specs.World.{World}
use Rattle.c_meaning.specs.declared.cell.Cell.{Cell}
use Rattle.c_meaning.specs.declared.cell.Cell.TheVariants.{Ptr}
use Rattle.c_meaning.specs.State
use Rattle.c_meaning.specs.State.{Block, Literal, Standing}
use Rattle.c_meaning.specs.Blocks.{block_at, plain, make, next_block, put_at, with_block, rows_of}
use Rattle.c_meaning.specs.Texts.{text_cells}
use Rattle.c_meaning.specs.Values.{literal_in}
use Rattle.c_meaning.specs.Runs.{nothing, with_literals, with_types, with_name}
use Rattle.c_places.specs.Apart.{Rise}

-- 1. Blocks that are no things

abbrev pub ArePlain : List Block → Type 0
ArePlain blocks = AllByRecursion (λ (b : Block). b.thing ≡ None) blocks

pub plain_more : (bs : List Block) (b : Block) → ArePlain bs → b.thing ≡ None → ArePlain (bs ++ b ∷ [])
plain_more [] b h e = (e, tt)
plain_more (x ∷ bs) b h e = (h.0, plain_more bs b h.1 e)

plain_put : (bs : List Block) (n : ℕ) (b : Block) → ArePlain bs → b.thing ≡ None → ArePlain (put_at bs n b)
plain_put [] n b h e = tt
plain_put (x ∷ bs) zero b h e = (e, h.1)
plain_put (x ∷ bs) (suc n) b h e = (h.0, plain_put bs n b h.1 e)

pub plain_with : (bs : List Block) (n : ℕ) (b : Block) → ArePlain bs → b.thing ≡ None → ArePlain (with_block bs n b)
plain_with bs zero b h e = h
plain_with bs (suc n) b h e = plain_put bs n b h e

pub none_live : (bs : List Block) → ArePlain bs → rows_of bs ≡ []
none_live [] h = refl
none_live (b ∷ bs) h = rw h.0 (none_live bs h.1)

-- a state that is not at its end, where nothing was made but blocks
pub record IsQuiet (s : State.State) : Type 0 where
  pub ended : s.ended ≡ None
  pub blocks : ArePlain s.blocks
  pub last : s.last_handler ≡ 0

pub quiet_make : (s : State.State) (cells : List Cell) → IsQuiet s → IsQuiet (make s cells)
quiet_make s cells q = record { ended = q.ended; blocks = plain_more s.blocks (plain cells) q.blocks refl; last = q.last }

-- 2. Text literals

get_more : (bs : List Block) (b x : Block) (n : ℕ) → slice_get bs n ≡ Some x → slice_get (bs ++ b ∷ []) n ≡ Some x
get_more [] b x n e = absurd cc
get_more (y ∷ bs) b x zero e = e
get_more (y ∷ bs) b x (suc n) e = get_more bs b x n e

pub block_more : (bs : List Block) (b x : Block) (n : ℕ) → block_at bs n ≡ Some x → block_at (bs ++ b ∷ []) n ≡ Some x
block_more bs b x zero e = absurd cc
block_more bs b x (suc n) e = get_more bs b x n e

pub block_last : (bs : List Block) (b : Block) → block_at (bs ++ b ∷ []) (suc (length bs)) ≡ Some b
block_last [] b = refl
block_last (x ∷ bs) b = block_last bs b

-- a text literal is known by its place, and its block holds its bytes
pub record Holds (s : State.State) (l : Literal) : Type 0 where
  pub block : ℕ
  pub found : literal_in s.literals l.start ≡ Ok (Ptr block 0)
  pub cells : block_at s.blocks block ≡ Some (plain (text_cells l.bytes))

pub holds_make : (s : State.State) (cells : List Cell) (l : Literal) → Holds s l → Holds (make s cells) l
holds_make s cells l h = record { block = h.block; found = h.found; cells = block_more s.blocks (plain cells) (plain (text_cells l.bytes)) h.block h.cells }

abbrev standing : ℕ → ℕ → Standing
standing start block = record { start = start; block = block }

literal_more : (ls : List Standing) (m : Standing) (start : ℕ) (c : Cell) → literal_in ls start ≡ Ok c → literal_in (ls ++ m ∷ []) start ≡ Ok c
literal_more [] m start c e = absurd cc
literal_more (l ∷ ls) m start c e = go (l.start == start) (literal_more ls m start c) e
  where
    go : (t : Bool) → (literal_in ls start ≡ Ok c → literal_in (ls ++ m ∷ []) start ≡ Ok c) → cond t (Ok (Ptr l.block 0)) (literal_in ls start) ≡ Ok c
        → cond t (Ok (Ptr l.block 0)) (literal_in (ls ++ m ∷ []) start) ≡ Ok c
    go true more k = k
    go false more k = more k

-- all of them stand before a place
abbrev AreBefore : ℕ → List Standing → Type 0
AreBefore place ls = AllByRecursion (λ (l : Standing). l.start < place) ls

before_more : (ls : List Standing) (place start block : ℕ) → place ≤ start → AreBefore place ls → AreBefore (suc start) (ls ++ standing start block ∷ [])
before_more [] place start block le h = (omega arith, tt)
before_more (l ∷ ls) place start block le h = let lt : l.start < place = h.0 in (omega arith, before_more ls place start block le h.1)

unequal : (a b : ℕ) → a < b → (a == b) ≡ false
unequal a b lt = ne_eqb a b (omega arith)

same : (a : ℕ) → (a == a) ≡ true
same a = eq-eqb a a refl

literal_last : (ls : List Standing) (place start block : ℕ) → place ≤ start → AreBefore place ls
    → literal_in (ls ++ standing start block ∷ []) start ≡ Ok (Ptr block 0)
literal_last [] place start block le h = rw (same start) refl
literal_last (l ∷ ls) place start block le h =
    let lt : l.start < place = h.0 in let other : (l.start == start) ≡ false = unequal l.start start (omega arith) in
    rw other (literal_last ls place start block le h.1)

-- the state behind a literal
abbrev stood : State.State → Literal → State.State
stood s l = record (make s (text_cells l.bytes)) { literals = s.literals ++ standing l.start (next_block s) ∷ [] }

quiet_literals : (s : State.State) (ls : List Literal) → IsQuiet s → IsQuiet (with_literals s ls)
quiet_literals s [] q = q
quiet_literals s (l ∷ ls) q =
    quiet_literals (stood s l) ls (record { ended = q.ended; blocks = plain_more s.blocks (plain (text_cells l.bytes)) q.blocks refl; last = q.last })

kept_literal : (s : State.State) (ls : List Literal) (l : Literal) → Holds s l → Holds (with_literals s ls) l
kept_literal s [] l h = h
kept_literal s (m ∷ ls) l h =
    kept_literal (stood s m) ls l
    (record {
      block = h.block;
      found = literal_more s.literals (standing m.start (next_block s)) l.start (Ptr h.block 0) h.found;
      cells = block_more s.blocks (plain (text_cells m.bytes)) (plain (text_cells l.bytes)) h.block h.cells;
    })

literals_held : (s : State.State) (place : ℕ) (ls : List Literal) → Rise place ls → AreBefore place s.literals → AllByRecursion (Holds (with_literals s ls)) ls
literals_held s place [] r h = tt
literals_held s place (l ∷ ls) r h = (
  kept_literal (stood s l) ls l
      (record {
        block = next_block s;
        found = literal_last s.literals place l.start (next_block s) r.0 h;
        cells =
            block_last s.blocks (plain (text_cells l.bytes));
      }),
  literals_held (stood s l) (suc l.start) ls r.1 (before_more s.literals place l.start (next_block s) r.0 h),
)

-- 3. Before `main` is entered

-- a state where nothing was made but blocks, and text literals are held
pub record IsReady (s : State.State) (ls : List Literal) : Type 0 where
  pub quiet : IsQuiet s
  pub held : AllByRecursion (Holds s) ls

pub held_make : (s : State.State) (cells : List Cell) (ls : List Literal) → AllByRecursion (Holds s) ls → AllByRecursion (Holds (make s cells)) ls
held_make s cells [] h = tt
held_make s cells (l ∷ ls) h = (holds_make s cells l h.0, held_make s cells ls h.1)

pub ready_make : (s : State.State) (cells : List Cell) (ls : List Literal) → IsReady s ls → IsReady (make s cells) ls
ready_make s cells ls r = record { quiet = quiet_make s cells r.quiet; held = held_make s cells ls r.held }

-- what is held hangs on blocks and literals alone
pub held_on : (s t : State.State) (ls : List Literal) → s.blocks ≡ t.blocks → s.literals ≡ t.literals → AllByRecursion (Holds s) ls
    → AllByRecursion (Holds t) ls
held_on s t [] b m h = tt
held_on s t (l ∷ ls) b m h =
    let x : Holds s l = h.0 in (
      record {
        block = x.block;
        found = ap (λ (a : List Standing). literal_in a l.start) (sym m) ∙ x.found;
        cells = ap (λ (a : List Block). block_at a x.block) (sym b) ∙ x.cells;
      },
      held_on s t ls b m h.1,
    )

quiet_types : (s : State.State) → IsQuiet s → IsQuiet (with_types s)
quiet_types s q =
    record {
      ended = q.ended;
      blocks = plain_more _ _ (plain_more s.blocks _ q.blocks refl) refl;
      last = q.last;
    }

-- the library's types are made
pub ready_types : (s : State.State) (ls : List Literal) → IsReady s ls → IsReady (with_types s) ls
ready_types s ls r = record {
  quiet = quiet_types s r.quiet;
  held =
      held_on (make (make s _) _) (with_types s) ls refl refl (held_make (make s _) _ ls (held_make s _ ls r.held));
}

pub ready_name : (s : State.State) (name : List ℕ) (ls : List Literal) → IsReady s ls → IsReady (with_name s name) ls
ready_name s name ls r = ready_make (make s _) _ ls (ready_make s _ ls r)

pub ready_literals : (w : World) (ls : List Literal) → Rise 0 ls → IsReady (with_literals (nothing w) ls) ls
ready_literals w ls r =
    record { quiet = quiet_literals (nothing w) ls (record { ended = refl; blocks = tt; last = refl }); held = literals_held (nothing w) 0 ls r tt }
