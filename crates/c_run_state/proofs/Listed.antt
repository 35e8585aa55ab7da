-- The marks and the standings of blocks, in a row.
use Rattle.std.proofs.Common.{inl, inr, ◌≢◌, eq-eqb, ne_eqb, ◌≡◌, ◌∙◌, refl, sym, ap, ℕ, zero, suc, ◌+◌, Bool, true, false, List, [], ◌∷◌, ◌++◌, length, map, Option, Some, None, Ok, Err, arith, set, cond, nat_eq}
use Rattle.std.specs.Prelude.{slice_get}
use Rattle.std.specs.Option.{option_map}
use Rattle.std.proofs.lemmas.List.{map-append}
use Rattle.std.proofs.lemmas.Option.{slice_get-map}
use Rattle.std.proofs.lemmas.Bool.Decides.{eqb_tells}
use Rattle.vg_base.specs.declared.event.UndefKind.TheVariants as undef
use Rattle.c_meaning.specs.declared.cell.Cell.{Cell}
use Rattle.c_meaning.specs.State.{Block}
use Rattle.c_meaning.specs.Blocks.{Answer, block_at, live_block, put_at, with_block}
use Rattle.glib_model.specs.declared.kinds.Mark.{Mark}
use Rattle.glib_model.specs.Kinds.{joined, mark_at, mark_of}
use Rattle.glib_model.specs.Ends.{refreshed}
use Rattle.c_run_state.specs.declared.state.Standing.{Standing}
use Rattle.c_run_state.specs.declared.state.Standing.TheVariants as standing
use Rattle.c_run_state.specs.Standings as standings
use Rattle.c_run_state.specs.Standings.{standing_at, struck}
use Rattle.c_run_state.specs.Shows.{standing_of, standing_by}

-- 1. Marks in a row

-- the mark of one block
abbrev pub marked : Block → Option Mark
marked b = mark_of (live_block (Some b))

mark_joined : (o : Option Block) → mark_of (live_block o) ≡ joined (option_map marked o)
mark_joined None = refl
mark_joined (Some b) = refl

pub marks_listed : (bs : List Block) (n : ℕ) → mark_of (live_block (block_at bs n)) ≡ mark_at (map marked bs) n
marks_listed bs zero = refl
marks_listed bs (suc n) = mark_joined (slice_get bs n) ∙ ap joined (sym (slice_get-map marked bs n))

eq_suc : (a b : ℕ) → nat_eq (suc a) (suc b) ≡ nat_eq a b
eq_suc a b =
    elim (eqb_tells a b) [
      | inl same ↦ eq-eqb (suc a) (suc b) (ap suc same.1) ∙ sym same.0
      | inr apart ↦ ne_eqb (suc a) (suc b) (λ e. let other : a ≢ b = apart.1 in omega arith) ∙ sym apart.0
    ]

last_mark : (marks : List (Option Mark)) (m : Option Mark) (k : ℕ) → joined (slice_get (marks ++ m ∷ []) k) ≡ cond (nat_eq k (length marks)) m (joined (slice_get marks k))
last_mark [] m zero = ap (λ b. let o : Option Mark = cond b m None in o) (sym (eq-eqb 0 0 refl))
last_mark [] m (suc k) = ap (λ b. let o : Option Mark = cond b m None in o) (sym (ne_eqb (suc k) 0 (λ e. omega arith)))
last_mark (x ∷ marks) m zero = ap (λ b. cond b m x) (sym (ne_eqb 0 (suc (length marks)) (λ e. omega arith)))
last_mark (x ∷ marks) m (suc k) = last_mark marks m k ∙ ap (λ b. cond b m (joined (slice_get marks k))) (sym (eq_suc k (length marks)))

-- one more mark stands last
pub mark_added : (marks : List (Option Mark)) (m : Option Mark) (k : ℕ) → mark_at (marks ++ m ∷ []) k ≡ cond (nat_eq k (length marks + 1)) m (mark_at marks k)
mark_added marks m zero = ap (λ b. let o : Option Mark = cond b m None in o) (sym (ne_eqb 0 (length marks + 1) (λ e. omega arith)))
mark_added marks m (suc k) =
    last_mark marks m k ∙ ap (λ b. cond b m (joined (slice_get marks k))) (sym (eq_suc k (length marks)) ∙ ap (nat_eq (suc k)) (let same : suc (length marks) ≡ length marks + 1 = omega arith in same))

-- the mark of the next number is none
pub no_mark_behind : (marks : List (Option Mark)) → mark_at marks (length marks + 1) ≡ None
no_mark_behind marks = ap (mark_at marks) (let same : length marks + 1 ≡ suc (length marks) = omega arith in same) ∙ ap joined (behind marks)
  where
    behind : (xs : List (Option Mark)) → slice_get xs (length xs) ≡ None
    behind [] = refl
    behind (x ∷ xs) = behind xs

-- 2. A block is added

pub standings_added : (bs : List Block) (b : Block) → map standing_of (bs ++ b ∷ []) ≡ map standing_of bs ++ standing_of b ∷ []
standings_added bs b = map-append standing_of bs (b ∷ [])

pub marks_added : (bs : List Block) (b : Block) → map marked (bs ++ b ∷ []) ≡ map marked bs ++ marked b ∷ []
marks_added bs b = map-append marked bs (b ∷ [])

-- 3. A block is another one

map-put_at : {A : Type 0} (f : Block → A) (bs : List Block) (n : ℕ) (b : Block) → map f (put_at bs n b) ≡ set (map f bs) n (f b)
map-put_at f [] n b = refl
map-put_at f (x ∷ bs) zero b = refl
map-put_at f (x ∷ bs) (suc n) b = ap (λ ys. f x ∷ ys) (map-put_at f bs n b)

inner : {A : Type 0} (x y : A) → Some x ≡ Some y → x ≡ y
inner x y e = cc

-- where a function of blocks does not tell them apart nothing changes
put_alike : {A : Type 0} (f : Block → A) (bs : List Block) (n : ℕ) (old new : Block) → slice_get bs n ≡ Some old → f new ≡ f old → map f (put_at bs n new) ≡ map f bs
put_alike f [] n old new is same = refl
put_alike f (x ∷ bs) zero old new is same = ap (λ y. y ∷ map f bs) (same ∙ ap f (sym (inner x old is)))
put_alike f (x ∷ bs) (suc n) old new is same = ap (λ ys. f x ∷ ys) (put_alike f bs n old new is same)

-- what is live was found
pub live_found : (o : Option Block) (b : Block) → live_block o ≡ Ok b → (o ≡ Some b) × (b.is_live ≡ true)
live_found None b is = cc
live_found (Some x) b is = by_live x.is_live refl is
  where
    same : (y : Block) → Ok x ≡ (let r : Answer Block = Ok y in r) → x ≡ y
    same y k = cc

    by_live : (live : Bool) → x.is_live ≡ live → cond live (let r : Answer Block = Ok x in r) (Err undef.Freed) ≡ Ok b → (Some x ≡ Some b) × (b.is_live ≡ true)
    by_live true e k = (ap (λ y. Some y) (same b k), ap (λ y. y.is_live) (sym (same b k)) ∙ e)
    by_live false e k = absurd (let wrong : Err undef.Freed ≡ (let r : Answer Block = Ok b in r) = k in cc)

pub with_alike : {A : Type 0} (f : Block → A) (bs : List Block) (n : ℕ) (old new : Block) → live_block (block_at bs n) ≡ Ok old → f new ≡ f old → map f (with_block bs n new) ≡ map f bs
with_alike f bs zero old new is same = refl
with_alike f bs (suc n) old new is same = put_alike f bs n old new (live_found (slice_get bs n) old is).0 same

-- 4. A block is freed

pub standings_struck : (bs : List Block) (n : ℕ) (b : Block) → map standing_of (with_block bs n (record b { is_live = false })) ≡ struck (map standing_of bs) n
standings_struck bs zero b = refl
standings_struck bs (suc n) b = map-put_at standing_of bs n (record b { is_live = false })

set_none : (marks : List (Option Mark)) (n k : ℕ) → joined (slice_get (set marks n None) k) ≡ cond (nat_eq k n) None (joined (slice_get marks k))
set_none [] n k = none (nat_eq k n)
  where
    none : (b : Bool) → None ≡ (let o : Option Mark = cond b None None in o)
    none true = refl
    none false = refl
set_none (m ∷ marks) zero zero = ap (λ b. let o : Option Mark = cond b None m in o) (sym (eq-eqb 0 0 refl))
set_none (m ∷ marks) zero (suc k) = ap (λ b. let o : Option Mark = cond b None (joined (slice_get marks k)) in o) (sym (ne_eqb (suc k) 0 (λ e. omega arith)))
set_none (m ∷ marks) (suc n) zero = ap (λ b. let o : Option Mark = cond b None m in o) (sym (ne_eqb 0 (suc n) (λ e. omega arith)))
set_none (m ∷ marks) (suc n) (suc k) = set_none marks n k ∙ ap (λ b. let o : Option Mark = cond b None (joined (slice_get marks k)) in o) (sym (eq_suc k n))

-- the mark of what was freed is none
pub mark_struck : (bs : List Block) (n : ℕ) (b : Block) (k : ℕ) → mark_at (map marked (with_block bs n (record b { is_live = false }))) k ≡ cond (nat_eq k n) None (mark_at (map marked bs) k)
mark_struck bs zero b zero = ap (λ c. let o : Option Mark = cond c None None in o) (sym (eq-eqb 0 0 refl))
mark_struck bs zero b (suc k) = ap (λ c. let o : Option Mark = cond c None (mark_at (map marked bs) (suc k)) in o) (sym (ne_eqb (suc k) 0 (λ e. omega arith)))
mark_struck bs (suc n) b zero = ap (λ c. let o : Option Mark = cond c None None in o) (sym (ne_eqb 0 (suc n) (λ e. omega arith)))
mark_struck bs (suc n) b (suc k) =
    ap (λ ms. joined (slice_get ms k)) (map-put_at marked bs n (record b { is_live = false })) ∙ set_none (map marked bs) n k
    ∙ ap (λ c. let o : Option Mark = cond c None (joined (slice_get (map marked bs) k)) in o) (sym (eq_suc k n))

-- 5. What became of a block

abbrev pub standing_found : Answer Block → Standing
standing_found (Ok b) = standing_by b.thing
standing_found (Err u) = standing.Freed

standing_joined : (o : Option Block) → standings.joined (option_map standing_of o) ≡ standing_found (live_block o)
standing_joined None = refl
standing_joined (Some b) = elim b.is_live as (λ live. cond live (standing_by b.thing) standing.Freed ≡ standing_found (cond live (let r : Answer Block = Ok b in r) (Err undef.Freed))) [ true ↦ refl | false ↦ refl ]

pub standing_is : (bs : List Block) (n : ℕ) → standing_at (map standing_of bs) n ≡ standing_found (live_block (block_at bs n))
standing_is bs zero = refl
standing_is bs (suc n) = ap standings.joined (slice_get-map standing_of bs n) ∙ standing_joined (slice_get bs n)

-- 6. Other cells

pub refreshed_alike : {A : Type 0} (f : Block → A) → ((b : Block) (cells : List Cell) → f (record b { cells = cells }) ≡ f b) → (bs : List Block) (heap : List (Option (List Cell))) → map f (refreshed bs heap) ≡ map f bs
refreshed_alike f same [] heap = refl
refreshed_alike f same (b ∷ bs) [] = refl
refreshed_alike f same (b ∷ bs) (None ∷ heap) = ap (λ ys. f b ∷ ys) (refreshed_alike f same bs heap)
refreshed_alike f same (b ∷ bs) (Some cells ∷ heap) = ap (λ y. y ∷ map f (refreshed bs heap)) (same b cells) ∙ ap (λ ys. f b ∷ ys) (refreshed_alike f same bs heap)

pub standing_of_cells : (b : Block) (cells : List Cell) → standing_of (record b { cells = cells }) ≡ standing_of b
standing_of_cells b cells = refl

pub mark_of_cells : (b : Block) (cells : List Cell) → marked (record b { cells = cells }) ≡ marked b
mark_of_cells b cells =
    elim b.is_live as (λ live. mark_of (cond live (let r : Answer Block = Ok (record b { cells = cells }) in r) (Err undef.Freed)) ≡ mark_of (cond live (let r : Answer Block = Ok b in r) (Err undef.Freed))) [ true ↦ refl | false ↦ refl ]
