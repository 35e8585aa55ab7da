-- Texts in blocks, read from the front.
use Rattle.std.proofs.Common.{◌≡◌, ◌∙◌, refl, sym, ap, ℕ, zero, suc, ◌+◌, ◌-◌, ◌<◌, ◌≤◌, Bool, true, false, List, [], ◌∷◌, ◌++◌, length, take, drop, Option, Some, None, Result, Ok, Err, arith, get_or, append-nil, append_assoc}
use Rattle.std.specs.Prelude.{cond}
use Rattle.std.specs.Option.{option_map}
use Rattle.std.specs.Result.{result_ok, is_ok, is_err}
use Rattle.std.proofs.lemmas.List.{drop_all, take_all, length-drop}
use Rattle.vg_base.specs.declared.event.UndefKind.{UndefKind}
use Rattle.vg_base.specs.declared.event.UndefKind.TheVariants as undef
use Rattle.c_meaning.specs.declared.cell.Cell.{Cell}
use Rattle.c_meaning.specs.declared.cell.Cell.TheVariants.{Int, Uns, Ptr, Func, Null, Unset}
use Rattle.c_meaning.specs.State
use Rattle.c_meaning.specs.State.{Block}
use Rattle.c_meaning.specs.Blocks.{Answer, bind, block_of, block_at, live_block}
use Rattle.c_meaning.specs.Texts.{bytes_in, byte_before}
use Rattle.cell_heap.specs.Texts.{byte_of, text_in, TextsAreRead}
use Rattle.cell_heap.proofs.StateLaws.{blocks_found}

-- 1. Bytes in front of an answer

abbrev by_byte : Answer ℕ → Answer (List ℕ) → Answer (List ℕ)
by_byte (Ok b) rest = byte_before b rest
by_byte (Err u) rest = Err u

-- bytes that were read before, in front of what the other cells answer
abbrev pub behind : List ℕ → Answer (List ℕ) → Answer (List ℕ)
behind bs (Ok cs) = Ok (bs ++ cs)
behind bs (Err u) = Err u

bytes_cons : (c : Cell) (cs : List Cell) → bytes_in (c ∷ cs) ≡ by_byte (byte_of c) (bytes_in cs)
bytes_cons (Int z) cs = refl
bytes_cons (Uns n) cs = refl
bytes_cons (Ptr b a) cs = refl
bytes_cons (Func n) cs = refl
bytes_cons Null cs = refl
bytes_cons Unset cs = refl

-- the cell at an index, in front of those behind it
cut : (cells : List Cell) (i : ℕ) (d : Cell) → i < length cells → drop i cells ≡ get_or cells i d ∷ drop (i + 1) cells
cut [] i d lt = absurd (omega arith)
cut (x ∷ cells) zero d lt = refl
cut (x ∷ cells) (suc i) d lt = cut cells i d (omega arith) ∙ ap (λ n. get_or cells i d ∷ drop n (x ∷ cells)) (let same : suc (i + 1) ≡ suc i + 1 = omega arith in same)

at_cell : (cells : List Cell) (i : ℕ) (d : Cell) (r : Answer ℕ) → i < length cells → byte_of (get_or cells i d) ≡ r → bytes_in (drop i cells) ≡ by_byte r (bytes_in (drop (i + 1) cells))
at_cell cells i d r lt byte = ap bytes_in (cut cells i d lt) ∙ bytes_cons (get_or cells i d) (drop (i + 1) cells) ∙ ap (λ b. by_byte b (bytes_in (drop (i + 1) cells))) byte

-- at the start nothing was read
pub reads_first : (cells : List Cell) → bytes_in cells ≡ behind [] (bytes_in cells)
reads_first cells = by_answer (bytes_in cells)
  where
    by_answer : (r : Answer (List ℕ)) → r ≡ behind [] r
    by_answer (Ok bs) = refl
    by_answer (Err u) = refl

-- a zero ends the text
pub reads_zero : (cells : List Cell) (text : List ℕ) (i : ℕ) (d : Cell) (b : ℕ) → i < length cells → byte_of (get_or cells i d) ≡ Ok b → b ≡ 0 → bytes_in cells ≡ behind text (bytes_in (drop i cells)) → bytes_in cells ≡ Ok text
reads_zero cells text i d b lt byte none so_far =
    so_far ∙ ap (behind text) (at_cell cells i d (Ok 0) lt (byte ∙ ap (λ n. Ok n) none)) ∙ ap (λ bs. Ok bs) (append-nil text)

-- a cell that stands for no byte
pub reads_none : (cells : List Cell) (text : List ℕ) (i : ℕ) (d : Cell) (u : UndefKind) → i < length cells → byte_of (get_or cells i d) ≡ Err u → bytes_in cells ≡ behind text (bytes_in (drop i cells)) → bytes_in cells ≡ Err u
reads_none cells text i d u lt byte so_far = so_far ∙ ap (behind text) (at_cell cells i d (Err u) lt byte)

one_more : (text : List ℕ) (b : ℕ) (r : Answer (List ℕ)) → (b ≡ 0 → ⊥) → behind text (byte_before b r) ≡ behind (text ++ b ∷ []) r
one_more text zero r apart = absurd (apart refl)
one_more text (suc b) (Ok cs) apart = ap (λ bs. Ok bs) (sym (append_assoc text (suc b ∷ []) cs))
one_more text (suc b) (Err u) apart = refl

-- another byte is read
pub reads_byte : (cells : List Cell) (text : List ℕ) (i : ℕ) (d : Cell) (b : ℕ) → i < length cells → byte_of (get_or cells i d) ≡ Ok b → (b ≡ 0 → ⊥) → bytes_in cells ≡ behind text (bytes_in (drop i cells))
    → bytes_in cells ≡ behind (text ++ b ∷ []) (bytes_in (drop (i + 1) cells))
reads_byte cells text i d b lt byte apart so_far = so_far ∙ ap (behind text) (at_cell cells i d (Ok b) lt byte) ∙ one_more text b (bytes_in (drop (i + 1) cells)) apart

-- what was pushed stands last
pub pushed : {A E : Type 0} (r : Result A E) (now long short : List ℕ) → is_err r ≡ false → now ≡ cond (is_ok r) long short → now ≡ long
pushed (Ok x) now long short ok is = is
pushed (Err e) now long short ok is = cc

-- no zero stands before the end
pub reads_past : (cells : List Cell) (text : List ℕ) (i : ℕ) → length cells ≤ i → bytes_in cells ≡ behind text (bytes_in (drop i cells)) → bytes_in cells ≡ Err undef.Outside
reads_past cells text i past so_far = so_far ∙ ap (λ cs. behind text (bytes_in cs)) (drop_all i cells past)

-- 2. The texts of a run

only_freed : (o : Option Block) (u : UndefKind) → live_block o ≡ Err u → undef.Freed ≡ u
only_freed None u is = cc
only_freed (Some b) u is = by_live b.is_live is
  where
    by_live : (live : Bool) → cond live (let r : Answer Block = Ok b in r) (Err undef.Freed) ≡ Err u → undef.Freed ≡ u
    by_live true e = cc
    by_live false e = cc

text_by : (s : State.State) (block at : ℕ) (r : Answer Block) → block_of s block ≡ r
    → text_in (option_map (λ b. b.cells) (result_ok r)) at ≡ bind (bind r (λ x. Ok (let p : State.Place = record { block = block; at = at } in p))) (λ p. bind (block_of s p.block) (λ b. bytes_in (drop p.at b.cells)))
text_by s block at (Err u) is = ap (λ v. Err v) (only_freed (block_at s.blocks block) u is)
text_by s block at (Ok b) is = sym (ap (λ r. bind r (λ x. bytes_in (drop at x.cells))) is)

pub texts_read : TextsAreRead
texts_read s block at = ap (λ o. text_in o at) (blocks_found s block) ∙ text_by s block at (block_of s block) refl

-- 3. The cells from a place on

-- those that a slice from the place on has
pub rest_there : (cells rest : List Cell) (at : ℕ) → rest ≡ take (length cells - at) (drop at cells) → rest ≡ drop at cells
rest_there cells rest at is = is ∙ take_all (length cells - at) (drop at cells) (omega (arith, length-drop at cells))

pub rest_past : (cells : List Cell) (at : ℕ) → length cells < at → [] ≡ drop at cells
rest_past cells at past = sym (drop_all at cells (omega arith))
