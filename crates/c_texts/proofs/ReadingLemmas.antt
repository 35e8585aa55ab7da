-- Reading texts through pointers, in the heap of a run.
use Rattle.std.proofs.Common.{◌≡◌, ◌∙◌, refl, sym, ap, ℕ, zero, suc, ◌+◌, ◌-◌, ◌<◌, ◌≤◌, List, [], ◌∷◌, ◌++◌, length, drop, get_or, Ok, Err, arith, append-nil, append_assoc}
use Rattle.std.proofs.lemmas.List.{drop_more, drop_all}
use Rattle.vg_base.specs.declared.event.UndefKind.{UndefKind}
use Rattle.vg_base.specs.declared.event.UndefKind.TheVariants as undef
use Rattle.c_meaning.specs.declared.cell.Cell.{Cell}
use Rattle.c_meaning.specs.declared.cell.Cell.TheVariants.{Int, Uns, Ptr, Func, Null, Unset}
use Rattle.c_meaning.specs.Blocks.{Answer}
use Rattle.c_meaning.specs.Texts.{byte_before, bytes_up_to}
use Rattle.cell_heap.specs.Texts.{byte_of}
use Rattle.cell_heap.proofs.TextLaws.{behind}

abbrev by_byte : Answer ℕ → Answer (List ℕ) → Answer (List ℕ)
by_byte (Ok b) rest = byte_before b rest
by_byte (Err u) rest = Err u

up_to_cons : (n : ℕ) (c : Cell) (cs : List Cell) → bytes_up_to (suc n) (c ∷ cs) ≡ by_byte (byte_of c) (bytes_up_to n cs)
up_to_cons n (Int z) cs = refl
up_to_cons n (Uns m) cs = refl
up_to_cons n (Ptr b a) cs = refl
up_to_cons n (Func f) cs = refl
up_to_cons n Null cs = refl
up_to_cons n Unset cs = refl

at_cell : (n k : ℕ) (cells : List Cell) (i : ℕ) (d : Cell) (r : Answer ℕ) → n ≡ suc k → i < length cells → byte_of (get_or cells i d) ≡ r → bytes_up_to n (drop i cells) ≡ by_byte r (bytes_up_to k (drop (i + 1) cells))
at_cell n k cells i d r more lt byte =
    ap (λ m. bytes_up_to m (drop i cells)) more ∙ ap (bytes_up_to (suc k)) (drop_more cells i d lt) ∙ up_to_cons k (get_or cells i d) (drop (i + 1) cells)
    ∙ ap (λ b. by_byte b (bytes_up_to k (drop (i + 1) cells))) byte

pub up_to_zero : (n : ℕ) (cells : List Cell) (text : List ℕ) (i : ℕ) (d : Cell) (b : ℕ) → i < n → i < length cells → byte_of (get_or cells i d) ≡ Ok b → b ≡ 0 → bytes_up_to n cells ≡ behind text (bytes_up_to (n - i) (drop i cells))
    → bytes_up_to n cells ≡ Ok text
up_to_zero n cells text i d b room lt byte none so_far =
    so_far ∙ ap (behind text) (at_cell (n - i) (n - (i + 1)) cells i d (Ok 0) (omega arith) lt (byte ∙ ap (λ m. Ok m) none)) ∙ ap (λ bs. Ok bs) (append-nil text)

pub up_to_none : (n : ℕ) (cells : List Cell) (text : List ℕ) (i : ℕ) (d : Cell) (u : UndefKind) → i < n → i < length cells → byte_of (get_or cells i d) ≡ Err u
    → bytes_up_to n cells ≡ behind text (bytes_up_to (n - i) (drop i cells)) → bytes_up_to n cells ≡ Err u
up_to_none n cells text i d u room lt byte so_far = so_far ∙ ap (behind text) (at_cell (n - i) (n - (i + 1)) cells i d (Err u) (omega arith) lt byte)

one_more : (text : List ℕ) (b : ℕ) (r : Answer (List ℕ)) → (b ≡ 0 → ⊥) → behind text (byte_before b r) ≡ behind (text ++ b ∷ []) r
one_more text zero r apart = absurd (apart refl)
one_more text (suc b) (Ok cs) apart = ap (λ bs. Ok bs) (sym (append_assoc text (suc b ∷ []) cs))
one_more text (suc b) (Err u) apart = refl

pub up_to_byte : (n : ℕ) (cells : List Cell) (text : List ℕ) (i : ℕ) (d : Cell) (b : ℕ) → i < n → i < length cells → byte_of (get_or cells i d) ≡ Ok b → (b ≡ 0 → ⊥)
    → bytes_up_to n cells ≡ behind text (bytes_up_to (n - i) (drop i cells)) → bytes_up_to n cells ≡ behind (text ++ b ∷ []) (bytes_up_to (n - (i + 1)) (drop (i + 1) cells))
up_to_byte n cells text i d b room lt byte apart so_far =
    so_far ∙ ap (behind text) (at_cell (n - i) (n - (i + 1)) cells i d (Ok b) (omega arith) lt byte) ∙ one_more text b (bytes_up_to (n - (i + 1)) (drop (i + 1) cells)) apart

pub up_to_past : (n : ℕ) (cells : List Cell) (text : List ℕ) (i : ℕ) → i < n → length cells ≤ i → bytes_up_to n cells ≡ behind text (bytes_up_to (n - i) (drop i cells))
    → bytes_up_to n cells ≡ Err undef.Outside
up_to_past n cells text i room past so_far =
    so_far ∙ ap (λ cs. behind text (bytes_up_to (n - i) cs)) (drop_all i cells past) ∙ ap (λ k. behind text (bytes_up_to k [])) (let more : n - i ≡ suc (n - (i + 1)) = omega arith in more)
