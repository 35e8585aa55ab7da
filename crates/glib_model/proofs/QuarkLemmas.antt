-- Places of texts among the quarks.
use Rattle.std.proofs.Common.{◌≡◌, ◌∙◌, refl, sym, ap, subst, ℕ, zero, suc, ◌+◌, ◌^◌, ◌%◌, ◌≤◌, ◌<◌, true, false, Vec, Global, List, [], ◌∷◌, ◌++◌, length, map, drop, get_or, Option, Some, Result, Ok, Err, IfOk, arith, cond}
use Rattle.std.specs.Prelude.{slice_get}
use Rattle.std.specs.Str.{bytes_eq}
use Rattle.vg_base.specs.declared.event.UndefKind.{UndefKind}
use Rattle.vg_base.specs.declared.event.UndefKind.TheVariants as undef
use Rattle.vg_base.specs.declared.event.Fault.{Fault}
use Rattle.vg_base.specs.declared.event.Fault.TheVariants.{Refused, Memory}
use Rattle.c_meaning.specs.declared.cell.Cell.{Cell}
use Rattle.c_meaning.specs.declared.cell.Cell.TheVariants.{Uns}
use Rattle.c_meaning.specs.State
use Rattle.c_meaning.specs.Blocks.{on, undefined}
use Rattle.c_meaning.specs.Texts.{give, text_of}
use Rattle.c_meaning.specs.BlockRows.{TypeArgument, stuck, g_quark_from_static_string, quark_in, with_quark}
use Rattle.cell_heap.specs.States.{heap_of}
use Rattle.c_texts.specs.Answers.{Answers, InRuns}
use Rattle.glib_model.specs.declared.ends.LibEnd.{LibEnd}
use Rattle.glib_model.specs.declared.ends.LibWhat.TheVariants as what
use Rattle.glib_model.specs.Ends.{RefusedBy}
use Rattle.glib_model.specs.Outside.{IsQuark}
use Rattle.glib_model.proofs.Rows.{quiet_along}

-- 1. Places

-- what a place and those behind it hold
taken : {A : Type 0} (xs : List A) (at : ℕ) (x : A) → slice_get xs at ≡ Some x → drop at xs ≡ x ∷ drop (suc at) xs
taken [] at x is = cc
taken (y ∷ xs) zero x is = ap (λ z. z ∷ xs) (let same : y ≡ x = cc in same)
taken (y ∷ xs) (suc at) x is = taken xs at x is

item_there : (texts : List (Vec ℕ Global)) (at : ℕ) (q d : Vec ℕ Global) → q ≡ get_or texts at d → at < length texts → slice_get (map (λ t. t.items) texts) at ≡ Some q.items
item_there [] at q d is within = absurd (omega arith)
item_there (t ∷ texts) zero q d is within = ap (λ (x : Vec ℕ Global). Some x.items) (sym is)
item_there (t ∷ texts) (suc at) q d is within = item_there texts at q d is (omega arith)

-- the text at a place
pub item_in : (list texts : List (Vec ℕ Global)) (qs : List (List ℕ)) (at : ℕ) (q : Vec ℕ Global) → list ≡ texts → map (λ (t : Vec ℕ Global). t.items) texts ≡ qs → q ≡ get_or list at q → at < length list
    → slice_get qs at ≡ Some q.items
item_in list texts qs at q of view is within =
    ap (λ xs. slice_get xs at) (sym view) ∙ ap (λ (xs : List (Vec ℕ Global)). slice_get (map (λ t. t.items) xs) at) (sym of) ∙ item_there list at q q is within

-- a text at a place is the one that is looked for
pub quark_here : (qs : List (List ℕ)) (at : ℕ) (q x : List ℕ) → slice_get qs at ≡ Some q → bytes_eq q x ≡ true → quark_in 1 qs x ≡ quark_in (suc at) (drop at qs) x → quark_in 1 qs x ≡ suc at
quark_here qs at q x there same so_far =
    so_far ∙ ap (λ rest. quark_in (suc at) rest x) (taken qs at q there) ∙ ap (λ b. cond b (suc at) (quark_in (suc (suc at)) (drop (suc at) qs) x)) same

-- or it is not
pub quark_later : (qs : List (List ℕ)) (at : ℕ) (q x : List ℕ) → slice_get qs at ≡ Some q → bytes_eq q x ≡ false → quark_in 1 qs x ≡ quark_in (suc at) (drop at qs) x
    → quark_in 1 qs x ≡ quark_in (suc (suc at)) (drop (suc at) qs) x
quark_later qs at q x there apart so_far =
    so_far ∙ ap (λ rest. quark_in (suc at) rest x) (taken qs at q there) ∙ ap (λ b. cond b (suc at) (quark_in (suc (suc at)) (drop (suc at) qs) x)) apart

-- a text that is there adds nothing
pub quark_known : (n : ℕ) (qs : List (List ℕ)) (x : List ℕ) → quark_in n qs x < n + length qs → with_quark qs x ≡ qs
quark_known n [] x known = absurd (omega arith)
quark_known n (q ∷ qs) x known =
    elim (bytes_eq q x) as (λ b. cond b n (quark_in (suc n) qs x) < n + suc (length qs) → cond b (q ∷ qs) (q ∷ with_quark qs x) ≡ q ∷ qs) [
      | true ↦ (λ k. refl)
      | false ↦ (λ k. ap (λ rest. q ∷ rest) (quark_known (suc n) qs x (omega arith)))
    ] known

-- a new text stands last
pub quark_new : (n : ℕ) (qs : List (List ℕ)) (x : List ℕ) → n + length qs ≤ quark_in n qs x → with_quark qs x ≡ qs ++ x ∷ []
quark_new n [] x new = refl
quark_new n (q ∷ qs) x new =
    elim (bytes_eq q x) as (λ b. n + suc (length qs) ≤ cond b n (quark_in (suc n) qs x) → cond b (q ∷ qs) (q ∷ with_quark qs x) ≡ q ∷ qs ++ x ∷ []) [
      | true ↦ (λ k. absurd (omega arith))
      | false ↦ (λ k. ap (λ rest. q ∷ rest) (quark_new (suc n) qs x (omega arith)))
    ] new

-- 2. The row

-- arguments that it does not take
pub quark_stuck : (args : List Cell) (heap : List (Option (List Cell))) (quarks : List (List ℕ)) (answer : LibEnd) → ((s : State.State) (t : TypeArgument) → g_quark_from_static_string s t args ≡ stuck s)
    → answer ≡ record { what = what.Undefined undef.Kind; notes = [] } → IsQuark quarks quarks args heap answer
quark_stuck args heap quarks answer is_stuck is = λ s t sees same.
    quiet_along (record s { quarks = quarks }) (g_quark_from_static_string s t args) heap (what.Undefined undef.Kind) answer sees
    (is_stuck s t ∙ ap (λ q. stuck (record s { quarks = q })) same) is

module _ (args : List Cell) (cell : Cell) (asked : Result (Vec ℕ Global) (Fault UndefKind)) (heap : List (Option (List Cell))) (given : args ≡ cell ∷ [])
    (asks : InRuns heap (λ s. Answers (λ (text : Vec ℕ Global). text.items) asked (text_of s cell))) where
  abbrev gives : State.State → List ℕ → State.State
  gives s x = give (record s { quarks = with_quark s.quarks x }) (Uns (quark_in 1 s.quarks x % 2 ^ 32))

  asked_is : (s : State.State) (r : Result (Vec ℕ Global) (Fault UndefKind)) → asked ≡ r → heap_of s ≡ heap → Answers (λ (text : Vec ℕ Global). text.items) r (text_of s cell)
  asked_is s r is sees = let P : Result (Vec ℕ Global) (Fault UndefKind) → Type 0 = λ x. Answers (λ (text : Vec ℕ Global). text.items) x (text_of s cell) in subst P is (asks s sees)

  -- there is no text
  pub quark_err : {E : Type 0} (r : Result LibEnd E) (quarks : List (List ℕ)) (f : Fault UndefKind) → asked ≡ Err f → IfOk r (RefusedBy f) → IfOk r (IsQuark quarks quarks args heap)
  quark_err (Err e) quarks f is does = tt
  quark_err (Ok answer) quarks Memory is does = absurd does
  quark_err (Ok answer) quarks (Refused u) is does = λ s t sees same.
      quiet_along (record s { quarks = quarks }) (g_quark_from_static_string s t args) heap (what.Undefined u) answer sees
      (ap (g_quark_from_static_string s t) given ∙ ap (λ r. on s r (gives s)) (asked_is s (Err (Refused u)) is sees) ∙ ap (λ q. undefined (record s { quarks = q }) u) same) does

  -- its number is given
  pub quark_ok : (before after : List (List ℕ)) (text : Vec ℕ Global) (n : ℕ) (answer : LibEnd) → asked ≡ Ok text → n ≡ quark_in 1 before text.items % 2 ^ 32 → after ≡ with_quark before text.items
      → answer ≡ record { what = what.Value (Uns n); notes = [] } → IsQuark before after args heap answer
  quark_ok before after text n answer is number added now = λ s t sees same.
      quiet_along (record s { quarks = after }) (g_quark_from_static_string s t args) heap (what.Value (Uns n)) answer sees
      (
      ap (g_quark_from_static_string s t) given ∙ ap (λ r. on s r (gives s)) (asked_is s (Ok text) is sees)
      ∙ ap (λ q. give (record s { quarks = with_quark q text.items }) (Uns (quark_in 1 q text.items % 2 ^ 32))) same
      ∙ ap (λ q. give (record s { quarks = q }) (Uns (quark_in 1 before text.items % 2 ^ 32))) (sym added)
      ∙ ap (λ k. give (record s { quarks = after }) (Uns k)) (sym number)
      ) now
