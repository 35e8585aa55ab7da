-- Lines of the input.
use Rattle.std.proofs.Common.{◌≡◌, ◌∙◌, refl, sym, ap, ℕ, suc, ◌+◌, ◌-◌, ◌<◌, ◌≤◌, Bool, true, false, List, [], ◌∷◌, length, drop, Option, Result, Ok, Err, IfOk, arith, cond, nat_eq}
use Rattle.std.proofs.lemmas.List.{drop-drop, length-drop}
use Rattle.c_meaning.specs.declared.cell.Cell.{Cell}
use Rattle.c_meaning.specs.declared.cell.Cell.TheVariants.{Null}
use Rattle.c_meaning.specs.State
use Rattle.c_meaning.specs.Texts.{behind_line, line_of, before_zero, give, give_text}
use Rattle.c_meaning.specs.BlockRows.{line_read, vala_rt_read_line}
use Rattle.glib_model.specs.declared.kinds.Mark.{Mark}
use Rattle.glib_model.specs.declared.ends.LibEnd.{LibEnd}
use Rattle.glib_model.specs.declared.ends.LibWhat.TheVariants as what
use Rattle.glib_model.specs.Ends.{InRun}
use Rattle.glib_model.specs.Outside.{IsLine}
use Rattle.glib_model.proofs.Rows.{tells_along, quiet_along}

-- what is behind a line is the end of all
pub record IsEnd (xs ys : List ℕ) : Type 0 where
  pub short : length ys ≤ length xs
  pub is : drop (length xs - length ys) xs ≡ ys

more_end : (b : ℕ) (xs ys : List ℕ) → IsEnd xs ys → IsEnd (b ∷ xs) ys
more_end b xs ys e =
    let short = e.short in
    let one : suc (length xs) - length ys ≡ suc (length xs - length ys) = omega arith in
    record { short = omega arith; is = ap (λ n. drop n (b ∷ xs)) one ∙ e.is }

pub line_end : (xs : List ℕ) → IsEnd xs (behind_line xs)
line_end [] = record { short = omega arith; is = refl }
line_end (b ∷ xs) = by (nat_eq b 10) (line_end xs)
  where
    by : (e : Bool) → IsEnd xs (behind_line xs) → IsEnd (b ∷ xs) (cond e xs (behind_line xs))
    by true later = more_end b xs xs (record { short = omega arith; is = ap (λ n. drop n xs) (let none : length xs - length xs ≡ 0 = omega arith in none) })
    by false later = more_end b xs (behind_line xs) later

pub end_in : (input : List ℕ) (at : ℕ) (ys : List ℕ) → at ≤ length input → IsEnd (drop at input) ys → drop (length input - length ys) input ≡ ys
end_in input at ys within e =
    let long = length-drop at input in
    let short = e.short in
    let place : at + (length (drop at input) - length ys) ≡ length input - length ys = omega arith in
    ap (λ n. drop n input) (sym place) ∙ sym (drop-drop (length (drop at input) - length ys) at input) ∙ e.is

-- at the end null is given
pub null_line : (rest : List ℕ) (args : List Cell) (heap : List (Option (List Cell))) (marks : List (Option Mark)) (answer : LibEnd) → length rest ≡ 0 → answer ≡ record { what = what.Value Null; notes = [] } → IsLine rest rest args heap marks heap answer
null_line [] args heap marks answer none is = λ s t sees input.
    quiet_along (record s { input = [] }) (vala_rt_read_line s t args) heap (what.Value Null) answer sees.blocks
    (ap (line_read s) input ∙ ap (λ r. give (record s { input = r }) Null) input) is
null_line (b ∷ rest) args heap marks answer none is = absurd (omega arith)

more_line : (s : State.State) (rest : List ℕ) → 0 < length rest → line_read s rest ≡ give_text (record s { input = behind_line rest }) (before_zero (line_of rest))
more_line s [] some = absurd (omega arith)
more_line s (b ∷ rest) some = refl

-- else the line is given
pub some_line : {E : Type 0} (rest after bytes : List ℕ) (args : List Cell) (heap : List (Option (List Cell))) (marks : List (Option Mark)) (new : List (Option (List Cell))) (r : Result LibEnd E) → 0 < length rest → after ≡ behind_line rest
    → bytes ≡ before_zero (line_of rest) → IfOk r (InRun (λ s. give_text s bytes) heap new) → IfOk r (IsLine rest after args heap marks new)
some_line rest after bytes args heap marks new (Err e) some behind of does = tt
some_line rest after bytes args heap marks new (Ok answer) some behind of does = λ s t sees input.
    let x : State.State = record s { input = after } in
    let row : vala_rt_read_line s t args ≡ give_text x bytes =
    ap (line_read s) input ∙ more_line s rest some ∙ ap (λ r. give_text (record s { input = r }) (before_zero (line_of rest))) (sym behind) ∙ ap (give_text x) (sym of) in
    tells_along x (vala_rt_read_line s t args) (give_text x bytes) new answer row (does x sees.blocks)
