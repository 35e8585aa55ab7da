-- The lines of events, one after another, and the texts of some runs.
use Rattle.std.proofs.Common.{◌≡◌, ℕ, ◌+◌, List, [], ◌∷◌, ◌++◌, refl, sym, ap, ◌∙◌, append_assoc, append-nil, arith}
use Rattle.std.specs.Fmt.{digits}
use Rattle.std.proofs.lemmas.List.Sums.{sum_by-cons}
use Rattle.vg_base.specs.declared.event.Event.{Event}
use Rattle.run_texts.specs.Texts.{made_by, things_made, event_line, event_lines}
use Rattle.run_texts.specs.Laws.{TextsGrow, TextsOfRuns}

lines_grow : (made : ℕ) (es : List Event) (e : Event) → event_lines made (es ++ e ∷ []) ≡ event_lines made es ++ event_line (made + things_made es) e
lines_grow made [] e =
    let none : made ≡ made + things_made [] = omega arith in
    append-nil (event_line made e) ∙ ap (λ n. event_line n e) none
lines_grow made (x ∷ xs) e =
    let count : (made + made_by x) + things_made xs ≡ made + things_made (x ∷ xs) = omega (arith, sum_by-cons made_by x xs) in
    ap (λ t. event_line made x ++ t) (lines_grow (made + made_by x) xs e)
    ∙ sym (append_assoc (event_line made x) (event_lines (made + made_by x) xs) (event_line ((made + made_by x) + things_made xs) e))
    ∙ ap (λ n. event_lines made (x ∷ xs) ++ event_line n e) count

pub texts_grow : TextsGrow
texts_grow before e = lines_grow 0 before e ∙ ap (λ n. event_lines 0 before ++ event_line n e) (omega arith)

pub texts_of_runs : TextsOfRuns
unfolding digits
texts_of_runs = record { box_of_delegates = refl; caught_error = refl; dispatches = refl; waiting = refl; cycle = refl }
