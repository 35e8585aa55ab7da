-- Rows that read an error.
use Rattle.std.proofs.Common.{◌≡◌, ◌∙◌, refl, sym, ap, subst, ℕ, Bool, ◌&&◌, ℤ, List, [], ◌∷◌, Option, Result, Ok, Err, IfOk}
use Rattle.vg_base.specs.declared.event.UndefKind.{UndefKind}
use Rattle.vg_base.specs.declared.event.Fault.{Fault}
use Rattle.vg_base.specs.declared.event.Fault.TheVariants.{Refused, Memory}
use Rattle.vg_base.specs.declared.event.ThingKind.TheVariants as thing
use Rattle.c_tree.specs.Kinds.{int, uint}
use Rattle.c_meaning.specs.declared.cell.Cell.{Cell}
use Rattle.c_meaning.specs.declared.cell.Cell.TheVariants.{Int, Uns, Ptr, Func, Null, Unset}
use Rattle.c_meaning.specs.State
use Rattle.c_meaning.specs.Blocks.{Answer, bind, on}
use Rattle.c_meaning.specs.Numbers.{as_kind, number_of, truth}
use Rattle.c_meaning.specs.Texts.{text_of, give}
use Rattle.c_meaning.specs.BlockRows.{Does, TypeArgument, Found, part, give_error, g_error_copy, g_error_matches, matches, thing_of, same_number, domain_of, code_of}
use Rattle.c_texts.specs.Answers.{Answers, InRuns}
use Rattle.glib_model.specs.declared.kinds.Mark.{Mark}
use Rattle.glib_model.specs.declared.ends.LibEnd.{LibEnd}
use Rattle.glib_model.specs.declared.ends.LibWhat.TheVariants as what
use Rattle.glib_model.specs.Kinds.{Sees, numbered}
use Rattle.glib_model.specs.Ends.{RefusedBy, IsRow, InRun}
use Rattle.glib_model.specs.Errors.{Parts, parts_of, has_code}
use Rattle.glib_model.proofs.BlockLemmas.{on_number}
use Rattle.glib_model.proofs.Rows.{tells_along, quiet_along}
use Rattle.glib_model.proofs.Shapes.{gives_truth}

-- 1. What is asked for before something is done

pub run_ok : {A B E : Type 0} (seen : A → B) (ask : State.State → Answer B) (go : State.State → B → State.State) (asked : Result A (Fault UndefKind)) (old new : List (Option (List Cell))) (r : Result LibEnd E) (a : A)
    → InRuns old (λ s. Answers seen asked (ask s)) → asked ≡ Ok a → IfOk r (InRun (λ s. go s (seen a)) old new) → IfOk r (InRun (λ s. on s (ask s) (go s)) old new)
run_ok seen ask go asked old new (Err e) a asks is does = tt
run_ok {A} seen ask go asked old new (Ok answer) a asks is does = λ s sees.
    let P : Result A (Fault UndefKind) → Type 0 = λ r. Answers seen r (ask s) in
    tells_along s (on s (ask s) (go s)) (go s (seen a)) new answer (ap (λ x. on s x (go s)) (subst P is (asks s sees))) (does s sees)

pub run_err : {A B E : Type 0} (seen : A → B) (ask : State.State → Answer B) (go : State.State → B → State.State) (asked : Result A (Fault UndefKind)) (old : List (Option (List Cell))) (r : Result LibEnd E) (f : Fault UndefKind)
    → InRuns old (λ s. Answers seen asked (ask s)) → asked ≡ Err f → IfOk r (RefusedBy f) → IfOk r (InRun (λ s. on s (ask s) (go s)) old old)
run_err seen ask go asked old (Err e) f asks is does = tt
run_err seen ask go asked old (Ok answer) Memory asks is does = absurd does
run_err {A} seen ask go asked old (Ok answer) (Refused u) asks is does = λ s sees.
    let P : Result A (Fault UndefKind) → Type 0 = λ r. Answers seen r (ask s) in
    quiet_along s (on s (ask s) (go s)) old (what.Undefined u) answer sees (ap (λ x. on s x (go s)) (subst P is (asks s sees))) does

-- a row that goes on with the number of what it found
pub found_row : {E : Type 0} (row : Does) (args : List Cell) (finds : State.State → Answer Found) (next : State.State → ℕ → State.State) (n : ℕ) (heap : List (Option (List Cell))) (marks : List (Option Mark)) (new : List (Option (List Cell))) (r : Result LibEnd E)
    → ((s : State.State) (t : TypeArgument) → row s t args ≡ on s (finds s) (λ f. next s f.number)) → ((s : State.State) → Sees s heap marks → Ok n ≡ numbered (finds s))
    → IfOk r (InRun (λ s. next s n) heap new) → IfOk r (IsRow row args heap marks new)
found_row row args finds next n heap marks new (Err e) shape number does = tt
found_row row args finds next n heap marks new (Ok answer) shape number does = λ s t sees.
    tells_along s (row s t args) (next s n) new answer (shape s t ∙ on_number s n (next s) (finds s) (number s sees)) (does s sees.blocks)

-- 2. Copies

abbrev pub copies : State.State → ℕ → State.State
copies s n = on s (parts_of s n) (λ p. give_error s p.domain p.code p.message)

three : (s : State.State) (x y : Answer Cell) (z : Answer (List ℕ)) → on s x (λ d. on s y (λ c. on s z (λ m. give_error s d c m)))
    ≡ on s (bind x (λ d. bind y (λ c. bind z (λ m. Ok (let p : Parts = record { domain = d; code = c; message = m } in p))))) (λ p. give_error s p.domain p.code p.message)
three s (Ok d) (Ok c) (Ok m) = refl
three s (Ok d) (Ok c) (Err u) = refl
three s (Ok d) (Err u) z = refl
three s (Err u) y z = refl

pub copy_shape : (s : State.State) (t : TypeArgument) (e : Cell) → g_error_copy s t (e ∷ []) ≡ on s (thing_of s thing.Error e) (λ f. copies s f.number)
copy_shape s t e = by (thing_of s thing.Error e)
  where
    by : (r : Answer Found)
        → on s r (λ f. on s (bind (part s f 0) (as_kind uint)) (λ d. on s (bind (part s f 1) (as_kind int)) (λ c. on s (bind (part s f 2) (text_of s)) (λ m. give_error s d c m)))) ≡ on s r (λ f. copies s f.number)
    by (Ok f) = three s (bind (part s f 0) (as_kind uint)) (bind (part s f 1) (as_kind int)) (bind (part s f 2) (text_of s))
    by (Err u) = refl

-- 3. Tests

abbrev pub tests : Cell → Cell → State.State → ℕ → State.State
tests d c s n = on s (has_code s n d c) (λ b. give s (truth b))

four : (s : State.State) (x y z w : Answer ℤ) → on s (bind x (λ a. bind y (λ b. bind z (λ c. bind w (λ d. let r : Answer Cell = Ok (truth (same_number a b && same_number c d)) in r))))) (give s)
    ≡ on s (bind x (λ a. bind y (λ b. bind z (λ c. bind w (λ d. let r : Answer Bool = Ok (same_number a b && same_number c d) in r))))) (λ b. give s (truth b))
four s (Ok a) (Ok b) (Ok c) (Ok d) = refl
four s (Ok a) (Ok b) (Ok c) (Err u) = refl
four s (Ok a) (Ok b) (Err u) w = refl
four s (Ok a) (Err u) z w = refl
four s (Err u) y z w = refl

tested : (s : State.State) (d c : Cell) (r : Answer Found) → on s (bind r (λ f. matches s f d c)) (give s) ≡ on s r (λ f. tests d c s f.number)
tested s d c (Ok f) = four s (domain_of s f) (number_of d) (code_of s f) (number_of c)
tested s d c (Err u) = refl

pub match_shape : (s : State.State) (t : TypeArgument) (e d c : Cell) → (e ≡ Null → ⊥) → g_error_matches s t (e ∷ d ∷ c ∷ []) ≡ on s (thing_of s thing.Error e) (λ f. tests d c s f.number)
match_shape s t (Int z) d c apart = tested s d c (thing_of s thing.Error (Int z))
match_shape s t (Uns n) d c apart = tested s d c (thing_of s thing.Error (Uns n))
match_shape s t (Ptr n m) d c apart = tested s d c (thing_of s thing.Error (Ptr n m))
match_shape s t (Func f) d c apart = tested s d c (thing_of s thing.Error (Func f))
match_shape s t Null d c apart = absurd (apart refl)
match_shape s t Unset d c apart = tested s d c (thing_of s thing.Error Unset)

-- a test of a live error
pub match_run : (asked : Result Bool UndefKind) (b : Bool) (n : ℕ) (d c : Cell) (old : List (Option (List Cell))) (answer : LibEnd) → InRuns old (λ s. asked ≡ has_code s n d c) → asked ≡ Ok b
    → answer ≡ record { what = what.Value (truth b); notes = [] } → InRun (λ s. tests d c s n) old old answer
match_run asked b n d c old answer asks is now = λ s sees.
    quiet_along s (tests d c s n) old (what.Value (truth b)) answer sees (ap (λ r. on s r (λ x. give s (truth x))) (sym (asks s sees) ∙ is) ∙ gives_truth s b) now

pub match_none : (asked : Result Bool UndefKind) (u : UndefKind) (n : ℕ) (d c : Cell) (old : List (Option (List Cell))) (answer : LibEnd) → InRuns old (λ s. asked ≡ has_code s n d c) → asked ≡ Err u
    → answer ≡ record { what = what.Undefined u; notes = [] } → InRun (λ s. tests d c s n) old old answer
match_none asked u n d c old answer asks is now = λ s sees.
    quiet_along s (tests d c s n) old (what.Undefined u) answer sees (ap (λ r. on s r (λ x. give s (truth x))) (sym (asks s sees) ∙ is)) now
