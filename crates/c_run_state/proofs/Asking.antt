-- Calls go into the work one by one, from the last.
use Rattle.std.proofs.Common.{Vec, Global, ◌≡◌, ◌∙◌, refl, sym, ap, subst, ℕ, ◌+◌, List, [], ◌∷◌, ◌++◌, length, Option, Some, None, append-nil, arith}
use Rattle.std.specs.Prelude.{MatchOption}
use Rattle.std.proofs.lemmas.List.{append_assoc}
use Rattle.c_meaning.specs.declared.cell.Cell.{Cell}
use Rattle.c_meaning.specs.State.{Ask}
use Rattle.c_meaning.specs.TypeRows.{push}
use Rattle.glib_model.specs.declared.ends.LibCall.{LibCall}
use Rattle.glib_model.specs.Ends.{asked}
use Rattle.c_run_state.specs.declared.state.Run.{Run}
use Rattle.c_run_state.specs.declared.state.Work.{Work}
use Rattle.c_run_state.specs.declared.state.Work.TheVariants as work
use Rattle.c_run_state.specs.Shows.{Books, BooksBecome}
use Rattle.c_run_state.proofs.Parts.{with_work}

-- one call
pub call_asked : (run : Run) (call : LibCall) (cells : Vec Cell Global) (more : Vec Work Global) → cells.items ≡ call.args → more.items ≡ run.work.items ++ work.Ask call.func cells ∷ []
    → BooksBecome (λ s. push (asked (call ∷ [])) s) run (record run { work = more })
call_asked run call cells more same is = λ env s books.
    subst (λ xs. Books env (record run { work = more }) (push (Ask call.func xs ∷ []) s)) same (with_work env run s (work.Ask call.func cells) more is tt books)

-- those behind the ones that are left were asked for
pub record AsksSoFar (old new : Run) (calls left : List LibCall) : Type 0 where
  pub done : List LibCall
  pub parts : left ++ done ≡ calls
  pub books : BooksBecome (λ s. push (asked done) s) old new

pub begun : (run : Run) (calls left : List LibCall) → left ≡ calls → AsksSoFar run run calls left
begun run calls left all = record { done = []; parts = append-nil left ∙ all; books = λ env s books. books }

pub gone_on : (old mid new : Run) (calls left less : List LibCall) (call : LibCall) → left ≡ less ++ call ∷ [] → AsksSoFar old mid calls left
    → BooksBecome (λ s. push (asked (call ∷ [])) s) mid new → AsksSoFar old new calls less
gone_on old mid new calls left less call is so_far asks =
    record {
      done = call ∷ so_far.done;
      parts = sym (append_assoc less (call ∷ []) so_far.done) ∙ ap (λ cs. cs ++ so_far.done) (sym is) ∙ so_far.parts;
      books = λ env s books. asks env (push (asked so_far.done) s) (so_far.books env s books);
    }

pub all_asked : (old new : Run) (calls left : List LibCall) → left ≡ [] → AsksSoFar old new calls left → BooksBecome (λ s. push (asked calls) s) old new
all_asked old new calls left none so_far = λ env s books.
    subst (λ cs. Books env new (push (asked cs) s)) (ap (λ cs. cs ++ so_far.done) (sym none) ∙ so_far.parts) (so_far.books env s books)

-- where none is taken none is left
pub none_left : (left : List LibCall) (n m : ℕ) (r : Option LibCall) → r ≡ None → MatchOption r ((n ≡ 0) × (m ≡ 0)) (λ _. m + 1 ≡ n) → n ≡ length left → left ≡ []
none_left left n m (Some call) is lengths long = absurd (let wrong : Some call ≡ None = is in cc)
none_left [] n m None is lengths long = refl
none_left (call ∷ left) n m None is lengths long = let none : n ≡ 0 = lengths.0 in absurd (omega (arith, none, long))
