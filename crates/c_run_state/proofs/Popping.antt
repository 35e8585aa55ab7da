-- The next item of the work stands last.
use Rattle.std.proofs.Common.{Vec, Global, ◌≡◌, ◌∙◌, refl, sym, ap, subst, ◌+◌, List, [], ◌∷◌, ◌++◌, length, map, reverse, drop, Option, Some, None, arith}
use Rattle.std.specs.List.{All}
use Rattle.std.specs.Option.{option_to_list}
use Rattle.std.specs.Prelude.{MatchOption}
use Rattle.std.specs.Vec.{vec_len}
use Rattle.std.proofs.lemmas.List.{reverse-append}
use Rattle.std.proofs.lemmas.List.Elements.{All-pop}
use Rattle.c_meaning.specs.State.{Item}
use Rattle.c_run_state.specs.declared.state.Work.{Work}
use Rattle.c_run_state.specs.declared.state.Run.{Run}
use Rattle.c_run_state.specs.Shows.{Popped, IsSized, item_seen}
use Rattle.c_run_state.proofs.Parts.{with_less}

-- the items, the next one first
abbrev items : List Work → List Item
items ws = map item_seen (reverse ws)

items_with : (ws : List Work) (w : Work) → items (ws ++ w ∷ []) ≡ item_seen w ∷ items ws
items_with ws w = ap (map item_seen) (reverse-append ws (w ∷ []))

none_left : (ws : List Work) → length ws ≡ 0 → ws ≡ []
none_left [] none = refl
none_left (w ∷ ws) none = absurd (omega arith)

pub popped : (run : Run) (work : Vec Work Global) (r : Option Work) → run.work.items ≡ work.items ++ option_to_list r → MatchOption r ((vec_len run.work ≡ 0) × (vec_len work ≡ 0)) (λ w. vec_len work + 1 ≡ vec_len run.work)
    → Popped r run (record run { work = work })
popped run work None same lengths = λ env s shows.
    let empty : run.work.items ≡ [] = none_left run.work.items (sym run.work.ok.0 ∙ lengths.0) in
    let left : work.items ≡ run.work.items = none_left work.items (sym work.ok.0 ∙ lengths.1) ∙ sym empty in (
      sym shows.books.work ∙ ap items empty,
      record {
        heap = shows.heap;
        books = with_less env run s work s.work (ap items left ∙ shows.books.work) (subst (All (IsSized env)) (sym left) shows.books.sized) shows.books;
      },
    )
popped run work (Some w) same lengths = λ env s shows.
    let first : s.work ≡ item_seen w ∷ items work.items = sym shows.books.work ∙ ap items same ∙ items_with work.items w in
    let rest : items work.items ≡ drop 1 s.work = ap (drop 1) (sym first) in
    let sized = All-pop (IsSized env) run.work.items work.items (Some w) same shows.books.sized in
    record {
      first = first ∙ ap (λ is. item_seen w ∷ is) rest;
      sized = sized.1;
      shows = record { heap = shows.heap; books = with_less env run s work (drop 1 s.work) rest sized.0 shows.books };
    }
