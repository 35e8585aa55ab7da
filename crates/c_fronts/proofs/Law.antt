-- What is known of a front hangs on it alone, and so a text that stops is refused.
use Rattle.std.proofs.Common.{◌≡◌, ◌∙◌, refl, ℕ, ◌<◌, List, [], ◌∷◌, Some, arith}
use Rattle.c_tree.specs.declared.kinds.Fault.{Fault}
use Rattle.c_tree.specs.declared.kinds.Refusal.{Refusal}
use Rattle.c_tree.specs.Words.{Token, Word}
use Rattle.c_tree.specs.Answers.{faults_of, first_of, known_behind, last_start}
use Rattle.c_tree.specs.Answers as answer
use Rattle.c_fronts.specs.Fronts.{InOrder, FrontsAreKnown, StoppedTextsAreRefused}
use Rattle.c_fronts.proofs.Marks.{Final}
use Rattle.c_fronts.proofs.Telling.{Edge, LateToken}
use Rattle.c_fronts.proofs.Firsts.{same_first, has_first}
use Rattle.c_fronts.proofs.Whole.{same_shown}

-- where tokens in order end
record Ends (n : ℕ) (w : Word) : Type 0 where
  apart : last_start w < n
  last : (edge : Edge) → edge.last ≡ last_start w → Final (LateToken edge) w

ends : (n : ℕ) (t : Token) (w : Word) → InOrder n (t ∷ w) → Ends n (t ∷ w)
ends n t [] h = record { apart = omega (arith, h.0, h.1); last = λ edge e. (omega (arith, e), omega (arith, e, h.0)) }
ends n t (s ∷ w) h = let r = ends n s w h.2 in record { apart = r.apart; last = λ edge e. r.last edge e }

pub fronts_are_known : FrontsAreKnown
fronts_are_known own [] v v' is is' h m m' r r' = refl
fronts_are_known own (t ∷ w) v v' is is' h m m' r r' =
    let e = ends own.place t w h in
    let edge : Edge = record { last = last_start (t ∷ w); place = own.place; apart = e.apart } in
    same_first (last_start (t ∷ w)) own (faults_of is) (faults_of is') (λ p. same_shown edge p v v' (t ∷ w) is is' (e.last edge refl) m m' r r')

has_known : (own : Fault) (w : Word) (fs : List Fault) → (r : Refusal) × (first_of (Some own) (known_behind w fs) ≡ Some r)
has_known own [] fs = (answer.refusal own, refl)
has_known own (t ∷ w) fs = has_first (last_start (t ∷ w)) own fs

pub stopped_texts_are_refused : StoppedTextsAreRefused
stopped_texts_are_refused text e w own h s b =
    let f = has_known own w (faults_of b.items) in
    (f.0, f.1, answer.stopped e w own f.0 s b (λ v is m r. fronts_are_known own w v b.rest is b.items h m b.made r b.reads ∙ f.1))
