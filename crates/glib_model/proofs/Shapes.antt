-- How rows ask for two texts, and what is given.
use Rattle.std.proofs.Common.{◌≡◌, refl, ℕ, Bool, true, false, subst, List, [], Option, Some, None, Result, Ok, Err, IfOk}
use Rattle.c_meaning.specs.declared.cell.Cell.{Cell}
use Rattle.c_meaning.specs.declared.cell.Cell.TheVariants.{Int, Uns, Ptr, Func, Null, Unset}
use Rattle.c_meaning.specs.State
use Rattle.c_meaning.specs.Blocks.{Answer, on, bind}
use Rattle.c_meaning.specs.Numbers.{truth}
use Rattle.c_meaning.specs.Texts.{give, text_of, optional_text}
use Rattle.c_meaning.specs.BlockRows.{pointer_at}
use Rattle.glib_model.specs.declared.ends.LibEnd.{LibEnd}
use Rattle.glib_model.specs.declared.ends.LibWhat.TheVariants as what
use Rattle.glib_model.specs.Ends.{finished}
use Rattle.glib_model.specs.Texts.{both_texts, both_optional, Both, BothOptional}

pub on_both : (s : State.State) (a b : Cell) (go : List ℕ → List ℕ → State.State) → on s (text_of s a) (λ x. on s (text_of s b) (λ y. go x y)) ≡ on s (both_texts s a b) (λ p. go p.first p.second)
on_both s a b go = by (text_of s a) (text_of s b)
  where
    by : (x y : Answer (List ℕ)) → on s x (λ u. on s y (λ v. go u v)) ≡ on s (bind x (λ u. bind y (λ v. Ok (let p : Both = record { first = u; second = v } in p)))) (λ p. go p.first p.second)
    by (Ok x) (Ok y) = refl
    by (Ok x) (Err u) = refl
    by (Err u) y = refl

pub on_optional : (s : State.State) (a b : Cell) (go : Option (List ℕ) → Option (List ℕ) → State.State)
    → on s (optional_text s a) (λ x. on s (optional_text s b) (λ y. go x y)) ≡ on s (both_optional s a b) (λ p. go p.first p.second)
on_optional s a b go = by (optional_text s a) (optional_text s b)
  where
    by : (x y : Answer (Option (List ℕ))) → on s x (λ u. on s y (λ v. go u v)) ≡ on s (bind x (λ u. bind y (λ v. Ok (let p : BothOptional = record { first = u; second = v } in p)))) (λ p. go p.first p.second)
    by (Ok x) (Ok y) = refl
    by (Ok x) (Err u) = refl
    by (Err u) y = refl

pub gives_truth : (s : State.State) (b : Bool) → give s (truth b) ≡ finished s (what.Value (truth b))
gives_truth s true = refl
gives_truth s false = refl

pub gives_pointer : (s : State.State) (c : Cell) (o : Option ℕ) → give s (pointer_at c o) ≡ finished s (what.Value (pointer_at c o))
gives_pointer s (Ptr b a) (Some n) = refl
gives_pointer s (Ptr b a) None = refl
gives_pointer s (Int z) o = refl
gives_pointer s (Uns n) o = refl
gives_pointer s (Func f) o = refl
gives_pointer s Null o = refl
gives_pointer s Unset o = refl

-- a pointer to an equal place
pub pointer_along : {E : Type 0} (r : Result LibEnd E) (c : Cell) (o p : Option ℕ) → o ≡ p → IfOk r (λ answer. answer ≡ record { what = what.Value (pointer_at c o); notes = [] })
    → IfOk r (λ answer. answer ≡ record { what = what.Value (pointer_at c p); notes = [] })
pointer_along r c o p same is = let P : Option ℕ → Type 0 = λ x. IfOk r (λ answer. answer ≡ record { what = what.Value (pointer_at c x); notes = [] }) in subst P same is
