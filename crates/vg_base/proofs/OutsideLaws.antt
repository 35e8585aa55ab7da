-- One call after another on a folder or a sink.
use Rattle.std.proofs.Common.{◌≡◌, ℕ, ◌+◌, ◌-◌, List, [], ◌++◌, length, take, drop, subst, Option, Some, None, refl, sym, ap, ◌∙◌, append_assoc, append-nil}
use Rattle.std.specs.Option.{option_map}
use Rattle.std.proofs.Math.Seq.{take-add}
use Rattle.std.proofs.lemmas.List.{take_rest}
use Rattle.vg_base.specs.Outside.{SinkView, Takes}

-- what is told of a list to which things are added
pub told_none : {A : Type 0} (o : Option (List A)) → o ≡ option_map (λ xs. xs ++ []) o
told_none None = refl
told_none (Some xs) = ap Some (sym (append-nil xs))

pub told_both : {A : Type 0} (o p q : Option (List A)) (xs ys : List A) → p ≡ option_map (λ zs. zs ++ xs) o → q ≡ option_map (λ zs. zs ++ ys) p → q ≡ option_map (λ zs. zs ++ (xs ++ ys)) o
told_both None p q xs ys e f = f ∙ ap (option_map (λ zs. zs ++ ys)) e
told_both (Some zs) p q xs ys e f = f ∙ ap (option_map (λ zs. zs ++ ys)) e ∙ ap Some (append_assoc zs xs ys)

pub takes_none : (old new : SinkView) → new.taken ≡ old.taken → Takes old [] new
takes_none old new e = e ∙ told_none old.taken

pub takes_both : (old mid new : SinkView) (xs ys : List ℕ) → Takes old xs mid → Takes mid ys new → Takes old (xs ++ ys) new
takes_both old mid new xs ys e f = told_both old.taken mid.taken new.taken xs ys e f

-- the first n bytes, and then m of the slice that begins there
pub takes_more : (old mid new : SinkView) (n m : ℕ) (bytes : List ℕ) → Takes old (take n bytes) mid → Takes mid (take m (take (length bytes - n) (drop n bytes))) new → Takes old (take (n + m) bytes) new
takes_more old mid new n m bytes e f =
    let rest : Takes mid (take m (drop n bytes)) new = subst (λ l. Takes mid (take m l) new) (take_rest bytes n) f in
    takes_both old mid new (take n bytes) (take m (drop n bytes)) e rest ∙ ap (λ l. option_map (λ zs. zs ++ l) old.taken) (sym (take-add n m bytes))
