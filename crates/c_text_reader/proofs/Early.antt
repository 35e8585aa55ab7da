-- Faults that are known by a place.
use Rattle.std.proofs.Common.{◌≡◌, ◌∙◌, refl, sym, ap, ℕ, suc, ◌<◌, ◌≤◌, nat_le, Bool, true, false, if◌then◌else◌, List, [], ◌∷◌, ◌++◌, Option, Some}
use Rattle.std.proofs.Common.{None, le-leb, arith}
use Rattle.std.proofs.lemmas.Bool.{cond_both}
use Rattle.c_tree.specs.declared.names.Name.{Name}
use Rattle.c_tree.specs.declared.names.Span.{Span}
use Rattle.c_tree.specs.declared.kinds.Cause.{Cause}
use Rattle.c_tree.specs.declared.kinds.Fault.{Fault}
use Rattle.c_tree.specs.declared.kinds.Sort.{Sort}
use Rattle.c_tree.specs.Faults.{Outcome, outcome_faults, fault, misfit, undeclared, twice, unless, known, later, behind_first}
use Rattle.c_tree.specs.Checks.{undeclared_if}
use Rattle.c_fronts.proofs.Shows.{IsPlain, plain_gives, plain_wrong, plain_silent}
use Rattle.c_fronts.proofs.ValueFaults.{AtMost, plain, lacks}

true_false : true ≡ false → ⊥
true_false e = absurd cc

module _ (n : ℕ) where
  -- all of them are known by the place
  abbrev pub Early : List Fault → Type 0
  Early [] = Unit {0}
  Early (f ∷ fs) = (f.since ≤ n) × Early fs

  -- where something stands is within the place
  abbrev pub IsIn : Span → Type 0
  IsIn s = (s.start < n) × (s.end ≤ n)

  pub early_all : (fs : List Fault) → Early fs → known n fs ≡ fs
  early_all [] h = refl
  early_all (f ∷ fs) h = cond_both (nat_le f.since n) (f ∷ known n fs) (known n fs) (λ (z : List Fault). z ≡ f ∷ fs)
      (λ e. ap (λ (z : List Fault). f ∷ z) (early_all fs h.1)) (λ e. absurd (true_false (sym (le-leb f.since n h.0) ∙ e)))

  pub early_append : (a b : List Fault) → Early a → Early b → Early (a ++ b)
  early_append [] b h i = i
  early_append (f ∷ a) b h i = (h.0, early_append a b h.1 i)

  pub early_three : (a b c : List Fault) → Early a → Early b → Early c → Early (a ++ b ++ c)
  early_three a b c h i j = early_append (a ++ b) c (early_append a b h i) j

  pub early_unless : (b : Bool) (fs : List Fault) → Early fs → Early (unless b fs)
  early_unless true fs h = tt
  early_unless false fs h = h

  pub early_fault : (c : Cause) (place since : ℕ) → since ≤ n → Early (fault c place since)
  early_fault c place since h = (h, tt)

  pub early_misfit : (s : Span) → IsIn s → Early (misfit s)
  early_misfit s h = (h.1, tt)

  pub early_undeclared : (x : Name) → IsIn x.span → Early (undeclared x)
  early_undeclared x h = (omega (arith, h.0), tt)

  pub early_twice : (x : Name) → IsIn x.span → Early (twice x)
  early_twice x h = (omega (arith, h.0), tt)

  pub early_name : (o : Option Sort) (x : Name) → IsIn x.span → Early (undeclared_if o x)
  early_name None x h = early_undeclared x h
  early_name (Some s) x h = tt

  early_later : (m : ℕ) (f : Fault) → m ≤ n → f.since ≤ n → (later m f).since ≤ n
  early_later m f h i = cond_both (nat_le m f.since) f (record f { since = m }) (λ (g : Fault). g.since ≤ n) (λ e. i) (λ e. h)

  pub early_behind : (start : ℕ) (fs : List Fault) → start < n → Early fs → Early (behind_first start fs)
  early_behind start [] s h = tt
  early_behind start (f ∷ fs) s h = (early_later (suc start) f (omega (arith, s)) h.0, early_behind start fs s h.1)

  pub early_plain : {o : Outcome} (s : Span) → IsPlain o → IsIn s → Early (outcome_faults o s)
  early_plain s plain_gives h = tt
  early_plain s plain_wrong h = early_misfit s h
  early_plain s plain_silent h = tt

  pub early_most : {x : Name} {o : Outcome} (s : Span) → AtMost x o → IsIn x.span → IsIn s → Early (outcome_faults o s)
  early_most s (plain p) i h = early_plain s p h
  early_most {x} s lacks i h = early_undeclared x i
