-- A number of steps and what `parse` makes of its digits.
use Rattle.std.proofs.Common.{◌≡◌, ◌≢◌, ℕ, ◌<◌, ◌^◌, Bool, true, false, ◌&&◌, List, [], ◌∷◌, length, refl, sym, ap, subst, arith, nat_le, leb-true}
use Rattle.std.specs.Char.{digit_value}
use Rattle.std.specs.List.{list_all}
use Rattle.std.specs.Prelude.{Some, None, if◌then◌else◌}
use Rattle.std.specs.Str.Parse.{AllDigits, IsNumeral, digits_value, without_leading_plus}
use Rattle.std.proofs.lemmas.Bool.Decides.{nat_tests}
use Rattle.std.proofs.lemmas.Str.Parse.{without_leading_plus_none}
use Rattle.vg_base.specs.World.{is_digit}
use Rattle.command_line.specs.Meaning.{most_steps, steps_by}

both : (a b : Bool) → (a && b) ≡ true → (a ≡ true) × (b ≡ true)
both true b e = (refl, e)
both false b e = absurd (let no : false ≡ true = e in cc)

digit_is : (b : ℕ) → is_digit b ≡ true → digit_value b < 10
digit_is b h = (let bounds = both (nat_le 48 b) (nat_le b 57) h in grind (arith, nat_tests))

all_digits : (bs : List ℕ) → list_all is_digit bs ≡ true → AllDigits 10 bs
all_digits [] h = tt
all_digits (b ∷ bs) h =
    let parts = both (is_digit b) (list_all is_digit bs) h in
    (digit_is b parts.0, all_digits bs parts.1)

no_plus : (b : ℕ) → is_digit b ≡ true → b ≢ 43
no_plus b h e = (let bounds = both (nat_le 48 b) (nat_le b 57) h in grind (arith, nat_tests))

none_of : (a b c d : Bool) (n : ℕ) → d ≡ false → None ≡ (if a && b && c && d then Some n else None)
none_of false b c d n e = refl
none_of true false c d n e = refl
none_of true true false d n e = refl
none_of true true true d n e = ap (λ f. if f then Some n else None) (sym e)

-- digits that `parse` does not read write too large a number
pub unread : (text : List ℕ) → list_all is_digit text ≡ true
    → ((IsNumeral 10 (without_leading_plus text) × (digits_value 10 (without_leading_plus text) < 2 ^ 64)) → ⊥) → None ≡ steps_by (Some text)
unread [] h refuses = refl
unread (b ∷ bs) h refuses = go (nat_le (digits_value 10 (b ∷ bs)) most_steps) refl
  where
    parts : (is_digit b ≡ true) × (list_all is_digit bs ≡ true)
    parts = both (is_digit b) (list_all is_digit bs) h

    same : without_leading_plus (b ∷ bs) ≡ b ∷ bs
    same = without_leading_plus_none (b ∷ bs) (no_plus b parts.0)

    go : (few : Bool) → nat_le (digits_value 10 (b ∷ bs)) most_steps ≡ few → None ≡ steps_by (Some (b ∷ bs))
    go true e =
        let small : digits_value 10 (b ∷ bs) < 2 ^ 64 = omega (arith, leb-true (digits_value 10 (b ∷ bs)) most_steps e) in
        absurd (refuses (subst (λ (ds : List ℕ). IsNumeral 10 ds × (digits_value 10 ds < 2 ^ 64)) (sym same) ((omega arith, all_digits (b ∷ bs) h), small)))
    go false e =
        none_of (nat_le 1 (length (b ∷ bs))) (nat_le (length (b ∷ bs)) 18) (list_all is_digit (b ∷ bs))
        (nat_le (digits_value 10 (b ∷ bs)) most_steps) (digits_value 10 (b ∷ bs)) e
