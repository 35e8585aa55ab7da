-- Functions of the library by their names.
use Rattle.std.proofs.Common.{◌≡◌, ◌∙◌, sym, ap, arith, ℕ, ◌+◌, ◌<◌, length, get_or, drop, map, true, false, if◌then◌else◌, List, [], ◌∷◌, Some}
use Rattle.std.proofs.lemmas.List.{at_drop_more}
use Rattle.std.specs.Str.{bytes_eq}
use Rattle.c_body_checker.specs.Rows.{parameter_seen}
use Rattle.c_code.specs.Statements.{function_in}
use Rattle.c_resolver.specs.declared.library.LibraryCode.{LibraryCode}
use Rattle.c_resolver.specs.Library.{declared_all, declared_parameters, known_seen, parameters_all}

-- another function
pub code_not : (rs : List LibraryCode) (i : ℕ) (d : LibraryCode) (x : List ℕ) → i < length rs → bytes_eq (get_or rs i d).name.now x ≡ false
    → function_in (map known_seen (drop (i + 1) rs)) x ≡ function_in (map known_seen (drop i rs)) x
code_not rs i d x h e =
    sym (at_drop_more (λ z. function_in (map known_seen z) x) rs i d h
    ∙ ap (λ z. if z then Some (get_or rs i d).function else function_in (map known_seen (drop (i + 1) rs)) x) e)

-- the function
pub code_here : (rs : List LibraryCode) (i : ℕ) (d : LibraryCode) (x : List ℕ) → i < length rs → bytes_eq (get_or rs i d).name.now x ≡ true
    → function_in (map known_seen (drop i rs)) x ≡ Some (get_or rs i d).function
code_here rs i d x h e =
    at_drop_more (λ z. function_in (map known_seen z) x) rs i d h
    ∙ ap (λ z. if z then Some (get_or rs i d).function else function_in (map known_seen (drop (i + 1) rs)) x) e

-- the first of a list, and the others
abbrev first : {A : Type 0} → A → List A → A
first a [] = a
first a (x ∷ xs) = x

abbrev others : {A : Type 0} → List A → List A
others [] = []
others (x ∷ xs) = xs

-- where two things of each agree, they agree of the others
others_agree : {A B : Type 0} (f g : A → B) (xs : List A) (i : ℕ) (d : A) → i < length xs → map f (drop i xs) ≡ map g (drop i xs)
    → map f (drop (i + 1) xs) ≡ map g (drop (i + 1) xs)
others_agree f g xs i d h e =
    sym (at_drop_more (λ z. others (map f z)) xs i d h) ∙ ap others e ∙ at_drop_more (λ z. others (map g z)) xs i d h

one_agrees : {A B : Type 0} (f g : A → B) (xs : List A) (i : ℕ) (d : A) → i < length xs → map f (drop i xs) ≡ map g (drop i xs)
    → f (get_or xs i d) ≡ g (get_or xs i d)
one_agrees f g xs i d h e =
    sym (at_drop_more (λ z. first (f d) (map f z)) xs i d h) ∙ ap (first (f d)) e ∙ at_drop_more (λ z. first (f d) (map g z)) xs i d h

-- the parameters of the others
pub parameters_tail : (rs : List LibraryCode) (i : ℕ) → i < length rs → declared_all (drop i rs) ≡ parameters_all (drop i rs)
    → declared_all (drop (i + 1) rs) ≡ parameters_all (drop (i + 1) rs)
parameters_tail [] i h e = absurd (let n : ⊥ = omega (arith, h) in n)
parameters_tail (r ∷ rs) i h e =
    others_agree (λ (c : LibraryCode). declared_parameters c.name.now) (λ (c : LibraryCode). Some (map parameter_seen c.parameters.now)) (r ∷ rs) i r h e

-- its parameters
pub parameters_here : (rs : List LibraryCode) (i : ℕ) (d : LibraryCode) (x : List ℕ) → i < length rs → (get_or rs i d).name.now ≡ x
    → declared_all (drop i rs) ≡ parameters_all (drop i rs)
    → declared_parameters x ≡ Some (map parameter_seen (get_or rs i d).parameters.now)
parameters_here rs i d x h is e =
    ap declared_parameters (sym is)
    ∙ one_agrees (λ (r : LibraryCode). declared_parameters r.name.now) (λ (r : LibraryCode). Some (map parameter_seen r.parameters.now)) rs i d h e
