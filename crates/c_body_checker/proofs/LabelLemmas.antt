-- Labels, and those before them.
use Rattle.std.proofs.Common.{◌≡◌, ◌∙◌, refl, sym, ap, ℕ, ◌+◌, ◌<◌, ◌||◌, if◌then◌else◌, is_some, Option, Some, not, Bool, true, false, List, [], ◌∷◌, ◌++◌, append_assoc, drop, get_or, length, reverse, take}
use Rattle.std.specs.Str.{bytes_eq}
use Rattle.std.proofs.lemmas.List.{reverse-append, take_more}
use Rattle.name_table.specs.declared.found.Found.{Found}
use Rattle.name_table.specs.Names.{latest}
use Rattle.c_tree.specs.declared.names.Name.{Name}
use Rattle.c_tree.specs.declared.names.Span.{Span}
use Rattle.c_tree.specs.declared.kinds.Cause.TheVariants.{Twice, Undeclared}
use Rattle.c_tree.specs.Faults.{fault, unless}
use Rattle.c_tree.specs.Unit.{has_name, label_faults, target_faults}
use Rattle.c_value_checker.specs.declared.faults.Findings.{Findings}
use Rattle.c_value_checker.specs.Noted.{noted}
use Rattle.c_body_checker.specs.Bodies.{labels_of}
use Rattle.c_value_checker.proofs.NotedLemmas.{dropped, noted_append}

or_assoc : (a b c : Bool) → (a || (b || c)) ≡ ((a || b) || c)
or_assoc true b c = refl
or_assoc false b c = refl

or_last : (a b : Bool) → (b || (a || false)) ≡ (a || b)
or_last true true = refl
or_last true false = refl
or_last false true = refl
or_last false false = refl

has_both : (x : List ℕ) (a b : List Name) → has_name x (a ++ b) ≡ (has_name x a || has_name x b)
has_both x [] b = refl
has_both x (y ∷ a) b = ap (λ t. bytes_eq y.text x || t) (has_both x a b) ∙ or_assoc (bytes_eq y.text x) (has_name x a) (has_name x b)

-- the order of names does not matter
pub has_reverse : (x : List ℕ) (ys : List Name) → has_name x (reverse ys) ≡ has_name x ys
has_reverse x [] = refl
has_reverse x (y ∷ ys) = ap (has_name x) (reverse-append (y ∷ []) ys) ∙ has_both x (reverse ys) (y ∷ [])
    ∙ ap (λ t. t || (bytes_eq y.text x || false)) (has_reverse x ys) ∙ or_last (bytes_eq y.text x) (has_name x ys)

-- the first ones and one more
pub taken : {A : Type 0} (xs : List A) (i : ℕ) (x : A) → i < length xs → x ≡ get_or xs i x → take (i + 1) xs ≡ take i xs ++ x ∷ []
taken xs i x h is = take_more xs i x h ∙ ap (λ y. take i xs ++ y ∷ []) (sym is)

some_or : {A : Type 0} (b : Bool) (x : A) (o : Option A) → is_some (if b then Some x else o) ≡ (b || is_some o)
some_or true x o = refl
some_or false x o = refl

-- a name is among labels where their table finds it
pub has_latest : (x : List ℕ) (es : List (List ℕ × Span)) → has_name x (labels_of es) ≡ is_some (latest x es)
has_latest x [] = refl
has_latest x (e ∷ es) =
    ap (λ t. bytes_eq e.0 x || t) (has_latest x es) ∙ sym (some_or (bytes_eq e.0 x) (let f : Found Span = record { meaning = e.1; position = length es } in f) (latest x es))

-- one label more
pub label_turn : (ls : List Name) (i : ℕ) (x : Name) (es ds : List (List ℕ × Span)) (f g : Findings) → i < length ls → x ≡ get_or ls i x → ds ≡ (x.text, x.span) ∷ es
    → g ≡ noted f (unless (not (has_name x.text (labels_of es))) (fault Twice x.span.start x.span.end))
    → noted g (label_faults (labels_of ds) (drop (i + 1) ls)) ≡ noted f (label_faults (labels_of es) (drop i ls))
label_turn ls i x es ds f g h is ed eg =
    ap (λ b. noted g (label_faults (labels_of b) (drop (i + 1) ls))) ed
    ∙ ap (λ z. noted z (label_faults (x ∷ labels_of es) (drop (i + 1) ls))) eg
    ∙ sym (noted_append f (unless (not (has_name x.text (labels_of es))) (fault Twice x.span.start x.span.end)) (label_faults (x ∷ labels_of es) (drop (i + 1) ls)))
    ∙ ap (λ d. noted f (label_faults (labels_of es) d)) (sym (dropped ls i x h is))

-- the table has it in front
pub label_kept : (ls : List Name) (i : ℕ) (x : Name) (es ds : List (List ℕ × Span)) → i < length ls → x ≡ get_or ls i x → ds ≡ (x.text, x.span) ∷ es → labels_of es ≡ reverse (take i ls)
    → labels_of ds ≡ reverse (take (i + 1) ls)
label_kept ls i x es ds h is ed e =
    ap labels_of ed ∙ ap (λ l. x ∷ l) e ∙ sym (ap reverse (taken ls i x h is) ∙ reverse-append (take i ls) (x ∷ []))

-- the order of labels does not matter
pub target_reverse : (ls : List Name) (end : ℕ) (ts : List Name) → target_faults (reverse ls) end ts ≡ target_faults ls end ts
target_reverse ls end [] = refl
target_reverse ls end (x ∷ ts) =
    (λ i. unless (has_reverse x.text ls i) (fault Undeclared x.span.start end) ++ target_reverse ls end ts i)

-- one more of a list of which each gives names
pub kept_step : {A : Type 0} (f : A → List Name) (all : List A → List Name) → ((x : A) (l : List A) → all (x ∷ l) ≡ f x ++ all l)
    → (xs : List A) (i : ℕ) (x : A) (ks js : List Name)
    → i < length xs → x ≡ get_or xs i x → js ≡ ks ++ f x → js ++ all (drop (i + 1) xs) ≡ ks ++ all (drop i xs)
kept_step {A} f all step xs i x ks js h is e =
    ap (λ z. z ++ all (drop (i + 1) xs)) e ∙ append_assoc ks (f x) (all (drop (i + 1) xs)) ∙ ap (λ z. ks ++ z) (sym (step x (drop (i + 1) xs)))
    ∙ ap (λ l. ks ++ all l) (sym (dropped xs i x h is))
