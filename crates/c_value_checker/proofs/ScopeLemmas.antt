-- Names in scopes, the last one first.
use Rattle.std.proofs.Common.{◌≤◌, ◌-◌, nat_le, zero, suc, length, get_or, min, take, drop, map, reverse, arith, ◌≡◌, ◌∙◌, refl, sym, ap, ℕ, Bool, true, false, if◌then◌else◌, is_some, List, [], ◌∷◌, ◌++◌, Option, Some, None}
use Rattle.std.proofs.lemmas.List.{drop_min, reverse-append}
use Rattle.std.specs.Option.{option_map}
use Rattle.std.specs.Str.{bytes_eq}
use Rattle.name_table.specs.declared.found.Found.{Found}
use Rattle.name_table.specs.Names.{latest, oldest}
use Rattle.c_tree.specs.declared.names.Name.{Name}
use Rattle.c_tree.specs.declared.kinds.Sort.{Sort}
use Rattle.c_tree.specs.Env.{Entry, Env, declare, found, found_in, innermost, opened, or_else, with_entry}
use Rattle.c_value_checker.specs.declared.environment.Environment.{Environment}
use Rattle.c_value_checker.specs.Seen.{begin_of, closed, cut, entry, one_more, seen, without_innermost}

-- 1. What a name stands for

-- what the latest entry of a name says
abbrev pub meaning : List ℕ → List (List ℕ × Sort) → Option Sort
meaning x es = option_map (λ f. f.meaning) (latest x es)

-- what is said of an entry that is found
abbrev pub meaning_of : Option (Found Sort) → Option Sort
meaning_of o = option_map (λ f. f.meaning) o

meaning_if : (b : Bool) (f : Found Sort) (o : Option (Found Sort)) → meaning_of (if b then Some f else o) ≡ (if b then Some f.meaning else meaning_of o)
meaning_if true f o = refl
meaning_if false f o = refl

meaning_in : (es : List (List ℕ × Sort)) (x : List ℕ) → found_in (map entry es) x ≡ meaning x es
meaning_in [] x = refl
meaning_in (e ∷ es) x =
    ap (λ o. if bytes_eq e.0 x then Some e.1 else o) (meaning_in es x)
    ∙ sym (meaning_if (bytes_eq e.0 x) (record { meaning = e.1; position = length es }) (latest x es))

or_else_if : (b : Bool) (s : Sort) (o p : Option Sort) → or_else (if b then Some s else o) p ≡ (if b then Some s else or_else o p)
or_else_if true s o p = refl
or_else_if false s o p = refl

-- the first entries decide, or those behind them
split_in : (n : ℕ) (es : List (List ℕ × Sort)) (x : List ℕ) → or_else (found_in (map entry (take n es)) x) (found_in (map entry (drop n es)) x) ≡ found_in (map entry es) x
split_in zero es x = refl
split_in (suc n) [] x = refl
split_in (suc n) (e ∷ es) x =
    or_else_if (bytes_eq e.0 x) e.1 (found_in (map entry (take n es)) x) (found_in (map entry (drop n es)) x)
    ∙ ap (λ o. if bytes_eq e.0 x then Some e.1 else o) (split_in n es x)

or_else_none : (o : Option Sort) → or_else o None ≡ o
or_else_none None = refl
or_else_none (Some s) = refl

found_all : (es : List (List ℕ × Sort)) (ns : List ℕ) (x : List ℕ) → found (cut es ns) x ≡ found_in (map entry es) x
found_all es [] x = or_else_none (found_in (map entry es) x)
found_all es (n ∷ ns) x = ap (or_else (found_in (map entry (take n es)) x)) (found_all (drop n es) ns x) ∙ split_in n es x

-- what a name stands for in scopes is what its latest entry says
pub found_cut : (es : List (List ℕ × Sort)) (ns : List ℕ) (x : List ℕ) → found (cut es ns) x ≡ meaning x es
found_cut es ns x = found_all es ns x ∙ meaning_in es x

-- 2. Names of the innermost scope

-- whether an entry that is found stands behind so many
abbrev pub behind_many : ℕ → Option (Found Sort) → Bool
behind_many n None = false
behind_many n (Some f) = nat_le n f.position

behind_if : (n : ℕ) (b : Bool) (f : Found Sort) (o : Option (Found Sort)) → behind_many n (if b then Some f else o) ≡ (if b then nat_le n f.position else behind_many n o)
behind_if n true f o = refl
behind_if n false f o = refl

some_if : (b : Bool) (s : Sort) (o : Option Sort) → is_some (if b then Some s else o) ≡ (if b then true else is_some o)
some_if true s o = refl
some_if false s o = refl

-- an entry stands behind fewer than there are
few_if : (n : ℕ) (b : Bool) (c d : Bool) → c ≡ false → d ≡ false → (if b then c else d) ≡ false
few_if n true c d p q = p
few_if n false c d p q = q

never_behind : (es : List (List ℕ × Sort)) (n : ℕ) (x : List ℕ) → length es ≤ n → behind_many n (latest x es) ≡ false
never_behind [] n x h = refl
never_behind (e ∷ es) n x h =
    behind_if n (bytes_eq e.0 x) (record { meaning = e.1; position = length es }) (latest x es)
    ∙ few_if n (bytes_eq e.0 x) (nat_le n (length es)) (behind_many n (latest x es)) (grind (arith, h)) (never_behind es n x (omega (arith, h)))

one_less : (n m : ℕ) → suc n - suc m ≡ n - m
one_less n m = omega arith

zero_le : (n : ℕ) → nat_le 0 n ≡ true
zero_le n = grind arith

true_le : (n m : ℕ) → nat_le (n - m) n ≡ true
true_le n m = grind arith

here_in : (n : ℕ) (es : List (List ℕ × Sort)) (x : List ℕ) → behind_many (length es - n) (latest x es) ≡ is_some (found_in (map entry (take n es)) x)
here_in zero es x = never_behind es (length es - 0) x (omega arith)
here_in (suc n) [] x = refl
here_in (suc n) (e ∷ es) x =
    ap (λ k. behind_many k (latest x (e ∷ es))) (one_less (length es) n)
    ∙ behind_if (length es - n) (bytes_eq e.0 x) (record { meaning = e.1; position = length es }) (latest x es)
    ∙ ap (λ b. if bytes_eq e.0 x then b else behind_many (length es - n) (latest x es)) (true_le (length es) n)
    ∙ ap (λ b. if bytes_eq e.0 x then true else b) (here_in n es x)
    ∙ sym (some_if (bytes_eq e.0 x) e.1 (found_in (map entry (take n es)) x))

here_all : (es : List (List ℕ × Sort)) (x : List ℕ) → behind_many 0 (latest x es) ≡ is_some (found_in (map entry es) x)
here_all [] x = refl
here_all (e ∷ es) x =
    behind_if 0 (bytes_eq e.0 x) (record { meaning = e.1; position = length es }) (latest x es)
    ∙ ap (λ b. if bytes_eq e.0 x then b else behind_many 0 (latest x es)) (zero_le (length es))
    ∙ ap (λ b. if bytes_eq e.0 x then true else b) (here_all es x)
    ∙ sym (some_if (bytes_eq e.0 x) e.1 (found_in (map entry es) x))

-- the innermost scope has the names whose latest entry stands behind where it begins
pub here_cut : (es : List (List ℕ × Sort)) (ns : List ℕ) (x : List ℕ) → behind_many (begin_of (length es) ns) (latest x es) ≡ is_some (found_in (innermost (cut es ns)) x)
here_cut es [] x = here_all es x
here_cut es (n ∷ ns) x = here_in n es x

-- 3. What is declared

-- the last count stands first where they are read from behind
pub last_first : (ms : List ℕ) (n : ℕ) → reverse (ms ++ n ∷ []) ≡ n ∷ reverse ms
last_first ms n = reverse-append ms (n ∷ [])

pub cut_more : (es : List (List ℕ × Sort)) (ns : List ℕ) (x : List ℕ) (s : Sort) → cut ((x, s) ∷ es) (one_more ns) ≡ with_entry (cut es ns) (record { name = x; sort = s })
cut_more es [] x s = refl
cut_more es (n ∷ ns) x s = refl

-- 4. Scopes that end

closed_cut : (es : List (List ℕ × Sort)) (n : ℕ) (ns : List ℕ) → without_innermost (cut es (n ∷ ns)) ≡ cut (drop n es) ns
closed_cut es n [] = refl
closed_cut es n (m ∷ ns) = refl

few_left : (n m : ℕ) → m - (m - n) ≡ min n m
few_left n m = grind arith

-- the names of the innermost scope are gone
pub cut_closed : (es : List (List ℕ × Sort)) (n : ℕ) (ns : List ℕ) → cut (oldest (length es - n) es) ns ≡ without_innermost (cut es (n ∷ ns))
cut_closed es n ns = ap (λ l. cut l ns) (ap (λ k. drop k es) (few_left n (length es)) ∙ drop_min n es) ∙ sym (closed_cut es n ns)

-- one scope more than another
pub record Inside (env d : Env) : Type 0 where
  pub inner : List Entry
  pub is : d ≡ record env { scopes = inner ∷ env.scopes }

pub inside_opened : (env d : Env) → d ≡ opened env → Inside env d
inside_opened env d e = record { inner = []; is = e }

-- a name that is declared there is in the innermost scope
pub inside_declared : (env d e : Env) (x : Name) (s : Sort) → Inside env d → e ≡ declare d x s → Inside env e
inside_declared env d e x s p q = record { inner = record { name = x.text; sort = s } ∷ p.inner; is = q ∙ ap (λ z. declare z x s) p.is }

pub inside_is : (env d e : Env) → Inside env d → e ≡ d → Inside env e
inside_is env d e p q = record { inner = p.inner; is = q ∙ p.is }

closed_cons : (es : List (List ℕ × Sort)) (ns : List ℕ) (s : List Entry) → without_innermost (s ∷ cut es ns) ≡ cut es ns
closed_cons es [] s = refl
closed_cons es (n ∷ ns) s = refl

-- where it ends, what was declared before is left
pub closed_inside : (e : Environment) (d : Env) → Inside (seen e) d → closed d ≡ seen e
closed_inside e d p = ap closed p.is ∙ ap (λ z. record (seen e) { scopes = z }) (closed_cons e.names (reverse e.counts.items) p.inner)

-- 5. The last of a list

last_at : {A : Type 0} (xs : List A) (i : ℕ) (x : A) → suc i ≡ length xs → x ≡ get_or xs i x → xs ≡ take i xs ++ x ∷ []
last_at [] i x e is = absurd (omega (arith, e))
last_at (y ∷ []) zero x e is = ap (λ z. z ∷ []) (sym is)
last_at (y ∷ z ∷ zs) zero x e is = absurd (omega (arith, e))
last_at (y ∷ ys) (suc i) x e is = ap (λ z. y ∷ z) (last_at ys i x (omega (arith, e)) is)

-- a list ends in its last element
pub last_of : {A : Type 0} (xs : List A) (x : A) → 1 ≤ length xs → x ≡ get_or xs (length xs - 1) x → xs ≡ take (length xs - 1) xs ++ x ∷ []
last_of xs x h is = last_at xs (length xs - 1) x (omega (arith, h)) is
