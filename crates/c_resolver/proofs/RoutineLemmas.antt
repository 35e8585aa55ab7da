-- The functions of a unit, item after item.
use Rattle.std.proofs.Common.{
  ◌≡◌,
  ◌∙◌,
  refl,
  sym,
  ap,
  arith,
  ℕ,
  suc,
  ◌<◌,
  ◌≤◌,
  length,
  slice_set,
  is_some,
  map,
  reverse,
  append_assoc,
  Bool,
  true,
  false,
  if◌then◌else◌,
  List,
  [],
  ◌∷◌,
  ◌++◌,
  Option,
  Some,
  None,
  Result,
  Ok,
  Err,
  OnOk,
}
use Rattle.std.specs.Str.{bytes_eq}
use Rattle.std.proofs.lemmas.Slice.Eq.{bytes_eq-Decides}
use Rattle.c_tree.specs.declared.kinds.Kind.{Kind}
use Rattle.c_tree.specs.declared.unit.Item.{Item}
use Rattle.c_tree.specs.declared.unit.Item.TheVariants as item
use Rattle.c_tree.specs.Env.{Env}
use Rattle.c_meaning.specs.State as meaning
use Rattle.c_meaning.specs.Layout.{kind}
use Rattle.c_meaning.specs.Code.{body_of, reading, routine, routines_of, with_body, with_routine}
use Rattle.c_code.specs.Resolved.{Tables}
use Rattle.c_code.specs.Statements.{body_code, body_has_code, have_code, routine_code}
use Rattle.std.proofs.lemmas.List.{map-append, reverse-append}
use Rattle.c_code.specs.declared.program.Body.{Body}
use Rattle.c_code.specs.declared.program.Routine.{Routine}
use Rattle.c_resolver.specs.declared.functions.Known.{Known}
use Rattle.c_resolver.specs.Names.{names_of}
use Rattle.c_resolver.specs.Plans.{calls_have_code}
use Rattle.c_resolver.specs.Routines.{
  all_known,
  all_names,
  gives_in,
  has_name,
  items_have_code,
  known_of,
  number_in,
  replaced,
  routine_of,
  with_known,
  with_name,
}
use Rattle.c_resolver.proofs.RowLemmas.{tells}

-- 1. Names

name_if : (b : Bool) (y x : List ℕ) (ys zs : List (List ℕ)) → bytes_eq y x ≡ b → zs ≡ with_name ys x → (if b then y ∷ ys else y ∷ zs) ≡ with_name (y ∷ ys) x
name_if true y x ys zs e h = sym (ap (λ (z : Bool). if (if z then true else has_name ys x) then y ∷ ys else y ∷ ys ++ x ∷ []) e)
name_if false y x ys zs e h =
    ap (λ z. y ∷ z) h ∙ inside (has_name ys x) ∙ sym (ap (λ (z : Bool). if (if z then true else has_name ys x) then y ∷ ys else y ∷ ys ++ x ∷ []) e)
  where
    inside : (c : Bool) → (y ∷ (if c then ys else ys ++ x ∷ [])) ≡ (if c then y ∷ ys else y ∷ ys ++ x ∷ [])
    inside true = refl
    inside false = refl

body_name : (q : meaning.Routine) (o : Option meaning.Body) → (with_body q o).name ≡ q.name
body_name q None = refl
body_name q (Some b) = refl

routine_name : (rs : List meaning.Routine) (r : meaning.Routine) → names_of (with_routine rs r) ≡ with_name (names_of rs) r.name
routine_name [] r = refl
routine_name (q ∷ qs) r = pick (bytes_eq q.name r.name) ∙ name_if (bytes_eq q.name r.name) q.name r.name (names_of qs) (names_of (with_routine qs r)) refl
    (routine_name qs r)
  where
    pick : (b : Bool) → names_of (if b then with_body q r.body ∷ qs else q ∷ with_routine qs r) ≡ (if b then q.name ∷ names_of qs else q.name ∷ names_of
        (with_routine qs r))
    pick true = ap (λ z. z ∷ names_of qs) (body_name q r.body)
    pick false = refl

pub names_told : (env : Env) (rs : List meaning.Routine) (is : List Item) → all_names (names_of rs) is ≡ names_of (routines_of reading env rs is)
names_told env rs [] = refl
names_told env rs (item.Include x ∷ is) = names_told env rs is
names_told env rs (item.StructType x ∷ is) = names_told env rs is
names_told env rs (item.Struct x ∷ is) = names_told env rs is
names_told env rs (item.Enumeration x ∷ is) = names_told env rs is
names_told env rs (item.FunctionType x ∷ is) = names_told env rs is
names_told env rs (item.Prototype s ∷ is) =
    ap (λ z. all_names z is) (sym (routine_name rs (routine env s None))) ∙ names_told env (with_routine rs (routine env s None)) is
names_told env rs (item.Variable x ∷ is) = names_told env rs is
names_told env rs (item.InterfaceTable x ∷ is) = names_told env rs is
names_told env rs (item.Function f ∷ is) =
    ap (λ z. all_names z is) (sym (routine_name rs (routine env f.signature (Some (body_of reading env f)))))
    ∙ names_told env (with_routine rs (routine env f.signature (Some (body_of reading env f)))) is

-- 2. Functions with their code

declared_step : (env : Env) (t : Tables) (rs : List meaning.Routine) (x : List ℕ) (k : Kind)
    → with_known (map (known_of env t) rs) (record { name = x; gives = k; body = None }) ≡ map (known_of env t) (with_routine rs
    (record { name = x; result = k; body = None }))
declared_step env t [] x k = refl
declared_step env t (q ∷ qs) x k = pick (bytes_eq q.name x) (declared_step env t qs x k)
  where
    pick : (b : Bool) → with_known (map (known_of env t) qs) (record { name = x; gives = k; body = None }) ≡ map (known_of env t) (with_routine qs
        (record { name = x; result = k; body = None }))
        → (if b then known_of env t q ∷ map (known_of env t) qs else known_of env t q ∷ with_known (map (known_of env t) qs)
        (record { name = x; gives = k; body = None }))
        ≡ map (known_of env t) (if b then q ∷ qs else q ∷ with_routine qs (record { name = x; result = k; body = None }))
    pick true h = refl
    pick false h = ap (λ z. known_of env t q ∷ z) h

defined_step : (env : Env) (t : Tables) (rs : List meaning.Routine) (x : List ℕ) (k : Kind) (b : meaning.Body)
    → with_known (map (known_of env t) rs) (record {
      name = x;
      gives = gives_in (map (known_of env t) rs) x k;
      body = Some
          (body_code env t (gives_in (map (known_of env t) rs) x k) b);
    })
    ≡ map (known_of env t) (with_routine rs (record { name = x; result = k; body = Some b }))
defined_step env t [] x k b = refl
defined_step env t (q ∷ qs) x k b = pick (bytes_eq q.name x) refl (defined_step env t qs x k b)
  where
    pick : (c : Bool) → bytes_eq q.name x ≡ c
        → with_known (map (known_of env t) qs) (record {
          name = x;
          gives = gives_in (map (known_of env t) qs) x k;
          body = Some
              (body_code env t (gives_in (map (known_of env t) qs) x k) b);
        })
        ≡ map (known_of env t) (with_routine qs (record { name = x; result = k; body = Some b }))
        → (if c then record {
          name = x;
          gives = if c then q.result else gives_in (map (known_of env t) qs) x k;
          body = Some
              (body_code env t (if c then q.result else gives_in (map (known_of env t) qs) x k) b);
        } ∷ map (known_of env t) qs
        else known_of env t q ∷ with_known (map (known_of env t) qs) (record {
          name = x;
          gives = if c then q.result else gives_in (map (known_of env t) qs) x k;
          body = Some
              (body_code env t (if c then q.result else gives_in (map (known_of env t) qs) x k) b);
        }))
        ≡ map (known_of env t) (if c then record q { body = Some b } ∷ qs else q ∷ with_routine qs (record { name = x; result = k; body = Some b }))
    pick true e h = ap (λ z. record { name = z; gives = q.result; body = Some (body_code env t q.result b) } ∷ map (known_of env t) qs)
        (sym ((bytes_eq-Decides q.name x).0 e))
    pick false e h = ap (λ z. known_of env t q ∷ z) h

pub known_told : (env : Env) (t : Tables) (rs : List meaning.Routine) (is : List Item)
    → all_known env t (map (known_of env t) rs) is ≡ map (known_of env t) (routines_of reading env rs is)
known_told env t rs [] = refl
known_told env t rs (item.Include x ∷ is) = known_told env t rs is
known_told env t rs (item.StructType x ∷ is) = known_told env t rs is
known_told env t rs (item.Struct x ∷ is) = known_told env t rs is
known_told env t rs (item.Enumeration x ∷ is) = known_told env t rs is
known_told env t rs (item.FunctionType x ∷ is) = known_told env t rs is
known_told env t rs (item.Prototype s ∷ is) =
    ap (λ z. all_known env t z is) (declared_step env t rs s.name.text (kind env s.result)) ∙ known_told env t (with_routine rs (routine env s None)) is
known_told env t rs (item.Variable x ∷ is) = known_told env t rs is
known_told env t rs (item.InterfaceTable x ∷ is) = known_told env t rs is
known_told env t rs (item.Function f ∷ is) =
    ap (λ z. all_known env t z is) (defined_step env t rs f.signature.name.text (kind env f.signature.result) (body_of reading env f))
    ∙ known_told env t (with_routine rs (routine env f.signature (Some (body_of reading env f)))) is

pub routines_told : (env : Env) (t : Tables) (rs : List meaning.Routine) → map routine_of (map (known_of env t) rs) ≡ map (routine_code env t) rs
routines_told env t [] = refl
routines_told env t (r ∷ rs) = ap (λ z. routine_code env t r ∷ z) (routines_told env t rs)

-- 3. Calls

both_true : (b c : Bool) → b ≡ true → c ≡ true → (if b then c else false) ≡ true
both_true b c eb ec = ap (λ (z : Bool). if z then c else false) eb ∙ ec

first_true : (b c : Bool) → (if b then c else false) ≡ true → b ≡ true
first_true true c e = refl
first_true false c e = absurd (let x : ⊥ = cc in x)

second_true : (b c : Bool) → (if b then c else false) ≡ true → c ≡ true
second_true true c e = e
second_true false c e = absurd (let x : ⊥ = cc in x)

body_kept : (q : meaning.Routine) (o : Option meaning.Body) → body_has_code q.body ≡ true → body_has_code o ≡ true → body_has_code (with_body q o).body ≡ true
body_kept q None p h = p
body_kept q (Some b) p h = h

routine_calls : (rs : List meaning.Routine) (r : meaning.Routine) → have_code rs ≡ true → body_has_code r.body ≡ true → have_code (with_routine rs r) ≡ true
routine_calls [] r p h = both_true (body_has_code r.body) true h refl
routine_calls (q ∷ qs) r p h = pick (bytes_eq q.name r.name) (routine_calls qs r (second_true (body_has_code q.body) (have_code qs) p) h)
  where
    pick : (b : Bool) → have_code (with_routine qs r) ≡ true → have_code (if b then with_body q r.body ∷ qs else q ∷ with_routine qs r) ≡ true
    pick true e = both_true (body_has_code (with_body q r.body).body) (have_code qs)
        (body_kept q r.body (first_true (body_has_code q.body) (have_code qs) p) h) (second_true (body_has_code q.body) (have_code qs) p)
    pick false e = both_true (body_has_code q.body) (have_code (with_routine qs r)) (first_true (body_has_code q.body) (have_code qs) p) e

pub calls_told : (env : Env) (rs : List meaning.Routine) (is : List Item) → have_code rs ≡ true → items_have_code is ≡ true
    → have_code (routines_of reading env rs is) ≡ true
calls_told env rs [] p h = p
calls_told env rs (item.Include x ∷ is) p h = calls_told env rs is p h
calls_told env rs (item.StructType x ∷ is) p h = calls_told env rs is p h
calls_told env rs (item.Struct x ∷ is) p h = calls_told env rs is p h
calls_told env rs (item.Enumeration x ∷ is) p h = calls_told env rs is p h
calls_told env rs (item.FunctionType x ∷ is) p h = calls_told env rs is p h
calls_told env rs (item.Prototype s ∷ is) p h = calls_told env (with_routine rs (routine env s None)) is (routine_calls rs (routine env s None) p refl) h
calls_told env rs (item.Variable x ∷ is) p h = calls_told env rs is p h
calls_told env rs (item.InterfaceTable x ∷ is) p h = calls_told env rs is p h
calls_told env rs (item.Function f ∷ is) p h =
    calls_told env (with_routine rs (routine env f.signature (Some (body_of reading env f)))) is
    (routine_calls rs (routine env f.signature (Some (body_of reading env f))) p
    ((tells f.body _ _).calls ∙ first_true (calls_have_code f.body) (items_have_code is) h))
    (second_true (calls_have_code f.body) (items_have_code is) h)

-- 4. One function more

pub known_more : (ks : List Known) (k : Known) → length ks ≤ number_in ks k.name → with_known ks k ≡ ks ++ k ∷ []
known_more [] k h = refl
known_more (q ∷ qs) k h = pick (bytes_eq q.name k.name) h (known_more qs k)
  where
    pick : (b : Bool) → suc (length qs) ≤ (if b then 0 else suc (number_in qs k.name)) → (length qs ≤ number_in qs k.name → with_known qs k ≡ qs ++ k ∷ [])
        → (if b then replaced q k k.body ∷ qs else q ∷ with_known qs k) ≡ q ∷ qs ++ k ∷ []
    pick true g f = absurd (let n : ⊥ = omega (arith, g) in n)
    pick false g f = ap (λ z. q ∷ z) (f (omega (arith, g)))

replaced_some : (q k : Known) (o : Option Body) → is_some o ≡ true → replaced q k o ≡ k
replaced_some q k None e = absurd (let x : ⊥ = cc in x)
replaced_some q k (Some b) e = refl

replaced_none : (q k : Known) (o : Option Body) → is_some o ≡ false → replaced q k o ≡ q
replaced_none q k None e = refl
replaced_none q k (Some b) e = absurd (let x : ⊥ = cc in x)

pub known_set : (ks : List Known) (k : Known) → number_in ks k.name < length ks → is_some k.body ≡ true → with_known ks k ≡ slice_set ks (number_in ks k.name) k
known_set [] k h e = absurd (let n : ⊥ = omega (arith, h) in n)
known_set (q ∷ qs) k h e = pick (bytes_eq q.name k.name) h (λ g. known_set qs k g e)
  where
    pick : (b : Bool) → (if b then 0 else suc (number_in qs k.name)) < suc (length qs)
        → (number_in qs k.name < length qs → with_known qs k ≡ slice_set qs (number_in qs k.name) k)
        → (if b then replaced q k k.body ∷ qs else q ∷ with_known qs k) ≡ slice_set (q ∷ qs) (if b then 0 else suc (number_in qs k.name)) k
    pick true g f = ap (λ z. z ∷ qs) (replaced_some q k k.body e)
    pick false g f = ap (λ z. q ∷ z) (f (omega (arith, g)))

pub known_kept : (ks : List Known) (k : Known) → number_in ks k.name < length ks → is_some k.body ≡ false → with_known ks k ≡ ks
known_kept [] k h e = absurd (let n : ⊥ = omega (arith, h) in n)
known_kept (q ∷ qs) k h e = pick (bytes_eq q.name k.name) h (λ g. known_kept qs k g e)
  where
    pick : (b : Bool) → (if b then 0 else suc (number_in qs k.name)) < suc (length qs) → (number_in qs k.name < length qs → with_known qs k ≡ qs)
        → (if b then replaced q k k.body ∷ qs else q ∷ with_known qs k) ≡ q ∷ qs
    pick true g f = ap (λ z. z ∷ qs) (replaced_none q k k.body e)
    pick false g f = ap (λ z. q ∷ z) (f (omega (arith, g)))

-- what follows where there is no error
pub on_done : {T E : Type 0} {P Q : Type 0} (r : Result T E) → OnOk r P → (P → Q) → OnOk r Q
on_done (Ok x) h f = f h
on_done (Err e) h f = h

module _ (ks ls : List Known) (k : Known) (x : List ℕ) (n m : ℕ) (el : ls ≡ ks) (ex : x ≡ k.name) (en : n ≡ number_in ls x) (em : m ≡ length ks) where
  number_is : n ≡ number_in ks k.name
  number_is = en ∙ (λ i. number_in (el i) (ex i))

  pub added_new : (new : List Known) → m ≤ n → new ≡ ks ++ k ∷ [] → new ≡ with_known ks k
  added_new new h e = e ∙ sym (known_more ks k (omega (arith, em, h, number_is)))

  pub added_set : (new : List Known) → n < m → is_some k.body ≡ true → new ≡ slice_set ks n k → new ≡ with_known ks k
  added_set new h b e = e ∙ ap (λ z. slice_set ks z k) number_is ∙ sym (known_set ks k (omega (arith, em, h, number_is)) b)

  pub added_kept : n < m → is_some k.body ≡ false → ks ≡ with_known ks k
  added_kept h b = sym (known_kept ks k (omega (arith, em, h, number_is)) b)

-- 5. From the last one on

pub back_turn : (ks ls : List Known) (k : Known) (r : Routine) (old new : List Routine) → ks ≡ ls ++ k ∷ [] → r ≡ routine_of k → new ≡ old ++ r ∷ []
    → map routine_of ls ++ reverse new ≡ map routine_of ks ++ reverse old
back_turn ks ls k r old new is er en =
    ap (λ z. map routine_of ls ++ reverse z) (en ∙ ap (λ z. old ++ z ∷ []) er)
    ∙ ap (λ z. map routine_of ls ++ z) (reverse-append old (routine_of k ∷ []))
    ∙ sym (append_assoc (map routine_of ls) (routine_of k ∷ []) (reverse old))
    ∙ ap (λ z. z ++ reverse old) (sym (map-append routine_of ls (k ∷ [])))
    ∙ ap (λ z. map routine_of z ++ reverse old) (sym is)

-- 6. The whole

pub routines_found : (env e : Env) (t : Tables) (is js : List Item) (found : List Routine) → e ≡ env → js ≡ is → found ≡ map routine_of (all_known e t [] js)
    → found ≡ map (routine_code env t) (routines_of reading env [] is)
routines_found env e t is js found ee ej h =
    h ∙ (λ i. map routine_of (all_known (ee i) t [] (ej i))) ∙ ap (map routine_of) (known_told env t [] is)
    ∙ routines_told env t (routines_of reading env [] is)
