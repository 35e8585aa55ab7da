-- What is declared in a scope, and what is left where it ends.
use Rattle.std.proofs.Common.{
  ◌≡◌,
  ◌∙◌,
  refl,
  sym,
  ap,
  arith,
  ℕ,
  suc,
  ◌+◌,
  ◌-◌,
  Bool,
  true,
  false,
  if◌then◌else◌,
  length,
  drop,
  map,
  List,
  [],
  ◌∷◌,
  ◌++◌,
  Option,
  Some,
  None,
}
use Rattle.std.proofs.lemmas.List.{drop-drop, drop-map, length-append, length-map}
use Rattle.std.specs.Str.{bytes_eq}
use Rattle.name_table.specs.declared.found.Found.{Found}
use Rattle.name_table.specs.Names.{latest, oldest}
use Rattle.c_tree.specs.declared.names.Name.{Name}
use Rattle.c_tree.specs.declared.code.Local.{Local}
use Rattle.c_tree.specs.declared.unit.Parameter.{Parameter}
use Rattle.c_tree.specs.declared.kinds.Sort.{Sort}
use Rattle.c_tree.specs.declared.kinds.Sort.TheVariants as sort
use Rattle.c_tree.specs.Env.{Env, kind_of, opened}
use Rattle.c_tree.specs.Rules.{with_local, with_locals}
use Rattle.c_tree.specs.Unit.{with_optional, with_parameter, with_parameters}
use Rattle.c_meaning.specs.State as meaning
use Rattle.c_meaning.specs.Values.{static_in, variable_in}
use Rattle.c_code.specs.declared.code.Code.{Code}
use Rattle.c_code.specs.declared.code.Start.TheVariants as start
use Rattle.c_code.specs.Resolved.{code as code_of}
use Rattle.c_code.specs.Resolved.{Tables, static_start, variable, variable_start}
use Rattle.c_meaning.specs.Code as code
use Rattle.c_meaning.specs.Code.{parameter_variables, slot_at, with_variables}
use Rattle.c_value_checker.specs.declared.environment.Environment.{Environment}
use Rattle.c_value_checker.specs.Seen.{closed, seen}
use Rattle.c_value_checker.proofs.ScopeLemmas.{Inside, closed_inside, inside_declared, inside_is, inside_opened}
use Rattle.c_resolver.specs.Shown.{variable_seen}

-- 1. What is declared

inside_locals : (env d : Env) (ls : List Local) → Inside env d → Inside env (with_locals d ls)
inside_locals env d [] p = p
inside_locals env d (l ∷ ls) p = inside_locals env (with_local d l) ls
    (inside_declared env d (with_local d l) l.name (sort.Variable (kind_of d l.declared)) p refl)

inside_optional : (env d : Env) (x : Option Name) (s : Sort) → Inside env d → Inside env (with_optional d x s)
inside_optional env d None s p = p
inside_optional env d (Some x) s p = inside_declared env d _ x s p refl

inside_parameters : (env d : Env) (ps : List Parameter) → Inside env d → Inside env (with_parameters d ps)
inside_parameters env d [] p = p
inside_parameters env d (q ∷ ps) p = inside_parameters env (with_parameter d q) ps (inside_optional env d q.name (sort.Variable (kind_of d q.declared)) p)

-- a scope with locals ends
pub closed_locals : (e : Environment) (o b d : Env) (ls : List Local) → o ≡ opened (seen e) → b ≡ with_locals o ls → d ≡ closed b → d ≡ seen e
closed_locals e o b d ls eo eb ed = ed ∙ closed_inside e b (inside_is (seen e) (with_locals o ls) b
    (inside_locals (seen e) o ls (inside_opened (seen e) o eo)) eb)

-- a scope with parameters and locals ends
pub closed_parameters : (e : Environment) (o a b d : Env) (ps : List Parameter) (ls : List Local) → o ≡ opened (seen e) → a ≡ with_parameters o ps
    → b ≡ with_locals a ls → d ≡ closed b → d ≡ seen e
closed_parameters e o a b d ps ls eo ea eb ed =
    ed ∙ closed_inside e b (inside_is (seen e) (with_locals a ls) b (inside_locals (seen e) a ls
    (inside_is (seen e) (with_parameters o ps) a (inside_parameters (seen e) o ps (inside_opened (seen e) o eo)) ea)) eb)

-- 2. Variables

-- the place that was found
abbrev pub place_found : Option (Found ℕ) → Option ℕ
place_found None = None
place_found (Some f) = Some f.meaning

found_if : (b : Bool) (v : List ℕ × ℕ) (vs : List (List ℕ × ℕ)) (x : List ℕ) → bytes_eq v.0 x ≡ b
    → variable_in (map variable_seen vs) x ≡ place_found (latest x vs)
    → variable_in (map variable_seen (v ∷ vs)) x ≡ place_found (latest x (v ∷ vs))
found_if true v vs x e h =
    ap (λ z. if z then Some v.1 else variable_in (map variable_seen vs) x) e
    ∙ sym (ap (λ z. place_found (if z then Some (record { meaning = v.1; position = length vs }) else latest x vs)) e)
found_if false v vs x e h =
    ap (λ z. if z then Some v.1 else variable_in (map variable_seen vs) x) e ∙ h
    ∙ sym (ap (λ z. place_found (if z then Some (record { meaning = v.1; position = length vs }) else latest x vs)) e)

pub variable_found : (vs : List (List ℕ × ℕ)) (x : List ℕ) → variable_in (map variable_seen vs) x ≡ place_found (latest x vs)
variable_found [] x = refl
variable_found (v ∷ vs) x = found_if (bytes_eq v.0 x) v vs x refl (variable_found vs x)

-- how many there are behind locals
variables_count : (ss : List code.Slot) (vs : List meaning.Variable) (ls : List Local) → length (with_variables ss vs ls) ≡ length ls + length vs
variables_count ss vs [] = (let e : length vs ≡ 0 + length vs = omega arith in e)
variables_count ss vs (l ∷ ls) = variables_count ss (record { name = l.name.text; at = slot_at ss l.name.span.start } ∷ vs) ls
    ∙ (let e : length ls + suc (length vs) ≡ suc (length ls) + length vs = omega arith in e)

-- without the locals
variables_left : (ss : List code.Slot) (vs : List meaning.Variable) (ls : List Local) → drop (length ls) (with_variables ss vs ls) ≡ vs
variables_left ss vs [] = refl
variables_left ss vs (l ∷ ls) =
    ap (λ n. drop n (with_variables ss (record { name = l.name.text; at = slot_at ss l.name.span.start } ∷ vs) ls))
    (let e : suc (length ls) ≡ length ls + 1 = omega arith in e)
    ∙ sym (drop-drop 1 (length ls) (with_variables ss (record { name = l.name.text; at = slot_at ss l.name.span.start } ∷ vs) ls))
    ∙ ap (drop 1) (variables_left ss (record { name = l.name.text; at = slot_at ss l.name.span.start } ∷ vs) ls)

-- the oldest variables, where so many came behind them
pub variables_closed : (n : ℕ) (ss : List code.Slot) (old new last : List (List ℕ × ℕ)) (ls : List Local)
    → n ≡ length old → map variable_seen new ≡ with_variables ss (map variable_seen old) ls → last ≡ oldest n new
    → map variable_seen last ≡ map variable_seen old
variables_closed n ss old new last ls en ew el =
    ap (map variable_seen) el ∙ sym (drop-map variable_seen (length new - n) new) ∙ ap (λ m. drop m (map variable_seen new)) count ∙ ap (drop (length ls)) ew
    ∙ variables_left ss (map variable_seen old) ls
  where
    size : length new ≡ length ls + length old
    size = sym (length-map new variable_seen) ∙ ap length ew ∙ variables_count ss (map variable_seen old) ls
        ∙ ap (λ m. length ls + m) (length-map old variable_seen)

    count : length new - n ≡ length ls
    count = (λ i. size i - en i) ∙ (let e : length ls + length old - length old ≡ length ls = omega arith in e)

drop_front : {A : Type 0} (xs ys : List A) → drop (length xs) (xs ++ ys) ≡ ys
drop_front [] ys = refl
drop_front (x ∷ xs) ys = drop_front xs ys

-- the oldest variables, where parameters and locals came behind them
pub parameters_closed : (n : ℕ) (ss : List code.Slot) (old mid new last : List (List ℕ × ℕ)) (front : List meaning.Variable) (ls : List Local)
    → n ≡ length old → map variable_seen mid ≡ front ++ map variable_seen old → map variable_seen new ≡ with_variables ss (map variable_seen mid) ls
    → last ≡ oldest n new
    → map variable_seen last ≡ map variable_seen old
parameters_closed n ss old mid new last front ls en em ew el =
    ap (map variable_seen) el ∙ sym (drop-map variable_seen (length new - n) new) ∙ ap (λ m. drop m (map variable_seen new)) count
    ∙ sym (drop-drop (length front) (length ls) (map variable_seen new)) ∙ ap (λ z. drop (length front) (drop (length ls) z)) ew
    ∙ ap (drop (length front)) (variables_left ss (map variable_seen mid) ls ∙ em) ∙ drop_front front (map variable_seen old)
  where
    size : length new ≡ length ls + (length front + length old)
    size = sym (length-map new variable_seen) ∙ ap length ew ∙ variables_count ss (map variable_seen mid) ls
        ∙ ap (λ m. length ls + m) (ap length em ∙ length-append front (map variable_seen old) ∙ ap (λ m. length front + m) (length-map old variable_seen))

    count : length new - n ≡ length ls + length front
    count = (λ i. size i - en i) ∙ (let e : length ls + (length front + length old) - length old ≡ length ls + length front = omega arith in e)

-- 3. The place of a variable

pub variable_there : (t : Tables) (env : Env) (vs : List (List ℕ × ℕ)) (x : List ℕ) (f : Found ℕ) (c : Code) → c ≡ code_of (start.Local f.meaning) []
    → Some f ≡ latest x vs
    → c ≡ variable (record { tables = t; scope = record { env = env; variables = map variable_seen vs } }) x
variable_there t env vs x f c ec ef =
    ec ∙ ap (variable_start (record { tables = t; scope = record { env = env; variables = map variable_seen vs } }) x)
    (ap place_found ef ∙ sym (variable_found vs x))

pub variable_nowhere : (t : Tables) (env : Env) (vs : List (List ℕ × ℕ)) (x : List ℕ) (fs gs : List meaning.Fixed) (c : Code) → fs ≡ gs → t.statics ≡ gs
    → c ≡ static_start (static_in fs x) → None ≡ latest x vs
    → c ≡ variable (record { tables = t; scope = record { env = env; variables = map variable_seen vs } }) x
variable_nowhere t env vs x fs gs c ef es ec en =
    ec ∙ ap (λ z. static_start (static_in z x)) (ef ∙ sym es)
    ∙ ap (variable_start (record { tables = t; scope = record { env = env; variables = map variable_seen vs } }) x)
    (ap place_found en ∙ sym (variable_found vs x))
