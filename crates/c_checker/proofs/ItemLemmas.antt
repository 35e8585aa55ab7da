-- The faults of items, part by part.
use Rattle.std.proofs.Common.{◌≡◌, ◌∙◌, refl, sym, ap, arith, if◌then◌else◌, nat_le, ℕ, ◌+◌, ◌||◌, is_some, length, not, Bool, true, false, List, [], ◌∷◌, ◌++◌, append_assoc, drop, reverse, take, Option, Some}
use Rattle.std.specs.Str.{bytes_eq}
use Rattle.std.proofs.lemmas.List.{reverse-append}
use Rattle.name_table.specs.declared.found.Found.{Found}
use Rattle.name_table.specs.Names.{latest}
use Rattle.c_tree.specs.declared.code.Local.{Local}
use Rattle.c_tree.specs.declared.kinds.Fault.{Fault}
use Rattle.c_tree.specs.declared.names.Span.{Span}
use Rattle.c_tree.specs.declared.unit.Function.{Function as Definition}
use Rattle.c_tree.specs.declared.unit.Item.TheVariants as item
use Rattle.c_tree.specs.declared.unit.Signature.{Signature}
use Rattle.c_tree.specs.declared.unit.StaticVariable.{StaticVariable}
use Rattle.c_tree.specs.Env.{Env, found, kind_of, opened}
use Rattle.c_tree.specs.Faults.{known, later, least, twice, unless}
use Rattle.c_tree.specs.Checks.{checked, type_faults}
use Rattle.c_tree.specs.Rules.{checked_block, fit, not_laid_out}
use Rattle.c_tree.specs.Unit.{again, body_faults, ends_faults, field_faults, has_field, item_faults, signature_faults, unlaid_parameters, unlaid_result, variable_twice, with_function, with_parameters}
use Rattle.c_body_checker.specs.Bodies.{whole_body}
use Rattle.c_checker.specs.Fields.{named}
use Rattle.c_checker.specs.Functions.{head_faults}
use Rattle.c_value_checker.specs.declared.faults.Findings.{Findings}
use Rattle.c_value_checker.specs.Noted.{noted, raised}
use Rattle.c_value_checker.proofs.NotedLemmas.{noted_append, noted_both}

-- three lists of faults, one after another
pub noted_three : (f g h k : Findings) (a b d : List Fault) → g ≡ noted f a → h ≡ noted g b → k ≡ noted h d → k ≡ noted f (a ++ b ++ d)
noted_three f g h k a b d p q r = noted_both f h k (a ++ b) d (noted_both f g h a b p q) r

-- 1. Functions

-- the faults in front of a body
pub head_noted : (env : Env) (s : Signature) (f g h k : Findings) → g ≡ noted f (again env s true (found env.scopes s.name.text)) → h ≡ noted g (signature_faults env s) → k ≡ noted h (unlaid_result env s ++ unlaid_parameters env s.span s.parameters)
    → k ≡ noted f (head_faults env s)
head_noted env s f g h k p q r =
    noted_three f g h k (again env s true (found env.scopes s.name.text)) (signature_faults env s) (unlaid_result env s ++ unlaid_parameters env s.span s.parameters) p q r
    ∙ ap (noted f) (sym (append_assoc (again env s true (found env.scopes s.name.text) ++ signature_faults env s) (unlaid_result env s) (unlaid_parameters env s.span s.parameters)))

-- a definition
pub function_noted : (a b d : Env) (x : Definition) (f g h : Findings) → b ≡ a → g ≡ noted f (head_faults a x.signature) → d ≡ with_function b x.signature true
    → h ≡ noted g (whole_body (with_parameters (opened d) x.signature.parameters) (kind_of d x.signature.result) x.body) → h ≡ noted f (item_faults checked (checked_block checked) a (item.Function x))
function_noted a b d x f g h eb eg ed eh =
    noted_both f g h (head_faults a x.signature) (body_faults (with_function a x.signature true) x (checked_block checked x.body)) eg
    (eh ∙ ap (λ e. noted g (whole_body (with_parameters (opened e) x.signature.parameters) (kind_of e x.signature.result) x.body)) (ed ∙ ap (λ e. with_function e x.signature true) eb))

-- 2. Static variables

five : (a b d e : List Fault) → a ++ (b ++ d ++ e) ≡ a ++ b ++ d ++ e
five a b d e = simp append_assoc

pub variable_noted : (env : Env) (v : StaticVariable) (f g h : Findings)
    → g ≡ noted f (type_faults env v.declared ++ variable_twice (found env.scopes v.name.text) v.name ++ not_laid_out env (kind_of env v.declared) v.name)
    → h ≡ noted g ((checked v.value).value.faults env ++ fit env (kind_of env v.declared) (checked v.value) ++ ends_faults ((checked v.value).value.kind env) ((checked v.value).value.worth env) (checked v.value).span)
    → h ≡ noted f (item_faults checked (checked_block checked) env (item.Variable v))
variable_noted env v f g h p q =
    noted_both f g h (type_faults env v.declared ++ variable_twice (found env.scopes v.name.text) v.name ++ not_laid_out env (kind_of env v.declared) v.name)
    ((checked v.value).value.faults env ++ fit env (kind_of env v.declared) (checked v.value) ++ ends_faults ((checked v.value).value.kind env) ((checked v.value).value.worth env) (checked v.value).span) p q
    ∙ ap (noted f) (five (type_faults env v.declared ++ variable_twice (found env.scopes v.name.text) v.name ++ not_laid_out env (kind_of env v.declared) v.name)
    ((checked v.value).value.faults env) (fit env (kind_of env v.declared) (checked v.value)) (ends_faults ((checked v.value).value.kind env) ((checked v.value).value.worth env) (checked v.value).span))

-- 3. Fields

some_or : {A : Type 0} (b : Bool) (x : A) (o : Option A) → is_some (if b then Some x else o) ≡ (b || is_some o)
some_or true x o = refl
some_or false x o = refl

-- a name is among fields where their table finds it
has_latest : (x : List ℕ) (ls : List Local) → is_some (latest x (named ls)) ≡ has_field x ls
has_latest x [] = refl
has_latest x (l ∷ ls) =
    some_or (bytes_eq l.name.text x) (let f : Found Span = record { meaning = l.name.span; position = length (named ls) } in f) (latest x (named ls))
    ∙ ap (λ t. bytes_eq l.name.text x || t) (has_latest x ls)

-- one field more
pub field_turn : (env : Env) (ls : List Local) (i : ℕ) (x : Local) (es : List (List ℕ × Span)) (f g : Findings) → drop i ls ≡ x ∷ drop (i + 1) ls → take (i + 1) ls ≡ take i ls ++ x ∷ []
    → es ≡ named (reverse (take i ls))
    → g ≡ noted f (type_faults env x.declared ++ unless (not (is_some (latest x.name.text es))) (twice x.name) ++ not_laid_out env (kind_of env x.declared) x.name)
    → noted g (field_faults env (reverse (take (i + 1) ls)) (drop (i + 1) ls)) ≡ noted f (field_faults env (reverse (take i ls)) (drop i ls))
field_turn env ls i x es f g ed et en eg =
    ap (λ b. noted g (field_faults env b (drop (i + 1) ls))) (ap reverse et ∙ reverse-append (take i ls) (x ∷ []))
    ∙ ap (λ z. noted z (field_faults env (x ∷ reverse (take i ls)) (drop (i + 1) ls)))
    (eg ∙ ap (λ t. noted f (type_faults env x.declared ++ unless (not t) (twice x.name) ++ not_laid_out env (kind_of env x.declared) x.name))
    (ap (λ t. is_some (latest x.name.text t)) en ∙ has_latest x.name.text (reverse (take i ls))))
    ∙ sym (noted_append f (type_faults env x.declared ++ unless (not (has_field x.name.text (reverse (take i ls)))) (twice x.name) ++ not_laid_out env (kind_of env x.declared) x.name)
    (field_faults env (x ∷ reverse (take i ls)) (drop (i + 1) ls)))
    ∙ ap (λ d. noted f (field_faults env (reverse (take i ls)) d)) (sym ed)

-- the table has it in front
pub field_kept : (ls : List Local) (i : ℕ) (x : Local) (es ds : List (List ℕ × Span)) → take (i + 1) ls ≡ take i ls ++ x ∷ [] → ds ≡ (x.name.text, x.name.span) ∷ es → es ≡ named (reverse (take i ls))
    → ds ≡ named (reverse (take (i + 1) ls))
field_kept ls i x es ds et ed e =
    ed ∙ ap (λ l. (x.name.text, x.name.span) ∷ l) e ∙ sym (ap named (ap reverse et ∙ reverse-append (take i ls) (x ∷ [])))

-- 4. The whole

later_if : (b : Bool) (f : Fault) → b ≡ true → (if b then f else record f { since = 0 }) ≡ f
later_if true f e = refl
later_if false f e = absurd (let x : ⊥ = cc in x)

from_zero : (n : ℕ) → nat_le 0 n ≡ true
from_zero n = grind arith

later_zero : (f : Fault) → later 0 f ≡ f
later_zero f = later_if (nat_le 0 f.since) f (from_zero f.since)

raised_zero : (fs : List Fault) → raised 0 fs ≡ fs
raised_zero [] = refl
raised_zero (f ∷ fs) = λ i. later_zero f i ∷ raised_zero fs i

-- the first of what was there and of all faults that are known
pub first_of : (o : Option Fault) (last : ℕ) (g : Findings) (fs : List Fault) → g ≡ noted (record { first = o; last = last; floor = 0 }) fs → g.first ≡ least o (known last fs)
first_of o last g fs e = ap (λ (x : Findings). x.first) e ∙ ap (λ l. least o (known last l)) (raised_zero fs)
