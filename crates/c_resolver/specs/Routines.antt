-- The functions of a unit as they are found, item after item.
use Rattle.std.specs.Prelude.{◌≡◌, ℕ, suc, if◌then◌else◌, List, [], ◌∷◌, ◌++◌, Bool, true, false, Option, Some, None}
use Rattle.std.specs.Str.{bytes_eq}
use Rattle.c_tree.specs.declared.kinds.Kind.{Kind}
use Rattle.c_tree.specs.declared.unit.Item.{Item}
use Rattle.c_tree.specs.declared.unit.Item.TheVariants as item
use Rattle.c_tree.specs.declared.unit.Function.{Function}
use Rattle.c_tree.specs.declared.unit.Signature.{Signature}
use Rattle.c_tree.specs.Kinds.{is_void}
use Rattle.c_tree.specs.Env.{Env}
use Rattle.c_meaning.specs.State as meaning
use Rattle.c_meaning.specs.Layout.{kind}
use Rattle.c_meaning.specs.Code.{body_of, reading}
use Rattle.c_code.specs.Resolved.{Tables}
use Rattle.c_code.specs.Statements.{body_code, optional_body}
use Rattle.c_code.specs.declared.program.Body.{Body}
use Rattle.c_code.specs.declared.program.Routine.{Routine}
use Rattle.c_resolver.specs.Plans.{calls_have_code}
use Rattle.c_resolver.specs.declared.functions.Fault.{Fault}
use Rattle.c_resolver.specs.declared.functions.Fault.TheVariants as fault
use Rattle.c_resolver.specs.declared.functions.Known.{Known}

-- a function with its code
abbrev pub known_of : Env → Tables → meaning.Routine → Known
known_of env t r = record { name = r.name; gives = r.result; body = optional_body env t r.result r.body }

-- the kind that a function gives, if it is known already
abbrev pub gives_in : List Known → List ℕ → Kind → Kind
gives_in [] x k = k
gives_in (q ∷ qs) x k = if bytes_eq q.name x then q.gives else gives_in qs x k

-- a body takes the place of none or of an earlier one
abbrev pub replaced : Known → Known → Option Body → Known
replaced q k None = q
replaced q k (Some b) = k

-- one function more, which may be known
abbrev pub with_known : List Known → Known → List Known
with_known [] k = k ∷ []
with_known (q ∷ qs) k = if bytes_eq q.name k.name then replaced q k k.body ∷ qs else q ∷ with_known qs k

-- a function without a body
abbrev pub declared_known : Env → Signature → Known
declared_known env s = record { name = s.name.text; gives = kind env s.result; body = None }

-- a function with its body, among others
abbrev pub defined_known : Env → Tables → List Known → Function → Known
defined_known env t ks f =
    let k : Kind = gives_in ks f.signature.name.text (kind env f.signature.result) in
    record { name = f.signature.name.text; gives = k; body = Some (body_code env t k (body_of reading env f)) }

-- behind an item
abbrev pub known_behind : Env → Tables → List Known → Item → List Known
known_behind env t ks (item.Prototype s) = with_known ks (declared_known env s)
known_behind env t ks (item.Function f) = with_known ks (defined_known env t ks f)
known_behind env t ks i = ks

-- behind items
abbrev pub all_known : Env → Tables → List Known → List Item → List Known
all_known env t ks [] = ks
all_known env t ks (i ∷ is) = all_known env t (known_behind env t ks i) is

-- a function as it runs
abbrev pub routine_of : Known → Routine
routine_of k = record { is_void = is_void k.gives; body = k.body }

-- a name more, which may be there
abbrev pub has_name : List (List ℕ) → List ℕ → Bool
has_name [] x = false
has_name (y ∷ ys) x = if bytes_eq y x then true else has_name ys x

abbrev pub with_name : List (List ℕ) → List ℕ → List (List ℕ)
with_name ys x = if has_name ys x then ys else ys ++ x ∷ []

-- the names of functions behind an item, and behind items
abbrev pub names_behind : List (List ℕ) → Item → List (List ℕ)
names_behind ys (item.Prototype s) = with_name ys s.name.text
names_behind ys (item.Function f) = with_name ys f.signature.name.text
names_behind ys i = ys

abbrev pub all_names : List (List ℕ) → List Item → List (List ℕ)
all_names ys [] = ys
all_names ys (i ∷ is) = all_names (names_behind ys i) is

-- whether the calls of the library in an item have code, and those in all items
abbrev pub item_has_code : Item → Bool
item_has_code (item.Function f) = calls_have_code f.body
item_has_code i = true

abbrev pub items_have_code : List Item → Bool
items_have_code [] = true
items_have_code (i ∷ is) = if item_has_code i then items_have_code is else false

-- the number of a function among others, or how many there are
abbrev pub number_in : List Known → List ℕ → ℕ
number_in [] x = 0
number_in (q ∷ qs) x = if bytes_eq q.name x then 0 else suc (number_in qs x)

-- a refusal names a function of the library only where a call has no code
abbrev pub refusal : List Item → Fault → Type 0
refusal is fault.Memory = Unit {0}
refusal is (fault.Library s) = items_have_code is ≡ false
