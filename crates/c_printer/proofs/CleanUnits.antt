-- Units that are read keep the rules exactly where they do without places.
use Rattle.std.proofs.Common.{◌≡◌, ◌∙◌, refl, sym, ap, ap₂, not, ℕ, Bool, true, false, cond, ◌&&◌, ◌||◌, ◌==◌, List, [], ◌∷◌, ◌++◌, map, Option, Some, None, codes}
use Rattle.std.specs.Option.{option_map}
use Rattle.std.specs.List.{list_any}
use Rattle.c_tree.specs.declared.names.Name.{Name}
use Rattle.c_tree.specs.declared.names.Span.{Span}
use Rattle.c_tree.specs.declared.code.Local.{Local}
use Rattle.c_tree.specs.declared.unit.Function.{Function as Definition}
use Rattle.c_tree.specs.declared.unit.Item.{Item}
use Rattle.c_tree.specs.declared.unit.Item.TheVariants as item
use Rattle.c_tree.specs.declared.unit.Member.{Member}
use Rattle.c_tree.specs.declared.unit.Parameter.{Parameter}
use Rattle.c_tree.specs.declared.unit.Signature.{Signature}
use Rattle.c_tree.specs.declared.unit.Unit.{Unit as CUnit}
use Rattle.c_tree.specs.declared.kinds.Kind.{Kind}
use Rattle.c_tree.specs.declared.kinds.Sort.{Sort}
use Rattle.c_tree.specs.declared.kinds.Sort.TheVariants as sort
use Rattle.c_tree.specs.declared.kinds.Fault.{Fault}
use Rattle.c_tree.specs.Words.{Word, at, extent}
use Rattle.c_tree.specs.Names.{Names}
use Rattle.c_tree.specs.Make.{name_at}
use Rattle.c_tree.specs.Kinds.{int, same_bool}
use Rattle.c_tree.specs.Constants.{Worth, Is, Ends, Untold, member_value}
use Rattle.c_tree.specs.Library.{Field as Declared}
use Rattle.c_tree.specs.Env.{Env, found, declare, opened, structure_named, fields_of, kind_of, number_of, with_signature}
use Rattle.c_tree.specs.declared.kinds.Cause.TheVariants.{Twice, Undeclared}
use Rattle.c_tree.specs.declared.kinds.KindBase.TheVariants as kind
use Rattle.c_tree.specs.Faults.{fault, twice, unless}
use Rattle.c_tree.specs.Checks.{checked, type_faults}
use Rattle.c_tree.specs.Types.{is_object}
use Rattle.c_tree.specs.Rules.{Context, Body, checked_block, fit, laid_out_if, not_laid_out, twice_here}
use Rattle.c_tree.specs.Unit.{parameter_kinds, takes_of, with_optional, with_parameter, with_parameters, twice_optional, parameter_faults, signature_faults, unlaid, unlaid_optional, unlaid_parameters, unlaid_result, again, is_defined_already, with_function, has_name, label_faults, target_faults, block_end, body_faults, fields_declared, has_field, field_faults, with_fields, kept_cells, fields_cells, define_struct, defined_twice, struct_faults, with_members, member_faults, with_item, variable_twice, ends_faults, function_faults, kind_named, item_faults, items_faults, is_main, unit_faults, has_main}
use Rattle.c_tree.specs.Items as it
use Rattle.c_tree.specs.Items.{ReadsItem, ReadsItems, no_item, more_items}
use Rattle.c_tree.specs.Answers.{IsSound}
use Rattle.c_tree.specs.Bare.{nowhere, bare_name, bare_type, bare_expr, bare_local, bare_block, bare_member, bare_parameter, bare_signature, bare_item, bare}
use Rattle.c_printer.proofs.TypeReading.{object_bare}
use Rattle.c_printer.proofs.CleanValues.{clean, both_clean, kind_bare, type_clean}
use Rattle.c_printer.proofs.CleanReading.{value_like}
use Rattle.c_printer.proofs.CleanStatements.{unless_clean, fits_like, here_clean, laid_clean, block_like}

-- 1. What functions take and give

optional_scope : (env : Env) (o : Option Name) (s : Sort) → with_optional env (option_map bare_name o) s ≡ with_optional env o s
optional_scope env None s = refl
optional_scope env (Some x) s = refl

parameter_scope : (env : Env) (p : Parameter) → with_parameter env (bare_parameter p) ≡ with_parameter env p
parameter_scope env p = optional_scope env p.name (sort.Variable (kind_of env (bare_type p.declared))) ∙ ap (λ k. with_optional env p.name (sort.Variable k)) (kind_bare env p.declared)

parameters_scope : (env : Env) (ps : List Parameter) → with_parameters env (map bare_parameter ps) ≡ with_parameters env ps
parameters_scope env [] = refl
parameters_scope env (p ∷ ps) = parameters_scope (with_parameter env (bare_parameter p)) ps ∙ ap (λ e. with_parameters e ps) (parameter_scope env p)

kinds_bare : (env : Env) (ps : List Parameter) → parameter_kinds env (map bare_parameter ps) ≡ parameter_kinds env ps
kinds_bare env [] = refl
kinds_bare env (p ∷ ps) = ap₂ (λ k ks. k ∷ ks) (kind_bare env p.declared) (kinds_bare env ps)

takes_bare : (env : Env) (s : Signature) → takes_of env (bare_signature s) ≡ takes_of env s
takes_bare env s = λ i. record { result = kind_bare env s.result i; parameters = kinds_bare env s.parameters i }

optional_clean : (env : Env) (o : Option Name) → clean (twice_optional env (option_map bare_name o)) ≡ clean (twice_optional env o)
optional_clean env None = refl
optional_clean env (Some x) = here_clean env x

parameters_clean : (env : Env) (ps : List Parameter) → clean (parameter_faults env (map bare_parameter ps)) ≡ clean (parameter_faults env ps)
parameters_clean env [] = refl
parameters_clean env (p ∷ ps) =
    both_clean (type_faults env (bare_type p.declared) ++ twice_optional env (option_map bare_name p.name)) (parameter_faults (with_parameter env (bare_parameter p)) (map bare_parameter ps)) (type_faults env p.declared ++ twice_optional env p.name) (parameter_faults (with_parameter env p) ps)
    (both_clean (type_faults env (bare_type p.declared)) (twice_optional env (option_map bare_name p.name)) (type_faults env p.declared) (twice_optional env p.name) (type_clean env p.declared) (optional_clean env p.name))
    (parameters_clean (with_parameter env (bare_parameter p)) ps ∙ ap (λ e. clean (parameter_faults e ps)) (parameter_scope env p))

signature_clean : (env : Env) (s : Signature) → clean (signature_faults env (bare_signature s)) ≡ clean (signature_faults env s)
signature_clean env s = both_clean (type_faults env (bare_type s.result)) (parameter_faults (opened env) (map bare_parameter s.parameters)) (type_faults env s.result) (parameter_faults (opened env) s.parameters) (type_clean env s.result) (parameters_clean (opened env) s.parameters)

unlaid_clean : (env : Env) (a b : Span) (k j : Option Kind) (x y : Name) → k ≡ j → clean (unlaid env a k x) ≡ clean (unlaid env b j y)
unlaid_clean env a b k j x y e = unless_clean (laid_out_if env k) _ _ ∙ ap (λ o. clean (unlaid env b o y)) e

unlaid_one : (env : Env) (a b : Span) (k j : Option Kind) (o : Option Name) → k ≡ j → clean (unlaid_optional env a k (option_map bare_name o)) ≡ clean (unlaid_optional env b j o)
unlaid_one env a b k j None e = refl
unlaid_one env a b k j (Some x) e = unlaid_clean env a b k j (bare_name x) x e

unlaid_all : (env : Env) (a b : Span) (ps : List Parameter) → clean (unlaid_parameters env a (map bare_parameter ps)) ≡ clean (unlaid_parameters env b ps)
unlaid_all env a b [] = refl
unlaid_all env a b (p ∷ ps) = both_clean (unlaid_optional env a (kind_of env (bare_type p.declared)) (option_map bare_name p.name)) (unlaid_parameters env a (map bare_parameter ps)) (unlaid_optional env b (kind_of env p.declared) p.name) (unlaid_parameters env b ps)
    (unlaid_one env a b (kind_of env (bare_type p.declared)) (kind_of env p.declared) p.name (kind_bare env p.declared)) (unlaid_all env a b ps)

result_clean : (env : Env) (s : Signature) → clean (unlaid_result env (bare_signature s)) ≡ clean (unlaid_result env s)
result_clean env s = ap (λ b. clean (cond (not b) [] (unlaid env nowhere (kind_of env (bare_type s.result)) (bare_name s.name)))) (object_bare s.result) ∙ go (not (is_object s.result))
  where
    go : (b : Bool) → clean (cond b [] (unlaid env nowhere (kind_of env (bare_type s.result)) (bare_name s.name))) ≡ clean (cond b [] (unlaid env s.span (kind_of env s.result) s.name))
    go true = refl
    go false = unlaid_clean env nowhere s.span (kind_of env (bare_type s.result)) (kind_of env s.result) (bare_name s.name) s.name (kind_bare env s.result)

again_clean : (env : Env) (s : Signature) (d : Bool) (o : Option Sort) → clean (again env (bare_signature s) d o) ≡ clean (again env s d o)
again_clean env s d None = refl
again_clean env s d (Some (sort.Type k)) = refl
again_clean env s d (Some (sort.Row n)) = refl
again_clean env s d (Some (sort.Variable k)) = refl
again_clean env s d (Some (sort.Member z)) = refl
again_clean env s d (Some (sort.Function n a b)) =
    ap (λ t. clean (unless (n == number_of env t && same_bool a s.is_static && not (d && b)) (fault Twice nowhere.start nowhere.end))) (takes_bare env s) ∙ unless_clean (n == number_of env (takes_of env s) && same_bool a s.is_static && not (d && b)) _ _

function_scope : (env : Env) (s : Signature) (d : Bool) → with_function env (bare_signature s) d ≡ with_function env s d
function_scope env s d = ap (λ t. declare (with_signature env t) s.name (sort.Function (number_of env t) s.is_static (d || is_defined_already (found env.scopes s.name.text)))) (takes_bare env s)

-- 2. Labels

name_there : (x : List ℕ) (ys : List Name) → has_name x (map bare_name ys) ≡ has_name x ys
name_there x [] = refl
name_there x (y ∷ ys) = ap (λ b. Rattle.std.specs.Str.bytes_eq y.text x || b) (name_there x ys)

labels_clean : (before xs : List Name) → clean (label_faults (map bare_name before) (map bare_name xs)) ≡ clean (label_faults before xs)
labels_clean before [] = refl
labels_clean before (x ∷ xs) =
    both_clean (unless (not (has_name x.text (map bare_name before))) (fault Twice 0 0)) (label_faults (map bare_name (x ∷ before)) (map bare_name xs)) (unless (not (has_name x.text before)) (fault Twice x.span.start x.span.end)) (label_faults (x ∷ before) xs)
    (ap (λ b. clean (unless (not b) (fault Twice 0 0))) (name_there x.text before) ∙ unless_clean (not (has_name x.text before)) _ _) (labels_clean (x ∷ before) xs)

targets_clean : (labels xs : List Name) (m n : ℕ) → clean (target_faults (map bare_name labels) m (map bare_name xs)) ≡ clean (target_faults labels n xs)
targets_clean labels [] m n = refl
targets_clean labels (x ∷ xs) m n =
    both_clean (unless (has_name x.text (map bare_name labels)) (fault Undeclared 0 m)) (target_faults (map bare_name labels) m (map bare_name xs)) (unless (has_name x.text labels) (fault Undeclared x.span.start n)) (target_faults labels n xs)
    (ap (λ b. clean (unless b (fault Undeclared 0 m))) (name_there x.text labels) ∙ unless_clean (has_name x.text labels) _ _) (targets_clean labels xs m n)

body_clean : (env : Env) (f : Definition) (a b : Body) → ((c : Context) → clean (a.faults c) ≡ clean (b.faults c)) → a.labels ≡ map bare_name b.labels → a.targets ≡ map bare_name b.targets
    → clean (body_faults env (record { signature = bare_signature f.signature; body = bare_block f.body }) a) ≡ clean (body_faults env f b)
body_clean env f a b h l t =
    both_clean (a.faults context ++ label_faults [] a.labels) (target_faults a.labels (block_end (bare_block f.body)) a.targets) (b.faults given ++ label_faults [] b.labels) (target_faults b.labels (block_end f.body) b.targets)
    (both_clean (a.faults context) (label_faults [] a.labels) (b.faults given) (label_faults [] b.labels) (h context ∙ ap (λ c. clean (b.faults c)) same) (ap (λ x. clean (label_faults [] x)) l ∙ labels_clean [] b.labels))
    ((λ i. clean (target_faults (l i) (block_end (bare_block f.body)) (t i))) ∙ targets_clean b.labels b.targets (block_end (bare_block f.body)) (block_end f.body))
  where
    context : Context
    context = record { env = with_parameters (opened env) (map bare_parameter f.signature.parameters); result = kind_of env (bare_type f.signature.result) }

    given : Context
    given = record { env = with_parameters (opened env) f.signature.parameters; result = kind_of env f.signature.result }

    same : context ≡ given
    same = λ i. record { env = parameters_scope (opened env) f.signature.parameters i; result = kind_bare env f.signature.result i }

-- 3. Types

fields_bare : (env : Env) (ls : List Local) → fields_declared env (map bare_local ls) ≡ fields_declared env ls
fields_bare env [] = refl
fields_bare env (l ∷ ls) = ap₂ (λ (k : Option Kind) (fs : List Declared). record { name = l.name.text; kind = k } ∷ fs) (kind_bare env l.declared) (fields_bare env ls)

field_there : (x : List ℕ) (ls : List Local) → has_field x (map bare_local ls) ≡ has_field x ls
field_there x [] = refl
field_there x (l ∷ ls) = ap (λ b. Rattle.std.specs.Str.bytes_eq l.name.text x || b) (field_there x ls)

fields_clean : (env : Env) (before ls : List Local) → clean (field_faults env (map bare_local before) (map bare_local ls)) ≡ clean (field_faults env before ls)
fields_clean env before [] = refl
fields_clean env before (l ∷ ls) =
    both_clean (type_faults env (bare_type l.declared) ++ unless (not (has_field l.name.text (map bare_local before))) (twice (bare_name l.name)) ++ not_laid_out env (kind_of env (bare_type l.declared)) (bare_name l.name)) (field_faults env (map bare_local (l ∷ before)) (map bare_local ls))
    (type_faults env l.declared ++ unless (not (has_field l.name.text before)) (twice l.name) ++ not_laid_out env (kind_of env l.declared) l.name) (field_faults env (l ∷ before) ls)
    (both_clean (type_faults env (bare_type l.declared) ++ unless (not (has_field l.name.text (map bare_local before))) (twice (bare_name l.name))) (not_laid_out env (kind_of env (bare_type l.declared)) (bare_name l.name))
    (type_faults env l.declared ++ unless (not (has_field l.name.text before)) (twice l.name)) (not_laid_out env (kind_of env l.declared) l.name)
    (both_clean (type_faults env (bare_type l.declared)) (unless (not (has_field l.name.text (map bare_local before))) (twice (bare_name l.name))) (type_faults env l.declared) (unless (not (has_field l.name.text before)) (twice l.name)) (type_clean env l.declared)
    (ap (λ b. clean (unless (not b) (twice (bare_name l.name)))) (field_there l.name.text before) ∙ unless_clean (not (has_field l.name.text before)) _ _))
    (laid_clean env (kind_of env (bare_type l.declared)) (kind_of env l.declared) (bare_name l.name) l.name (kind_bare env l.declared)))
    (fields_clean env (l ∷ before) ls)

struct_scope : (env : Env) (o : Option ℕ) (ls : List Local) → define_struct env o (map bare_local ls) ≡ define_struct env o ls
struct_scope env None ls = refl
struct_scope env (Some n) ls = ap (λ (fs : List Declared). record env { structs = with_fields env.structs n fs (kept_cells (fields_cells env fs)) }) (fields_bare env ls)

defined_clean : (o : Option (List Declared)) (x y : Name) → clean (defined_twice o x) ≡ clean (defined_twice o y)
defined_clean None x y = refl
defined_clean (Some fs) x y = refl

struct_clean : (env : Env) (o : Option ℕ) (x y : Name) → clean (struct_faults env o x) ≡ clean (struct_faults env o y)
struct_clean env None x y = refl
struct_clean env (Some n) x y = defined_clean (fields_of env n) x y

members_scope : (env : Env) (ms : List Member) → with_members env (map bare_member ms) ≡ with_members env ms
members_scope env [] = refl
members_scope env (m ∷ ms) = members_scope (declare env m.name (sort.Member (member_value m.number))) ms

members_clean : (env : Env) (ms : List Member) → clean (member_faults env (map bare_member ms)) ≡ clean (member_faults env ms)
members_clean env [] = refl
members_clean env (m ∷ ms) = both_clean (twice_here env (bare_name m.name)) (member_faults (declare env m.name (sort.Member (member_value m.number))) (map bare_member ms)) (twice_here env m.name) (member_faults (declare env m.name (sort.Member (member_value m.number))) ms)
    (here_clean env m.name) (members_clean (declare env m.name (sort.Member (member_value m.number))) ms)

-- 4. Items

variable_clean : (o : Option Sort) (x y : Name) → clean (variable_twice o x) ≡ clean (variable_twice o y)
variable_clean None x y = refl
variable_clean (Some (sort.Type k)) x y = refl
variable_clean (Some (sort.Row n)) x y = refl
variable_clean (Some (sort.Variable k)) x y = refl
variable_clean (Some (sort.Function n a b)) x y = refl
variable_clean (Some (sort.Member z)) x y = refl

ends_clean : (k : Option Kind) (w : Worth) (s t : Span) → clean (ends_faults k w s) ≡ clean (ends_faults k w t)
ends_clean None (Is d) s t = refl
ends_clean None Ends s t = refl
ends_clean None Untold s t = refl
ends_clean (Some k) (Is d) s t = refl
ends_clean (Some k) Ends s t = refl
ends_clean (Some k) Untold s t = refl

named_clean : (o : Option Sort) (x y : Name) → clean (function_faults o x) ≡ clean (function_faults o y)
named_clean None x y = refl
named_clean (Some (sort.Type k)) x y = refl
named_clean (Some (sort.Row n)) x y = refl
named_clean (Some (sort.Variable k)) x y = refl
named_clean (Some (sort.Function n a b)) x y = refl
named_clean (Some (sort.Member z)) x y = refl

item_scope : (env : Env) (i : Item) → with_item env (bare_item i) ≡ with_item env i
item_scope env (item.Include f) = refl
item_scope env (item.StructType x) = refl
item_scope env (item.Struct s) = struct_scope env (structure_named 0 env.structs s.name.text) s.fields
item_scope env (item.Enumeration e) = ap (λ f. declare f e.name (sort.Type int)) (members_scope env e.members)
item_scope env (item.FunctionType s) = ap (λ t. declare (with_signature env t) s.name (sort.Type (Rattle.c_tree.specs.Kinds.plain (kind.Function (number_of env t))))) (takes_bare env s)
item_scope env (item.Prototype s) = function_scope env s false
item_scope env (item.Variable x) = ap (λ k. declare env x.name (sort.Variable k)) (kind_bare env x.declared)
item_scope env (item.InterfaceTable t) = refl
item_scope env (item.Function f) = function_scope env f.signature true

abbrev faults_of : Env → Item → List Fault
faults_of = item_faults checked (checked_block checked)

type_of_function : (env : Env) (s : Signature) → clean (twice_here env (bare_name s.name) ++ signature_faults env (bare_signature s)) ≡ clean (twice_here env s.name ++ signature_faults env s)
type_of_function env s = both_clean (twice_here env (bare_name s.name)) (signature_faults env (bare_signature s)) (twice_here env s.name) (signature_faults env s) (here_clean env s.name) (signature_clean env s)

item_clean : {ns : Names} {w : Word} {i : Item} → ReadsItem ns w i → (env : Env) → clean (faults_of env (bare_item i)) ≡ clean (faults_of env i)
item_clean (it.includes a b c d e) env = refl
item_clean (it.struct_type {n} a b c d e) env = here_clean env (name_at n)
item_clean (it.struct_is {g} r e {x} {fs} a b c rf d f) env =
    both_clean (struct_faults env (structure_named 0 env.structs x) (record { text = x; span = nowhere })) (field_faults env [] (map bare_local fs)) (struct_faults env (structure_named 0 env.structs x) (record { text = x; span = at g })) (field_faults env [] fs)
    (struct_clean env (structure_named 0 env.structs x) _ _) (fields_clean env [] fs)
item_clean (it.enum_is r n e {m} {ms} a b c rm rms d f g) env =
    both_clean (member_faults env (map bare_member (m ∷ ms))) (twice_here (with_members env (map bare_member (m ∷ ms))) (bare_name (name_at n))) (member_faults env (m ∷ ms)) (twice_here (with_members env (m ∷ ms)) (name_at n)) (members_clean env (m ∷ ms))
    (here_clean (with_members env (map bare_member (m ∷ ms))) (name_at n) ∙ ap (λ f. clean (twice_here f (name_at n))) (members_scope env (m ∷ ms)))
item_clean (it.function_type {t = x0} o s n c e {u} {w} {r} {ps} a rc b d f g rp h) env = type_of_function env (record { is_static = false; result = r; name = name_at n; parameters = ps; span = extent (x0 ∷ u ++ o ∷ s ∷ n ∷ c ∷ w) })
item_clean (it.prototype e {s} rs a) env = both_clean (again env (bare_signature s) false (found env.scopes s.name.text)) (signature_faults env (bare_signature s)) (again env s false (found env.scopes s.name.text)) (signature_faults env s) (again_clean env s false (found env.scopes s.name.text)) (signature_clean env s)
item_clean {ns} (it.static_variable n a e {c} {x} b rc o d f rx g) env =
    let h = value_like ns true rx in let y = name_at n in
    both_clean
    (type_faults env (bare_type c) ++ variable_twice (found env.scopes y.text) (bare_name y) ++ not_laid_out env (kind_of env (bare_type c)) (bare_name y) ++ (checked (bare_expr x)).value.faults env ++ fit env (kind_of env (bare_type c)) (checked (bare_expr x)))
    (ends_faults ((checked (bare_expr x)).value.kind env) ((checked (bare_expr x)).value.worth env) (checked (bare_expr x)).span)
    (type_faults env c ++ variable_twice (found env.scopes y.text) y ++ not_laid_out env (kind_of env c) y ++ (checked x).value.faults env ++ fit env (kind_of env c) (checked x))
    (ends_faults ((checked x).value.kind env) ((checked x).value.worth env) (checked x).span)
    (both_clean
    (type_faults env (bare_type c) ++ variable_twice (found env.scopes y.text) (bare_name y) ++ not_laid_out env (kind_of env (bare_type c)) (bare_name y) ++ (checked (bare_expr x)).value.faults env) (fit env (kind_of env (bare_type c)) (checked (bare_expr x)))
    (type_faults env c ++ variable_twice (found env.scopes y.text) y ++ not_laid_out env (kind_of env c) y ++ (checked x).value.faults env) (fit env (kind_of env c) (checked x))
    (both_clean (type_faults env (bare_type c) ++ variable_twice (found env.scopes y.text) (bare_name y) ++ not_laid_out env (kind_of env (bare_type c)) (bare_name y)) ((checked (bare_expr x)).value.faults env)
    (type_faults env c ++ variable_twice (found env.scopes y.text) y ++ not_laid_out env (kind_of env c) y) ((checked x).value.faults env)
    (both_clean (type_faults env (bare_type c) ++ variable_twice (found env.scopes y.text) (bare_name y)) (not_laid_out env (kind_of env (bare_type c)) (bare_name y)) (type_faults env c ++ variable_twice (found env.scopes y.text) y) (not_laid_out env (kind_of env c) y)
    (both_clean (type_faults env (bare_type c)) (variable_twice (found env.scopes y.text) (bare_name y)) (type_faults env c) (variable_twice (found env.scopes y.text) y) (type_clean env c) (variable_clean (found env.scopes y.text) (bare_name y) y))
    (laid_clean env (kind_of env (bare_type c)) (kind_of env c) (bare_name y) y (kind_bare env c)))
    (h.clean_is env))
    (fits_like env (kind_of env (bare_type c)) (kind_of env c) (checked (bare_expr x)) (checked x) (kind_bare env c) h))
    (ends_clean ((checked (bare_expr x)).value.kind env) ((checked (bare_expr x)).value.worth env) (checked (bare_expr x)).span (checked x).span ∙ (λ i. clean (ends_faults (h.kind env i) (h.worth env i) (checked x).span)))
item_clean (it.interface_table {n} {f} i1 i2 i3 i4 i5 i6 i7 i8 i9 j1 j2 j3 j4 j5 j6 j7) env =
    both_clean (variable_twice (found env.scopes n.bytes) (bare_name (name_at n)) ++ not_laid_out env (kind_named env (codes "GInterfaceInfo")) (bare_name (name_at n))) (function_faults (found env.scopes f.bytes) (bare_name (name_at f)))
    (variable_twice (found env.scopes n.bytes) (name_at n) ++ not_laid_out env (kind_named env (codes "GInterfaceInfo")) (name_at n)) (function_faults (found env.scopes f.bytes) (name_at f))
    (both_clean (variable_twice (found env.scopes n.bytes) (bare_name (name_at n))) (not_laid_out env (kind_named env (codes "GInterfaceInfo")) (bare_name (name_at n)))
    (variable_twice (found env.scopes n.bytes) (name_at n)) (not_laid_out env (kind_named env (codes "GInterfaceInfo")) (name_at n)) (variable_clean (found env.scopes n.bytes) _ _)
    (laid_clean env (kind_named env (codes "GInterfaceInfo")) (kind_named env (codes "GInterfaceInfo")) (bare_name (name_at n)) (name_at n) refl))
    (named_clean (found env.scopes f.bytes) _ _)
item_clean (it.function_is {s} {b} rs names rb) env =
    let q = block_like rb in
    both_clean (again env (bare_signature s) true (found env.scopes s.name.text) ++ signature_faults env (bare_signature s) ++ unlaid_result env (bare_signature s) ++ unlaid_parameters env nowhere (map bare_parameter s.parameters))
    (body_faults (with_function env (bare_signature s) true) (record { signature = bare_signature s; body = bare_block b }) (checked_block checked (bare_block b)))
    (again env s true (found env.scopes s.name.text) ++ signature_faults env s ++ unlaid_result env s ++ unlaid_parameters env s.span s.parameters) (body_faults (with_function env s true) (record { signature = s; body = b }) (checked_block checked b))
    (both_clean (again env (bare_signature s) true (found env.scopes s.name.text) ++ signature_faults env (bare_signature s) ++ unlaid_result env (bare_signature s)) (unlaid_parameters env nowhere (map bare_parameter s.parameters))
    (again env s true (found env.scopes s.name.text) ++ signature_faults env s ++ unlaid_result env s) (unlaid_parameters env s.span s.parameters)
    (both_clean (again env (bare_signature s) true (found env.scopes s.name.text) ++ signature_faults env (bare_signature s)) (unlaid_result env (bare_signature s)) (again env s true (found env.scopes s.name.text) ++ signature_faults env s) (unlaid_result env s)
    (both_clean (again env (bare_signature s) true (found env.scopes s.name.text)) (signature_faults env (bare_signature s)) (again env s true (found env.scopes s.name.text)) (signature_faults env s) (again_clean env s true (found env.scopes s.name.text)) (signature_clean env s))
    (result_clean env s))
    (unlaid_all env nowhere s.span s.parameters))
    (body_clean (with_function env (bare_signature s) true) (record { signature = s; body = b }) (checked_block checked (bare_block b)) (checked_block checked b) q.clean_is q.labels q.targets
    ∙ ap (λ e. clean (body_faults e (record { signature = s; body = b }) (checked_block checked b))) (function_scope env s true))

-- 5. Units

items_clean : {ns : Names} {w : Word} {is : List Item} → ReadsItems ns w is → (env : Env) → clean (items_faults checked (checked_block checked) env (map bare_item is)) ≡ clean (items_faults checked (checked_block checked) env is)
items_clean no_item env = refl
items_clean (more_items {i} {is} r e rest) env =
    both_clean (faults_of env (bare_item i)) (items_faults checked (checked_block checked) (with_item env (bare_item i)) (map bare_item is)) (faults_of env i) (items_faults checked (checked_block checked) (with_item env i) is) (item_clean r env)
    (items_clean rest (with_item env (bare_item i)) ∙ ap (λ f. clean (items_faults checked (checked_block checked) f is)) (item_scope env i))

none_there : (fs : List Fault) → clean fs ≡ true → fs ≡ []
none_there [] h = refl
none_there (f ∷ fs) h = absurd cc

main_bare : (i : Item) → is_main (bare_item i) ≡ is_main i
main_bare (item.Include f) = refl
main_bare (item.StructType x) = refl
main_bare (item.Struct s) = refl
main_bare (item.Enumeration e) = refl
main_bare (item.FunctionType s) = refl
main_bare (item.Prototype s) = refl
main_bare (item.Variable x) = refl
main_bare (item.InterfaceTable t) = refl
main_bare (item.Function f) = refl

mains_bare : (is : List Item) → list_any is_main (map bare_item is) ≡ list_any is_main is
mains_bare [] = refl
mains_bare (i ∷ is) = ap₂ (λ x y. x || y) (main_bare i) (mains_bare is)

-- units that are the same apart from places keep the same rules
pub sound_alike : {ns ms : Names} {w x : Word} (u read : CUnit) → ReadsItems ns w u.items → ReadsItems ms x read.items → bare read ≡ bare u → IsSound u → IsSound read
sound_alike u read ru rv e h = (
  none_there (unit_faults read) (sym (items_clean rv Rattle.c_tree.specs.Env.library) ∙ ap (λ y. clean (unit_faults y)) e ∙ items_clean ru Rattle.c_tree.specs.Env.library ∙ ap clean h.0),
  sym (mains_bare read.items) ∙ ap has_main e ∙ mains_bare u.items ∙ h.1,
)
