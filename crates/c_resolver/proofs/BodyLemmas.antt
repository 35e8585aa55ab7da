-- The code of a body from its row of statements.
use Rattle.std.proofs.Common.{
  ◌≡◌,
  ◌∙◌,
  refl,
  sym,
  ap,
  arith,
  ℕ,
  zero,
  suc,
  ◌+◌,
  ◌<◌,
  length,
  get_or,
  drop,
  take,
  if◌then◌else◌,
  map,
  List,
  [],
  ◌∷◌,
  ◌++◌,
  Option,
  Some,
  None,
}
use Rattle.std.proofs.lemmas.List.{append-nil, take_more}
use Rattle.c_tree.specs.declared.code.Block.{Block}
use Rattle.c_tree.specs.declared.code.Case.{Case}
use Rattle.c_tree.specs.declared.names.Name.{Name}
use Rattle.c_tree.specs.declared.unit.Function.{Function}
use Rattle.c_tree.specs.declared.unit.Parameter.{Parameter}
use Rattle.c_tree.specs.declared.kinds.Sort.{Sort}
use Rattle.c_tree.specs.declared.kinds.Sort.TheVariants as sort
use Rattle.c_tree.specs.declared.kinds.Kind.{Kind}
use Rattle.c_tree.specs.declared.kinds.KindBase.{KindBase}
use Rattle.c_tree.specs.declared.kinds.KindBase.TheVariants as base
use Rattle.c_tree.specs.Constants.{signed_value, wrap}
use Rattle.c_tree.specs.Kinds.{is_pointer, widened}
use Rattle.c_tree.specs.Env.{Env, base_cells, cells_in, cells_of, kind_of, opened, structure_at}
use Rattle.c_tree.specs.Unit.{with_optional, with_parameter, with_parameters}
use Rattle.c_meaning.specs.Layout.{kind}
use Rattle.c_meaning.specs.State as meaning
use Rattle.c_meaning.specs.Code as code
use Rattle.c_meaning.specs.Code.{body_of, code_of, kinds_cells, locals_cells, locals_of, optional_name, parameter_kinds, parameter_variables, reading, slots}
use Rattle.c_meaning.specs.Steps.{is_label, label_place}
use Rattle.c_code.specs.declared.program.Body.{Body}
use Rattle.c_code.specs.declared.program.Statement.{Statement}
use Rattle.c_code.specs.declared.program.Statement.TheVariants as statement
use Rattle.c_code.specs.declared.program.Taken.{Taken}
use Rattle.c_code.specs.Resolved.{Bearings, Tables, kind_at, place_code, value_code}
use Rattle.c_code.specs.Statements.{bearings, body_code, call_code, case_codes, figure_of, statement_code, statements, taken}
use Rattle.c_value_checker.proofs.NotedLemmas.{dropped}
use Rattle.c_resolver.specs.Plans as plan
use Rattle.c_resolver.specs.Plans.{act_alone, code_at, label_alone, labels_of}
use Rattle.c_resolver.proofs.RowLemmas.{AllSee, Row, label_in, labels_at, tells}

-- 1. Cells

base_same : (e f : Env) (b : KindBase) → e.structs ≡ f.structs → base_cells e b ≡ base_cells f b
base_same e f (base.Struct n) h = ap (λ z. cells_in (structure_at z n)) h
base_same e f base.Void h = refl
base_same e f (base.Integer w s) h = refl
base_same e f (base.Function n) h = refl

cells_same : (e f : Env) (k : Kind) → e.structs ≡ f.structs → cells_of e k ≡ cells_of f k
cells_same e f k h = ap (λ (z : ℕ). if is_pointer k then 1 else z) (base_same e f k.base h)

pub taken_same : (e f : Env) (k : Kind) → e.structs ≡ f.structs → taken e k ≡ taken f k
taken_same e f k h = ap (λ z. record { kind = k; cells = z }) (cells_same e f k h)

pub taken_cells : (env : Env) (ks : List Kind) → plan.cells_in (map (taken env) ks) ≡ kinds_cells env ks
taken_cells env [] = refl
taken_cells env (k ∷ ks) = ap (λ n. cells_of env k + n) (taken_cells env ks)

-- 2. Labels

label_same : (x : List ℕ) (a : meaning.Act) → is_label x (act_alone (label_in a)) ≡ is_label x a
label_same x (meaning.Assign a b) = refl
label_same x (meaning.CallOf c) = refl
label_same x (meaning.Store a c) = refl
label_same x (meaning.Test a n) = refl
label_same x (meaning.TestGoto a l) = refl
label_same x (meaning.Goto l) = refl
label_same x (meaning.Label l) = refl
label_same x (meaning.Switch a cs l) = refl
label_same x (meaning.Return o) = refl
label_same x meaning.Open = refl
label_same x (meaning.Pass n) = refl

place_alone : (n : ℕ) (x : List ℕ) (xs : List meaning.Statement) → label_place n x (map label_alone (labels_at xs)) ≡ label_place n x xs
place_alone n x [] = refl
place_alone n x (y ∷ ys) = λ i. if label_same x y.act i then n else place_alone (suc n) x ys i

pub place_same : (x : List ℕ) (xs : List meaning.Statement) (ls : List (Option (List ℕ))) → labels_at xs ≡ ls
    → label_place 0 x (map label_alone ls) ≡ label_place 0 x xs
place_same x xs ls e = ap (λ z. label_place 0 x (map label_alone z)) (sym e) ∙ place_alone 0 x xs

-- 3. Statements

cases_same : (k : Kind) (xs : List meaning.Statement) (ls : List (Option (List ℕ))) (cs : List Case) → labels_at xs ≡ ls
    → case_codes k (map label_alone ls) cs ≡ case_codes k xs cs
cases_same k xs ls [] e = refl
cases_same k xs ls (c ∷ cs) e = λ i. record { number = figure_of (wrap k (signed_value c.number)); target = place_same c.label.text xs ls e i } ∷ cases_same
    k xs ls cs e i

act_same : (env f : Env) (k : Kind) (xs : List meaning.Statement) (ls : List (Option (List ℕ))) (b : Bearings) (a : meaning.Act) → labels_at xs ≡ ls
    → f.structs ≡ env.structs
    → statement_code f k (map label_alone ls) b a ≡ statement_code env k xs b a
act_same env f k xs ls b (meaning.Assign x y) e h = refl
act_same env f k xs ls b (meaning.CallOf c) e h = refl
act_same env f k xs ls b (meaning.Store x c) e h = ap (λ z. statement.Store (place_code b x) z (call_code b c)) (taken_same f env (kind_at b x) h)
act_same env f k xs ls b (meaning.Test x n) e h = refl
act_same env f k xs ls b (meaning.TestGoto x l) e h = ap (statement.TestJump (value_code b x)) (place_same l xs ls e)
act_same env f k xs ls b (meaning.Goto l) e h = ap statement.Jump (place_same l xs ls e)
act_same env f k xs ls b (meaning.Label l) e h = refl
act_same env f k xs ls b (meaning.Switch x cs l) e h =
    λ i. statement.Switch (value_code b x) (cases_same (widened (kind_at b x)) xs ls cs e i) (place_same l xs ls e i)
act_same env f k xs ls b (meaning.Return o) e h = refl
act_same env f k xs ls b meaning.Open e h = refl
act_same env f k xs ls b (meaning.Pass n) e h = refl

row_same : (env : Env) (k : Kind) (whole : List meaning.Statement) (ls : List (Option (List ℕ))) (t : Tables) (xs : List meaning.Statement)
    → labels_at whole ≡ ls → AllSee env.structs xs
    → map (code_at k ls t) xs ≡ map (λ (x : meaning.Statement). statement_code env k whole (bearings t x.scope) x.act) xs
row_same env k whole ls t [] e h = refl
row_same env k whole ls t (x ∷ xs) e h = λ i. act_same env x.scope.env k whole ls (bearings t x.scope) x.act e h.0 i ∷ row_same env k whole ls t xs e h.1 i

-- THE STATEMENTS of a body are those of its code
pub body_same : (env : Env) (k : Kind) (t : Tables) (b : Block) (ss : List code.Slot) (sc : meaning.Scope) → sc.env.structs ≡ env.structs
    → map (code_at k (labels_of b) t) (code_of b ss sc) ≡ statements env t k (code_of b ss sc)
body_same env k t b ss sc h =
    let r : Row sc.env.structs (code_of b ss sc) (labels_of b) _ = tells b ss sc in
    row_same env k (code_of b ss sc) (labels_of b) t (code_of b ss sc) r.labels (see_same (code_of b ss sc) r.structs)
  where
    see_same : (xs : List meaning.Statement) → AllSee sc.env.structs xs → AllSee env.structs xs
    see_same [] q = tt
    see_same (x ∷ xs) q = (q.0 ∙ h, see_same xs q.1)

-- 4. Parameters

parts_append : (xs ys : List Taken) → plan.cells_in (xs ++ ys) ≡ plan.cells_in xs + plan.cells_in ys
parts_append [] ys = (let e : plan.cells_in ys ≡ 0 + plan.cells_in ys = omega arith in e)
parts_append (x ∷ xs) ys = ap (λ n. x.cells + n) (parts_append xs ys) ∙ (let e : x.cells +
    (plan.cells_in xs + plan.cells_in ys) ≡ x.cells + plan.cells_in xs + plan.cells_in ys = omega arith in e)

taken_at : (env : Env) (ps : List Parameter) (n : ℕ) (p : Parameter) → n < length ps → p ≡ get_or ps n p
    → get_or (map (taken env) (parameter_kinds env ps)) n (taken env (kind env p.declared)) ≡ taken env (kind env p.declared)
taken_at env [] n p h is = absurd (omega (arith, h))
taken_at env (q ∷ qs) zero p h is = ap (λ (z : Parameter). taken env (kind env z.declared)) (sym is)
taken_at env (q ∷ qs) (suc n) p h is = taken_at env qs n p (omega (arith, h)) is

pub taken_length : (env : Env) (ps : List Parameter) → length (map (taken env) (parameter_kinds env ps)) ≡ length ps
taken_length env [] = refl
taken_length env (p ∷ ps) = ap suc (taken_length env ps)

cells_front : (env : Env) (ps : List Parameter) (n : ℕ) (p : Parameter) → n < length ps → p ≡ get_or ps n p
    → plan.cells_in (take (n + 1) (map (taken env) (parameter_kinds env ps))) ≡ plan.cells_in (take n
    (map (taken env) (parameter_kinds env ps))) + cells_of env (kind env p.declared)
cells_front env ps n p h is =
    ap plan.cells_in (take_more (map (taken env) (parameter_kinds env ps)) n (taken env (kind env p.declared))
    (let e : length (map (taken env) (parameter_kinds env ps)) ≡ length ps = taken_length env ps in omega (arith, h, e)))
    ∙ ap (λ z. plan.cells_in (take n (map (taken env) (parameter_kinds env ps)) ++ z ∷ [])) (taken_at env ps n p h is)
    ∙ parts_append (take n (map (taken env) (parameter_kinds env ps))) (taken env (kind env p.declared) ∷ [])
    ∙ ap (λ z. plan.cells_in (take n (map (taken env) (parameter_kinds env ps))) + z) (let e : cells_of env (kind env p.declared) + 0 ≡ cells_of env
    (kind env p.declared) = omega arith in e)

-- one parameter more, from the last one on
pub parameters_step : (env : Env) (ps : List Parameter) (ts : List Taken) (i n : ℕ) (p : Parameter) (at : ℕ) (old mid new : List meaning.Variable)
    → ts ≡ map (taken env) (parameter_kinds env ps) → i ≡ n + 1 → n < length ps → p ≡ get_or ps n p → at ≡ plan.cells_in (take n ts)
    → mid ≡ parameter_variables env (plan.cells_in (take i ts)) (drop i ps) ++ old → new ≡ record { name = optional_name p.name; at = at } ∷ mid
    → new ≡ parameter_variables env (plan.cells_in (take n ts)) (drop n ps) ++ old
parameters_step env ps ts i n p at old mid new et ei h is ea em en =
    en ∙ (λ j. record { name = optional_name p.name; at = ea j } ∷ em j)
    ∙ (λ j. record { name = optional_name p.name; at = plan.cells_in (take n ts) } ∷ parameter_variables env (plan.cells_in (take (ei j) ts))
    (drop (ei j) ps) ++ old)
    ∙ ap (λ z. record { name = optional_name p.name; at = plan.cells_in (take n ts) } ∷ parameter_variables env z (drop (n + 1) ps) ++ old) front
    ∙ ap (λ l. parameter_variables env (plan.cells_in (take n ts)) l ++ old) (sym (dropped ps n p h is))
  where
    front : plan.cells_in (take (n + 1) ts) ≡ plan.cells_in (take n ts) + cells_of env (kind env p.declared)
    front = ap (λ z. plan.cells_in (take (n + 1) z)) et ∙ cells_front env ps n p h is
        ∙ ap (λ z. plan.cells_in (take n z) + cells_of env (kind env p.declared)) (sym et)

-- 5. The whole body

optional_structs : (e : Env) (x : Option Name) (s : Sort) → (with_optional e x s).structs ≡ e.structs
optional_structs e None s = refl
optional_structs e (Some x) s = refl

parameter_structs : (e : Env) (ps : List Parameter) → (with_parameters e ps).structs ≡ e.structs
parameter_structs e [] = refl
parameter_structs e (p ∷ ps) = parameter_structs (with_parameter e p) ps ∙ optional_structs e p.name (sort.Variable (kind_of e p.declared))

pub body_told : (env : Env) (t : Tables) (k g : Kind) (f : Function) (old : List meaning.Variable) (ps : List Taken) (first cells : ℕ) (ss : List
    code.Slot) (ls : List (Option (List ℕ))) (rows : List Statement)
    → old ≡ [] → ps ≡ map (taken env) (parameter_kinds env f.signature.parameters) → first ≡ plan.cells_in ps → ss ≡ slots env first (locals_of f.body)
    → cells ≡ first + locals_cells env (locals_of f.body)
    → g ≡ k → ls ≡ labels_of f.body
    → rows ≡ map (code_at g ls t) (code_of f.body ss (record {
      env = with_parameters
          (opened env) f.signature.parameters;
      variables = parameter_variables env 0 f.signature.parameters ++ old;
    }))
    → ◌≡◌ {A = Body} (record { parameters = ps; cells = cells; statements = rows }) (body_code env t k (body_of reading env f))
body_told env t k g f old ps first cells ss ls rows eo ep ef es ec eg el er = λ i. record {
  parameters = ep i;
  cells = (ec ∙ ap (λ n. n + locals_cells env (locals_of f.body)) firsts) i;
  statements = (er ∙ turned ∙ plain ∙ body_same env k t f.body (slots env (kinds_cells env (parameter_kinds env f.signature.parameters)) (locals_of f.body))
      (record { env = with_parameters (opened env) f.signature.parameters; variables = parameter_variables env 0 f.signature.parameters })
      (parameter_structs (opened env) f.signature.parameters)) i;
}
  where
    firsts : first ≡ kinds_cells env (parameter_kinds env f.signature.parameters)
    firsts = ef ∙ ap plan.cells_in ep ∙ taken_cells env (parameter_kinds env f.signature.parameters)

    slots_are : ss ≡ slots env (kinds_cells env (parameter_kinds env f.signature.parameters)) (locals_of f.body)
    slots_are = es ∙ ap (λ n. slots env n (locals_of f.body)) firsts

    turned : map (code_at g ls t) (code_of f.body ss (record {
      env = with_parameters
          (opened env) f.signature.parameters;
      variables = parameter_variables env 0 f.signature.parameters ++ old;
    }))
        ≡ map (code_at k (labels_of f.body) t) (code_of f.body (slots env (kinds_cells env (parameter_kinds env f.signature.parameters)) (locals_of f.body))
        (record { env = with_parameters (opened env) f.signature.parameters; variables = parameter_variables env 0 f.signature.parameters ++ [] }))
    turned = λ i. map (code_at (eg i) (el i) t) (code_of f.body (slots_are i)
        (record { env = with_parameters (opened env) f.signature.parameters; variables = parameter_variables env 0 f.signature.parameters ++ eo i }))

    plain : map (code_at k (labels_of f.body) t) (code_of f.body (slots env (kinds_cells env (parameter_kinds env f.signature.parameters)) (locals_of f.body))
        (record { env = with_parameters (opened env) f.signature.parameters; variables = parameter_variables env 0 f.signature.parameters ++ [] }))
        ≡ map (code_at k (labels_of f.body) t) (code_of f.body (slots env (kinds_cells env (parameter_kinds env f.signature.parameters)) (locals_of f.body))
        (record { env = with_parameters (opened env) f.signature.parameters; variables = parameter_variables env 0 f.signature.parameters }))
    plain = ap (λ z. map (code_at k (labels_of f.body) t) (code_of f.body
        (slots env (kinds_cells env (parameter_kinds env f.signature.parameters)) (locals_of f.body))
        (record { env = with_parameters (opened env) f.signature.parameters; variables = z }))) (append-nil (parameter_variables env 0 f.signature.parameters))
