-- Locals, labels, cases and calls, one after another.
use Rattle.std.proofs.Common.{◌≡◌, ◌∙◌, refl, sym, ap, arith, ℕ, ◌+◌, ◌<◌, length, get_or, drop, map, List, [], ◌∷◌, ◌++◌, append_assoc, Option, Some, None}
use Rattle.c_tree.specs.declared.kinds.Kind.{Kind}
use Rattle.c_tree.specs.declared.code.Case.{Case}
use Rattle.c_tree.specs.declared.code.Local.{Local}
use Rattle.std.specs.Option.{option_map}
use Rattle.c_tree.specs.declared.code.Expr.{Expr}
use Rattle.c_tree.specs.declared.code.Block.{Block, out-Block}
use Rattle.c_tree.specs.declared.code.Stmt.{Stmt}
use Rattle.c_tree.specs.declared.code.Stmt.TheVariants as stmt
use Rattle.c_tree.specs.declared.code.Stmt.TheOpen.{Stmt-F}
use Rattle.c_tree.specs.declared.code.Stmt.TheFolds.{fold_out-Block, fold-roll-Stmt}
use Rattle.c_tree.specs.Constants.{signed_value, wrap}
use Rattle.c_tree.specs.Env.{Env, cells_of}
use Rattle.c_meaning.specs.State as meaning
use Rattle.c_meaning.specs.Layout.{kind}
use Rattle.c_meaning.specs.Code as code
use Rattle.c_meaning.specs.Code.{flat_locals, locals_cells, slots}
use Rattle.c_meaning.specs.Steps.{label_place}
use Rattle.c_code.specs.declared.program.Case.{Case as CaseCode}
use Rattle.c_code.specs.Statements.{case_codes, figure_of}
use Rattle.c_value_checker.proofs.NotedLemmas.{dropped}
use Rattle.c_resolver.specs.Plans.{locals_in}
use Rattle.c_resolver.proofs.ListLemmas.{kept_step}

-- 1. Cases

pub case_step : (k : Kind) (whole : List meaning.Statement) (cs : List Case) (i : ℕ) (c : Case) (old : List CaseCode) (a : CaseCode) (new : List CaseCode)
    → i < length cs → c ≡ get_or cs i c → a.number ≡ figure_of (wrap k (signed_value c.number)) → a.target ≡ label_place 0 c.label.text whole
    → new ≡ old ++ a ∷ []
    → new ++ case_codes k whole (drop (i + 1) cs) ≡ old ++ case_codes k whole (drop i cs)
case_step k whole cs i c old a new h is en et e =
    kept_step (λ x. record { number = figure_of (wrap k (signed_value x.number)); target = label_place 0 x.label.text whole } ∷ []) (case_codes k whole)
    (λ x l. refl) cs i c old new h is
    (e ∙ (λ n. old ++ record { number = en n; target = et n } ∷ []))

-- 2. Slots

slots_append : (env : Env) (at : ℕ) (xs ys : List Local) → slots env at (xs ++ ys) ≡ slots env at xs ++ slots env (at + locals_cells env xs) ys
slots_append env at [] ys = ap (λ n. slots env n ys) (let e : at ≡ at + 0 = omega arith in e)
slots_append env at (x ∷ xs) ys =
    ap (λ z. record { start = x.name.span.start; at = at } ∷ z) (slots_append env (at + cells_of env (kind env x.declared)) xs ys
    ∙ ap (λ n. slots env (at + cells_of env (kind env x.declared)) xs ++ slots env n ys) (let e : at + cells_of env
    (kind env x.declared) + locals_cells env xs ≡ at + (cells_of env (kind env x.declared) + locals_cells env xs) = omega arith in e))

cells_append : (env : Env) (xs ys : List Local) → locals_cells env (xs ++ ys) ≡ locals_cells env xs + locals_cells env ys
cells_append env [] ys = (let e : locals_cells env ys ≡ 0 + locals_cells env ys = omega arith in e)
cells_append env (x ∷ xs) ys = ap (λ n. cells_of env (kind env x.declared) + n) (cells_append env xs ys)
    ∙ (let e : cells_of env (kind env x.declared) + (locals_cells env xs + locals_cells env ys) ≡ cells_of env
    (kind env x.declared) + locals_cells env xs + locals_cells env ys = omega arith in e)

-- locals behind locals, from a place on
pub slots_behind : (env : Env) (at next : ℕ) (xs ys : List Local) (old new last : List code.Slot)
    → new ≡ old ++ slots env at xs → next ≡ at + locals_cells env xs → last ≡ new ++ slots env next ys → last ≡ old ++ slots env at (xs ++ ys)
slots_behind env at next xs ys old new last en ec el =
    el ∙ (λ i. en i ++ slots env (ec i) ys) ∙ append_assoc old (slots env at xs) (slots env (at + locals_cells env xs) ys)
    ∙ ap (λ z. old ++ z) (sym (slots_append env at xs ys))

pub cells_behind : (env : Env) (at next last : ℕ) (xs ys : List Local) → next ≡ at + locals_cells env xs → last ≡ next + locals_cells env ys
    → last ≡ at + locals_cells env (xs ++ ys)
cells_behind env at next last xs ys en el = el ∙ ap (λ n. n + locals_cells env ys) en
    ∙ (let e : at + locals_cells env xs + locals_cells env ys ≡ at + (locals_cells env xs + locals_cells env ys) = omega arith in e) ∙ ap (λ n. at + n) (sym
    (cells_append env xs ys))

-- one more of a list of which each has locals
pub slots_step : {A : Type 0} (f : A → List Local) (all : List A → List Local) → ((x : A) (l : List A) → all (x ∷ l) ≡ f x ++ all l)
    → (env : Env) (xs : List A) (i : ℕ) (x : A) (at next : ℕ) (old new : List code.Slot)
    → i < length xs → x ≡ get_or xs i x → new ≡ old ++ slots env at (f x) → next ≡ at + locals_cells env (f x)
    → new ++ slots env next (all (drop (i + 1) xs)) ≡ old ++ slots env at (all (drop i xs))
slots_step f all step env xs i x at next old new h is en ec =
    slots_behind env at next (f x) (all (drop (i + 1) xs)) old new _ en ec refl
    ∙ ap (λ z. old ++ slots env at z) (sym (step x (drop (i + 1) xs)) ∙ ap all (sym (dropped xs i x h is)))

pub cells_step : {A : Type 0} (f : A → List Local) (all : List A → List Local) → ((x : A) (l : List A) → all (x ∷ l) ≡ f x ++ all l)
    → (env : Env) (xs : List A) (i : ℕ) (x : A) (at next : ℕ)
    → i < length xs → x ≡ get_or xs i x → next ≡ at + locals_cells env (f x)
    → next + locals_cells env (all (drop (i + 1) xs)) ≡ at + locals_cells env (all (drop i xs))
cells_step f all step env xs i x at next h is ec =
    cells_behind env at next _ (f x) (all (drop (i + 1) xs)) ec refl ∙ ap (λ z. at + locals_cells env z)
    (sym (step x (drop (i + 1) xs)) ∙ ap all (sym (dropped xs i x h is)))

-- 3. Blocks

block_is : (b : Block) → code.locals_of b ≡ (out-Block b).locals ++ flat_locals (map locals_in (out-Block b).body)
block_is b = fold_out-Block (List Local) (List Local) code.stmt_locals code.block_locals b

pub block_slots : (env : Env) (at next : ℕ) (b : Block) (ls : List Local) (body : List Stmt) (old new last : List code.Slot) → ls ≡ (out-Block b).locals
    → body ≡ (out-Block b).body
    → new ≡ old ++ slots env at ls → next ≡ at + locals_cells env ls → last ≡ new ++ slots env next (flat_locals (map locals_in body))
    → last ≡ old ++ slots env at (code.locals_of b)
block_slots env at next b ls body old new last el eb en ec e =
    slots_behind env at next ls (flat_locals (map locals_in body)) old new last en ec e
    ∙ (λ i. old ++ slots env at (el i ++ flat_locals (map locals_in (eb i)))) ∙ ap (λ z. old ++ slots env at z) (sym (block_is b))

pub block_cells : (env : Env) (at next last : ℕ) (b : Block) (ls : List Local) (body : List Stmt) → ls ≡ (out-Block b).locals → body ≡ (out-Block b).body
    → next ≡ at + locals_cells env ls → last ≡ next + locals_cells env (flat_locals (map locals_in body)) → last ≡ at + locals_cells env (code.locals_of b)
block_cells env at next last b ls body el eb ec e =
    cells_behind env at next last ls (flat_locals (map locals_in body)) ec e
    ∙ (λ i. at + locals_cells env (el i ++ flat_locals (map locals_in (eb i)))) ∙ ap (λ z. at + locals_cells env z) (sym (block_is b))

if_is : (s : Stmt) (a : Expr) (b : Block) (o : Option Block) → s ≡ stmt.If a b o
    → locals_in s ≡ code.locals_of b ++ code.else_locals (option_map code.locals_of o)
if_is s a b None is = ap locals_in (is ∙ sym (stmt.rolls-If a b None))
    ∙ fold-roll-Stmt (List Local) (List Local) code.stmt_locals code.block_locals (Stmt-F.If a b None)
if_is s a b (Some o) is = ap locals_in (is ∙ sym (stmt.rolls-If a b (Some o)))
    ∙ fold-roll-Stmt (List Local) (List Local) code.stmt_locals code.block_locals (Stmt-F.If a b (Some o))

pub if_slots : (env : Env) (at next : ℕ) (s : Stmt) (a : Expr) (b : Block) (o : Option Block) (old new last : List code.Slot) → s ≡ stmt.If a b o
    → new ≡ old ++ slots env at (code.locals_of b) → next ≡ at + locals_cells env (code.locals_of b)
    → last ≡ new ++ slots env next (code.else_locals (option_map code.locals_of o)) → last ≡ old ++ slots env at (locals_in s)
if_slots env at next s a b o old new last is en ec e =
    slots_behind env at next (code.locals_of b) (code.else_locals (option_map code.locals_of o)) old new last en ec e
    ∙ ap (λ z. old ++ slots env at z) (sym (if_is s a b o is))

pub if_cells : (env : Env) (at next last : ℕ) (s : Stmt) (a : Expr) (b : Block) (o : Option Block) → s ≡ stmt.If a b o
    → next ≡ at + locals_cells env (code.locals_of b) → last ≡ next + locals_cells env (code.else_locals (option_map code.locals_of o))
    → last ≡ at + locals_cells env (locals_in s)
if_cells env at next last s a b o is ec e =
    cells_behind env at next last (code.locals_of b) (code.else_locals (option_map code.locals_of o)) ec e
    ∙ ap (λ z. at + locals_cells env z) (sym (if_is s a b o is))
