-- What stands in a unit that is the unit of a program: `main`, and its code.
use Rattle.std.proofs.Common.{◌≡◌, ◌∙◌, refl, ap, ap₂, ℕ, ◌+◌, List, [], ◌∷◌, map, codes, Option, Some, None}
use Rattle.std.specs.Option.{option_map}
use Rattle.c_tree.specs.declared.names.Base.{Base}
use Rattle.c_tree.specs.declared.names.Base.TheVariants as base
use Rattle.c_tree.specs.declared.names.CType.{CType}
use Rattle.c_tree.specs.declared.unit.Function.{Function as Definition}
use Rattle.c_tree.specs.declared.unit.Include.{Include}
use Rattle.c_tree.specs.declared.unit.Include.TheVariants as include
use Rattle.c_tree.specs.declared.unit.Item.{Item}
use Rattle.c_tree.specs.declared.unit.Item.TheVariants as item
use Rattle.c_tree.specs.declared.unit.Parameter.{Parameter}
use Rattle.c_tree.specs.declared.unit.Unit.{Unit as CUnit}
use Rattle.c_tree.specs.declared.kinds.Kind.{Kind}
use Rattle.c_tree.specs.Kinds.{int, char}
use Rattle.c_tree.specs.Env.{Env, base_kind}
use Rattle.c_tree.specs.Bare.{bare_base, bare_type, bare_parameter, bare_signature, bare_block, bare_item, SameUnit}
use Rattle.c_meaning.specs.Layout.{known, kind}
use Rattle.c_meaning.specs.Code.{parameter_kinds}
use Rattle.c_emit.specs.Program.{Program as Texts}
use Rattle.c_emit.specs.Emission.{type, parameter, main_signature, main_body, unit_of}
use Rattle.c_emit.proofs.Trees.{some_same, none_some, head_same, tail_same, empty_not, more_not}

-- 1. Types

base_in : Base → Option ℕ
base_in base.Void = Some 0
base_in base.Int = Some 1
base_in base.Char = Some 2
base_in (base.Named x) = None

int_base : (b : Base) → base_in (bare_base b) ≡ Some 1 → b ≡ base.Int
unfolding base_in
int_base base.Int h = refl
int_base base.Void h = absurd cc
int_base base.Char h = absurd cc
int_base (base.Named x) h = absurd cc

char_base : (b : Base) → base_in (bare_base b) ≡ Some 2 → b ≡ base.Char
unfolding base_in
char_base base.Char h = refl
char_base base.Void h = absurd cc
char_base base.Int h = absurd cc
char_base (base.Named x) h = absurd cc

abbrev kind_with : Env → Base → ℕ → Kind
kind_with env b n = known (option_map (λ (k : Kind). record { base = k.base; stars = k.stars + n }) (base_kind env b))

int_seen : base_in base.Int ≡ Some 1
unfolding base_in
int_seen = refl

char_seen : base_in base.Char ≡ Some 2
unfolding base_in
char_seen = refl

int_kind : (env : Env) (c : CType) → bare_type c ≡ bare_type (type base.Int 0) → kind env c ≡ int
int_kind env c h =
    ap₂ (kind_with env) (int_base c.base (ap (λ (x : CType). base_in x.base) h ∙ int_seen)) (ap (λ (x : CType). x.stars) h)

-- `char **`
abbrev pub texts_kind : Kind
texts_kind = record { base = char.base; stars = 2 }

texts_kind_is : (env : Env) (c : CType) → bare_type c ≡ bare_type (type base.Char 2) → kind env c ≡ texts_kind
texts_kind_is env c h =
    ap₂ (kind_with env) (char_base c.base (ap (λ (x : CType). base_in x.base) h ∙ char_seen)) (ap (λ (x : CType). x.stars) h)

-- 2. Parameters

two_kinds : (env : Env) (ps : List Parameter) (p q : Parameter) → map bare_parameter ps ≡ bare_parameter p ∷ bare_parameter q ∷ []
    → p.declared ≡ type base.Int 0 → q.declared ≡ type base.Char 2 → parameter_kinds env ps ≡ int ∷ texts_kind ∷ []
two_kinds env [] p q h e f = absurd (empty_not (bare_parameter p) (bare_parameter q ∷ []) h)
two_kinds env (a ∷ []) p q h e f = absurd (empty_not (bare_parameter q) [] (tail_same (bare_parameter a) (bare_parameter p) [] (bare_parameter q ∷ []) h))
two_kinds env (a ∷ b ∷ []) p q h e f =
    let first = head_same (bare_parameter a) (bare_parameter p) (bare_parameter b ∷ []) (bare_parameter q ∷ []) h in
    let second = head_same (bare_parameter b) (bare_parameter q) [] []
    (tail_same (bare_parameter a) (bare_parameter p) (bare_parameter b ∷ []) (bare_parameter q ∷ []) h) in
    ap₂ (λ x y. x ∷ y ∷ [])
    (int_kind env a.declared (ap (λ (x : Parameter). x.declared) first ∙ ap bare_type e))
    (texts_kind_is env b.declared (ap (λ (x : Parameter). x.declared) second ∙ ap bare_type f))
two_kinds env (a ∷ b ∷ c ∷ ps) p q h e f =
    absurd (more_not (bare_parameter c) (map bare_parameter ps) (tail_same (bare_parameter b) (bare_parameter q) (bare_parameter c ∷ map bare_parameter ps) []
    (tail_same (bare_parameter a) (bare_parameter p) (bare_parameter b ∷ bare_parameter c ∷ map bare_parameter ps) (bare_parameter q ∷ []) h)))

-- 3. Items

include_in : Item → Option Include
include_in (item.Include f) = Some f
include_in i = None

function_in : Item → Option Definition
function_in (item.Function f) = Some f
function_in i = None

include_level : (i : Item) (f : Include) → include_in (bare_item i) ≡ Some f → i ≡ item.Include f
unfolding include_in
include_level (item.Include g) f h = ap (λ x. item.Include x) (some_same g f h)
include_level (item.StructType x) f h = absurd (none_some f h)
include_level (item.Struct x) f h = absurd (none_some f h)
include_level (item.Enumeration x) f h = absurd (none_some f h)
include_level (item.FunctionType x) f h = absurd (none_some f h)
include_level (item.Prototype x) f h = absurd (none_some f h)
include_level (item.Variable x) f h = absurd (none_some f h)
include_level (item.InterfaceTable x) f h = absurd (none_some f h)
include_level (item.Function x) f h = absurd (none_some f h)

abbrev bare_function : Definition → Definition
bare_function f = record { signature = bare_signature f.signature; body = bare_block f.body }

function_level : (i : Item) (g : Definition) → function_in (bare_item i) ≡ Some g → (f : Definition) × (i ≡ item.Function f) × (bare_function f ≡ g)
unfolding function_in
function_level (item.Function f) g h = (f, refl, some_same (bare_function f) g h)
function_level (item.Include x) g h = absurd (none_some g h)
function_level (item.StructType x) g h = absurd (none_some g h)
function_level (item.Struct x) g h = absurd (none_some g h)
function_level (item.Enumeration x) g h = absurd (none_some g h)
function_level (item.FunctionType x) g h = absurd (none_some g h)
function_level (item.Prototype x) g h = absurd (none_some g h)
function_level (item.Variable x) g h = absurd (none_some g h)
function_level (item.InterfaceTable x) g h = absurd (none_some g h)

include_seen : (f : Include) → include_in (item.Include f) ≡ Some f
unfolding include_in
include_seen f = refl

function_seen : (f : Definition) → function_in (item.Function f) ≡ Some f
unfolding function_in
function_seen f = refl

-- 4. The unit

abbrev main_of : Texts → Definition
main_of texts = record { signature = main_signature; body = main_body texts }

-- a function that is `main` of a program, apart from places, alone in its unit
pub record IsMain (texts : Texts) (items : List Item) : Type 0 where
  pub main : Definition
  pub alone : items ≡ item.Include include.Glib ∷ item.Function main ∷ []
  pub named : main.signature.name.text ≡ codes "main"
  pub gives : (env : Env) → kind env main.signature.result ≡ int
  pub takes : (env : Env) → parameter_kinds env main.signature.parameters ≡ int ∷ texts_kind ∷ []
  pub body : bare_block main.body ≡ bare_block (main_body texts)

two_items : (texts : Texts) (is : List Item) → map bare_item is ≡ bare_item (item.Include include.Glib) ∷ bare_item (item.Function (main_of texts)) ∷ []
    → IsMain texts is
two_items texts [] h = absurd (empty_not (bare_item (item.Include include.Glib)) (bare_item (item.Function (main_of texts)) ∷ []) h)
two_items texts (i ∷ []) h =
    absurd (empty_not (bare_item (item.Function (main_of texts))) []
    (tail_same (bare_item i) (bare_item (item.Include include.Glib)) [] (bare_item (item.Function (main_of texts)) ∷ []) h))
two_items texts (i ∷ j ∷ []) h =
    let first = head_same (bare_item i) (bare_item (item.Include include.Glib)) (bare_item j ∷ []) (bare_item (item.Function (main_of texts)) ∷ []) h in
    let rest = tail_same (bare_item i) (bare_item (item.Include include.Glib)) (bare_item j ∷ []) (bare_item (item.Function (main_of texts)) ∷ []) h in
    let second = head_same (bare_item j) (bare_item (item.Function (main_of texts))) [] [] rest in
    let a = include_level i include.Glib (ap include_in first ∙ include_seen include.Glib) in
    let b = function_level j (bare_function (main_of texts)) (ap function_in second ∙ function_seen (bare_function (main_of texts))) in
    record {
      main = b.0;
      alone = ap₂ (λ x y. x ∷ y ∷ []) a b.1;
      named = ap (λ (f : Definition). f.signature.name.text) b.2;
      gives = λ env. int_kind env b.0.signature.result (ap (λ (f : Definition). f.signature.result) b.2);
      takes = λ env. two_kinds env b.0.signature.parameters (parameter (type base.Int 0) (codes "argc")) (parameter (type base.Char 2) (codes "argv"))
          (ap (λ (f : Definition). f.signature.parameters) b.2) refl refl;
      body = ap (λ (f : Definition). f.body) b.2;
    }
two_items texts (i ∷ j ∷ k ∷ is) h =
    absurd (more_not (bare_item k) (map bare_item is) (tail_same (bare_item j) (bare_item (item.Function (main_of texts))) (bare_item k ∷ map bare_item is) []
    (tail_same (bare_item i) (bare_item (item.Include include.Glib)) (bare_item j ∷ bare_item k ∷ map bare_item is)
    (bare_item (item.Function (main_of texts)) ∷ []) h)))

pub unit_is : (texts : Texts) (u : CUnit) → SameUnit u (unit_of texts) → IsMain texts u.items
unit_is texts u h = two_items texts u.items (ap (λ (x : CUnit). x.items) h)
