-- Code and meaning of one level of a value, from those of its parts.
use Rattle.std.proofs.Common.{◌≡◌, ◌∙◌, refl, ap, ap₂, subst, ◌&&◌, true, false, ℤ, pos, neg_ℤ, ◌*ℤ◌, List, [], ◌∷◌, map, Option}
use Rattle.std.specs.Prelude.{if◌then◌else◌}
use Rattle.c_tree.specs.declared.names.Name.{Name}
use Rattle.c_tree.specs.declared.names.Span.{Span}
use Rattle.c_tree.specs.declared.operators.BinaryOperator.{BinaryOperator}
use Rattle.c_tree.specs.declared.operators.BinaryOperator.TheVariants as op
use Rattle.c_tree.specs.declared.operators.PrefixOperator.{PrefixOperator}
use Rattle.c_tree.specs.declared.kinds.Kind.{Kind}
use Rattle.c_tree.specs.declared.kinds.Operand.{Operand}
use Rattle.c_tree.specs.Kinds.{is_integer}
use Rattle.c_tree.specs.Env.{cells_of, target}
use Rattle.c_tree.specs.Faults.{outcome_kind}
use Rattle.c_tree.specs.Checks.{Known, KnownLink, KnownChoice, KnownSuffix, operand_of, prefix_kind, suffix_outcome, joined, choice_operand}
use Rattle.c_tree.specs.Checks as check
use Rattle.c_meaning.specs.declared.cell.Cell.{Cell}
use Rattle.c_meaning.specs.State.{Value}
use Rattle.c_meaning.specs.Layout.{known, offset}
use Rattle.c_meaning.specs.Blocks.{Answer, bind}
use Rattle.c_meaning.specs.Numbers.{number_of, scalar, converted, is_false, calculated, difference}
use Rattle.c_meaning.specs.Values as meaning
use Rattle.c_meaning.specs.Values.{Context, Later, kind_operand, read_place, one_of, shortened}
use Rattle.cell_heap.specs.States.{heap_of}
use Rattle.c_code.specs.Looks.{Heap}
use Rattle.c_code.specs.Coded.{Eval, Operated, Chosen, coded, value_by, as_value, pointer_result, combined, operate, operated, chosen}
use Rattle.c_code.specs.Resolved as code
use Rattle.c_code.specs.Resolved.{Part, PartLink, PartChoice, PartSuffix, Both, Bearings, both, kind_part, operation, operations, alternatives}
use Rattle.c_code.specs.Laws.{bearings_of}
use Rattle.c_code.proofs.Parts.{operation_does, alternative_does, operation_is, alternative_is}
use Rattle.c_code.proofs.Seen.{pointed_seen, stepped_seen}
use Rattle.c_code.proofs.Moved.{IsValue, IsPlace, BothAre, value_is, before_is, read_on, field_on, arrow_on, index_on}

-- 1. Parts

-- a value that is resolved, and what it means
pub record Alike (a : Part) (m : meaning.Part) : Type 0 where
  pub known : a.known ≡ m.known
  pub value : (c : Context) → IsValue c (a.value (bearings_of c)) (m.value c)
  pub place : (c : Context) → IsPlace c (a.place (bearings_of c)) (m.place c)

pub data AlikeSuffix : PartSuffix → meaning.PartSuffix → Type 0 where
  field : (x : Name) → AlikeSuffix (code.Field x) (meaning.Field x)
  arrow : (x : Name) → AlikeSuffix (code.Arrow x) (meaning.Arrow x)
  index : (i : Part) (j : meaning.Part) (s : Span) → Alike i j → AlikeSuffix (code.Index i s) (meaning.Index j s)

pub record AlikeChoice (a : PartChoice) (m : meaning.PartChoice) : Type 0 where
  pub test : Alike a.test m.test
  pub yes : Alike a.yes m.yes

pub record AlikeLink (a : PartLink) (m : meaning.PartLink) : Type 0 where
  pub operator : a.operator ≡ m.operator
  pub operand : Alike a.operand m.operand

-- lists of the same length, whose elements are alike one by one
pub data AlikeLists {A B : Type 0} (P : A → B → Type 0) : List A → List B → Type 0 where
  none : AlikeLists P [] []
  more : {x : A} {y : B} {xs : List A} {ys : List B} → P x y → AlikeLists P xs ys → AlikeLists P (x ∷ xs) (y ∷ ys)

-- 2. What is checked of parts

pub links_known : {xs : List PartLink} {ys : List meaning.PartLink} → AlikeLists AlikeLink xs ys → code.known_links xs ≡ meaning.known_links ys
links_known none = refl
links_known (more h t) = ap₂ (λ (l : KnownLink) (ls : List KnownLink). l ∷ ls)
    (ap₂ (λ (o : BinaryOperator) (k : Known). record { operator = o; operand = k }) h.operator h.operand.known) (links_known t)

pub choices_known : {xs : List PartChoice} {ys : List meaning.PartChoice} → AlikeLists AlikeChoice xs ys → code.known_choices xs ≡ meaning.known_choices ys
choices_known none = refl
choices_known (more h t) = ap₂ (λ (l : KnownChoice) (ls : List KnownChoice). l ∷ ls)
    (ap₂ (λ (a b : Known). record { test = a; yes = b }) h.test.known h.yes.known) (choices_known t)

suffix_known : {x : PartSuffix} {y : meaning.PartSuffix} → AlikeSuffix x y → code.known_suffix x ≡ meaning.known_suffix y
suffix_known (field x) = refl
suffix_known (arrow x) = refl
suffix_known (index i j s h) = ap (λ (k : Known). check.Index k s) h.known

pub suffixes_known : {xs : List PartSuffix} {ys : List meaning.PartSuffix} → AlikeLists AlikeSuffix xs ys → code.known_suffixes xs ≡ meaning.known_suffixes ys
suffixes_known none = refl
suffixes_known (more h t) = ap₂ (λ (x : KnownSuffix) (xs : List KnownSuffix). x ∷ xs) (suffix_known h) (suffixes_known t)

pub kind_known : (c : Context) (a : Part) (m : meaning.Part) → Alike a m → kind_part (bearings_of c) a ≡ meaning.kind_part c m
kind_known c a m h = ap (λ (k : Known). k.value.kind c.scope.env) h.known

-- 3. Levels

module _ (c : Context) where
  abbrev heap : Heap
  heap = heap_of c.state

  abbrev here : Bearings
  here = bearings_of c

  -- operators, the outermost first
  pub prefixed_is : (ps : List PrefixOperator) (a : Part) (m : meaning.Part) → Alike a m
      → BothAre c (code.prefixed c.scope.env ps (kind_part here a) (both here a)) (meaning.prefixed c ps m)
  prefixed_is [] a m h = record { value = h.value c; place = h.place c }
  prefixed_is (p ∷ ps) a m h =
      subst (λ (k : Option Kind). BothAre c (code.prefixed c.scope.env (p ∷ ps) (kind_part here a) (both here a))
      (meaning.before c p.prefix (prefix_kind c.scope.env (p ∷ ps) k) (meaning.prefixed c ps m))) (kind_known c a m h)
      (before_is c p.prefix (prefix_kind c.scope.env (p ∷ ps) (kind_part here a))
      (code.prefixed c.scope.env ps (kind_part here a) (both here a)) (meaning.prefixed c ps m) (prefixed_is ps a m h))

  -- a suffix
  suffix_is : {x : PartSuffix} {y : meaning.PartSuffix} (k : Kind) (a : Both) (m : meaning.Both) → BothAre c a m → AlikeSuffix x y
      → IsPlace c (code.suffix_place here k a x) (meaning.suffix_place c k m.value m.place y)
  suffix_is k a m h (field x) = field_on c (offset c.scope.env k x.text) a.place (m.place tt) h.place
  suffix_is k a m h (arrow x) = arrow_on c (offset c.scope.env (target k) x.text) a.value (m.value tt) h.value
  suffix_is k a m h (index i j s e) = index_on c (cells_of c.scope.env (target k)) a.value (i.value here) (m.value tt) (j.value c) h.value (e.value c)

  -- suffixes, the innermost first
  pub suffixes_is : {xs : List PartSuffix} {ys : List meaning.PartSuffix} → AlikeLists AlikeSuffix xs ys → (k : Option Kind) (a : Both) (m : meaning.Both)
      → BothAre c a m
      → IsPlace c (code.suffixes_place here k a xs) (meaning.suffixes_place c k m.value m.place ys)
  suffixes_is none k a m h = h.place
  suffixes_is (more {x} {y} {xs} {ys} s t) k a m h =
      let p = code.suffix_place here (known k) a x in
      let q = meaning.suffix_place c (known k) m.value m.place y in
      let e : IsPlace c p q = suffix_is (known k) a m h s in
      let j = outcome_kind (suffix_outcome c.scope.env k (code.known_suffix x)) in
      subst (λ (z : KnownSuffix). let i = outcome_kind (suffix_outcome c.scope.env k z) in
      IsPlace c (code.suffixes_place here j (record { value = code.read c.scope.env j p; place = p }) xs)
      (meaning.suffixes_place c i (λ u. bind q (read_place c i)) (λ u. q) ys)) (suffix_known s)
      (suffixes_is t j (record { value = code.read c.scope.env j p; place = p }) (record { value = λ u. bind q (read_place c j); place = λ u. q })
      (record { value = read_on c j p q e; place = e }))

  -- an operation of kinds j and k
  abbrev operated_by : BinaryOperator → Kind → Kind → Kind → Eval → Operated
  operated_by o r j k e = record { operator = o; gives = r; left = j; right = k; step = cells_of c.scope.env (target j); operand = e }

  pointer_is : (o p : BinaryOperator) (r j k : Kind) (e : Eval) (x y : Cell) → pointer_result heap (operated_by p r j k e) o x y
      ≡ meaning.pointer_result c o j k x y
  pointer_is op.Add p r j k e x y =
      ap (λ (g : Cell → ℤ → Answer Cell). bind (number_of y) (λ n. g x (n *ℤ pos (cells_of c.scope.env (target j))))) (stepped_seen c.state)
  pointer_is op.Subtract p r j k e x y = λ i.
      if is_integer k then bind (number_of y) (λ n. stepped_seen c.state i x (neg_ℤ (n *ℤ pos (cells_of c.scope.env (target j)))))
      else bind (pointed_seen c.state i x) (λ a. bind (pointed_seen c.state i y) (difference a))
  pointer_is o p r j k e x y = refl

  combined_is : (o : BinaryOperator) (r j k : Kind) (e : Eval) (x y : Cell) → combined heap (operated_by o r j k e) x y ≡ meaning.combined c o r j k x y
  combined_is o r j k e x y = λ i.
      if is_integer j && is_integer k then bind (number_of x) (λ a. bind (number_of y) (λ b. calculated o r j k a b)) else pointer_is o o r j k e x y i

  operate_is : (o : BinaryOperator) (r j k : Kind) (e : Eval) (w : Answer Value) → value_by e heap c.frame ≡ w → (v : Value)
      → operate heap c.frame (operated_by o r j k e) o v ≡ meaning.link_value c o r j k (λ u. w) v
  operate_is op.And r j k e w h v = ap (λ (z : Answer Value). shortened false v (λ u. z)) h
  operate_is op.Or r j k e w h v = ap (λ (z : Answer Value). shortened true v (λ u. z)) h
  operate_is o r j k e w h v = λ i. bind (scalar v) (λ x. bind (h i) (λ u. bind (scalar u) (λ y. as_value (combined_is o r j k e x y i))))

  -- a chain from its first operand on
  pub operated_is : {xs : List PartLink} {ys : List meaning.PartLink} → AlikeLists AlikeLink xs ys → (a : Option Operand) (v : Answer Value)
      → operated heap c.frame v (map operation_does (operations here a xs)) ≡ meaning.chain_value c a v ys
  operated_is none a v = refl
  operated_is (more {x} {y} {xs} {ys} h t) a v =
      let b = operand_of c.scope.env x.operand.known in
      let r = joined c.scope.env x.operator a b in
      let rest = map operation_does (operations here r xs) in
      let made = operated_by x.operator (kind_operand r) (kind_operand a) (kind_operand b) (coded (x.operand.value here)) in
      ap (λ (o : Operated). operated heap c.frame (bind v (operate heap c.frame o o.operator)) rest)
      (operation_is (record {
        operator = x.operator;
        gives = kind_operand r;
        left = kind_operand a;
        right = kind_operand b;
        step = cells_of c.scope.env (target (kind_operand a));
        operand = x.operand.value here;
      }))
      ∙ (λ i. operated heap c.frame (bind v (λ u. operate_is x.operator (kind_operand r) (kind_operand a) (kind_operand b) (coded (x.operand.value here))
      (y.operand.value c)
      (value_is c (x.operand.value here) (y.operand.value c) (h.operand.value c)) u i)) rest)
      ∙ operated_is t r (bind v (meaning.link_value c x.operator (kind_operand r) (kind_operand a) (kind_operand b) (λ u. y.operand.value c)))
      ∙ ap₂ (λ (o : BinaryOperator) (k : Known).
      let d = operand_of c.scope.env k in let s = joined c.scope.env o a d in
      meaning.chain_value c s (bind v (meaning.link_value c o (kind_operand s) (kind_operand a) (kind_operand d) (λ u. y.operand.value c))) ys)
      h.operator h.operand.known

  -- choices, and the value behind the last
  pub chosen_is : {xs : List PartChoice} {ys : List meaning.PartChoice} → AlikeLists AlikeChoice xs ys → (e : Part) (m : meaning.Part) → Alike e m
      → chosen heap c.frame (map alternative_does (alternatives here xs e)) (coded (e.value here)) ≡ meaning.choices_value c ys m
  chosen_is none e m h = value_is c (e.value here) (m.value c) (h.value c)
  chosen_is (more {x} {y} {xs} {ys} s t) e m h =
      let gives = kind_operand (choice_operand c.scope.env (code.known_choices (x ∷ xs)) (operand_of c.scope.env e.known)) in
      let rest = map alternative_does (alternatives here xs e) in
      ap (λ (a : Chosen). chosen heap c.frame (a ∷ rest) (coded (e.value here)))
      (alternative_is (record { test = x.test.value here; yes = x.yes.value here; gives = gives }))
      ∙ (λ i. bind (value_is c (x.test.value here) (y.test.value c) (s.test.value c) i) (λ z. bind (scalar z) (λ w.
      bind (one_of (is_false w) (λ u. chosen_is t e m h i) (λ u. value_is c (x.yes.value here) (y.yes.value c) (s.yes.value c) i)) (converted gives))))
      ∙ ap₂ (λ (ks : List KnownChoice) (k : Known).
      bind (y.test.value c) (λ z. bind (scalar z) (λ w.
      bind (one_of (is_false w) (λ u. meaning.choices_value c ys m) (λ u. y.yes.value c))
      (converted (kind_operand (choice_operand c.scope.env ks (operand_of c.scope.env k)))))))
      (choices_known (more s t)) h.known
