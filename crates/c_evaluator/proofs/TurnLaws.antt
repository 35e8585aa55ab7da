-- Moves, operations and choices, one after another.
use Rattle.std.proofs.Common.{◌≡◌, ◌∙◌, refl, sym, ap, ℕ, suc, ◌+◌, ◌-◌, ◌<◌, ◌≤◌, Bool, true, false, if◌then◌else◌, List, [], ◌∷◌, ◌++◌, length, get_or, drop, take, map, Option, Some, None, Ok, Err, arith, rules}
use Rattle.std.proofs.Math.Seq.{drop-cons}
use Rattle.std.proofs.lemmas.List.{take_more}
use Rattle.vg_base.specs.declared.event.UndefKind.{UndefKind}
use Rattle.vg_base.specs.declared.event.UndefKind.TheVariants as undef
use Rattle.c_tree.specs.declared.operators.BinaryOperator.{BinaryOperator}
use Rattle.c_tree.specs.declared.operators.BinaryOperator.TheVariants as op
use Rattle.c_meaning.specs.declared.cell.Cell.{Cell}
use Rattle.c_meaning.specs.State.{Value, Scalar, Struct}
use Rattle.c_meaning.specs.Blocks.{Answer, bind}
use Rattle.c_meaning.specs.Numbers.{converted, is_false, scalar}
use Rattle.c_meaning.specs.Values.{one_of}
use Rattle.c_code.specs.declared.code.Alternative.{Alternative, out-Alternative}
use Rattle.c_code.specs.declared.code.Code.{Code}
use Rattle.c_code.specs.declared.code.Start.{Start}
use Rattle.c_code.specs.declared.code.Start.TheVariants as start
use Rattle.c_code.specs.declared.code.Operation.{Operation, out-Operation}
use Rattle.c_code.specs.Looks.{Heap}
use Rattle.c_code.specs.Coded.{Eval, Moving, Chosen, Operated, Reached, all_moves, as_value, cell_of, chosen, coded, combined, of_value, operate, operated, value_by, value_of}
use Rattle.c_evaluator.specs.Parts.{alternative_coded, in_kinds, is_true, operation_coded, start_coded}
use Rattle.c_evaluator.specs.Choices.{Comes, Finds}
use Rattle.c_code.specs.declared.value.Value as found
use Rattle.c_evaluator.proofs.CodeLaws.{alternative_known, choice_known, operation_known}

clash : {A : Type 0} (a : A) (u : UndefKind) → ◌≡◌ {A = Answer A} (Ok a) (Err u) → ⊥
clash a u e = search rules

-- what is answered, and a default
abbrev answered : {A : Type 0} → A → Answer A → A
answered d (Ok a) = a
answered d (Err u) = d

ok_is : {A : Type 0} (d a b : A) → ◌≡◌ {A = Answer A} (Ok a) (Ok b) → a ≡ b
ok_is d a b e = ap (answered d) e

bind_on : {A B C : Type 0} (a : Answer A) (f : A → Answer B) (g : B → Answer C) → bind (bind a f) g ≡ bind a (λ x. bind (f x) g)
bind_on (Ok a) f g = refl
bind_on (Err u) f g = refl

-- the rest of a list begins with the next one
pub rest_is : {A : Type 0} (xs : List A) (i : ℕ) (x : A) → i < length xs → x ≡ get_or xs i x → drop i xs ≡ x ∷ drop (i + 1) xs
rest_is xs i x h is = drop-cons xs i x h ∙ (λ k. sym is k ∷ drop ((let e : suc i ≡ i + 1 = omega arith in e) k) xs)

pub map_last : {A B : Type 0} (f : A → B) (xs : List A) (x : A) → map f (xs ++ x ∷ []) ≡ map f xs ++ f x ∷ []
map_last f [] x = refl
map_last f (y ∷ xs) x = ap (λ z. f y ∷ z) (map_last f xs x)

-- the front of a list, with the next one
pub front_is : {A B : Type 0} (f : A → B) (xs : List A) (i : ℕ) (x : A) → i < length xs → x ≡ get_or xs i x → map f (take (i + 1) xs) ≡ map f (take i xs) ++ f x ∷ []
front_is f xs i x h is = ap (map f) (take_more xs i x h ∙ ap (λ y. take i xs ++ y ∷ []) (sym is)) ∙ map_last f (take i xs) x

module _ (h : Heap) (f : ℕ) where
  -- 1. Moves

  pub moves_fail : (ms : List Moving) (u : UndefKind) → all_moves ms h f (Err u) ≡ Err u
  moves_fail [] u = refl
  moves_fail (m ∷ ms) u = moves_fail ms u

  pub move_turn : {A : Type 0} (g : A → Moving) (ms : List A) (i : ℕ) (m : A) (r : Reached) → i < length ms → m ≡ get_or ms i m
      → all_moves (map g (drop i ms)) h f (Ok r) ≡ all_moves (map g (drop (i + 1) ms)) h f (g m h f r)
  move_turn g ms i m r lt is = ap (λ l. all_moves (map g l) h f (Ok r)) (rest_is ms i m lt is)

  -- 2. Operations

  pub operations_fail : (os : List Operated) (u : UndefKind) → operated h f (Err u) os ≡ Err u
  operations_fail [] u = refl
  operations_fail (o ∷ os) u = operations_fail os u

  pub operation_turn : {A : Type 0} (g : A → Operated) (os : List A) (i : ℕ) (o : A) (v : Value) → i < length os → o ≡ get_or os i o
      → operated h f (Ok v) (map g (drop i os)) ≡ operated h f (operate h f (g o) (g o).operator v) (map g (drop (i + 1) os))
  operation_turn g os i o v lt is = ap (λ l. operated h f (Ok v) (map g l)) (rest_is os i o lt is)

  -- an operator that looks at both operands
  operate_plain : (o : Operated) (p : BinaryOperator) (v : Value) → (p ≡ op.And → ⊥) → (p ≡ op.Or → ⊥)
      → operate h f o p v ≡ bind (scalar v) (λ x. bind (value_by o.operand h f) (λ w. bind (scalar w) (λ y. as_value (combined h o x y))))
  operate_plain o op.And v a b = absurd (a refl)
  operate_plain o op.Or v a b = absurd (b refl)
  operate_plain o op.BitOr v a b = refl
  operate_plain o op.BitXor v a b = refl
  operate_plain o op.BitAnd v a b = refl
  operate_plain o op.Equal v a b = refl
  operate_plain o op.Unequal v a b = refl
  operate_plain o op.Less v a b = refl
  operate_plain o op.Greater v a b = refl
  operate_plain o op.AtMost v a b = refl
  operate_plain o op.AtLeast v a b = refl
  operate_plain o op.ShiftLeft v a b = refl
  operate_plain o op.ShiftRight v a b = refl
  operate_plain o op.Add v a b = refl
  operate_plain o op.Subtract v a b = refl
  operate_plain o op.Multiply v a b = refl
  operate_plain o op.Divide v a b = refl
  operate_plain o op.Remainder v a b = refl

  -- the same by the cell of the second operand
  operate_known : (o : Operation) (v : Value) (x : Cell) (y : Answer Cell) → ((out-Operation o).operator ≡ op.And → ⊥) → ((out-Operation o).operator ≡ op.Or → ⊥)
      → scalar v ≡ Ok x → cell_of (out-Operation o).operand h f ≡ y
      → operate h f (operation_coded o) (operation_coded o).operator v ≡ bind y (λ c. as_value (combined h (operation_coded o) x c))
  operate_known o v x y a b one two =
      ap (λ (p : BinaryOperator). operate h f (operation_coded o) p v) (ap (λ (c : Operated). c.operator) (operation_known o))
      ∙ operate_plain (operation_coded o) (out-Operation o).operator v a b
      ∙ ap (λ s. bind s (λ x. bind (value_by (operation_coded o).operand h f) (λ w. bind (scalar w) (λ y. as_value (combined h (operation_coded o) x y))))) one
      ∙ ap (λ (e : Eval). bind (value_by e h f) (λ w. bind (scalar w) (λ y. as_value (combined h (operation_coded o) x y)))) (ap (λ (c : Operated). c.operand) (operation_known o))
      ∙ sym (bind_on (value_of (out-Operation o).operand h f) scalar (λ y. as_value (combined h (operation_coded o) x y)))
      ∙ ap (λ c. bind c (λ y. as_value (combined h (operation_coded o) x y))) two

  pub second_fails : (o : Operation) (v : Value) (x : Cell) (u : UndefKind) → ((out-Operation o).operator ≡ op.And → ⊥) → ((out-Operation o).operator ≡ op.Or → ⊥)
      → scalar v ≡ Ok x → cell_of (out-Operation o).operand h f ≡ Err u → operate h f (operation_coded o) (operation_coded o).operator v ≡ Err u
  second_fails o v x u a b one two = operate_known o v x (Err u) a b one two

  pub result_fails : (o : Operation) (v : Value) (x y : Cell) (u : UndefKind) → ((out-Operation o).operator ≡ op.And → ⊥) → ((out-Operation o).operator ≡ op.Or → ⊥)
      → scalar v ≡ Ok x → cell_of (out-Operation o).operand h f ≡ Ok y → combined h (operation_coded o) x y ≡ Err u
      → operate h f (operation_coded o) (operation_coded o).operator v ≡ Err u
  result_fails o v x y u a b one two three = operate_known o v x (Ok y) a b one two ∙ ap as_value three

  -- 3. Choices

  picked : (x : Bool) (otherwise here : Answer Value) (go : Value → Answer Value) → bind (one_of x (λ u. otherwise) (λ u. here)) go ≡ bind (if (if x then false else true) then here else otherwise) go
  picked true otherwise here go = refl
  picked false otherwise here go = refl

  -- a value that a condition chooses, by the condition
  decided : (v : Answer Value) (otherwise here : Answer Value) (go : Value → Answer Value) (b : Bool)
      → bind v (λ t. bind (scalar t) (λ y. Ok (if is_false y then false else true))) ≡ Ok b
      → bind v (λ t. bind (scalar t) (λ y. bind (one_of (is_false y) (λ u. otherwise) (λ u. here)) go)) ≡ bind (if b then here else otherwise) go
  decided (Err u) otherwise here go b e = absurd (clash b u (sym e))
  decided (Ok (Struct cs)) otherwise here go b e = absurd (clash b undef.Kind (sym e))
  decided (Ok (Scalar c)) otherwise here go b e = picked (is_false c) otherwise here go ∙ ap (λ x. bind (if x then here else otherwise) go) (ok_is false (if is_false c then false else true) b e)

  undecided : (v : Answer Value) (otherwise here : Answer Value) (go : Value → Answer Value) (u : UndefKind)
      → bind v (λ t. bind (scalar t) (λ y. Ok (if is_false y then false else true))) ≡ Err u
      → bind v (λ t. bind (scalar t) (λ y. bind (one_of (is_false y) (λ u. otherwise) (λ u. here)) go)) ≡ Err u
  undecided (Err w) otherwise here go u e = ap (λ x. bind x (λ b. otherwise)) e
  undecided (Ok (Struct cs)) otherwise here go u e = ap (λ x. bind x (λ b. otherwise)) e
  undecided (Ok (Scalar c)) otherwise here go u e = absurd (clash (if is_false c then false else true) u e)

  pub choice_passed : (c : Chosen) (cs : List Chosen) (e : Eval) → is_true c.test h f ≡ Ok false → chosen h f (c ∷ cs) e ≡ bind (chosen h f cs e) (converted c.gives)
  choice_passed c cs e is = decided (value_by c.test h f) (chosen h f cs e) (value_by c.yes h f) (converted c.gives) false is

  pub choice_taken : (c : Chosen) (cs : List Chosen) (e : Eval) → is_true c.test h f ≡ Ok true → chosen h f (c ∷ cs) e ≡ bind (value_by c.yes h f) (converted c.gives)
  choice_taken c cs e is = decided (value_by c.test h f) (chosen h f cs e) (value_by c.yes h f) (converted c.gives) true is

  pub choice_fails : (c : Chosen) (cs : List Chosen) (e : Eval) (u : UndefKind) → is_true c.test h f ≡ Err u → chosen h f (c ∷ cs) e ≡ Err u
  choice_fails c cs e u is = undecided (value_by c.test h f) (chosen h f cs e) (value_by c.yes h f) (converted c.gives) u is

-- 4. Kinds of choices

pub kinds_fail : (cs : List Chosen) (u : UndefKind) → in_kinds cs (Err u) ≡ Err u
kinds_fail [] u = refl
kinds_fail (c ∷ cs) u = ap (λ x. bind x (converted c.gives)) (kinds_fail cs u)

pub kinds_last : (cs : List Chosen) (c : Chosen) (v : Answer Value) → in_kinds (cs ++ c ∷ []) v ≡ in_kinds cs (bind v (converted c.gives))
kinds_last [] c v = refl
kinds_last (d ∷ cs) c v = ap (λ x. bind x (converted d.gives)) (kinds_last cs c v)

-- the kind of the last choice of a front is taken first
pub kinds_turn : (cs : List Alternative) (n : ℕ) (a : Alternative) (v : Value) (x : Answer Value) → 0 < n → n ≤ length cs → a ≡ get_or cs (n - 1) a → converted (out-Alternative a).gives v ≡ x
    → in_kinds (map alternative_coded (take n cs)) (Ok v) ≡ in_kinds (map alternative_coded (take (n - 1) cs)) x
kinds_turn cs n a v x some within is e =
    ap (λ m. in_kinds (map alternative_coded (take m cs)) (Ok v)) (let back : n ≡ n - 1 + 1 = omega (arith, some) in back)
    ∙ ap (λ ds. in_kinds ds (Ok v)) (front_is alternative_coded cs (n - 1) a (omega (arith, some, within)) is)
    ∙ kinds_last (map alternative_coded (take (n - 1) cs)) (alternative_coded a) (Ok v)
    ∙ ap (λ (c : Chosen). in_kinds (map alternative_coded (take (n - 1) cs)) (converted c.gives v)) (alternative_known a)
    ∙ ap (in_kinds (map alternative_coded (take (n - 1) cs))) e

module _ (h : Heap) (f : ℕ) (cs : List Alternative) (i : ℕ) (a : Alternative) where
  -- what choices come to from one of them on
  turned : (e : Eval) (x : Answer Value) → i < length cs → a ≡ get_or cs i a
      → in_kinds (map alternative_coded (take i cs)) (chosen h f (map alternative_coded (drop i cs)) e) ≡ chosen h f (map alternative_coded cs) e
      → chosen h f (alternative_coded a ∷ map alternative_coded (drop (i + 1) cs)) e ≡ x
      → chosen h f (map alternative_coded cs) e ≡ in_kinds (map alternative_coded (take i cs)) x
  turned e x lt is so_far now =
      sym so_far ∙ ap (λ l. in_kinds (map alternative_coded (take i cs)) (chosen h f (map alternative_coded l) e)) (rest_is cs i a lt is)
      ∙ ap (in_kinds (map alternative_coded (take i cs))) now

  pub test_fails : (e : Eval) (u : UndefKind) → i < length cs → a ≡ get_or cs i a
      → in_kinds (map alternative_coded (take i cs)) (chosen h f (map alternative_coded (drop i cs)) e) ≡ chosen h f (map alternative_coded cs) e
      → is_true (alternative_coded a).test h f ≡ Err u → chosen h f (map alternative_coded cs) e ≡ Err u
  test_fails e u lt is so_far no_test =
      turned e (Err u) lt is so_far (choice_fails h f (alternative_coded a) (map alternative_coded (drop (i + 1) cs)) e u no_test)
      ∙ kinds_fail (map alternative_coded (take i cs)) u

  -- the value that is chosen here, in the kinds up to here
  pub found_here : (e : Eval) (v : Answer Value) → i < length cs → a ≡ get_or cs i a
      → in_kinds (map alternative_coded (take i cs)) (chosen h f (map alternative_coded (drop i cs)) e) ≡ chosen h f (map alternative_coded cs) e
      → is_true (alternative_coded a).test h f ≡ Ok true → value_of (out-Alternative a).yes h f ≡ v
      → chosen h f (map alternative_coded cs) e ≡ in_kinds (map alternative_coded (take (i + 1) cs)) v
  found_here e v lt is so_far test value =
      turned e (bind v (converted (alternative_coded a).gives)) lt is so_far
      (choice_taken h f (alternative_coded a) (map alternative_coded (drop (i + 1) cs)) e test
      ∙ ap (λ x. bind x (converted (alternative_coded a).gives)) (ap (λ (c : Chosen). value_by c.yes h f) (alternative_known a) ∙ value))
      ∙ sym (kinds_last (map alternative_coded (take i cs)) (alternative_coded a) v)
      ∙ ap (λ ds. in_kinds ds v) (sym (front_is alternative_coded cs i a lt is))

  pub passed_here : (e : Eval) → i < length cs → a ≡ get_or cs i a
      → in_kinds (map alternative_coded (take i cs)) (chosen h f (map alternative_coded (drop i cs)) e) ≡ chosen h f (map alternative_coded cs) e
      → is_true (alternative_coded a).test h f ≡ Ok false
      → in_kinds (map alternative_coded (take (i + 1) cs)) (chosen h f (map alternative_coded (drop (i + 1) cs)) e) ≡ chosen h f (map alternative_coded cs) e
  passed_here e lt is so_far test =
      ap (λ ds. in_kinds ds (chosen h f (map alternative_coded (drop (i + 1) cs)) e)) (front_is alternative_coded cs i a lt is)
      ∙ kinds_last (map alternative_coded (take i cs)) (alternative_coded a) (chosen h f (map alternative_coded (drop (i + 1) cs)) e)
      ∙ sym (turned e (bind (chosen h f (map alternative_coded (drop (i + 1) cs)) e) (converted (alternative_coded a).gives)) lt is so_far
      (choice_passed h f (alternative_coded a) (map alternative_coded (drop (i + 1) cs)) e test))

-- none was found where what was found is no value
none_found : (o : Option found.Value) (choices behind : Answer Value) → ((v : found.Value) → o ≡ Some v → ⊥) → Comes (Ok o) choices behind → choices ≡ behind
none_found None choices behind none h = h
none_found (Some v) choices behind none h = absurd (none v refl)

-- the value behind the choices fails
pub last_fails : (h : Heap) (f : ℕ) (s : Start) (cs ds : List Alternative) (e d : Code) (o : Option found.Value) (u : UndefKind) → s ≡ start.Choice cs e → ds ≡ cs → d ≡ e
    → ((v : found.Value) → o ≡ Some v → ⊥) → Finds (map alternative_coded ds) h f (Ok o) → value_of d h f ≡ Err u → start_coded s h f ≡ Err u
last_fails h f s cs ds e d o u is es ed none found no_value =
    choice_known h f s cs e is
    ∙ ap of_value (
    ap (λ l. chosen h f (map alternative_coded l) (coded e)) (sym es)
    ∙ none_found o (chosen h f (map alternative_coded ds) (coded e)) (in_kinds (map alternative_coded ds) (value_of e h f)) none (found (coded e))
    ∙ ap (in_kinds (map alternative_coded ds)) (ap (λ z. value_of z h f) (sym ed) ∙ no_value)
    ∙ kinds_fail (map alternative_coded ds) u)
