-- The values and places that moves of code lead to, in a context.
use Rattle.std.proofs.Common.{◌≡◌, ◌∙◌, refl, ap, ℕ, suc, ◌==◌, true, false, ℤ, pos, ◌*ℤ◌, List, [], ◌∷◌, Option, Some, None, Ok, Err}
use Rattle.std.specs.Prelude.{if◌then◌else◌}
use Rattle.std.specs.Str.{bytes_eq}
use Rattle.vg_base.specs.declared.event.UndefKind.TheVariants as undef
use Rattle.c_tree.specs.declared.operators.Prefix.{Prefix}
use Rattle.c_tree.specs.declared.operators.Prefix.TheVariants as prefix
use Rattle.c_tree.specs.declared.kinds.Kind.{Kind}
use Rattle.c_tree.specs.declared.kinds.Sort.{Sort}
use Rattle.c_tree.specs.declared.kinds.Sort.TheVariants as sort
use Rattle.c_tree.specs.Env.{cells_of}
use Rattle.c_meaning.specs.declared.cell.Cell.{Cell}
use Rattle.c_meaning.specs.declared.cell.Cell.TheVariants.{Int, Ptr, Func}
use Rattle.c_meaning.specs.State.{Place, Value, Scalar, Fixed, Standing, Routine}
use Rattle.c_meaning.specs.Layout.{known}
use Rattle.c_meaning.specs.Blocks.{Answer, bind}
use Rattle.c_meaning.specs.Numbers.{number_of, scalar, converted, is_false, truth, pointed, moved, to}
use Rattle.c_meaning.specs.Values as meaning
use Rattle.c_meaning.specs.Values.{Context, on_number, pointed_value, read_place, variable_in, static_in, place_by, routine_in, literal_in, member_number}
use Rattle.cell_heap.specs.States.{heap_of}
use Rattle.c_code.specs.declared.code.Code.{Code}
use Rattle.c_code.specs.declared.code.Sign.{Sign}
use Rattle.c_code.specs.declared.code.Sign.TheVariants as sign
use Rattle.c_code.specs.declared.code.Move.TheVariants as go
use Rattle.c_code.specs.declared.code.Move.TheOpen.{Move-F, Start-F}
use Rattle.c_code.specs.Looks.{Heap, read_in, moved_in}
use Rattle.c_code.specs.Coded.{Reached, At, Of, moving, coded, of_value, at_place, value, place, value_by, prefix_of, followed, indexed}
use Rattle.c_code.specs.Resolved as code
use Rattle.c_code.specs.Resolved.{Both, on, cell, cell_if, nothing, in_kind, static_start, variable_start, member}
use Rattle.c_code.specs.Laws.{bearings_of}
use Rattle.c_code.proofs.Parts.{OpenMove, move_at, move_layer, started, moved_on, moved_twice}
use Rattle.c_code.proofs.Seen.{read_seen, pointed_seen, moved_seen}

-- 1. Answers

value_bound : (v : Answer Value) (g : Reached → Answer Reached) → bind (of_value v) g ≡ bind v (λ x. g (Of x))
value_bound (Ok x) g = refl
value_bound (Err u) g = refl

place_bound : (p : Answer Place) (g : Reached → Answer Reached) → bind (at_place p) g ≡ bind p (λ x. g (At x))
place_bound (Ok x) g = refl
place_bound (Err u) g = refl

value_back : (v : Answer Value) → bind (of_value v) value ≡ v
value_back (Ok x) = refl
value_back (Err u) = refl

place_back : (p : Answer Place) → bind (at_place p) place ≡ p
place_back (Ok x) = refl
place_back (Err u) = refl

-- an answer after an answer, as what is reached
value_after : {A : Type 0} (a : Answer A) (g : A → Answer Value) → bind a (λ x. of_value (g x)) ≡ of_value (bind a g)
value_after (Ok x) g = refl
value_after (Err u) g = refl

place_after : {A : Type 0} (a : Answer A) (g : A → Answer Place) → bind a (λ x. at_place (g x)) ≡ at_place (bind a g)
place_after (Ok x) g = refl
place_after (Err u) g = refl

bound_twice : {A B C : Type 0} (a : Answer A) (g : A → Answer B) (k : B → Answer C) → bind (bind a g) k ≡ bind a (λ x. bind (g x) k)
bound_twice (Ok x) g k = refl
bound_twice (Err u) g k = refl

-- 2. Code in a context

module _ (c : Context) where
  abbrev heap : Heap
  heap = heap_of c.state

  -- code comes to a value, or to a place
  abbrev pub IsValue : Code → Answer Value → Type 0
  IsValue x v = coded x heap c.frame ≡ of_value v

  abbrev pub IsPlace : Code → Answer Place → Type 0
  IsPlace x p = coded x heap c.frame ≡ at_place p

  pub value_is : (x : Code) (v : Answer Value) → IsValue x v → value_by (coded x) heap c.frame ≡ v
  value_is x v e = ap (λ (r : Answer Reached). bind r value) e ∙ value_back v

  pub place_is : (x : Code) (p : Answer Place) → IsPlace x p → bind (coded x heap c.frame) place ≡ p
  place_is x p e = ap (λ (r : Answer Reached). bind r place) e ∙ place_back p

  -- one move more from a value, and from a place
  from_value : (x : Code) (v : Answer Value) (l : OpenMove) → IsValue x v
      → coded (on x (move_at l ∷ [])) heap c.frame ≡ bind v (λ y. moving (move_layer l) heap c.frame (Of y))
  from_value x v l e = moved_on x l heap c.frame
      ∙ ap (λ (r : Answer Reached). bind r (moving (move_layer l) heap c.frame)) e ∙ value_bound v (moving (move_layer l) heap c.frame)

  from_place : (x : Code) (p : Answer Place) (l : OpenMove) → IsPlace x p
      → coded (on x (move_at l ∷ [])) heap c.frame ≡ bind p (λ y. moving (move_layer l) heap c.frame (At y))
  from_place x p l e = moved_on x l heap c.frame
      ∙ ap (λ (r : Answer Reached). bind r (moving (move_layer l) heap c.frame)) e ∙ place_bound p (moving (move_layer l) heap c.frame)

  pub not_on : (x : Code) (v : Answer Value) → IsValue x v
      → IsValue (on x (go.Not ∷ [])) (bind v (λ x. bind (scalar x) (λ y. Ok (Scalar (truth (is_false y))))))
  not_on x v e = from_value x v Move-F.Not e ∙ value_after v (λ x. bind (scalar x) (λ y. Ok (Scalar (truth (is_false y)))))

  pub sign_on : (g : Sign) (k : Kind) (x : Code) (v : Answer Value) → IsValue x v → IsValue (on x (go.Sign g k ∷ [])) (bind v (on_number (prefix_of g) k))
  sign_on g k x v e = from_value x v (Move-F.Sign g k) e ∙ value_after v (on_number (prefix_of g) k)

  pub convert_on : (k : Kind) (x : Code) (v : Answer Value) → IsValue x v → IsValue (in_kind k x) (bind v (converted k))
  convert_on k x v e = from_value x v (Move-F.Convert k) e ∙ value_after v (converted k)

  pub follow_on : (x : Code) (v : Answer Value) → IsValue x v → IsPlace (on x (go.Follow ∷ [])) (bind v (pointed_value c))
  follow_on x v e = from_value x v Move-F.Follow e ∙ place_after v (followed heap)
      ∙ ap (λ (g : Cell → Answer Place). at_place (bind v (λ y. bind (scalar y) g))) (pointed_seen c.state)

  pub read_on : (k : Option Kind) (x : Code) (p : Answer Place) → IsPlace x p → IsValue (code.read c.scope.env k x) (bind p (read_place c k))
  read_on k x p e = from_place x p (Move-F.Read (known k) (cells_of c.scope.env (known k))) e
      ∙ value_after p (read_in heap (known k) (cells_of c.scope.env (known k)))
      ∙ ap (λ (g : Place → Answer Value). of_value (bind p g)) (read_seen c.state (known k) (cells_of c.scope.env (known k)))

  pub address_on : (x : Code) (p : Answer Place) → IsPlace x p → IsValue (on x (go.Address ∷ [])) (bind p (λ q. Ok (Scalar (to q))))
  address_on x p e = from_place x p Move-F.Address e ∙ value_after p (λ q. Ok (Scalar (to q)))

  pub field_on : (n : ℕ) (x : Code) (p : Answer Place) → IsPlace x p → IsPlace (on x (go.Field n ∷ [])) (bind p (λ q. moved c.state q (pos n)))
  field_on n x p e = from_place x p (Move-F.Field n) e ∙ place_after p (λ q. moved_in heap q (pos n))
      ∙ ap (λ (g : Place → ℤ → Answer Place). at_place (bind p (λ q. g q (pos n)))) (moved_seen c.state)

  -- the functions that look at a heap are those that look at the state
  abbrev followed_by : (Cell → Answer Place) → Value → Answer Place
  followed_by g y = bind (scalar y) g

  pub arrow_on : (n : ℕ) (x : Code) (v : Answer Value) → IsValue x v
      → IsPlace (on x (go.Follow ∷ go.Field n ∷ [])) (bind v (λ y. bind (pointed_value c y) (λ p. moved c.state p (pos n))))
  arrow_on n x v e =
      moved_twice x Move-F.Follow (Move-F.Field n) heap c.frame
      ∙ ap (λ (r : Answer Reached). bind (bind r (moving Move-F.Follow heap c.frame)) (moving (Move-F.Field n) heap c.frame)) e
      ∙ ap (λ (r : Answer Reached). bind r (moving (Move-F.Field n) heap c.frame))
      (value_bound v (moving Move-F.Follow heap c.frame) ∙ place_after v (followed heap))
      ∙ place_bound (bind v (followed heap)) (moving (Move-F.Field n) heap c.frame)
      ∙ place_after (bind v (followed heap)) (λ q. moved_in heap q (pos n))
      ∙ ap (λ (g : Cell → Answer Place). at_place (bind (bind v (followed_by g)) (λ q. moved_in heap q (pos n)))) (pointed_seen c.state)
      ∙ ap (λ (m : Place → ℤ → Answer Place). at_place (bind (bind v (pointed_value c)) (λ q. m q (pos n)))) (moved_seen c.state)
      ∙ ap at_place (bound_twice v (pointed_value c) (λ q. moved c.state q (pos n)))

  abbrev indexed_by : (Cell → Answer Place) → (Place → ℤ → Answer Place) → ℕ → Value → Value → Answer Place
  indexed_by g m n v i = bind (scalar i) (λ y. bind (number_of y) (λ k. bind (followed_by g v) (λ p. m p (k *ℤ pos n))))

  pub index_on : (n : ℕ) (x i : Code) (v w : Answer Value) → IsValue x v → IsValue i w
      → IsPlace (on x (go.Index i n ∷ [])) (bind v (λ y. bind w (indexed_by (pointed c.state) (moved c.state) n y)))
  index_on n x i v w e d =
      from_value x v (Move-F.Index i n) e
      ∙ place_after v (λ y. bind (value_by (coded i) heap c.frame) (indexed heap n y))
      ∙ ap (λ (z : Answer Value). at_place (bind v (λ y. bind z (indexed heap n y)))) (value_is i w d)
      ∙ ap (λ (g : Cell → Answer Place). at_place (bind v (λ y. bind w (indexed_by g (moved_in heap) n y)))) (pointed_seen c.state)
      ∙ ap (λ (m : Place → ℤ → Answer Place). at_place (bind v (λ y. bind w (indexed_by (pointed c.state) m n y)))) (moved_seen c.state)

  -- 3. Starts

  pub nothing_is : IsPlace nothing (Err undef.Kind)
  nothing_is = started Start-F.Nothing heap c.frame

  pub cell_is : (x : Cell) → IsValue (cell x) (Ok (Scalar x))
  cell_is x = started (Start-F.Cell x) heap c.frame

  pub literal_is : (ls : List Standing) (at : ℕ) → IsValue (cell_if (literal_in ls at)) (meaning.as_value (literal_in ls at))
  literal_is [] at = nothing_is
  literal_is (l ∷ ls) at =
      elim (l.start == at) as (λ b. let a : Answer Cell = if b then Ok (Ptr l.block 0) else literal_in ls at in IsValue (cell_if a) (meaning.as_value a))
      [ true ↦ cell_is (Ptr l.block 0) | false ↦ literal_is ls at ]

  pub routine_is : (n : ℕ) (rs : List Routine) (x : List ℕ) → IsValue (cell_if (routine_in n rs x)) (meaning.as_value (routine_in n rs x))
  routine_is n [] x = nothing_is
  routine_is n (r ∷ rs) x =
      elim (bytes_eq r.name x) as (λ b. let a : Answer Cell = if b then Ok (Func n) else routine_in (suc n) rs x in IsValue (cell_if a) (meaning.as_value a))
      [ true ↦ cell_is (Func n) | false ↦ routine_is (suc n) rs x ]

  static_is : (vs : List Fixed) (x : List ℕ) → IsPlace (static_start (static_in vs x)) (static_in vs x)
  static_is [] x = nothing_is
  static_is (v ∷ vs) x =
      elim (bytes_eq v.name x) as (λ b. let a : Answer Place =
      if b then Ok (record { block = v.block; at = 0 }) else static_in vs x in IsPlace (static_start a) a)
      [ true ↦ started (Start-F.Block v.block) heap c.frame | false ↦ static_is vs x ]

  variable_at : (x : List ℕ) (o : Option ℕ) → IsPlace (variable_start (bearings_of c) x o) (place_by c x o)
  variable_at x (Some n) = started (Start-F.Local n) heap c.frame
  variable_at x None = static_is c.state.statics x

  pub variable_is : (x : List ℕ) → IsPlace (code.variable (bearings_of c) x) (meaning.variable_place c x)
  variable_is x = variable_at x (variable_in c.scope.variables x)

  pub member_is : (s : Option Sort) → IsValue (member s) (member_number s)
  member_is (Some (sort.Member z)) = cell_is (Int z)
  member_is s = nothing_is

  -- 4. Operators before an operand

  -- a value and a place by code and by meaning
  pub record BothAre (a : Both) (b : meaning.Both) : Type 0 where
    pub value : IsValue a.value (b.value tt)
    pub place : IsPlace a.place (b.place tt)

  pub before_is : (p : Prefix) (r : Option Kind) (a : Both) (b : meaning.Both) → BothAre a b → BothAre (code.before c.scope.env p r a) (meaning.before c p r b)
  before_is prefix.Not r a b e = record { value = not_on a.value (b.value tt) e.value; place = nothing_is }
  before_is prefix.Deref r a b e =
      let q : IsPlace (on a.value (go.Follow ∷ [])) (bind (b.value tt) (pointed_value c)) = follow_on a.value (b.value tt) e.value in
      record { value = read_on r (on a.value (go.Follow ∷ [])) (bind (b.value tt) (pointed_value c)) q; place = q }
  before_is prefix.AddressOf r a b e = record { value = address_on a.place (b.place tt) e.place; place = nothing_is }
  before_is (prefix.Cast t) r a b e = record { value = convert_on (known r) a.value (b.value tt) e.value; place = nothing_is }
  before_is prefix.Plus r a b e = record { value = sign_on sign.Plus (known r) a.value (b.value tt) e.value; place = nothing_is }
  before_is prefix.Minus r a b e = record { value = sign_on sign.Minus (known r) a.value (b.value tt) e.value; place = nothing_is }
  before_is prefix.Complement r a b e = record { value = sign_on sign.Complement (known r) a.value (b.value tt) e.value; place = nothing_is }
