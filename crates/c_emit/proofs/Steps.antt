-- The steps of a `main` that prints texts and returns 0.
use Rattle.std.proofs.Common.{◌≡◌, ◌∙◌, refl, ap, ℕ, zero, suc, ◌+◌, ◌-◌, ◌*◌, true, false, List, [], ◌∷◌, ◌++◌, length, codes, pos, Option, Some, None, Ok, drop, arith}
use Rattle.std.specs.Prelude.{slice_get}
use Rattle.vg_base.specs.declared.event.CEnd.TheVariants as «end»
use Rattle.vg_base.specs.declared.event.Event.TheVariants.{Print}
use Rattle.vg_base.specs.declared.event.Stream.TheVariants.{Out}
use Rattle.vg_base.specs.Headline.{Happens}
use Rattle.c_tree.specs.declared.names.Name.{Name}
use Rattle.c_tree.specs.declared.code.Expr.{Expr}
use Rattle.c_tree.specs.declared.code.Call.{Call}
use Rattle.c_tree.specs.declared.code.Callee.TheVariants as callee
use Rattle.c_tree.specs.declared.kinds.Kind.{Kind}
use Rattle.c_tree.specs.Kinds.{int, is_struct}
use Rattle.c_tree.specs.Library.{Pointer, Any}
use Rattle.c_tree.specs.Env.{Env}
use Rattle.c_meaning.specs.declared.cell.Cell.{Cell}
use Rattle.c_meaning.specs.declared.cell.Cell.TheVariants.{Int, Ptr}
use Rattle.c_meaning.specs.State
use Rattle.c_meaning.specs.State.{Block, Place, Literal, Value, Scalar, Scope, Statement, Body, Frame, Item, Run, Enter, Finish, CallOf, Return}
use Rattle.c_meaning.specs.Blocks.{Answer, bind, on, happens, block_at, block_of, live_block, plain, say_gone, make, next_block, with_block, unset}
use Rattle.c_meaning.specs.Numbers.{scalar, converted}
use Rattle.c_meaning.specs.Texts.{bytes_in, text_of, give_nothing}
use Rattle.c_meaning.specs.BlockRows.{TypeArgument, print_to}
use Rattle.c_meaning.specs.Rows.{does, declared_row}
use Rattle.c_meaning.specs.Values.{Context, Program, Here, here, meant, literal_in, as_value}
use Rattle.c_meaning.specs.Steps.{step, settle, settled, enough, is_silent, first_is_silent, do_first, do_next, run_statement, at_frame, call, call_by, call_row, row_cells, type_argument, onward, leave, return_value, argument_cells, enter_with}
use Rattle.c_emit.specs.Program.{Program as Texts, IsText}
use Rattle.c_emit.specs.Emission.{format_of}
use Rattle.c_emit.proofs.Formats.{cells_read, format_text, format_written}
use Rattle.c_emit.proofs.States.{Holds}

-- 1. Code

-- a value that is a literal which stands at a place
abbrev pub IsLiteralAt : ℕ → Expr → Type 0
IsLiteralAt start e = (c : Context) → (meant e).value c ≡ as_value (literal_in c.state.literals start)

-- a call that prints a text, by the format that stands at a place
pub record IsPrint (start : ℕ) (call : Call) : Type 0 where
  pub row : Name
  pub literal : Expr
  pub is_row : call.callee ≡ callee.Row row
  pub named : row.text ≡ codes "g_print"
  pub arguments : call.arguments ≡ literal ∷ []
  pub stands : IsLiteralAt start literal

-- a value that is 0
abbrev pub IsZero : Expr → Type 0
IsZero e = (c : Context) → (meant e).value c ≡ Ok (Scalar (Int (pos 0)))

abbrev pub statement : Scope → State.Act → Statement
statement sc a = record { scope = sc; act = a }

abbrev pub format_at : ℕ → List ℕ → Literal
format_at start text = record { start = start; bytes = format_of text }

-- statements that print texts by literals, and then return 0
pub data Prints (sc : Scope) : Texts → List Literal → List Statement → Type 0 where
  returns : (e : Expr) → IsZero e → Prints sc [] [] (statement sc (Return (Some e)) ∷ [])
  prints : (text : List ℕ) (start : ℕ) (call : Call) {texts : Texts} {ls : List Literal} {code : List Statement} → IsPrint start call → Prints sc texts ls code
      → Prints sc (text ∷ texts) (format_at start text ∷ ls) (statement sc (CallOf call) ∷ code)

-- the first statement from a place on, and those behind it
pub got : (code : List Statement) (k : ℕ) (t : Statement) (more : List Statement) → drop k code ≡ t ∷ more → slice_get code k ≡ Some t
got [] zero t more e = absurd cc
got [] (suc k) t more e = absurd cc
got (x ∷ code) zero t more e = cc
got (x ∷ code) (suc k) t more e = got code k t more e

pub behind : (code : List Statement) (k : ℕ) (t : Statement) (more : List Statement) → drop k code ≡ t ∷ more → drop (suc k) code ≡ more
behind [] zero t more e = absurd cc
behind [] (suc k) t more e = absurd cc
behind (x ∷ code) zero t more e = cc
behind (x ∷ code) (suc k) t more e = behind code k t more e

-- 2. Steps

abbrev pub frame : ℕ → ℕ → Frame
frame at block = record { routine = 0; at = at; block = block }

module _ (env : Env) (name : List ℕ) (body : Body) where
  -- a unit with `main` alone
  abbrev pub program : Program
  program = record { env = env; routines = record { name = name; result = int; body = Some body } ∷ []; meant = meant }

  still : (n : ℕ) (s : State.State) → first_is_silent program s.ended s.work ≡ false → settled program n s ≡ s
  still zero s e = refl
  still (suc n) s e = ap (λ b. elim b as (λ t. State.State) [ true ↦ settled program n (do_first program s s.work) | false ↦ s ]) e

  -- such a statement is no silent item
  pub not_silent : (k b : ℕ) (sc : Scope) {texts : Texts} {ls : List Literal} {code : List Statement} → drop k body.code ≡ code → Prints sc texts ls code
      → is_silent program (Run (frame k b)) ≡ false
  not_silent k b sc e (returns a z) = rw (got body.code k _ _ e) refl
  not_silent k b sc e (prints text start x {code = more} p q) = rw (got body.code k _ _ e) refl

  -- a call that prints
  abbrev pub after_print : State.State → ℕ → ℕ → List ℕ → State.State
  after_print s k b text = record s { work = Run (frame (suc k) b) ∷ Finish ∷ []; said = Happens (Print Out text) ∷ []; given = None }

  -- where the first item of the work is off
  abbrev taken : State.State → State.State
  taken s = record s { said = []; work = Finish ∷ [] }

  abbrev at_work : State.State → Scope → ℕ → Here
  at_work s sc b = here program s sc b

  literal_text : (s : State.State) (start : ℕ) (text : List ℕ) (h : Holds s (format_at start text)) → IsText text
      → text_of s (Ptr h.block 0) ≡ Ok (format_of text)
  literal_text s start text h t =
      ap (λ o. bind {A = Place} (bind (live_block o) (λ x. Ok (record { block = h.block; at = 0 })))
      (λ p. bind (block_of s p.block) (λ b. bytes_in (drop p.at b.cells)))) h.cells
      ∙ ap (λ o. bind (live_block o) (λ b. bytes_in (drop 0 b.cells))) h.cells
      ∙ cells_read (format_of text) (format_text text t)

  abbrev prints_to : State.State → TypeArgument → Answer (List Cell) → State.State
  prints_to s t a = on s a (print_to Out s t)

  abbrev says : State.State → Answer (List ℕ) → State.State
  says s a = on s a (λ bytes. give_nothing (happens s (Print Out bytes)))

  printed : (s : State.State) (k b : ℕ) (sc : Scope) (start : ℕ) (x : Call) (text : List ℕ) → IsPrint start x → (h : Holds s (format_at start text))
      → IsText text
      → call (at_work (taken s) sc b) (onward (taken s) (frame k b)) x ≡ after_print s k b text
  printed s k b sc start x text p h t =
      let c : Here = at_work (taken s) sc b in
      let u : State.State = onward (taken s) (frame k b) in
      let g : TypeArgument = type_argument env x.type_argument in
      let v : Holds u (format_at start text) = record { block = h.block; found = h.found; cells = h.cells } in
      ap (call_by c u x) p.is_row
      ∙ ap (λ y. call_row c u x (declared_row y) (does y)) p.named
      ∙ ap (λ es. prints_to u g (row_cells c (Pointer ∷ Any ∷ []) es)) p.arguments
      ∙ ap (λ a. prints_to u g (bind (bind a scalar) (λ y. Ok (y ∷ [])))) (p.stands c.context ∙ ap as_value h.found)
      ∙ ap (says u) (format_written u (Ptr h.block 0) text (literal_text u start text v t))

  pub print_step : (s : State.State) (k b : ℕ) (sc : Scope) (start : ℕ) (x : Call) (text : List ℕ) → s.ended ≡ None → s.work ≡ Run (frame k b) ∷ Finish ∷ []
      → slice_get body.code k ≡ Some (statement sc (CallOf x)) → IsPrint start x → Holds s (format_at start text) → IsText text
      → is_silent program (Run (frame (suc k) b)) ≡ false → step program s ≡ after_print s k b text
  print_step s k b sc start x text e w g p h t q =
      ap (λ is. settle program (do_next program (record s { said = [] }) is)) w
      ∙ ap (λ o. settle program (run_statement program (taken s) (frame k b) (at_frame program (frame k b)) o)) g
      ∙ ap (settle program) (printed s k b sc start x text p h t)
      ∙ still (enough (after_print s k b text)) (after_print s k b text) (ap (λ o. first_is_silent program o (Run (frame (suc k) b) ∷ Finish ∷ [])) e ∙ q)

  -- `return 0;`
  abbrev pub after_return : State.State → ℕ → List Cell → State.State
  after_return s b cells =
      record s {
        blocks = with_block s.blocks b (record (plain cells) { is_live = false });
        work = [];
        said = [];
        given = Some (Scalar (Int (pos 0)));
        ended = Some («end».Ended (pos 0));
      }

  abbrev leaving : State.State → ℕ → List Cell → State.State
  leaving s b cells = record (taken s) { blocks = with_block s.blocks b (record (plain cells) { is_live = false }); given = Some (Scalar (Int (pos 0))) }

  abbrev given_back : State.State → ℕ → Option Block → State.State
  given_back s b o = record
      (on s (live_block o) (λ x. say_gone (record s { blocks = with_block s.blocks b (record x { is_live = false }) }) x.thing)) {
        given =
            Some (Scalar (Int (pos 0)));
      }

  returned : (s : State.State) (k b : ℕ) (sc : Scope) (a : Expr) (cells : List Cell) → IsZero a → block_at s.blocks b ≡ Some (plain cells)
      → return_value (at_work (taken s) sc b) (taken s) (frame k b) int (Some a) ≡ leaving s b cells
  returned s k b sc a cells z h =
      ap (λ v. on (taken s) (bind v (converted int)) (λ v. leave (taken s) (frame k b) (Some v))) (z (at_work (taken s) sc b).context)
      ∙ ap (given_back (taken s) b) h

  count : (n m : ℕ) → 128 * (1 + 1 + n + m) ≡ suc (255 + 128 * (n + m))
  count n m = omega arith

  finished : (s : State.State) (b : ℕ) (cells : List Cell) → s.ended ≡ None → settle program (leaving s b cells) ≡ after_return s b cells
  finished s b cells e =
      ap (λ n. settled program n (leaving s b cells)) (count (length s.handlers) (length s.sources))
      ∙ ap (λ o. elim (first_is_silent program o (Finish ∷ [])) as
      (λ t. State.State) [
        | true ↦ settled program (255 + 128 * (length s.handlers + length s.sources))
            (do_first program (leaving s b cells) (Finish ∷ []))
        | false ↦ leaving s b cells
      ]) e
      ∙ still (255 + 128 * (length s.handlers + length s.sources)) (after_return s b cells) refl

  pub return_step : (s : State.State) (k b : ℕ) (sc : Scope) (a : Expr) (cells : List Cell) → s.ended ≡ None → s.work ≡ Run (frame k b) ∷ Finish ∷ []
      → slice_get body.code k ≡ Some (statement sc (Return (Some a))) → IsZero a → block_at s.blocks b ≡ Some (plain cells)
      → step program s ≡ after_return s b cells
  return_step s k b sc a cells e w g z h =
      ap (λ is. settle program (do_next program (record s { said = [] }) is)) w
      ∙ ap (λ o. settle program (run_statement program (taken s) (frame k b) (at_frame program (frame k b)) o)) g
      ∙ ap (settle program) (returned s k b sc a cells z h)
      ∙ finished s b cells e

  -- the entry of `main`
  abbrev pub frame_cells : ℕ → List Cell
  frame_cells b = (Int (pos 1) ∷ Ptr b 0 ∷ []) ++ unset (body.cells - 2)

  abbrev pub after_entry : State.State → ℕ → State.State
  after_entry s b = record (make (taken s) (frame_cells b)) { work = Run (frame 0 (next_block s)) ∷ Finish ∷ [] }

  abbrev pub arguments_of : ℕ → List Value
  arguments_of b = Scalar (Int (pos 1)) ∷ Scalar (Ptr b 0) ∷ []

  abbrev enter_body_with : State.State → ℕ → List Kind → State.State
  enter_body_with s b ks = on (taken s) (argument_cells env ks (arguments_of b)) (enter_with (taken s) 0 body.cells)

  taken_in : (s : State.State) (b : ℕ) (k : Kind) → is_struct k ≡ false → enter_body_with s b (int ∷ k ∷ []) ≡ after_entry s b
  taken_in s b k h = rw h refl

  pub enter_step : (s : State.State) (b : ℕ) (k : Kind) → s.ended ≡ None → s.work ≡ Enter 0 (arguments_of b) ∷ Finish ∷ [] → body.parameters ≡ int ∷ k ∷ []
      → is_struct k ≡ false
      → is_silent program (Run (frame 0 (next_block s))) ≡ false → step program s ≡ after_entry s b
  enter_step s b k e w p h q =
      ap (λ is. settle program (do_next program (record s { said = [] }) is)) w
      ∙ ap (λ ks. settle program (enter_body_with s b ks)) p
      ∙ ap (settle program) (taken_in s b k h)
      ∙ still (enough (after_entry s b)) (after_entry s b) (ap (λ o. first_is_silent program o (Run (frame 0 (next_block s)) ∷ Finish ∷ [])) e ∙ q)
