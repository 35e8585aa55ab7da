-- The unit of a program runs as the program does.
use Rattle.std.proofs.Common.{◌≡◌, ◌∙◌, refl, sym, ap₂, subst, ℕ, ◌+◌, ◌<◌, ◌^◌, List, [], ◌∷◌, codes, Some, append-nil, arith}
use Rattle.vg_base.specs.World.{World}
use Rattle.vg_base.specs.Headline.{Headline, observed, WithinLimits}
use Rattle.vg_base.specs.Machine.{most}
use Rattle.c_tree.specs.declared.unit.Function.{Function as Definition}
use Rattle.c_tree.specs.declared.unit.Include.TheVariants as include
use Rattle.c_tree.specs.declared.unit.Item.TheVariants as item
use Rattle.c_tree.specs.declared.unit.Unit.{Unit as CUnit}
use Rattle.c_tree.specs.declared.code.Block.{out-Block}
use Rattle.c_tree.specs.Kinds.{int}
use Rattle.c_tree.specs.Env.{Env, opened}
use Rattle.c_tree.specs.Unit.{with_parameters}
use Rattle.c_meaning.specs.State
use Rattle.c_meaning.specs.State.{Literal, Scope, Body}
use Rattle.c_meaning.specs.Layout.{kind, declared}
use Rattle.c_meaning.specs.Values.{Program}
use Rattle.c_meaning.specs.Code.{Slot, reading, program_by, body_of, literals_of, locals_of, slots, kinds_cells, parameter_kinds, parameter_variables, texts_of, block_texts}
use Rattle.c_meaning.specs.Blocks.{next_block}
use Rattle.c_meaning.specs.Runs.{nothing, with_literals, with_types, with_name, with_main, meaning, CRun}
use Rattle.c_emit.specs.Program.{Program as Texts, AreTexts}
use Rattle.c_places.specs.Apart.{Rise, StandApart}
use Rattle.c_emit.specs.Laws.{EmittedUnitsRun, EmittedUnitsStayWithin}
use Rattle.c_emit.specs.VMeaning.{v_meaning, v_opening, VRun}
use Rattle.c_emit.proofs.States.{IsReady, ready_literals, ready_types, ready_name, held_on}
use Rattle.c_emit.proofs.Steps.{program}
use Rattle.c_emit.proofs.Simulation.{IsBefore, agree, nothing_counted}
use Rattle.c_emit.proofs.Bodies.{IsCoded, body_is, scope_in}
use Rattle.c_emit.proofs.Units.{unit_is, texts_kind}

below : (limit count : ℕ) → 0 < limit → count ≡ 0 → count < limit
below limit count some h = omega arith

some_limit : 0 < 2 ^ 63
some_limit = omega arith

-- a unit with such a `main`
abbrev unit_with : Definition → CUnit
unit_with main = record { items = item.Include include.Glib ∷ item.Function main ∷ [] }

module _ (texts : Texts) (bytes : AreTexts texts) (main : Definition) (named : main.signature.name.text ≡ codes "main")
    (gives : (env : Env) → kind env main.signature.result ≡ int)
    (takes : (env : Env) → parameter_kinds env main.signature.parameters ≡ int ∷ texts_kind ∷ []) (coded : IsCoded texts main.body) where
  abbrev env : Env
  env = declared (unit_with main)

  abbrev body : Body
  body = body_of reading env main

  abbrev p : Program
  p = program env (codes "main") body

  -- the places of the locals of the body, and what is in scope
  abbrev all_slots : List Slot
  all_slots = slots env (kinds_cells env (parameter_kinds env main.signature.parameters)) (locals_of main.body)

  abbrev outer : Scope
  outer = record { env = with_parameters (opened env) main.signature.parameters; variables = parameter_variables env 0 main.signature.parameters }

  abbrev inner : Scope
  inner = scope_in all_slots outer (out-Block main.body).locals

  program_is : program_by reading (unit_with main) ≡ p
  program_is = ap₂ (λ x k. record { env = env; routines = record { name = x; result = k; body = Some body } ∷ []; meant = reading.meant }) named (gives env)

  abbrev made : World → List Literal → State.State
  made w ls = with_types (with_literals (nothing w) ls)

  -- the state before `main`
  abbrev opening : Program → World → List Literal → State.State
  opening q w ls = with_main q (made w ls) w.name

  literals_are : literals_of reading (unit_with main).items ≡ coded.literals
  literals_are = append-nil (block_texts texts_of main.body) ∙ coded.stand

  is_before : (w : World) → Rise 0 coded.literals → IsBefore env (codes "main") body inner texts_kind (takes env) refl texts (opening p w coded.literals)
  is_before w r =
      let s : State.State = with_name (made w coded.literals) w.name in
      let ready : IsReady s coded.literals =
      ready_name (made w coded.literals) w.name coded.literals
      (ready_types (with_literals (nothing w) coded.literals) coded.literals (ready_literals w coded.literals r)) in
      record {
        block = 1 + next_block (made w coded.literals);
        quiet = record { ended = ready.quiet.ended; blocks = ready.quiet.blocks; last = ready.quiet.last };
        work = refl;
        literals = coded.literals;
        code = coded.code all_slots outer;
        held = held_on s (opening p w coded.literals) coded.literals refl refl ready.held;
        bytes = bytes;
      }

  abbrev Runs : Program → World → List Literal → Type 0
  Runs q w ls = Headline (observed v_meaning (v_opening texts)) (observed (meaning q) (opening q w ls))

  pub runs : (w : World) → StandApart (unit_with main) → Headline (VRun texts w) (CRun (unit_with main) w)
  runs w apart =
      let rise : Rise 0 coded.literals = subst (Rise 0) literals_are apart in
      let run : Runs p w coded.literals =
      agree env (codes "main") body inner texts_kind (takes env) refl texts (opening p w coded.literals) (is_before w rise) in
      subst (λ ls. Runs (program_by reading (unit_with main)) w ls) (sym literals_are) (subst (λ q. Runs q w coded.literals) (sym program_is) run)

  pub within_limits : (w : World) → StandApart (unit_with main) → (n : ℕ) → WithinLimits (CRun (unit_with main) w) n
  within_limits w apart n =
      let rise : Rise 0 coded.literals = subst (Rise 0) literals_are apart in
      let counted : most (meaning p).machine n (opening p w coded.literals) ≡ 0 =
      nothing_counted env (codes "main") body inner texts_kind (takes env) refl texts (opening p w coded.literals) (is_before w rise) n in
      below (2 ^ 63) (most (meaning (program_by reading (unit_with main))).machine n
      (opening (program_by reading (unit_with main)) w (literals_of reading (unit_with main).items))) some_limit
      (ap₂ (λ q ls. most (meaning q).machine n (opening q w ls)) program_is literals_are ∙ counted)

pub emitted_within : EmittedUnitsStayWithin
emitted_within texts u w n bytes same apart =
    let m = unit_is texts u same in
    let is : u ≡ unit_with m.main = λ i. record { items = m.alone i } in
    subst (λ x. WithinLimits (CRun x w) n) (sym is)
    (within_limits texts bytes m.main m.named m.gives m.takes (body_is texts m.main.body m.body) w (subst StandApart is apart) n)

pub emitted_run : EmittedUnitsRun
emitted_run texts u w bytes same apart =
    let m = unit_is texts u same in
    let is : u ≡ unit_with m.main = λ i. record { items = m.alone i } in
    subst (λ x. Headline (VRun texts w) (CRun x w)) (sym is)
    (runs texts bytes m.main m.named m.gives m.takes (body_is texts m.main.body m.body) w (subst StandApart is apart))
