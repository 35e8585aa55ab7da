-- No thing is ever made by a program, so no count is above 0, and all its prints go to the output.
use Rattle.std.proofs.Common.{◌≡◌, ℕ, zero, suc, ◌^◌, ◌<◌, List, [], ◌∷◌, ◌++◌, Option, Some, None, map, refl, ap, ◌∙◌, arith}
use Rattle.vg_base.specs.declared.event.Stream.TheVariants.{Err}
use Rattle.vg_base.specs.declared.event.VEnd.{VEnd}
use Rattle.vg_base.specs.Machine.{unless_ended, move, most, said}
use Rattle.vg_base.specs.World.{World}
use Rattle.vg_base.specs.Headline.{WithinLimits, printed}
use Rattle.vg_base.specs.Laws.{printed_by}
use Rattle.vg_base.proofs.HeadlineLaws.{printed_by_append}
use Rattle.c_emit.specs.Program.{Program}
use Rattle.c_emit.specs.VMeaning.{VState, Living, Item, Call, Statement, Evaluate, PrintGiven, Leave, Value, Literal, Thing, VRun, v_meaning, v_opening, v_next, print_given, most_owned, owners}

-- 1. Counts

print_keeps : (s : VState) (work : List Item) (values : List Value) → (print_given s work values).0.things ≡ s.things
print_keeps s work [] = refl
print_keeps s work (Literal bytes ∷ values) = refl
print_keeps s work (Thing n ∷ values) = refl

next_keeps : (s : VState) (o : Option VEnd) (work : List Item) → (unless_ended o s (v_next s work)).0.things ≡ s.things
next_keeps s (Some e) work = refl
next_keeps s None [] = refl
next_keeps s None (Call program ∷ work) = refl
next_keeps s None (Statement text ∷ work) = refl
next_keeps s None (Evaluate text ∷ work) = refl
next_keeps s None (PrintGiven ∷ work) = print_keeps s work s.values
next_keeps s None (Leave ∷ work) = refl

-- with no thing there are no owners
no_owner : (s : VState) → s.things ≡ [] → v_meaning.machine.top s ≡ 0
no_owner s h = ap (λ things. most_owned (map (λ (t : Living). record { kind = t.kind; serial = t.serial; owners = owners s.places t.serial }) things)) h

most_none : (n : ℕ) (s : VState) → s.things ≡ [] → most v_meaning.machine n s ≡ 0
most_none zero s h = no_owner s h
most_none (suc n) s h =
    let here = no_owner s h in
    let later = most_none n (move v_meaning.machine s).0 (next_keeps s s.ended s.work ∙ h) in
    omega (arith, here, later)

below : (limit count : ℕ) → 0 < limit → count ≡ 0 → count < limit
below limit count some h = omega arith

some_limit : 0 < 2 ^ 63
some_limit = omega arith

pub program_within : (program : Program) (w : World) (n : ℕ) → WithinLimits (VRun program w) n
program_within program w n = below (2 ^ 63) _ some_limit (most_none n (v_opening program) refl)

-- 2. Prints

print_quiet : (s : VState) (work : List Item) (values : List Value) → printed_by Err (print_given s work values).1 ≡ []
print_quiet s work [] = refl
print_quiet s work (Literal bytes ∷ values) = refl
print_quiet s work (Thing n ∷ values) = refl

next_quiet : (s : VState) (o : Option VEnd) (work : List Item) → printed_by Err (unless_ended o s (v_next s work)).1 ≡ []
next_quiet s (Some e) work = refl
next_quiet s None [] = refl
next_quiet s None (Call program ∷ work) = refl
next_quiet s None (Statement text ∷ work) = refl
next_quiet s None (Evaluate text ∷ work) = refl
next_quiet s None (PrintGiven ∷ work) = print_quiet s work s.values
next_quiet s None (Leave ∷ work) = refl

quiet : (n : ℕ) (s : VState) → printed_by Err (said v_meaning.machine n s) ≡ []
quiet zero s = refl
quiet (suc n) s =
    printed_by_append Err (move v_meaning.machine s).1 (said v_meaning.machine n (move v_meaning.machine s).0)
    ∙ ap (λ l. l ++ printed_by Err (said v_meaning.machine n (move v_meaning.machine s).0)) (next_quiet s s.ended s.work)
    ∙ quiet n (move v_meaning.machine s).0

pub program_quiet : (program : Program) (w : World) (n : ℕ) → printed Err ((VRun program w).trace n) ≡ []
program_quiet program w n = quiet n (v_opening program)
