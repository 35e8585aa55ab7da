-- Functions are called and entered, and what was given is kept.
use Rattle.std.proofs.Common.{◌≡◌, ◌∙◌, refl, sym, ap, ℕ, ◌+◌, ◌==◌, ◌≤◌, ◌<◌, take, get_or, Bool, List, [], ◌∷◌, ◌++◌, drop, length, map, Option, Some, None, Result, Ok, Err, false, is_ok, is_err, cond}
use Rattle.std.proofs.Common.{Bor}
use Rattle.std.specs.Option.{option_copied, option_map}
use Rattle.std.specs.Prelude.{if◌then◌else◌}
use Rattle.std.proofs.lemmas.List.{append-nil, drop_all, length-map, map-append, take_more}
use Rattle.vg_base.specs.declared.event.UndefKind.TheVariants as undef
use Rattle.c_tree.specs.Kinds.{is_struct}
use Rattle.c_tree.specs.Env.{Env, cells_of}
use Rattle.c_meaning.specs.State
use Rattle.c_meaning.specs.State.{Enter, Place, Scalar}
use Rattle.c_meaning.specs.declared.cell.Cell.{Cell}
use Rattle.c_meaning.specs.Blocks.{Answer, on, bind, undefined}
use Rattle.c_meaning.specs.Numbers.{converted}
use Rattle.c_meaning.specs.TypeRows.{push}
use Rattle.c_meaning.specs.Steps.{is_same_sort, keep, scalars, store}
use Rattle.c_code.specs.declared.value.Value.{Value}
use Rattle.c_code.specs.declared.value.Value.TheVariants as value
use Rattle.c_code.specs.declared.program.Body.{Body}
use Rattle.c_code.specs.declared.program.Routine.{Routine}
use Rattle.c_code.specs.declared.program.Taken.{Taken}
use Rattle.c_code.specs.Values.{value_seen}
use Rattle.c_code.specs.Machine.{argument_cells, body_of, enter_body, enter_routine}
use Rattle.c_steps.specs.Performs.{kept}

-- a function is entered by its body
pub entered : (s : State.State) (n : ℕ) (r : Option Routine) (vs : List State.Value) → enter_routine s n r vs ≡ enter_body s n (body_of r) vs
entered s n None vs = refl
entered s n (Some r) vs = refl

-- a body that takes as many values, or not
pub taken_by : (s : State.State) (n : ℕ) (b : Body) (values : List Value) (told : Bool) → told ≡ (length b.parameters == length values)
    → enter_body s n (Some b) (map value_seen values) ≡ (if told then push (Enter n (map value_seen values) ∷ []) s else undefined s undef.Func)
taken_by s n b values told is =
    ap (λ (t : Bool). if t then push (Enter n (map value_seen values) ∷ []) s else undefined s undef.Func)
    (ap (λ (k : ℕ). length b.parameters == k) (length-map values value_seen) ∙ sym is)

-- what a place takes fits it by its cells
pub keeps_kept : (env : Env) (s : State.State) (p : Place) (t : Taken) (g : Option State.Value) → t.cells ≡ cells_of env t.kind
    → keep env s p t.kind g ≡ on s (kept t g) (store s p)
keeps_kept env s p t None sized = refl
keeps_kept env s p t (Some v) sized =
    ap (λ n. on s (bind (if is_same_sort (is_struct t.kind) n v then Ok v else Err undef.Kind) (converted t.kind)) (store s p)) (sym sized)

-- what a borrow of what was given shows
pub seen_given : (o : Option (Bor Value)) (given : Option Value) → option_copied o ≡ given
    → option_map (λ (v : Bor Value). value_seen v.now) o ≡ option_map value_seen given
seen_given None given is = ap (option_map value_seen) is
seen_given (Some v) given is = ap (option_map value_seen) is

-- where no argument is left, no cell is
none_fit : (ts : List Taken) → argument_cells ts [] ≡ Ok []
none_fit [] = refl
none_fit (t ∷ ts) = refl

-- the cells of all arguments
pub all_fit : (ts : List Taken) (values : List Value) (cells : List Cell) (i : ℕ) → length values ≤ i
    → argument_cells ts (map value_seen values) ≡ bind (argument_cells (drop i ts) (map value_seen (drop i values))) (λ cs. Ok (cells ++ cs))
    → argument_cells ts (map value_seen values) ≡ Ok cells
all_fit ts values cells i done so_far =
    so_far ∙ ap (λ vs. bind (argument_cells (drop i ts) (map value_seen vs)) (λ cs. Ok (cells ++ cs))) (drop_all i values done)
    ∙ ap (λ (a : Answer (List Cell)). bind a (λ cs. Ok (cells ++ cs))) (none_fit (drop i ts)) ∙ ap Ok (append-nil cells)

-- what was pushed stands last
pub stands_last : {A E T : Type 0} (r : Result A E) (now long short : List T) → is_err r ≡ false → now ≡ cond (is_ok r) long short → now ≡ long
stands_last (Ok x) now long short ok is = is
stands_last (Err e) now long short ok is = cc

-- cells as values, one by one
scalars-append : (xs ys : List Cell) → scalars (xs ++ ys) ≡ scalars xs ++ scalars ys
scalars-append [] ys = refl
scalars-append (x ∷ xs) ys = ap (λ vs. Scalar x ∷ vs) (scalars-append xs ys)

pub one_more_scalar : (cells : List Cell) (i : ℕ) (d : Cell) (values more : List Value) → i < length cells → more ≡ values ++ value.Scalar (get_or cells i d) ∷ []
    → map value_seen values ≡ scalars (take i cells) → map value_seen more ≡ scalars (take (i + 1) cells)
one_more_scalar cells i d values more within is so_far =
    let x : Cell = get_or cells i d in
    ap (map value_seen) is ∙ map-append value_seen values (value.Scalar x ∷ []) ∙ ap (λ vs. vs ++ Scalar x ∷ []) so_far
    ∙ sym (scalars-append (take i cells) (x ∷ [])) ∙ ap scalars (sym (take_more cells i d within))
