-- What words ask for is in bounds.
use Rattle.std.proofs.Common.{◌≡◌, ◌≢◌, ◌∙◌, ℕ, ◌≤◌, Bool, true, false, ◌&&◌, ◌||◌, not, List, [], ◌∷◌, length, refl, sym, ap, subst, arith, nat_le, leb-true}
use Rattle.std.proofs.Common.{true≢false}
use Rattle.std.specs.Prelude.{None, Option, Some, if◌then◌else◌, option_map}
use Rattle.std.specs.Option.{unwrap_or}
use Rattle.std.specs.List.{AllByRecursion, list_all}
use Rattle.std.specs.Str.{bytes_eq}
use Rattle.std.specs.Str.Parse.{digits_value}
use Rattle.std.proofs.lemmas.Cmp.{nat_list_eq_equiv}
use Rattle.std.proofs.lemmas.Option.{option_and_then_some}
use Rattle.vg_base.specs.World.{IsName, is_digit, is_letter, is_word_byte}
use Rattle.clap.specs.Words.{Text}
use Rattle.command_line.specs.declared.choice.Command.{Command}
use Rattle.command_line.specs.Given.{Gift, given_by}
use Rattle.command_line.specs.Laws.{AskInBounds, IsInBounds}
use Rattle.command_line.specs.Line.{faults, found_in}
use Rattle.command_line.specs.Meaning.{Meaning, asked_by, asked_in, asked_with, checked_name, fits, has_bytes, is_file_count, is_flawless, is_input}
use Rattle.command_line.specs.Meaning.{is_name, is_number, keeps_files, most_files, most_steps, name_by, steps_by, takes_options, writes}
use Rattle.command_line.specs.Names.{c_file, first_word, name_of}
use Rattle.command_line.proofs.Names.{name_is}

both : (a b : Bool) → (a && b) ≡ true → (a ≡ true) × (b ≡ true)
both true b e = (refl, e)
both false b e = absurd (true≢false (sym e))

-- what is there under a test passed it
passed : {X : Type 0} (b : Bool) (o : Option X) (x : X) → (if b then o else None) ≡ Some x → (b ≡ true) × (o ≡ Some x)
passed true o x e = (refl, e)
passed false o x e = absurd (none_is_some x e)
  where
    none_is_some : {X : Type 0} (x : X) → None ≡ Some x → ⊥
    none_is_some x e = true≢false (sym (ap (λ o. Rattle.std.specs.Option.is_some o) e))

same_value : {X : Type 0} (x y : X) → Some x ≡ Some y → x ≡ y
same_value x y e = ap (λ o. unwrap_or o x) e

mapped : {X Y : Type 0} (f : X → Y) (o : Option X) (y : Y) → option_map f o ≡ Some y → (x : X) × (o ≡ Some x) × (f x ≡ y)
mapped f (Some x) y e = (x, refl, same_value (f x) y e)
mapped f None y e = absurd (true≢false (sym (ap (λ o. Rattle.std.specs.Option.is_some o) e)))

-- ---- the name

word_bytes : (bytes : List ℕ) → list_all is_word_byte bytes ≡ true → AllByRecursion (λ b. is_word_byte b ≡ true) bytes
word_bytes [] e = tt
word_bytes (b ∷ bytes) e =
    let parts = both (is_word_byte b) (list_all is_word_byte bytes) e in
    (parts.0, word_bytes bytes parts.1)

name_holds : (name : Text) → is_name name ≡ true → IsName name
name_holds [] e = absurd (true≢false (sym e))
name_holds (b ∷ bytes) e =
    let short = both (is_letter b && list_all is_word_byte bytes) (nat_le (length bytes) 99) e in
    let parts = both (is_letter b) (list_all is_word_byte bytes) short.0 in
    (parts.0, word_bytes bytes parts.1, leb-true (length bytes) 99 short.1)

named : (given : Option Text) (files : List Text) (name : Text) → name_by given files ≡ Some name → IsName name
named None files name e = subst IsName (same_value (name_of (first_word files)) name e) (name_is (first_word files))
named (Some given) files name e =
    let is = passed (is_name given) (Some given) name e in
    subst IsName (same_value given name is.1) (name_holds given is.0)

-- ---- the steps

few_steps : (given : Option Text) (steps : ℕ) → steps_by given ≡ Some steps → steps ≤ most_steps
few_steps None steps e = subst (λ n. n ≤ most_steps) (same_value 10000000 steps e) (omega arith)
few_steps (Some text) steps e =
    let is = passed (is_number text) (Some (digits_value 10 text)) steps e in
    let few = both (nat_le 1 (length text) && nat_le (length text) 18 && list_all is_digit text) (nat_le (digits_value 10 text) most_steps) is.0 in
    subst (λ n. n ≤ most_steps) (same_value (digits_value 10 text) steps is.1) (leb-true (digits_value 10 text) most_steps few.1)

-- ---- the files

is_other : (file name : Text) → not (bytes_eq file name) ≡ true → file ≢ name
is_other file name e is =
    true≢false (sym e ∙ ap not (ap (λ t. bytes_eq t name) is ∙ nat_list_eq_equiv.refl name))

others : (name : Text) (files : List Text) → list_all (λ file. not (bytes_eq file name)) files ≡ true → AllByRecursion (λ file. file ≢ name) files
others name [] e = tt
others name (file ∷ files) e =
    let parts = both (not (bytes_eq file name)) (list_all (λ other. not (bytes_eq other name)) files) e in
    (is_other file name parts.0, others name files parts.1)

files_kept : (writing : Bool) (name : Text) (files : List Text) → (not writing || list_all (λ file. not (bytes_eq file (c_file name))) files) ≡ true
    → writing ≡ true → AllByRecursion (λ file. file ≢ c_file name) files
files_kept true name files e w = others (c_file name) files e
files_kept false name files e w = absurd (true≢false (sym w))

-- ---- what is asked for

in_bounds : (command : Command) (g : Gift) (name : Text) (steps : ℕ) → fits command g ≡ true → name_by g.name g.files ≡ Some name
    → keeps_files command name g.files ≡ true → steps_by g.steps ≡ Some steps → IsInBounds (asked_with command g name steps)
in_bounds command g name steps fit is_named keeps has_steps =
    let without_input = both (is_file_count command (length g.files) && list_all has_bytes g.files && takes_options command g) (is_input g.input) fit in
    let without_options = both (is_file_count command (length g.files) && list_all has_bytes g.files) (takes_options command g) without_input.0 in
    let count = both (is_file_count command (length g.files)) (list_all has_bytes g.files) without_options.0 in
    let bounds = both (nat_le 1 (length g.files)) (nat_le (length g.files) (most_files command)) count.0 in
    record {
      some = leb-true 1 (length g.files) bounds.0;
      few = leb-true (length g.files) (most_files command) bounds.1;
      name = named g.name g.files name is_named;
      steps = few_steps g.steps steps has_steps;
      kept = files_kept (writes command) name g.files keeps;
    }

of_command : (command : Command) (g : Gift) (m : Meaning) → asked_by command g ≡ Some m → IsInBounds m
of_command command g m e =
    let fit = passed (fits command g) _ m e in
    option_and_then_some _ (checked_name command g) m fit.1 (λ name is_checked made.
    option_and_then_some _ (name_by g.name g.files) name is_checked (λ by is_named kept.
    (let keeps = passed (keeps_files command by g.files) (Some by) name kept in
    let steps = mapped (asked_with command g name) (steps_by g.steps) m made in
    let is : by ≡ name = same_value by name keeps.1 in
    subst IsInBounds steps.2
    (in_bounds command g name steps.0 fit.0 (is_named ∙ ap Some is) (subst (λ n. keeps_files command n g.files ≡ true) is keeps.0) steps.1))))

pub ask_in_bounds : AskInBounds
ask_in_bounds words m e =
    let flawless = passed (is_flawless (faults words)) (asked_in (given_by (found_in words))) m e in
    option_and_then_some (λ command. asked_by command (given_by (found_in words))) (given_by (found_in words)).command m flawless.1
    (λ command is_command asked. of_command command (given_by (found_in words)) m asked)
