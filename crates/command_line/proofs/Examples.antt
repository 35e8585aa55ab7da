-- What lines of words ask for, computed: each of these laws holds by the definitions alone.
use Rattle.std.proofs.Common.{◌≡◌, ℕ, ◌==◌, true, false, cond, List, [], ◌∷◌, codes, refl, replicate}
use Rattle.std.specs.Prelude.{None, Option, Some, is_none, length, map, ⊤}
use Rattle.std.specs.List.{list_all}
use Rattle.clap.specs.Words.{Text}
use Rattle.clap.proofs.OnLiterals.{clap_on_literals}
use Rattle.command_line.specs.declared.choice.Command.{Command}
use Rattle.command_line.specs.declared.choice.Command.TheVariants.{Check, Emit, Exec, Run}
use Rattle.command_line.specs.Line.{faults, found_in}
use Rattle.command_line.specs.Meaning.{Meaning, asked_of, is_file_count, is_name, steps_by}
use Rattle.command_line.specs.Names.{name_of}

unfoldable on_words : ⊤
unfolding clap_on_literals faults found_in
on_words = tt

-- ---- lines of words

abbrev begun_with : ℕ → List Text → List Text
begun_with byte [] = (byte ∷ []) ∷ []
begun_with byte (word ∷ words) = (byte ∷ word) ∷ words

-- the words of a line, of which one blank parts two
abbrev words_of : Text → List Text
words_of [] = [] ∷ []
words_of (byte ∷ bytes) = cond (byte == 32) ([] ∷ words_of bytes) (begun_with byte (words_of bytes))

abbrev asks : Text → Option Meaning
asks line = asked_of (words_of line)

-- no option is given
abbrev plain : Command → List Text → Text → Meaning
plain command files name = record {
  command = command;
  files = files;
  name = name;
  input = None;
  steps = 10000000;
  strict_null = false;
  trace = false;
  live = false;
}

abbrev a_vala : List Text
a_vala = codes "a.vala" ∷ []

abbrev a_c : List Text
a_c = codes "a.c" ∷ []

-- ---- inside the grammar

check : asks (codes "check a.vala") ≡ Some (plain Check a_vala (codes "a"))
unfolding on_words
check = refl

check_two : asks (codes "check a.vala b.vala") ≡ Some (plain Check (codes "a.vala" ∷ codes "b.vala" ∷ []) (codes "a"))
unfolding on_words
check_two = refl

emit : asks (codes "emit a.vala") ≡ Some (plain Emit a_vala (codes "a"))
unfolding on_words
emit = refl

run : asks (codes "run a.vala") ≡ Some (plain Run a_vala (codes "a"))
unfolding on_words
run = refl

exec : asks (codes "exec out/a-1.c") ≡ Some (plain Exec (codes "out/a-1.c" ∷ []) (codes "a_1"))
unfolding on_words
exec = refl

all_options : asks (codes "run --name b --input in.txt --steps 5 --strict-null --trace --live a.vala") ≡ Some (record {
  command = Run;
  files = a_vala;
  name = codes "b";
  input = Some (codes "in.txt");
  steps = 5;
  strict_null = true;
  trace = true;
  live = true;
})
unfolding on_words
all_options = refl

-- a single `-` is a word like one that does not begin with `-`
single_dash : asks (codes "check -") ≡ Some (plain Check (codes "-" ∷ []) (codes "p_"))
unfolding on_words
single_dash = refl

dash_as_value : asks (codes "exec a.c --input -") ≡ Some (record (plain Exec (codes "a.c" ∷ []) (codes "a")) { input = Some (codes "-") })
unfolding on_words
dash_as_value = refl

-- behind `--` each word stands by its place, whatever it begins with
behind_dashes : asks (codes "check -- --trace -- -") ≡ Some (plain Check (codes "--trace" ∷ codes "--" ∷ codes "-" ∷ []) (codes "p__trace"))
unfolding on_words
behind_dashes = refl

command_behind_dashes : asks (codes "--trace -- run a.vala") ≡ Some (record (plain Run a_vala (codes "a")) { trace = true })
unfolding on_words
command_behind_dashes = refl

-- a value behind `=` may begin with `-`, and is all that stands behind the first `=`
joined_value : asks (codes "run a.vala --input=--a=b") ≡ Some (record (plain Run a_vala (codes "a")) { input = Some (codes "--a=b") })
unfolding on_words
joined_value = refl

-- ---- lines that ask for the same

abbrev AllAskFor : Meaning → List Text → Type 0
AllAskFor meaning lines = map asks lines ≡ replicate (length lines) (Some meaning)

-- `--x v` and `--x=v` are the same, and an option may stand anywhere in front of `--`
name_given : AllAskFor (plain Emit a_vala (codes "b"))
    (codes "emit --name b a.vala"
    ∷ codes "emit --name=b a.vala"
    ∷ codes "--name b emit a.vala"
    ∷ codes "--name=b emit a.vala"
    ∷ codes "emit a.vala --name b"
    ∷ codes "emit a.vala --name=b"
    ∷ codes "emit --name b -- a.vala"
    ∷ [])
unfolding on_words
name_given = refl

input_given : AllAskFor (record (plain Exec a_c (codes "a")) { input = Some (codes "b") })
    (codes "exec --input b a.c"
    ∷ codes "exec --input=b a.c"
    ∷ codes "exec a.c --input b"
    ∷ codes "--input=b exec a.c"
    ∷ [])
unfolding on_words
input_given = refl

steps_given : AllAskFor (record (plain Run a_vala (codes "a")) { steps = 7 })
    (codes "run --steps 7 a.vala"
    ∷ codes "run --steps=7 a.vala"
    ∷ codes "run a.vala --steps 007"
    ∷ [])
unfolding on_words
steps_given = refl

flag_given : AllAskFor (record (plain Check (codes "a.vala" ∷ codes "b.vala" ∷ []) (codes "a")) { strict_null = true })
    (codes "--strict-null check a.vala b.vala"
    ∷ codes "check --strict-null a.vala b.vala"
    ∷ codes "check a.vala --strict-null b.vala"
    ∷ codes "check a.vala b.vala --strict-null"
    ∷ [])
unfolding on_words
flag_given = refl

flags_given : AllAskFor (record (plain Exec a_c (codes "a")) { trace = true; live = true })
    (codes "exec --trace --live a.c"
    ∷ codes "exec --live --trace a.c"
    ∷ codes "--live exec a.c --trace"
    ∷ [])
unfolding on_words
flags_given = refl

-- what holds where an option is not given
nothing_given : AllAskFor (plain Run a_vala (codes "a"))
    (codes "run a.vala"
    ∷ codes "run -- a.vala"
    ∷ codes "-- run a.vala"
    ∷ codes "run a.vala --"
    ∷ codes "run a.vala --steps 10000000"
    ∷ codes "run a.vala --name a"
    ∷ [])
unfolding on_words
nothing_given = refl

-- ---- outside the grammar

abbrev AreOutside : List Text → Type 0
AreOutside lines = list_all (λ line. is_none (asks line)) lines ≡ true

-- no command, or none that is known
no_command : AreOutside
    (codes ""
    ∷ codes "a.vala"
    ∷ codes "chek a.vala"
    ∷ codes "--strict-null"
    ∷ codes " check a.vala"
    ∷ [])
unfolding on_words
no_command = refl

-- no file, or an empty word for one
no_file : AreOutside
    (codes "check"
    ∷ codes "check --"
    ∷ codes "emit"
    ∷ codes "run"
    ∷ codes "exec"
    ∷ codes "check "
    ∷ codes "check a.vala "
    ∷ codes "check  a.vala"
    ∷ [])
unfolding on_words
no_file = refl

-- an unknown word that begins with `-`
unknown : AreOutside
    (codes "check -h a.vala"
    ∷ codes "check --help a.vala"
    ∷ codes "--help"
    ∷ codes "-h"
    ∷ codes "--version"
    ∷ codes "help"
    ∷ codes "check a.vala -x"
    ∷ codes "check a.vala --stric"
    ∷ codes "run -trace a.vala"
    ∷ codes "check --=x a.vala"
    ∷ codes "run a.vala --Trace"
    ∷ [])
unfolding on_words
unknown = refl

-- an option twice
twice : AreOutside
    (codes "check --strict-null --strict-null a.vala"
    ∷ codes "run --trace a.vala --trace"
    ∷ codes "run --live --live a.vala"
    ∷ codes "emit --name b --name=b a.vala"
    ∷ codes "run --input b --input b a.vala"
    ∷ codes "run --steps=1 --steps 1 a.vala"
    ∷ [])
unfolding on_words
twice = refl

-- an option without its value, or with an empty one
no_value : AreOutside
    (codes "emit a.vala --name"
    ∷ codes "run --steps -- a.vala"
    ∷ codes "run --input --trace a.vala"
    ∷ codes "emit a.vala --name="
    ∷ codes "emit --name  a.vala"
    ∷ codes "run a.vala --input="
    ∷ codes "run --input  a.vala"
    ∷ codes "run a.vala --steps="
    ∷ [])
unfolding on_words
no_value = refl

-- a value that is a word of its own and begins with `-`
dashed_value : AreOutside
    (codes "emit a.vala --name -b"
    ∷ codes "run a.vala --input -b"
    ∷ codes "run a.vala --input --b"
    ∷ codes "run a.vala --steps -1"
    ∷ [])
unfolding on_words
dashed_value = refl

-- a value for an option that takes none
value_of_flag : AreOutside
    (codes "check a.vala --strict-null="
    ∷ codes "check a.vala --strict-null=true"
    ∷ codes "run a.vala --trace=1"
    ∷ codes "run a.vala --live=x"
    ∷ [])
unfolding on_words
value_of_flag = refl

-- an option that the command does not have
other_options : AreOutside
    (codes "check a.vala --name b"
    ∷ codes "check a.vala --input b"
    ∷ codes "check a.vala --steps 1"
    ∷ codes "check a.vala --trace"
    ∷ codes "check a.vala --live"
    ∷ codes "emit a.vala --input b"
    ∷ codes "emit a.vala --steps 1"
    ∷ codes "emit a.vala --trace"
    ∷ codes "emit a.vala --live"
    ∷ codes "exec a.c --strict-null"
    ∷ [])
unfolding on_words
other_options = refl

-- more than one file of C
two_c_files : AreOutside
    (codes "exec a.c b.c"
    ∷ [])
unfolding on_words
two_c_files = refl

-- no name
bad_name : AreOutside
    (codes "emit a.vala --name 1b"
    ∷ codes "emit a.vala --name=-b"
    ∷ codes "emit a.vala --name b-c"
    ∷ codes "emit a.vala --name _b"
    ∷ [])
unfolding on_words
bad_name = refl

-- no number of steps
bad_steps : AreOutside
    (codes "run a.vala --steps x"
    ∷ codes "run a.vala --steps=+1"
    ∷ codes "run a.vala --steps=-1"
    ∷ codes "run a.vala --steps 1_0"
    ∷ [])
unfolding on_words
bad_steps = refl

-- a file that would be written over
written_over : AreOutside
    (codes "run a.vala a.c"
    ∷ codes "run a.vala b.c --name b"
    ∷ codes "emit a.c"
    ∷ codes "emit --name b a.vala b.c"
    ∷ [])
unfolding on_words
written_over = refl

-- `check` and `exec` write no C file
not_written : AllAskFor (plain Check a_c (codes "a"))
    (codes "check a.c"
    ∷ [])
unfolding on_words
not_written = refl

-- ---- limits

least_steps : steps_by (Some (codes "0")) ≡ Some 0
least_steps = refl

most_steps_are : steps_by (Some (codes "100000000000000000")) ≡ Some 100000000000000000
most_steps_are = refl

one_step_more : steps_by (Some (codes "100000000000000001")) ≡ None
one_step_more = refl

eighteen_digits : steps_by (Some (codes "000000000000000001")) ≡ Some 1
eighteen_digits = refl

nineteen_digits : steps_by (Some (codes "0000000000000000001")) ≡ None
nineteen_digits = refl

longest_name : is_name (replicate 100 97) ≡ true
longest_name = refl

longer_name : is_name (replicate 101 97) ≡ false
longer_name = refl

most_vala_files : is_file_count Check 64 ≡ true
most_vala_files = refl

more_vala_files : is_file_count Run 65 ≡ false
more_vala_files = refl

-- the name that is made of a file's word
name_of_file : name_of (codes "lib/my-prog.vala") ≡ codes "my_prog"
name_of_file = refl

name_of_digit : name_of (codes "a/1.c") ≡ codes "p1"
name_of_digit = refl

name_of_bare : name_of (codes "a.b") ≡ codes "a_b"
name_of_bare = refl
