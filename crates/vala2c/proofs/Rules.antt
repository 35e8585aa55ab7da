-- Which rule is said of sources is determined.
use Rattle.std.proofs.Common.{◌≡◌, ℕ, List, ◌∷◌, true}
use Rattle.static_rules.specs.declared.rules.Refusal.{Refusal}
use Rattle.vala_compile.specs.Program.{AreRead}
use Rattle.vala_compile.specs.Correct.{IsCompiled}
use Rattle.vala_compile.proofs.Determined as determined
use Rattle.command_line.specs.declared.choice.Command.TheVariants as command
use Rattle.command_line.specs.Meaning.{Meaning, writes}
use Rattle.vala2c.specs.Course.{IsRefusal}
use Rattle.vala2c.specs.Course as course
use Rattle.vala2c.proofs.Reading.{check_writes}

first_rule : (r q : Refusal) (rest more : List Refusal) → r ∷ rest ≡ q ∷ more → r ≡ q
first_rule r q rest more e = cc

-- sources have one first rule
pub one_refusal : (m : Meaning) (sources : List (List ℕ)) (r q : Refusal) → IsRefusal m sources r → IsRefusal m sources q → r ≡ q
one_refusal m sources r q (course.compiled rest is b) (course.compiled more is2 b2) = first_rule r q rest more (determined.one_list sources m.strict_null (r ∷ rest) (q ∷ more) b b2)
one_refusal m sources r q (course.checked is h) (course.checked is2 k) = determined.one_refusal sources r q h k
one_refusal m sources r q (course.compiled rest is b) (course.checked is2 k) = check_writes m.command is2 is
one_refusal m sources r q (course.checked is h) (course.compiled more is2 b2) = check_writes m.command is is2

-- sources that a check accepts have none
pub never_accepted : {A : Type 0} (m : Meaning) (sources : List (List ℕ)) (r : Refusal) → m.command ≡ command.Check → AreRead sources → IsRefusal m sources r → A
never_accepted m sources r is h (course.checked is2 k) = absurd (determined.never_refused sources r h k)
never_accepted m sources r is h (course.compiled rest is2 b) = check_writes m.command is is2

-- nor do those that were compiled
pub never_built : {A : Type 0} (m : Meaning) (sources : List (List ℕ)) (c : List ℕ) (r : Refusal) → writes m.command ≡ true → IsCompiled sources m.strict_null c → IsRefusal m sources r → A
never_built m sources c r is h (course.compiled rest is2 b) = absurd (determined.never_compiled sources m.strict_null c r rest h b)
never_built m sources c r is h (course.checked is2 k) = check_writes m.command is2 is
