-- The rules that files break are determined, as each file has one answer.
use Rattle.std.proofs.Common.{◌≡◌, ℕ, Bool, List, ◌∷◌}
use Rattle.static_rules.specs.declared.rules.Refusal.{Refusal}
use Rattle.vala_file_grammar.proofs.FileAnswers.{has_one_answer}
use Rattle.vala_compile.specs.Program.{AreRead, Refuses, Breaks}
use Rattle.vala_compile.specs.Correct.{IsCompiled}
use Rattle.vala_compile.proofs.Once as once

-- files break one list of rules
pub one_list : (files : List (List ℕ)) (strict : Bool) (rs ss : List Refusal) → Breaks files strict rs → Breaks files strict ss → rs ≡ ss
one_list = once.breaks_same has_one_answer

-- and one of phase 1 at most
pub one_refusal : (files : List (List ℕ)) (r q : Refusal) → Refuses files r → Refuses files q → r ≡ q
one_refusal = once.refusals_same has_one_answer

-- where none of phase 1 is broken, none is
pub never_refused : (files : List (List ℕ)) (r : Refusal) → AreRead files → Refuses files r → ⊥
never_refused = once.not_refused has_one_answer

-- what is compiled breaks none
pub never_compiled : (files : List (List ℕ)) (strict : Bool) (c : List ℕ) (r : Refusal) (rs : List Refusal) → IsCompiled files strict c → Breaks files strict (r ∷ rs) → ⊥
never_compiled = once.not_compiled has_one_answer
