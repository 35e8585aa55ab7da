-- Some texts that stop, and what the mending reader gives.
use Rattle.std.proofs.Common.{◌≡◌, true, false, [], ◌∷◌, Some, refl}
use Rattle.mending_readers.specs.Mending.{Going, Stopped, mender, mend_run, mend_walk}
use Rattle.c_lexer.specs.declared.token.Keyword.TheVariants as keyword
use Rattle.c_lexer.specs.declared.token.Sign.TheVariants as sign
use Rattle.c_tree.specs.declared.names.Base.TheVariants as base
use Rattle.c_tree.specs.declared.code.Stmt.TheVariants as stmt
use Rattle.c_grammar.specs.Parts.{at, AnyType, Statements}
use Rattle.c_grammar.specs.Grammar.{form}
use Rattle.c_grammar.specs.Mending.{made_name, c_mender}
use Rattle.c_grammar.specs.Laws.{c_limits}
use Rattle.c_grammar.proofs.Samples.{a_word, a_sign}
use Rattle.c_tree.specs.Make.{name_at}

-- `const`, and the end at 5: the type is `int`, made up at 6
a_type : c_mender 5 c_limits (at [] (AnyType false true)) 0 (Going (a_word keyword.Const ∷ []))
    ≡ Some (record { base = base.Int; is_const = true; stars = 0; span = record { start = 0; «end» = 6 } }, Stopped [])
unfolding mender mend_run mend_walk form
a_type = refl

-- `goto` and `}`: a name without letters and `;` are made up, and the bracket is left
a_statement : c_mender 9 c_limits (at [] Statements) 0 (Going (a_word keyword.Goto ∷ a_sign sign.CloseBrace ∷ [])) ≡ Some (stmt.Goto (name_at (made_name 1 [])) ∷ [], Stopped (a_sign sign.CloseBrace ∷ []))
unfolding mender mend_run mend_walk form
a_statement = refl
