-- What the clauses of `clap` say of the line of a call.
use Rattle.std.proofs.Common.{◌≡◌, ◌∙◌, ap, sym, subst, refl, true, false, List, [], ◌∷◌, inl, inr}
use Rattle.std.specs.Prelude.{None, if◌then◌else◌}
use Rattle.clap.specs.Words.{App, HasKind, HasMatchesOf, Kinds, Row, Text, fault_of, found_of, is_simple, is_simple_and_free, kind_of, matches_of, rows_of}
use Rattle.clap.specs.declared.error.Error.{Error}
use Rattle.clap.specs.declared.error.kind.ErrorKind.TheVariants.{OutOfMemory}
use Rattle.clap.specs.declared.parser.matches.ArgMatches.{ArgMatches}
use Rattle.command_line.specs.Line.{faults, found_in, line}
use Rattle.command_line.specs.Given.{Gift, given_by}
use Rattle.command_line.specs.Meaning.{asked_in, asked_of, is_flawless}

line_is_simple : is_simple line ≡ true
line_is_simple = refl

line_is_free : is_simple_and_free line ≡ true
line_is_free = refl

pub found : (app : App) (words : List Text) (matches : ArgMatches) → app ≡ line → HasMatchesOf app words matches → rows_of (found_of matches) ≡ found_in words
unfolding found_in
found app words matches is has = (has (ap is_simple is ∙ line_is_simple)).0 ∙ ap (λ a. matches_of a words) is

pub taken : (app : App) (words : List Text) → app ≡ line → (is_simple_and_free app ≡ true → fault_of app words ≡ []) → is_flawless (faults words) ≡ true
unfolding faults
taken app words is none = ap (λ a. is_flawless (fault_of a words)) (sym is) ∙ ap is_flawless (none (ap is_simple_and_free is ∙ line_is_free))

flawed : (kinds : Kinds) (e : Error) → HasKind kinds e → (kind_of e ≡ OutOfMemory → ⊥) → is_flawless kinds ≡ false
flawed [] e (inl memory) other = absurd (other memory)
flawed [] e (inr none) other = absurd none
flawed (k ∷ ks) e has other = refl

pub refused : (app : App) (words : List Text) (e : Error) → app ≡ line → (is_simple_and_free app ≡ true → HasKind (fault_of app words) e)
    → (kind_of e ≡ OutOfMemory → ⊥) → is_flawless (faults words) ≡ false
unfolding faults
refused app words e is has other =
    flawed _ e (subst (λ (a : App). HasKind (fault_of a words) e) is (has (ap is_simple_and_free is ∙ line_is_free))) other

-- what is asked for by what is given in flawless words is what they ask for
pub asked : (words : List Text) (rows : List Row) (gift : Gift) → is_flawless (faults words) ≡ true → rows ≡ found_in words → gift ≡ given_by rows
    → asked_in gift ≡ asked_of words
asked words rows gift flawless are is =
    ap asked_in (is ∙ ap given_by are) ∙ sym (ap (λ b. if b then asked_in (given_by (found_in words)) else None) flawless)
