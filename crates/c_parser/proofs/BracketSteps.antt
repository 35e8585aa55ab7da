-- A value in brackets by the parsers before and behind its steps.
use Rattle.std.proofs.Common.{◌≡◌, ℕ, suc, ◌+◌, ◌&&◌, not, Bool, true, false, if◌then◌else◌, Some, sym, ap, ◌∙◌, arith}
use Rattle.mending_readers.specs.Mending.{mend_then}
use Rattle.c_lexer.specs.declared.token.Sign.TheVariants as sign
use Rattle.c_tree.specs.declared.code.Expr.{Expr}
use Rattle.c_tree.specs.Names.{Names}
use Rattle.c_tree.specs.Words as words
use Rattle.c_grammar.specs.Parts as part
use Rattle.c_nodes.specs.declared.token.Token.{Token}
use Rattle.c_nodes.specs.Seen.{seen}
use Rattle.c_cursor.specs.declared.parser.Parser.{Parser}
use Rattle.c_cursor.specs.declared.sets.Set.TheVariants as set
use Rattle.c_cursor.specs.Gives.{state}
use Rattle.c_cursor.specs.Reading.{Read, Place, one, is_next, read, give}
use Rattle.c_cursor.specs.Scopes.{names_of}
use Rattle.c_cursor.specs.Steps.{Took}
use Rattle.c_parser.specs.declared.prefixes.Step.TheVariants as step
use Rattle.c_parser.specs.Pieces.{bracketed_of}
use Rattle.c_parser.specs.Values.{finished, operand_step, cast_step, bracket_step, plain_step}

bracket_by : (e : ℕ) (ns : Names) (c place : Bool) (l : ℕ) (s z y w : Place) (t : words.Token) (a b : Expr)
    → is_next ns (set.Sign sign.OpenParen) s ≡ true → one e ns (set.Sign sign.OpenParen) (suc l) s ≡ Some (t, z)
    → (not place && is_next ns (set.Type false) z) ≡ false → bracketed_of e ns c t l z ≡ Some (a, y) → finished e ns c place a l y ≡ Some (b, w)
    → plain_step e ns c place l s ≡ Some (step.Operand b, w)
unfolding plain_step bracket_step
bracket_by e ns c place l s z y w t a b is took test inner finish =
    ap (λ v. if v then mend_then (one e ns (set.Sign sign.OpenParen) (suc l) s) (λ t z. bracket_step e ns c place t l z)
    else mend_then (read e ns (part.Primary c) l s) (λ a z. operand_step e ns c place a l z)) is
    ∙ ap (λ (o : Read words.Token). mend_then o (λ t z. bracket_step e ns c place t l z)) took
    ∙ ap (λ v. if v then cast_step e ns t l z else mend_then (bracketed_of e ns c t l z) (λ a z. operand_step e ns c place a l z)) test
    ∙ ap (λ (o : Read Expr). mend_then o (λ a z. operand_step e ns c place a l z)) inner
    ∙ ap (λ (o : Read Expr). give step.Operand o) finish

one_up : (l : ℕ) → suc l ≡ l + 1
one_up l = omega arith

pub bracket_taken : (c place : Bool) (l : ℕ) (p q r : Parser) (w : Place) (t : Token) (a b : Expr)
    → Took (set.Sign sign.OpenParen) (l + 1) p (Some t) q → q.names ≡ p.names → q.end ≡ p.end
    → (not place && is_next (names_of q.names) (set.Type false) (state q)) ≡ false
    → bracketed_of q.end (names_of q.names) c (seen t) l (state q) ≡ Some (a, state r)
    → names_of r.names ≡ names_of q.names → r.end ≡ q.end → finished r.end (names_of r.names) c place a l (state r) ≡ Some (b, w)
    → plain_step p.end (names_of p.names) c place l (state p) ≡ Some (step.Operand b, w)
bracket_taken c place l p q r w t a b took names ends test inner more_names more_ends finish =
    let here : names_of q.names ≡ names_of p.names = ap (λ n. names_of n) names in
    bracket_by p.end (names_of p.names) c place l (state p) (state q) (state r) w (seen t) a b took.0
    (ap (λ n. one p.end (names_of p.names) (set.Sign sign.OpenParen) n (state p)) (one_up l) ∙ took.1)
    (sym (ap (λ ns. not place && is_next ns (set.Type false) (state q)) here) ∙ test)
    (sym (ap (λ e. bracketed_of e (names_of q.names) c (seen t) l (state q)) ends ∙ ap (λ ns. bracketed_of p.end ns c (seen t) l (state q)) here) ∙ inner)
    (sym (ap (λ e. finished e (names_of r.names) c place a l (state r)) (more_ends ∙ ends)
    ∙ ap (λ ns. finished p.end ns c place a l (state r)) (more_names ∙ here)) ∙ finish)
