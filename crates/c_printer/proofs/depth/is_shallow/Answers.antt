use Rattle.std.proofs.Common.{◌≡◌, ◌∙◌, sym, ap, true, false, Bool, Ok, arith, rules}
use Rattle.c_lexer.specs.Tokens.{left, shown}
use Rattle.c_printer.proofs.DepthLemmas.{one_passed, all_passed}
use Rattle.c_printer.proofs.depth.is_shallow.Goals.{in-Ok-None-matches, in_default, in_default-2}
use Rattle.c_printer.proofs.depth.is_shallow.Goals as goal

no_match : (b : Bool) → b ≡ false → b ≡ true → ⊥
no_match b e f = search rules

pub loop-preserved : goal.loop-preserved
loop-preserved c =
    one_passed (left c.loop.lexer) (left c.next.new.self) c.loop.signs.items c.pass_kind.new.signs.items c.args.bytes.now _ c.loop.invariant
    (sym c.next.ensures.answer ∙ ap shown c.in-Ok-Some.is ∙ ap (λ o. shown (Ok o)) c.in-Ok-Some.field-0-is) c.next.ensures.after
    c.in_ok-pass_kind-in-Ok-Some.ensures (omega (arith, c.len.ensures, c.if-len-gt64.false))

pub returns-in-Ok-None : goal.returns-in-Ok-None
returns-in-Ok-None c = λ e. all_passed (left c.loop.lexer) c.loop.signs.items c.args.bytes.now c.loop.invariant
    (sym c.next.ensures.answer ∙ ap shown c.in-Ok-None.is ∙ ap (λ o. shown (Ok o)) c.in-Ok-None.field-0-is)

pub returns : goal.returns
returns c = λ e. elim c.match-matches.branch [
  | in-Ok-None-matches w ↦ all_passed (left c.loop.lexer) c.loop.signs.items c.args.bytes.now c.loop.invariant (sym c.peek.ensures ∙ ap shown w.in-Ok-None-matches.is ∙ ap (λ o. shown (Ok o)) w.in-Ok-None-matches.field-0-is)
  | in_default w ↦ absurd (no_match c.match-matches.matches w.matches-is e)
  | in_default-2 w ↦ absurd (no_match c.match-matches.matches w.matches-is e)
]
