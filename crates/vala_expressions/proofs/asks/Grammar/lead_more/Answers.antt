use Rattle.std.proofs.Common.{◌≡◌, ◌∙◌, sym, ◌+◌, arith, rules}
use Rattle.vala_cursor.specs.Ahead.{rest}
use Rattle.vala_cursor.specs.Gets.{seen}
use Rattle.vala_expressions.proofs.BracketLaws.{lead_goes_on}
use Rattle.vala_expressions.proofs.asks.Grammar.lead_more.Goals as goal

-- a dot and a word are no longer left
pub words-preserved : goal.words-preserved
words-preserved g c = record {
  same =
      let dot = seen c.in_ok-expect.field-0 in
      let word = seen c.in_ok-token.token in
      c.words.invariant.same
      ∙ lead_goes_on c.words.name c.in_ok-name.name c.words.level (c.words.level + 1) (rest c.words.cursor) (rest c.expect.new.self) (rest c.expect-in-words.new.self) dot word
      (sym c.is.ensures ∙ c.words-test.true) c.in_ok-expect.ensures.token c.in_ok-token.ensures.token c.in_ok-name.ensures (omega arith);
  kept = search rules;
  up = search rules;
  low = search rules;
}
