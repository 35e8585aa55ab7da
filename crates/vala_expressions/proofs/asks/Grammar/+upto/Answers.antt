use Rattle.std.proofs.Common.{◌≡◌, Result, Err, sym, subst, rules}
use Rattle.vala_grammar.specs.Parts as part
use Rattle.vala_grammar.specs.Read.{vala_reader}
use Rattle.vala_grammar.specs.declared.parts.Chain.{Chain}
use Rattle.vala_cursor.specs.Ahead.{rest}
use Rattle.vala_cursor.specs.Gets.{Gets}
use Rattle.vala_cursor.specs.declared.stop.Stop.{Stop}
use Rattle.vala_expressions.proofs.TierLaws.{upto_further, upto_stops}
use Rattle.vala_expressions.proofs.asks.Grammar.+upto.Goals as goal

pub returns-in_err-joined-clause-tree : goal.returns-in_err-joined-clause-tree
returns-in_err-joined-clause-tree g t c =
    let fault = c.in_err-joined.field-0.0 in
    let passed : c.from_residual.result ≡ Err fault = search rules in
    subst (λ (r : Result Chain Stop). Gets (vala_reader (part.Upto c.args.depth c.args.tier c.args.first) c.args.level (rest c.args.cursor.now)) r (rest c.upto.new.cursor)) (sym passed)
    (upto_stops c.args.depth c.args.tier c.in-Some.inner c.args.first c.args.level (rest c.args.cursor.now) (rest c.upto.new.cursor) fault (sym c.in-Some.ensures.next) c.in_err-joined.ensures.tree)

pub returns-clause-tree : goal.returns-clause-tree
returns-clause-tree g t c =
    upto_further c.args.depth c.args.tier c.in-Some.inner c.args.first c.in_ok-joined.joined c.args.level (rest c.args.cursor.now) (rest c.upto.new.cursor) (rest c.rest_of_tier-2.new.cursor) c.rest_of_tier-2.result
    (sym c.in-Some.ensures.next) c.in_ok-joined.ensures.tree c.rest_of_tier-2.ensures.tree
