use Rattle.std.proofs.Common.{◌≤◌, ◌<◌, ◌+◌, ◌^◌, length, ap, sym, ◌∙◌, arith}
use Rattle.c_lexer.specs.Cut.{cut}
use Rattle.c_lexer.proofs.NextLemmas.{found_within}
use Rattle.c_lexer.proofs.cursor.Lexer.token_at.Goals as goal

pub overflow_add-result : goal.overflow_add-result
overflow_add-result c =
    let bound : c.args.start + c.in-Some.found.len ≤ length c.args.self.now.bytes.now = (found_within c.args.self.now.bytes.now c.args.start c.args.begins_line c.in-Some.found c.if-start-self.false (ap cut (sym c.after-rest.ensures) ∙ sym c.cut.ensures ∙ c.in-Some.is)).1 in
    let short : length c.args.self.now.bytes.now < 2 ^ 32 = c.args.self.now.short in
    omega arith

pub overflow_cast-result-in-Some : goal.overflow_cast-result-in-Some
overflow_cast-result-in-Some c =
    let bound : c.args.start + c.in-Some.found.len ≤ length c.args.self.now.bytes.now = (found_within c.args.self.now.bytes.now c.args.start c.args.begins_line c.in-Some.found c.if-start-self.false (ap cut (sym c.after-rest.ensures) ∙ sym c.cut.ensures ∙ c.in-Some.is)).1 in
    let short : length c.args.self.now.bytes.now < 2 ^ 32 = c.args.self.now.short in
    omega arith
