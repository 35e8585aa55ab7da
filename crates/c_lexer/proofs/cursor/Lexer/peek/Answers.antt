use Rattle.std.proofs.Common.{◌≤◌, ◌<◌, ◌+◌, ◌^◌, length, ap, sym, ◌∙◌, arith, Err}
use Rattle.c_lexer.specs.Blanks.{blanks}
use Rattle.c_lexer.specs.Tokens.{left, token_at}
use Rattle.c_lexer.proofs.NextLemmas.{next_gap, next_broken, gap_within, broken_within}
use Rattle.c_lexer.proofs.cursor.Lexer.peek.Goals as goal

pub overflow_add-self : goal.overflow_add-self
overflow_add-self c =
    let bound : c.args.self.now.at + c.in-Ok.gap.len ≤ length c.args.self.now.bytes.now = gap_within (left c.args.self.now) c.in-Ok.gap c.args.self.now.within (ap blanks (sym c.after.ensures) ∙ sym c.blanks.ensures ∙ c.in-Ok.is) in
    let short : length c.args.self.now.bytes.now < 2 ^ 32 = c.args.self.now.short in
    omega arith

pub overflow_add-self-in-Err : goal.overflow_add-self-in-Err
overflow_add-self-in-Err c =
    let bound : c.args.self.now.at + c.in-Err.len < length c.args.self.now.bytes.now = broken_within (left c.args.self.now) c.in-Err.len c.args.self.now.within (ap blanks (sym c.after.ensures) ∙ sym c.blanks.ensures ∙ c.in-Err.is) in
    let short : length c.args.self.now.bytes.now < 2 ^ 32 = c.args.self.now.short in
    omega arith

pub bad-requires : goal.bad-requires
bad-requires c =
    let bound : c.args.self.now.at + c.in-Err.len < length c.args.self.now.bytes.now = broken_within (left c.args.self.now) c.in-Err.len c.args.self.now.within (ap blanks (sym c.after.ensures) ∙ sym c.blanks.ensures ∙ c.in-Err.is) in
    let short : length c.args.self.now.bytes.now < 2 ^ 32 = c.args.self.now.short in
    omega arith

pub returns-in-Ok : goal.returns-in-Ok
returns-in-Ok c =
    c.token_at.ensures ∙ ap (λ first. token_at c.args.self.now.bytes.now (c.args.self.now.at + c.in-Ok.gap.len) first) c.begins_line.ensures
    ∙ sym (next_gap (left c.args.self.now) c.in-Ok.gap (ap blanks (sym c.after.ensures) ∙ sym c.blanks.ensures ∙ c.in-Ok.is))

pub returns-in-Err : goal.returns-in-Err
returns-in-Err c =
    ap Err c.bad.ensures ∙ sym (next_broken (left c.args.self.now) c.in-Err.len (ap blanks (sym c.after.ensures) ∙ sym c.blanks.ensures ∙ c.in-Err.is))
