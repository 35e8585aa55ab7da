use Rattle.std.proofs.Common.{◌≤◌, ◌<◌, ◌+◌, ◌^◌, ℕ, List, length, take, ap, ap₂, sym, ◌∙◌, arith, Ok, Err, Some}
use Rattle.vg_base.specs.declared.event.Span.{Span}
use Rattle.vala_lexer.specs.Blanks.{blanks}
use Rattle.vala_lexer.specs.Cut.{cut}
use Rattle.vala_lexer.specs.Tokens.{left}
use Rattle.vala_lexer.proofs.NextLemmas.{next_broken, next_end, next_found, broken_within, blanks_end, found_within, fault_within}
use Rattle.vala_lexer.proofs.cursor.Lexer.peek.Goals as goal

pub overflow_add-start : goal.overflow_add-start
overflow_add-start c =
    let found = ap blanks (sym c.after.ensures) ∙ sym c.blanks.ensures ∙ c.in-Ok.is in
    let bound : c.args.self.now.at + c.in-Ok.count ≤ length c.args.self.now.bytes.now = blanks_end (left c.args.self.now) c.in-Ok.count c.args.self.now.within found in
    let short : length c.args.self.now.bytes.now < 2 ^ 32 = c.args.self.now.short in
    omega arith

pub refusal-requires : goal.refusal-requires
refusal-requires c =
    let broken = ap blanks (sym c.after.ensures) ∙ sym c.blanks.ensures ∙ c.in-Err.is in
    let bound : c.args.self.now.at + c.in-Err.fault.start + c.in-Err.fault.len ≤ length c.args.self.now.bytes.now = broken_within (left c.args.self.now) c.in-Err.fault c.args.self.now.within broken in
    let short : length c.args.self.now.bytes.now < 2 ^ 32 = c.args.self.now.short in
    omega arith

pub returns-in-Err : goal.returns-in-Err
returns-in-Err c =
    ap Err c.refusal.ensures ∙ sym (next_broken (left c.args.self.now) c.in-Err.fault (ap blanks (sym c.after.ensures) ∙ sym c.blanks.ensures ∙ c.in-Err.is))

pub returns-then-start-self : goal.returns-then-start-self
returns-then-start-self c = sym (next_end (left c.args.self.now) c.in-Ok.count (ap blanks (sym c.after.ensures) ∙ sym c.blanks.ensures ∙ c.in-Ok.is) c.if-start-self.true)

pub span-requires : goal.span-requires
span-requires c =
    let found = ap₂ cut (sym c.front.ensures) (sym c.after-rest.ensures) ∙ sym c.cut.ensures ∙ c.in-Ok-cut.is in
    let bound : c.args.self.now.at + c.in-Ok.count + c.in-Ok-cut.found.len ≤ length c.args.self.now.bytes.now = found_within c.args.self.now.bytes.now (c.args.self.now.at + c.in-Ok.count) c.in-Ok-cut.found c.if-start-self.false found in
    let short : length c.args.self.now.bytes.now < 2 ^ 32 = c.args.self.now.short in
    omega arith

pub refusal-requires-in-Err-cut : goal.refusal-requires-in-Err-cut
refusal-requires-in-Err-cut c =
    let broken = ap₂ cut (sym c.front.ensures) (sym c.after-rest.ensures) ∙ sym c.cut.ensures ∙ c.in-Err-cut.is in
    let bound : c.args.self.now.at + c.in-Ok.count + c.in-Err-cut.fault.start + c.in-Err-cut.fault.len ≤ length c.args.self.now.bytes.now = fault_within c.args.self.now.bytes.now (c.args.self.now.at + c.in-Ok.count) c.in-Err-cut.fault c.if-start-self.false broken in
    let short : length c.args.self.now.bytes.now < 2 ^ 32 = c.args.self.now.short in
    omega arith

pub returns-in-Ok-cut : goal.returns-in-Ok-cut
returns-in-Ok-cut c =
    let found = ap₂ cut (sym c.front.ensures) (sym c.after-rest.ensures) ∙ sym c.cut.ensures ∙ c.in-Ok-cut.is in
    let next = next_found (left c.args.self.now) c.in-Ok.count (Ok c.in-Ok-cut.found) (ap blanks (sym c.after.ensures) ∙ sym c.blanks.ensures ∙ c.in-Ok.is) c.if-start-self.false found in
    ap₂ (λ (text : List ℕ) (span : Span). Ok (Some (record { kind = c.in-Ok-cut.found.kind; text = text; span = span }))) (c.front-in-Ok-cut.ensures ∙ ap (take c.in-Ok-cut.found.len) c.after-rest.ensures) c.span.ensures ∙ sym next

pub returns-in-Err-cut : goal.returns-in-Err-cut
returns-in-Err-cut c =
    let broken = ap₂ cut (sym c.front.ensures) (sym c.after-rest.ensures) ∙ sym c.cut.ensures ∙ c.in-Err-cut.is in
    ap Err c.refusal-in-Err-cut.ensures ∙ sym (next_found (left c.args.self.now) c.in-Ok.count (Err c.in-Err-cut.fault) (ap blanks (sym c.after.ensures) ∙ sym c.blanks.ensures ∙ c.in-Ok.is) c.if-start-self.false broken)
