use Rattle.std.proofs.Common.{◌∙◌, sym, ap, Some}
use Rattle.vg_base.specs.declared.scanner.Mode.TheVariants.{Between}
use Rattle.vg_base.proofs.ScannerLemmas.{include_goes_on, include_ends}
use Rattle.vg_base.proofs.scanner.in_include.Goals as goal

pub returns-then-passed : goal.returns-then-passed
returns-then-passed c =
    let found = c.in-Some.ensures.lookup in
    sym (include_goes_on c.args.passed c.args.byte c.args.tokens.now.items found.3.0 (sym c.if-expected-byte.true ∙ found.3.1 0) c.if-passed.true)

pub returns-in_ok-push_token-in-Some : goal.returns-in_ok-push_token-in-Some
returns-in_ok-push_token-in-Some c =
    let found = c.in-Some.ensures.lookup in
    let ends = include_ends c.args.passed c.args.byte c.args.tokens.now.items found.3.0 (sym c.if-expected-byte.true ∙ found.3.1 0) c.if-passed.false in
    let pushed = c.in_ok-push_token-in-Some.ensures in
    ap (λ ts. Some (Between, ts)) pushed ∙ sym ends
