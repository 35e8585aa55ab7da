use Rattle.std.proofs.Common.{◌∙◌, sym}
use Rattle.std.proofs.lemmas.Slice.Eq.{bytes_eq-Decides}
use Rattle.c_resolver.proofs.LibraryLemmas.{code_here, code_not, parameters_here, parameters_tail}
use Rattle.c_resolver.proofs.library.library_code.Goals as goal

pub loop-code-preserved : goal.loop-code-preserved
loop-code-preserved c = record {
  function = code_not c.library_codes-codes.result.now c.loop-code.code-index _ c.args.name.now c.loop-code-test.true (sym c.eq.ensures ∙ c.if-eq.false)
      ∙ c.loop-code.invariant.function;
  parameters = parameters_tail c.library_codes-codes.result.now c.loop-code.code-index c.loop-code-test.true c.loop-code.invariant.parameters;
}

pub returns-then-eq : goal.returns-then-eq
returns-then-eq c = (
  sym c.loop-code.invariant.function ∙ code_here c.library_codes-codes.result.now c.loop-code.code-index _ c.args.name.now c.loop-code-test.true
      (sym c.eq.ensures ∙ c.if-eq.true),
  parameters_here c.library_codes-codes.result.now c.loop-code.code-index _ c.args.name.now c.loop-code-test.true
      ((bytes_eq-Decides _ c.args.name.now).0 (sym c.eq.ensures ∙ c.if-eq.true)) c.loop-code.invariant.parameters,
)
