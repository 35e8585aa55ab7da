use Rattle.std.proofs.Common.{ap, ◌∙◌, slice_get}
use Rattle.symbols.specs.Types.{listed}
use Rattle.symbols.proofs.types.built_in_shape.Goals as goal

pub returns-in-Some : goal.returns-in-Some
returns-in-Some c = ap listed c.in-Some.ensures ∙ ap (λ xs. listed (slice_get xs c.args.row)) c.as_slice.ensures

pub returns-in-None : goal.returns-in-None
returns-in-None c = ap listed c.in-None.ensures ∙ ap (λ xs. listed (slice_get xs c.args.row)) c.as_slice.ensures
