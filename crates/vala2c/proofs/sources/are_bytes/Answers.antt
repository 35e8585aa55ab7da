use Rattle.std.proofs.Common.{arith}
use Rattle.vala2c.proofs.Given.{are_bytes}
use Rattle.vala2c.proofs.sources.are_bytes.Goals as goal

pub returns : goal.returns
returns c = are_bytes c.args.bytes.now (λ i. omega (arith, c.type_inv.bytes i))
