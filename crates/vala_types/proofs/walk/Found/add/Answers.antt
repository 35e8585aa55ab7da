use Rattle.std.proofs.Common.{arith, rules}
use Rattle.vala_types.proofs.WalkLemmas.{room}
use Rattle.vala_types.proofs.walk.Found.add.Goals as goal

pub push-requires : goal.push-requires
push-requires c = (omega arith, room c.args.self.now 131072 c.args.number c.requires (search rules) c.if-index-lt-MOST_ROWS.true c.if-not-self-index.true)
