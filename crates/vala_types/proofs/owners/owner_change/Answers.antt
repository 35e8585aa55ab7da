use Rattle.vala_types.proofs.ChangesLaws.{owner_row, other_row}
use Rattle.vala_types.proofs.owners.owner_change.Goals as goal

pub returns-then-owns : goal.returns-then-owns
returns-then-owns c = rw (c.into_owner.ensures, ← c.owns.ensures, c.if-owns.true) (owner_row c.args.from.now.shape c.args.from.now.owned)

pub returns-else-owns : goal.returns-else-owns
returns-else-owns c = rw (c.into_other.ensures, ← c.owns.ensures, c.if-owns.false) (other_row c.args.from.now.shape c.args.from.now.owned)
