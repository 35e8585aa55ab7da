-- What the text of a unit is.
use Rattle.std.specs.Prelude.{ℕ, List}
use Rattle.c_tree.specs.declared.unit.Unit.{Unit as CUnit}
use Rattle.c_tree.specs.Answers.{CReads}
use Rattle.c_tree.specs.Bare.{SameUnit}

-- these bytes are the unit, apart from places
pub record IsTextOf (unit : CUnit) (bytes : List ℕ) : Type 0 where
  pub read : CUnit
  pub reads : CReads bytes read
  pub same : SameUnit read unit
