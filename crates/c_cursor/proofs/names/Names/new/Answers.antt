use Rattle.c_cursor.specs.Scopes.{names_of}
use Rattle.c_cursor.proofs.RoleLaws.{declared_more}
use Rattle.c_cursor.proofs.names.Names.new.Goals as goal

pub loop-declared-preserved : goal.loop-declared-preserved
loop-declared-preserved c =
    declared_more _ c.loop-declared.declared-index _ (names_of c.loop-declared.names)
    (names_of c.declare.new.self) _ c.loop-declared-test.true c.loop-declared.invariant c.in_ok-declare.ensures
