use Rattle.c_cursor.proofs.includes.+passed.Given as goal

abbrev pub decreases-passed : goal.decreases-passed
decreases-passed l = l.tokens
