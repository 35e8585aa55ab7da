use Rattle.c_cursor.proofs.includes.+spelled_end.Given as goal

abbrev pub decreases-spelled_end : goal.decreases-spelled_end
decreases-spelled_end l = l.tokens
