use Rattle.vala2c.proofs.Causes.{causes}
use Rattle.vala2c.proofs.ToldCalls.{told_calls}
use Rattle.vala2c.proofs.ToldFiles.{told_files}
use Rattle.vala2c.proofs.Programs.{program_told}
use Rattle.vala2c.proofs.call.vala2c.Goals as goal

pub returns-clause-causes : goal.returns-clause-causes
returns-clause-causes g c = causes _ _ _ _ _ _ _ _ c.one_call.ensures.call

pub returns-clause-told_calls : goal.returns-clause-told_calls
returns-clause-told_calls g c = told_calls c.bytes_have_one_answer.ensures _ _ _ _ _ _ _ _ c.one_call.ensures.call

pub returns-clause-told_files : goal.returns-clause-told_files
returns-clause-told_files g c = told_files c.bytes_have_one_answer.ensures _ _ _ _ _ _ _ _ c.one_call.ensures.call

pub returns-clause-program : goal.returns-clause-program
returns-clause-program g c = program_told c.bytes_have_one_answer.ensures c.programs_are_quiet.ensures _ _ _ _ _ _ _ _ (λ m is. (c.words_ask_in_bounds.ensures _ m is).name) c.one_call.ensures.call
