use Rattle.command_line.specs.Answers.{meaning_of}
use Rattle.vala2c.proofs.Commands.{asked_call, unread_call, usage_call}
use Rattle.vala2c.proofs.call.one_call.Goals as goal

pub do_command-requires : goal.do_command-requires
do_command-requires g c = c.words_ask_in_bounds.ensures _ _ c.in-Ok.ensures

pub returns-in-Ok : goal.returns-in-Ok
returns-in-Ok g c = record { call = asked_call (meaning_of c.in-Ok.asked) _ _ _ _ _ _ _ _ c.in-Ok.ensures c.do_command.ensures }

pub returns-in-Err-Refused : goal.returns-in-Err-Refused
returns-in-Err-Refused g c = record { call = usage_call _ _ _ _ _ _ _ (rw c.in-Err-Refused.field-0-is at c.in-Err-Refused.ensures) c.finish.ensures }

pub returns-in-Err-Memory : goal.returns-in-Err-Memory
returns-in-Err-Memory g c = record { call = unread_call _ _ _ _ _ _ _ c.finish-in-Err-Memory.ensures }
