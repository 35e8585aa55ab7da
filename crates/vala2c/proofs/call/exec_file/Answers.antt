use Rattle.std.proofs.Common.{◌∙◌, [], map, ap, get_or}
use Rattle.std.specs.String.{string_bytes}
use Rattle.command_line.specs.Answers.{meaning_of}
use Rattle.vala2c.proofs.Commands.{executed, stopped_call}
use Rattle.vala2c.proofs.call.exec_file.Goals as goal

pub returns-in-Err : goal.returns-in-Err
returns-in-Err g c = stopped_call (meaning_of c.args.asked.now) _ _ _ _ _ _ _ _ c.in-Err.ensures c.finish.ensures

pub returns : goal.returns
returns g c =
    let file = c.word_at.ensures ∙ ap (λ l. get_or (map string_bytes l) 0 []) c.deref-2.ensures.value in
    let bytes = c.source_at-bytes.ensures ∙ ap (λ l. get_or (map (λ s. s.items) l) 0 []) c.deref.ensures.value in
    executed (meaning_of c.args.asked.now) _ _ _ _ _ _ _ _ _ _ _ _ _ _ _ _ c.requires.command c.requires.bounds c.most_c_bytes-limit.ensures file bytes c.in-Ok.ensures c.run_c-outcome.ensures c.finish_outcome.ensures
