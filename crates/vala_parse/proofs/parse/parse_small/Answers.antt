use Rattle.std.proofs.Common.{sym, ◌∙◌}
use Rattle.vala_parse.specs.Files.{file_in}
use Rattle.vala_parse.proofs.Answered.{answers_fault, answers_more, answers_tree}
use Rattle.vala_parse.proofs.parse.parse_small.Goals as goal

pub returns-in-Err : goal.returns-in-Err
returns-in-Err c =
    answers_fault c.args.bytes.now c.args.file c.new-lexer.result c.new-cursor.result.front c.file.new.cursor.front c.new-lexer.ensures c.new-cursor.ensures c.requires.small c.in-Err.ensures.kept
    file_in c.in-Err.stop c.end-end.result c.fault.result c.in-Err.ensures.tree c.end-end.ensures c.fault.ensures

pub returns-then-is_at_end : goal.returns-then-is_at_end
returns-then-is_at_end c =
    answers_tree c.args.bytes.now c.args.file c.new-lexer.result c.new-cursor.result.front c.file.new.cursor.front c.new-lexer.ensures c.new-cursor.ensures c.requires.small c.in-Ok.ensures.kept
    (file_in c.in-Ok.text) c.count.result c.in-Ok.ensures.tree (sym c.is_at_end.ensures ∙ c.if-is_at_end.true) c.count.ensures

pub returns : goal.returns
returns c =
    answers_more c.args.bytes.now c.args.file c.new-lexer.result c.new-cursor.result.front c.file.new.cursor.front c.new-lexer.ensures c.new-cursor.ensures c.requires.small c.in-Ok.ensures.kept
    (file_in c.in-Ok.text) c.end-end.result c.fault-2.result c.in-Ok.ensures.tree (sym c.is_at_end.ensures ∙ c.if-is_at_end.false) c.end-end.ensures c.fault-2.ensures
