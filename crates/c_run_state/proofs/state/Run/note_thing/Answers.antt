-- One more block is a thing, with the next serial.
use Rattle.std.proofs.Common.{◌≡◌, ◌+◌, ◌∙◌, ap, arith}
use Rattle.c_run_state.proofs.Notes.{thing_noted}
use Rattle.c_run_state.proofs.state.Run.note_thing.Goals as goal

pub returns-clause-made : goal.returns-clause-made
returns-clause-made c = λ cells env s books.
    let next : c.in-Some.serial ≡ c.args.self.now.made + 1 = omega arith in
    thing_noted env c.args.self.now s c.args.kind c.args.count c.args.is_sliced cells c.add.new.self c.append.new.list c.append-2.new.list c.in-Some.serial (c.len.result + 1) next (ap (λ n. n + 1) (c.len.ensures ∙ c.args.self.now.standings.ok.0))
    c.in_ok-add.ensures.added c.in_ok-append.ensures c.in_ok-append-2.ensures books
