-- One more entry is dropped.
use Rattle.std.proofs.Common.{◌≡◌, ◌∙◌, ap, drop, ◌+◌, ◌-◌, arith}
use Rattle.std.proofs.lemmas.List.{drop-drop}
use Rattle.name_table.proofs.table.NameTable.truncate.Goals as goal

pub loop-preserved : goal.loop-preserved
loop-preserved g c =
    let next : c.loop.counter - c.args.length + 1 ≡ c.loop.counter + 1 - c.args.length = omega arith in
    (c.pop.ensures ∙ ap (drop 1) c.loop.invariant.0 ∙ drop-drop 1 (c.loop.counter - c.args.length) c.args.self.now ∙ ap (λ n. drop n c.args.self.now) next, λ few. absurd (omega arith))
