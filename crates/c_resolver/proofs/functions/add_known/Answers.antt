use Rattle.std.proofs.Common.{sym}
use Rattle.c_resolver.proofs.RoutineLemmas.{added_kept, added_new, added_set, on_done}
use Rattle.c_resolver.proofs.functions.add_known.Goals as goal

pub returns-then-len-number : goal.returns-then-len-number
returns-then-len-number c = on_done c.push.result c.push.ensures (λ e.
    added_new c.args.known.now c.as_slice.result.now c.args.one c.as_slice-2.result.now c.number_of-number.result c.len.result c.as_slice.ensures
    c.as_slice-2.ensures c.number_of-number.ensures c.len.ensures
    c.push.new.items c.if-len-number.true e)

pub returns-then-is_some : goal.returns-then-is_some
returns-then-is_some c =
    added_set c.args.known.now c.as_slice.result.now c.args.one c.as_slice-2.result.now c.number_of-number.result c.len.result c.as_slice.ensures
    c.as_slice-2.ensures c.number_of-number.ensures c.len.ensures
    c.set.new.self c.if-len-number.false (sym c.if-is_some.ensures) c.set.ensures

pub returns-else-is_some : goal.returns-else-is_some
returns-else-is_some c =
    added_kept c.args.known.now c.as_slice.result.now c.args.one c.as_slice-2.result.now c.number_of-number.result c.len.result c.as_slice.ensures
    c.as_slice-2.ensures c.number_of-number.ensures c.len.ensures
    c.if-len-number.false (sym c.if-is_some.ensures)
