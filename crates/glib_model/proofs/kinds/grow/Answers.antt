-- One more that marks nothing.
use Rattle.std.proofs.Common.{◌∙◌, ap, sym, ◌++◌, [], ◌∷◌, None, length, arith}
use Rattle.std.proofs.lemmas.List.{length-append}
use Rattle.glib_model.specs.Kinds.{mark_at}
use Rattle.glib_model.proofs.MarkLemmas.{nothing_more, pushed_on}
use Rattle.glib_model.proofs.kinds.grow.Goals as goal

pub loop-done-preserved : goal.loop-done-preserved
loop-done-preserved c =
    let now = pushed_on c.push.result c.push.new.self.items (c.loop-done.marks.items ++ None ∷ []) c.loop-done.marks.items (sym c.is_err.ensures.value ∙ c.if-is_err.false) c.push.ensures.items in
    let long = ap length now ∙ length-append c.loop-done.marks.items (None ∷ []) in
    (omega (arith, c.loop-done.invariant.0), λ k. ap (λ ms. mark_at ms k) now ∙ nothing_more c.loop-done.marks.items k ∙ c.loop-done.invariant.1 k)
