-- The text stands at the place, or further on.
use Rattle.std.proofs.Common.{◌≡◌, ◌∙◌, sym, ap, suc, ◌+◌, drop, arith}
use Rattle.std.specs.Str.{bytes_eq}
use Rattle.c_meaning.specs.BlockRows.{quark_in}
use Rattle.glib_model.proofs.QuarkLemmas.{item_in, quark_here, quark_later}
use Rattle.glib_model.proofs.quarks.Quarks.place.Goals as goal

pub returns-then-eq : goal.returns-then-eq
returns-then-eq c =
    let there = item_in c.deref-quark-items.result.now c.self.inside.texts.items c.args.self.now c.loop-at.at c.quark-item.result c.deref-quark-items.ensures.value c.self.view_is c.quark-item.is (omega arith) in
    let same = ap (λ xs. bytes_eq xs c.args.text.now) (sym c.as_slice.ensures.value) ∙ sym c.eq.ensures ∙ c.if-eq.true in
    let one : c.loop-at.at + 1 ≡ suc c.loop-at.at = omega arith in
    one ∙ sym (quark_here c.args.self.now c.loop-at.at c.quark-item.result.items c.args.text.now there same c.loop-at.invariant)

pub loop-at-preserved : goal.loop-at-preserved
loop-at-preserved c =
    let there = item_in c.deref-quark-items.result.now c.self.inside.texts.items c.args.self.now c.loop-at.at c.quark-item.result c.deref-quark-items.ensures.value c.self.view_is c.quark-item.is (omega arith) in
    let apart = ap (λ xs. bytes_eq xs c.args.text.now) (sym c.as_slice.ensures.value) ∙ sym c.eq.ensures ∙ c.if-eq.false in
    let one : suc c.loop-at.at ≡ c.loop-at.at + 1 = omega arith in
    quark_later c.args.self.now c.loop-at.at c.quark-item.result.items c.args.text.now there apart c.loop-at.invariant
    ∙ ap (λ n. quark_in (suc n) (drop n c.args.self.now) c.args.text.now) one
