-- The part stands further on, or nowhere.
use Rattle.std.proofs.Common.{◌∙◌, sym, arith}
use Rattle.std.proofs.lemmas.List.{take_rest}
use Rattle.c_texts.proofs.ByteLemmas.{place_more, place_none}
use Rattle.c_texts.proofs.bytes.place_in.Goals as goal

pub loop-at-preserved : goal.loop-at-preserved
loop-at-preserved c =
    let none = rw take_rest at (sym c.is_front.ensures ∙ c.if-is_front.false) in
    place_more c.args.part.now c.args.bytes.now c.loop-at.at (omega arith) none c.loop-at.invariant

pub returns-else-is_empty : goal.returns-else-is_empty
returns-else-is_empty c = sym (place_none c.args.part.now c.args.bytes.now c.loop-at.at (omega arith) (grind arith) c.loop-at.invariant)
