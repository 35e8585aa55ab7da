use Rattle.std.proofs.Common.{◌==◌, ◌+◌, slice_index_or, arith, sym, ap, subst, ◌∙◌}
use Rattle.std.specs.List.{list_any}
use Rattle.vala_types.specs.declared.walk.Found.{Found}
use Rattle.vala_types.specs.Ties.{bases_of}
use Rattle.vala_types.specs.Walk.{add_all}
use Rattle.vala_types.proofs.WalkLaws.{IsWalk, walk_goes_on, walk_finds, walk_ends, walk_is_full}
use Rattle.vala_types.proofs.ties.Ties.is_reached.Goals as goal

pub returns-then-at-len : goal.returns-then-at-len
returns-then-at-len c =
    walk_ends c.args.self.now c.args.number c.args.base c.loop-at.at c.loop-at.found c.loop-at.invariant
    (omega (arith, c.len.ensures.value, c.if-at-len.true)) (omega (arith, c.count.ensures.exact, c.count.ensures.bounded))

pub returns-then-contains : goal.returns-then-contains
returns-then-contains c =
    let same = c.bases_of-bases.ensures ∙ ap (λ xs. bases_of c.args.self.now (slice_index_or xs c.loop-at.at 0)) c.deref.ensures.0 in
    walk_finds c.args.self.now c.args.number c.args.base c.loop-at.at c.loop-at.found c.loop-at.invariant
    (omega (arith, c.len.ensures.value, c.if-at-len.false))
    (ap (list_any (λ y. y == c.args.base)) (sym same) ∙ sym c.contains.ensures.value ∙ c.if-contains.true)

pub loop-at-preserved : goal.loop-at-preserved
loop-at-preserved c =
    let same = c.bases_of-bases.ensures ∙ ap (λ xs. bases_of c.args.self.now (slice_index_or xs c.loop-at.at 0)) c.deref.ensures.0 in
    let added = c.add_all.ensures ∙ ap (λ xs. add_all xs c.loop-at.found) same in
    let W : Found → Type 0 = λ f. IsWalk c.args.self.now c.args.number c.args.base f (c.loop-at.at + 1) in
    subst W (sym added)
    (walk_goes_on c.args.self.now c.args.number c.args.base c.loop-at.at c.loop-at.found c.loop-at.invariant
    (omega (arith, c.len.ensures.value, c.if-at-len.false))
    (ap (list_any (λ y. y == c.args.base)) (sym same) ∙ sym c.contains.ensures.value ∙ c.if-contains.false))

pub returns : goal.returns
returns c =
    let full = walk_is_full c.args.self.now c.args.number c.args.base c.loop-at.at c.loop-at.found c.loop-at.invariant in
    walk_ends c.args.self.now c.args.number c.args.base c.loop-at.at c.loop-at.found c.loop-at.invariant
    (omega (arith, full, c.loop-at-test.false)) (omega (arith, c.count.ensures.exact, c.count.ensures.bounded))
