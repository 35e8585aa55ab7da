use Rattle.std.proofs.Common.{◌==◌, inl, inr, refl, sym, ap, ◌∙◌}
use Rattle.std.specs.List.{list_any}
use Rattle.vala_types.proofs.WalkLaws.{first_of, near_base, on_way}
use Rattle.vala_types.proofs.ties.Ties.is_near.Goals as goal

pub returns-then-contains : goal.returns-then-contains
returns-then-contains c =
    λ _. near_base c.args.self.now c.args.number c.loop.at c.args.base c.loop.invariant
    (ap (list_any (λ y. y == c.args.base)) (sym c.bases_of-bases.ensures) ∙ sym c.contains.ensures.value ∙ c.if-contains.true)

pub loop-preserved : goal.loop-preserved
loop-preserved c =
    inr (on_way c.args.self.now c.args.number c.loop.at c.in-Some.first.now c.loop.invariant
    (first_of c.args.self.now c.loop.at c.in-Some.first.now c.in-Some._others.now (sym c.bases_of-bases.ensures ∙ c.in-Some.ensures.cases.0)))

pub loop-init : goal.loop-init
loop-init c = inl refl
