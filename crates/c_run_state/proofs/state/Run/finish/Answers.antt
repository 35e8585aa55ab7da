-- The run ends with the number that was given.
use mir.Syntax.{w32}
use mir.Val.{SFits}
use Rattle.std.proofs.Common.{rules, ◌∙◌, ap, subst, ℤ, Option, Result, Ok}
use Rattle.std.proofs.lemmas.Int.{to_z-of_z}
use Rattle.vg_base.specs.declared.event.CEnd.TheVariants as «end»
use Rattle.vg_base.specs.declared.event.UndefKind.{UndefKind}
use Rattle.c_meaning.specs.Blocks.{stop}
use Rattle.c_run_state.specs.Shows.{Shows}
use Rattle.c_run_state.proofs.Numbers.{seen_given, finished_by, refused_by}
use Rattle.c_run_state.proofs.state.Run.finish.Goals as goal

pub returns-in-Ok-Some : goal.returns-in-Ok-Some
returns-in-Ok-Some c = λ env s shows.
    let fits : SFits w32 c.in-Ok-Some.status = search rules in
    let told = c.in-Ok-Some.is ∙ ap (λ (o : Option ℤ). let r : Result (Option ℤ) UndefKind = Ok o in r) c.in-Ok-Some.field-0-is in
    finished_by env c.stop.new.self s s.given _ c.status_given.result c.in-Ok-Some.status (seen_given c.as_ref.result c.args.self.now.given c.as_ref.ensures.value ∙ shows.books.given) c.status_given.ensures told
    (subst (λ z. Shows env c.stop.new.self (stop s («end».Ended z))) (to_z-of_z w32 c.in-Ok-Some.status fits) (c.stop.ensures.shows env s shows))

pub returns-in-Err : goal.returns-in-Err
returns-in-Err c = λ env s shows.
    refused_by env c.undefined.new.self s s.given _ c.status_given.result c.in-Err.kind (seen_given c.as_ref.result c.args.self.now.given c.as_ref.ensures.value ∙ shows.books.given) c.status_given.ensures c.in-Err.is
    (c.undefined.ensures.shows env s shows)
