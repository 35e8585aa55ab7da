-- What a place takes of what was given is stored.
use Rattle.std.proofs.Common.{◌∙◌, sym, subst}
use Rattle.std.proofs.lemmas.Result.{on_ok_weaker}
use Rattle.c_code.specs.Values.{place_seen, value_seen}
use Rattle.c_texts.specs.Answers.{Answers}
use Rattle.c_run_state.specs.Shows.{Shows}
use Rattle.c_steps.specs.Performs.{kept}
use Rattle.c_steps.proofs.Answered.{done, refused}
use Rattle.c_steps.proofs.Entered.{keeps_kept, seen_given}
use Rattle.c_steps.proofs.keeping.keep.Goals as goal

pub returns-in-Ok : goal.returns-in-Ok
returns-in-Ok c = λ env s sized live shows.
    let given = seen_given c.as_ref.result c.args.run.now.given c.as_ref.ensures.value ∙ shows.books.given in
    subst (Shows env c.store.new.self) (sym (keeps_kept env s (place_seen c.args.place) c.args.taken s.given sized))
    (done value_seen env c.store.new.self s c.kept.result c.in-Ok.value (λ h. kept c.args.taken s.given) c.args.run.now.heap _ shows.heap c.in-Ok.is
    (subst (λ g. Answers value_seen c.kept.result (kept c.args.taken g)) given c.kept.ensures) (c.store.ensures env s shows))

pub returns-in-Err : goal.returns-in-Err
returns-in-Err c =
    on_ok_weaker c.refuse.result (λ refusing env s sized live shows.
    let given = seen_given c.as_ref.result c.args.run.now.given c.as_ref.ensures.value ∙ shows.books.given in
    subst (Shows env c.refuse.new.run) (sym (keeps_kept env s (place_seen c.args.place) c.args.taken s.given sized))
    (refused value_seen env c.args.run.now c.refuse.new.run s c.kept.result c.in-Err.fault
    (λ h. kept c.args.taken s.given) c.args.run.now.heap _ shows.heap c.in-Err.is
    (subst (λ g. Answers value_seen c.kept.result (kept c.args.taken g)) given c.kept.ensures) refusing live shows)) c.refuse.ensures
