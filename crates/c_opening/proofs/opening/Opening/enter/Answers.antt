-- The end stands behind the entry.
use Rattle.std.proofs.Common.{refl}
use Rattle.std.proofs.lemmas.Result.{on_ok_weaker}
use Rattle.c_opening.proofs.Shown.{works}
use Rattle.c_opening.proofs.opening.Opening.enter.Goals as goal

pub returns : goal.returns
returns c =
    on_ok_weaker c.push-2.result (λ pushed. (
      refl,
      λ env s o.
          works env c.push-2.new.self s c.args.main c.args.array c.in_ok-arguments.arguments.items c.in_ok-arguments.ensures o.idle
          (pushed env _ tt (c.in_ok-push.ensures env s tt o.shows)),
    )) c.push-2.ensures
