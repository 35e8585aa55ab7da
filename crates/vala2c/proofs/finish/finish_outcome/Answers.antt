use Rattle.std.proofs.Common.{[], refl, ap, sym, ◌∙◌, arith}
use Rattle.vg_base.proofs.OutsideLaws.{takes_none}
use Rattle.vala2c.specs.Status.{exit_byte}
use Rattle.vala2c.specs.Course as course
use Rattle.vala2c.proofs.finish.finish_outcome.Goals as goal

pub returns-then-outcome : goal.returns-then-outcome
returns-then-outcome g c =
    record {
      line = [];
      spoken = c.args.outcome.kind;
      speaks = course.nothing c.if-outcome.true;
      closes = rw c.new.ensures.kind (course.put (takes_none (g.E.Sink.seen c.args.err.now) (g.E.Sink.seen c.args.err.now) refl, omega arith));
      code = c.new.ensures.code ∙ ap exit_byte (sym c.new.ensures.kind);
    }
