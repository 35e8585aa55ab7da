use Rattle.std.proofs.Common.{refl, ap, sym, ◌∙◌}
use Rattle.vala2c.specs.declared.status.Kind.TheVariants as kind
use Rattle.vala2c.specs.Status.{exit_byte}
use Rattle.vala2c.specs.Course as course
use Rattle.vala2c.proofs.finish.say.Goals as goal

pub returns-in-Ok : goal.returns-in-Ok
returns-in-Ok g c =
    record {
      line = _;
      spoken = _;
      speaks = course.answer refl;
      closes = rw (c.new.ensures.kind, ← c.in-Ok.ensures, ← c.deref.ensures.value) c.put_last.ensures;
      code = c.new.ensures.code ∙ ap exit_byte (sym c.new.ensures.kind);
    }

pub returns-in-Err : goal.returns-in-Err
returns-in-Err g c =
    record {
      line = _;
      spoken = kind.Memory;
      speaks = course.no_memory c.args.named.now c.args.source.now refl;
      closes = rw c.new-in-Err.ensures.kind c.put_last-in-Err.ensures;
      code = c.new-in-Err.ensures.code ∙ ap exit_byte (sym c.new-in-Err.ensures.kind);
    }
