-- A text has one answer, and that of a printed text is its unit.
use Rattle.std.proofs.Common.{◌≡◌, ◌∙◌, refl, sym, ap, subst, ℕ, ◌≤◌, List, length, Result, Ok, Err}
use Rattle.vg_base.specs.declared.event.Fault.{Fault as Answer}
use Rattle.vg_base.specs.declared.event.Fault.TheVariants.{Refused, Memory}
use Rattle.c_tree.specs.declared.kinds.Refusal.{Refusal}
use Rattle.c_tree.specs.declared.unit.Unit.{Unit as CUnit}
use Rattle.c_tree.specs.Answers.{Answers, Reading, reads, unit}
use Rattle.c_tree.specs.Bare.{bare}
use Rattle.c_tree.specs.Laws.{OneAnswer}
use Rattle.c_printer.specs.Printed.{IsTextOf}
use Rattle.c_round_trip.specs.Laws.{GivesBack, PrintedTextsAreRead}

-- a unit that is answered, and bottom for a refusal
abbrev Same : CUnit → Result CUnit Refusal → Type 0
Same v (Ok u) = v ≡ u
Same v (Err r) = ⊥

module _ (one : OneAnswer) (v : CUnit) (bytes : List ℕ) (limit : ℕ) (text : IsTextOf v bytes) (short : length bytes ≤ limit) where
  own : Answers bytes limit (Ok text.read)
  own = reads text.read text.reads.tokens short text.reads.lexed (unit (length bytes) text.read text.reads.reads text.reads.sound)

  pub back : (r : Result CUnit (Answer Refusal)) → Reading bytes limit r → GivesBack v r
  back (Ok u) h = let same : text.read ≡ u = subst (Same text.read) (one bytes limit (Ok text.read) (Ok u) own h) refl in ap bare (sym same) ∙ text.same
  back (Err (Refused x)) h = subst (Same text.read) (one bytes limit (Ok text.read) (Err x) own h) refl
  back (Err Memory) h = tt

pub printed_read : OneAnswer → PrintedTextsAreRead
printed_read one v bytes limit r text short h = back one v bytes limit text short r h
