-- Fronts of what is put.
use Rattle.std.proofs.Common.{ℕ, ◌≤◌, List, take, drop}
use Rattle.std.proofs.lemmas.List.{take-append-drop}
use Rattle.vg_base.specs.Outside.{SinkView, Takes}
use Rattle.c_interpreter.specs.Runs.{TookFront}

pub front_of_text : (old : SinkView) (t : List ℕ) (taken : ℕ) (new : SinkView) → old.faults ≤ new.faults → Takes old (take taken t) new → TookFront old t new
front_of_text old t taken new f e = record { front = take taken t; begins = (drop taken t, take-append-drop taken t); took = e; faults = f }
