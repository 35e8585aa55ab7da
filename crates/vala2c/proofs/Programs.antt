-- The program of the files runs: from the theorem on the compiler to what is seen of a call.
use Rattle.std.proofs.Common.{◌≡◌, ◌≢◌, ℕ, ◌+◌, ◌-◌, ◌≤◌, Bool, true, false, if◌then◌else◌, List, [], ◌∷◌, ◌++◌, length, Option, Some, None, Result, Ok, refl, sym, ap, ◌∙◌, subst, inl, inr, ◌⊎◌, arith, append-nil, length-append, pos}
use Rattle.std.specs.Prelude.{IsSome}
use Rattle.std.proofs.lemmas.Bool.{cases_lt}
use Rattle.vg_base.specs.declared.outside.Call.{Call}
use Rattle.vg_base.specs.declared.event.Stream.{Stream}
use Rattle.vg_base.specs.declared.event.Stream.TheVariants as stream
use Rattle.vg_base.specs.declared.event.UndefKind.{UndefKind}
use Rattle.vg_base.specs.declared.event.UndefKind.TheVariants as u
use Rattle.vg_base.specs.declared.event.VEnd.{VEnd}
use Rattle.vg_base.specs.declared.event.VEnd.TheVariants as v
use Rattle.vg_base.specs.declared.event.CEnd.{CEnd}
use Rattle.vg_base.specs.declared.event.CEnd.TheVariants as c
use Rattle.vg_base.specs.Outside.{Files, FolderView, SinkView, Takes, Rose}
use Rattle.vg_base.specs.Machine.{Machine, moves, said}
use Rattle.vg_base.specs.Run.{Begins}
use Rattle.vg_base.specs.World.{World, IsName, IsWorld, Mates}
use Rattle.vg_base.specs.Headline.{Headline, Observed, WithinLimits, events, printed}
use Rattle.vg_base.proofs.OutsideLaws.{takes_both, takes_none}
use Rattle.vg_base.proofs.MachineLaws.{said_ended, said_add}
use Rattle.vg_base.proofs.RunLaws.{begins_trans, cut_begins}
use Rattle.vg_base.proofs.HeadlineLaws.{printed_append}
use Rattle.c_tree.specs.declared.kinds.Refusal.{Refusal as CRefusal}
use Rattle.c_tree.specs.declared.unit.Unit.{Unit as CUnit}
use Rattle.c_tree.specs.Answers.{Answers}
use Rattle.c_tree.specs.Laws.{OneAnswer}
use Rattle.c_meaning.specs.Code.{reading, program_by}
use Rattle.c_meaning.specs.Runs.{CRun, meaning, opening_by}
use Rattle.c_emit.specs.Program.{Program}
use Rattle.c_emit.specs.VMeaning.{VRun}
use Rattle.c_emit.specs.Laws.{ProgramsAreQuiet}
use Rattle.vala_compile.specs.Program.{Reads}
use Rattle.vala_compile.specs.Correct.{IsCompiled}
use Rattle.run_texts.specs.Texts.{trace_text, live_text}
use Rattle.command_line.specs.declared.choice.Command.TheVariants as command
use Rattle.command_line.specs.Names.{c_file}
use Rattle.command_line.specs.Meaning.{Meaning}
use Rattle.vala2c.specs.declared.status.Kind.{Kind}
use Rattle.vala2c.specs.declared.status.Kind.TheVariants as kind
use Rattle.vala2c.specs.declared.status.Status.{Status}
use Rattle.vala2c.specs.Status.{line_of, kind_of_end, unheard}
use Rattle.vala2c.specs.Course.{Chain, TakesFront, Ran, AreBytes, HasC, IsBuilt, Goes, GoesBy, Outcome, IsCall, read_back, world_of, texts_of, says, says_run}
use Rattle.vala2c.specs.Course as course
use Rattle.vala2c.specs.Causes.{AreOf, Hold, HoldInput, SpeaksOf, IsOfRun, IsOfEnd, IsProgramOf, kind_of_program_end, ProgramEnds, ProgramPrints, AsksNoTexts, RunsProgram, ProgramTold}
use Rattle.vala2c.proofs.Reading.{After, run_checks, run_emits}
use Rattle.vala2c.proofs.Causes.{Told, ran_so, told, call_so, command_is, rose_before, rose_behind, unheard_is, finish_faults, nothing_begins}
use Rattle.vala2c.proofs.Causes as causes
use Rattle.vala2c.proofs.ToldCalls.{run_heard}
use Rattle.vala2c.proofs.Folders.{back_told, one_content}

-- 1. Two runs that meet

no_rest : {A : Type 0} (rest : List A) → length rest ≡ 0 → rest ≡ []
no_rest [] h = refl
no_rest (x ∷ rest) h = absurd (omega arith)

-- lists of which each begins the other
begins_same : {A : Type 0} (xs ys : List A) → Begins xs ys → Begins ys xs → xs ≡ ys
begins_same xs ys p q =
    let a : length ys ≡ length xs + length p.0 = sym (ap length p.1) ∙ length-append xs p.0 in
    let b : length xs ≡ length ys + length q.0 = sym (ap length q.1) ∙ length-append ys q.0 in
    let none : length p.0 ≡ 0 = omega (arith, a, b) in
    sym (append-nil xs) ∙ ap (λ l. xs ++ l) (sym (no_rest p.0 none)) ∙ p.1

-- what was said up to an end and up to a later one
said_later : {S E F : Type 0} (M : Machine S E F) (n m : ℕ) (s : S) (e : F) → n ≤ m → M.ended (moves M n s) ≡ Some e → said M m s ≡ said M n s
said_later M n m s e le h =
    let same : m ≡ n + (m - n) = omega arith in
    ap (λ k. said M k s) same ∙ said_add M n (m - n) s ∙ ap (λ l. said M n s ++ l) (said_ended M (m - n) (moves M n s) e h) ∙ append-nil (said M n s)

said_at_ends : {S E F : Type 0} (M : Machine S E F) (n m : ℕ) (s : S) (e f : F) → M.ended (moves M n s) ≡ Some e → M.ended (moves M m s) ≡ Some f → said M n s ≡ said M m s
said_at_ends M n m s e f h g =
    elim (cases_lt n m) [
      | inl less ↦ sym (said_later M n m s e (omega arith) h)
      | inr more ↦ said_later M m n s f more g
    ]

-- The run of a program meets that of its unit at the end: the same was said, the same lives, and the ends are mates.
pub record EndsMet (program : Program) (unit : CUnit) (w : World) (limit : ℕ) (end : CEnd) : Type 0 where
  pub steps : ℕ
  pub program_end : VEnd
  pub ended : (VRun program w).ended steps ≡ Some program_end
  pub mates : Mates program_end end
  pub trace : (VRun program w).trace steps ≡ (CRun unit w).trace limit
  pub live : (VRun program w).live steps ≡ (CRun unit w).live limit

is_some : {F : Type 0} (o : Option F) (e : F) → o ≡ Some e → IsSome o
is_some o e is = subst IsSome (sym is) refl

pub ends_met : ProgramsAreQuiet → (program : Program) (unit : CUnit) (w : World) (limit : ℕ) (end : CEnd) → Headline (VRun program w) (CRun unit w) → WithinLimits (CRun unit w) limit → (CRun unit w).ended limit ≡ Some end → EndsMet program unit w limit end
ends_met law program unit w limit end h few is =
    let back = h.backward limit few in
    let met = back.2 end is in
    let on = h.forward back.0 (law.within program w back.0) in
    let there = on.2 met.0 met.1 in
    let same : (CRun unit w).trace on.0 ≡ (CRun unit w).trace limit = ap events (said_at_ends (meaning (program_by reading unit)).machine on.0 limit (opening_by reading unit w) there.0 end there.1 is) in
    record {
      steps = back.0;
      program_end = met.0;
      ended = met.1;
      mates = met.2;
      trace = begins_same ((VRun program w).trace back.0) ((CRun unit w).trace limit) (subst (λ t. Begins ((VRun program w).trace back.0) t) same on.1) back.1;
      live = h.live.at_end back.0 limit (law.within program w back.0) few (is_some ((VRun program w).ended back.0) met.0 met.1) (is_some ((CRun unit w).ended limit) end is);
    }

-- what a unit prints is a front of what its program prints
pub prints_met : (program : Program) (unit : CUnit) (w : World) (limit : ℕ) (s : Stream) → Headline (VRun program w) (CRun unit w) → WithinLimits (CRun unit w) limit → (n : ℕ) × Begins (printed s ((CRun unit w).trace limit)) (printed s ((VRun program w).trace n))
prints_met program unit w limit s h few =
    let back = h.backward limit few in
    (back.0, cut_begins (printed s) (printed_append s) _ _ back.1)

-- 2. The unit that was read back is that of the program

pub record UnitOf (sources : List (List ℕ)) (w : World) (unit : CUnit) : Type 0 where
  pub program : Program
  pub is_program : Reads sources program
  pub same : Headline (VRun program w) (CRun unit w)
  pub within : (n : ℕ) → WithinLimits (CRun unit w) n

same_unit : (a b : CUnit) → ◌≡◌ {A = Result CUnit CRefusal} (Ok a) (Ok b) → a ≡ b
same_unit a b e = cc

pub unit_of : OneAnswer → (sources : List (List ℕ)) (strict : Bool) (c bytes : List ℕ) (w : World) (unit : CUnit) → IsWorld w → IsCompiled sources strict c → bytes ≡ c → Answers bytes (length c) (Ok unit) → UnitOf sources w unit
unit_of one sources strict c bytes w unit world h same a =
    let is : Answers c (length c) (Ok unit) = subst (λ b. Answers b (length c) (Ok unit)) same a in
    let e : h.unit ≡ unit = same_unit h.unit unit (one c (length c) (Ok h.unit) (Ok unit) h.is_unit is) in
    record {
      program = h.program;
      is_program = h.is_program;
      same = subst (λ x. Headline (VRun h.program w) (CRun x w)) e (h.same w world);
      within = subst (λ x. (n : ℕ) → WithinLimits (CRun x w) n) e (h.within w world);
    }

-- a program writes nothing to err, so its unit does not either
quiet : ProgramsAreQuiet → (program : Program) (unit : CUnit) (w : World) (limit : ℕ) (e e' : SinkView) → Headline (VRun program w) (CRun unit w) → WithinLimits (CRun unit w) limit → TakesFront (printed stream.Err ((CRun unit w).trace limit)) e e' → Takes e [] e'
quiet law program unit w limit e e' h few t =
    let met = prints_met program unit w limit stream.Err h few in
    let none : printed stream.Err ((CRun unit w).trace limit) ≡ [] = nothing_begins _ _ (law.no_error program w met.0) met.1 in
    subst (λ l. Takes e l e') (nothing_begins t.0 _ none t.1) t.2

pub world_is : (m : Meaning) (input : List ℕ) → IsName m.name → AreBytes input → IsWorld (world_of m input)
world_is m input name bytes = record { name = name; input = bytes; entries = tt; few = omega arith }

-- 3. Statuses

same_status : (x : VEnd) (y : CEnd) → Mates x y → kind_of_end command.Run y ≡ kind_of_program_end x
same_status (v.Ended n) (c.Ended m) h = ap kind.Ended (sym h)
same_status (v.Trapped k) (c.Aborted l) h = ap kind.Trapped (sym h)
same_status v.Waiting c.Waiting h = refl
same_status v.Dead (c.Undefined u.Freed) h = refl
same_status x y h = absurd h

program_defined : (x : VEnd) (k : UndefKind) → kind_of_program_end x ≢ kind.Undefined k
program_defined (v.Ended n) k h = cc
program_defined (v.Trapped t) k h = cc
program_defined v.Waiting k h = cc
program_defined v.Dead k h = cc

-- a message line of an end names nothing
end_line : (k : Kind) (named source : List ℕ) → IsOfEnd k → line_of k named source ≡ line_of k [] []
end_line (kind.Ended code) named source h = refl
end_line kind.Waiting named source h = refl
end_line (kind.Trapped t) named source h = refl
end_line kind.Dead named source h = refl
end_line k named source h = absurd h

-- an end that a refused put leaves as it is
end_heard : (k : Kind) → IsOfEnd (unheard k) → unheard k ≡ k
end_heard (kind.Ended code) h = absurd h
end_heard kind.Usage h = refl
end_heard kind.NoFile h = refl
end_heard kind.ReadFault h = refl
end_heard kind.WriteFault h = refl
end_heard kind.OutFault h = refl
end_heard (kind.Refused r) h = refl
end_heard (kind.CRefused r) h = refl
end_heard kind.StepsSpent h = refl
end_heard kind.Waiting h = refl
end_heard (kind.Trapped t) h = refl
end_heard kind.Dead h = refl
end_heard (kind.Undefined d) h = refl
end_heard kind.Memory h = refl

-- 4. A run of the unit

-- it came to an end
pub record ToEnd (m : Meaning) (unit : CUnit) (w : World) (o o' e e' : SinkView) (k : Kind) (texts : List ℕ) : Type 0 where
  pub end : CEnd
  pub is : (CRun unit w).ended m.steps ≡ Some end
  pub status : k ≡ kind_of_end m.command end
  pub told : texts ≡ texts_of m (CRun unit w) m.steps
  pub out : Takes o (printed stream.Out ((CRun unit w).trace m.steps)) o'
  pub err : Takes e (printed stream.Err ((CRun unit w).trace m.steps)) e'

-- or to none
abbrev pub NoEnd : Kind → Type 0
NoEnd k = (k ≡ kind.StepsSpent) ⊎ ((k ≡ kind.OutFault) ⊎ (k ≡ kind.Memory))

pub to_end : (m : Meaning) (unit : CUnit) (w : World) (o o' e e' : SinkView) (k : Kind) (texts : List ℕ) (muted : Bool) → Ran m unit w o o' e e' k texts muted → ToEnd m unit w o o' e e' k texts ⊎ NoEnd k
to_end m unit w o o' e e' _ _ _ (course.ended end is out err) = inl (record { end = end; is = is; status = refl; told = refl; out = out.0; err = err.0 })
to_end m unit w o o' e e' _ _ _ (course.spent is out err) = inr (inl refl)
to_end m unit w o o' e e' _ _ _ (course.refused out err r) = inr (inr (inl refl))
to_end m unit w o o' e e' _ _ _ (course.refused_on_err out err r) = inr (inr (inl refl))
to_end m unit w o o' e e' _ _ _ (course.memory out err) = inr (inr (inr refl))

no_parts : (a b : Bool) (xs ys : List ℕ) → a ≡ false → b ≡ false → (if a then xs else []) ++ (if b then ys else []) ≡ []
no_parts false false xs ys h k = refl
no_parts true b xs ys h k = cc
no_parts false true xs ys h k = cc

no_texts : {F : Type 0} (m : Meaning) (X : Observed F) (n : ℕ) → (m.trace ≡ false) × (m.live ≡ false) → texts_of m X n ≡ []
no_texts m X n none = no_parts m.trace m.live (trace_text (X.trace n)) (live_text (X.live n)) none.0 none.1

-- no text is told where none is asked for
pub plain_run : (m : Meaning) (unit : CUnit) (w : World) (o o' e e' : SinkView) (k : Kind) (texts : List ℕ) (muted : Bool) → Ran m unit w o o' e e' k texts muted → (m.trace ≡ false) × (m.live ≡ false) → texts ≡ []
plain_run m unit w o o' e e' _ _ _ (course.ended end is out err) none = no_texts m (CRun unit w) m.steps none
plain_run m unit w o o' e e' _ _ _ (course.spent is out err) none = no_texts m (CRun unit w) m.steps none
plain_run m unit w o o' e e' _ _ _ (course.refused out err r) none = refl
plain_run m unit w o o' e e' _ _ _ (course.refused_on_err out err r) none = refl
plain_run m unit w o o' e e' _ _ _ (course.memory out err) none = refl

not_end : {A : Type 0} (k : Kind) → NoEnd k → IsOfEnd k → A
not_end k (inl e) h = absurd (subst IsOfEnd e h)
not_end k (inr (inl e)) h = absurd (subst IsOfEnd e h)
not_end k (inr (inr e)) h = absurd (subst IsOfEnd e h)

spent_defined : (d : UndefKind) → kind.StepsSpent ≢ kind.Undefined d
spent_defined d h = cc

fault_defined : (d : UndefKind) → kind.OutFault ≢ kind.Undefined d
fault_defined d h = cc

memory_defined : (d : UndefKind) → kind.Memory ≢ kind.Undefined d
memory_defined d h = cc

ended_defined : (d : UndefKind) → kind.Ended (pos 0) ≢ kind.Undefined d
ended_defined d h = cc

no_end_defined : (k : Kind) (d : UndefKind) → NoEnd k → k ≢ kind.Undefined d
no_end_defined k d (inl e) h = spent_defined d (sym e ∙ h)
no_end_defined k d (inr (inl e)) h = fault_defined d (sym e ∙ h)
no_end_defined k d (inr (inr e)) h = memory_defined d (sym e ∙ h)

-- 5. What a call says before its texts and its message line

-- the program of the files ended; nothing of the texts and the message line is said yet
pub record EndsBefore (asked : Option Meaning) (files : Files) (o o' e e' : SinkView) (x : Outcome) : Type 0 where
  pub meaning : Meaning
  pub program : Program
  pub input : List ℕ
  pub is_program : IsProgramOf asked files meaning program input
  pub steps : ℕ
  pub end : VEnd
  pub ended : (VRun program (world_of meaning input)).ended steps ≡ Some end
  pub status : x.kind ≡ kind_of_program_end end
  pub texts : x.texts ≡ texts_of meaning (VRun program (world_of meaning input)) steps
  pub out : Takes o (printed stream.Out ((VRun program (world_of meaning input)).trace steps)) o'
  pub err : Takes e (printed stream.Err ((VRun program (world_of meaning input)).trace steps)) e'

pub record ProgramSo (asked : Option Meaning) (files : Files) (o o' e e' : SinkView) (x : Outcome) : Type 0 where
  pub ends : AreOf asked command.Run → IsOfEnd x.kind → EndsBefore asked files o o' e e' x
  pub prints : AreOf asked command.Run → IsOfRun x.kind → ProgramPrints asked files o o'
  pub only : (o' ≡ o) ⊎ ProgramPrints asked files o o'
  pub nothing : Takes e [] e'
  pub plain : AsksNoTexts asked → x.texts ≡ []
  pub defined : (d : UndefKind) → x.kind ≢ kind.Undefined d

-- what is known of the files where C was written and read back
pub record RunOf (asked : Option Meaning) (files : Files) (m : Meaning) (input : List ℕ) (unit : CUnit) : Type 0 where
  pub is_asked : asked ≡ Some m
  pub is_run : m.command ≡ command.Run
  pub sources : List (List ℕ)
  pub holds : Hold files m.files sources
  pub is_input : HoldInput files m.input input
  pub bytes : AreBytes input
  pub unit_is : UnitOf sources (world_of m input) unit

program_of : (asked : Option Meaning) (files : Files) (m : Meaning) (input : List ℕ) (unit : CUnit) → (r : RunOf asked files m input unit) → IsProgramOf asked files m r.unit_is.program input
program_of asked files m input unit r = record { is_asked = r.is_asked; is_run = r.is_run; sources = r.sources; are_sources = r.holds; is_program = r.unit_is.is_program; is_input = r.is_input; are_bytes = r.bytes }

texts_same : {F G : Type 0} (m : Meaning) (X : Observed F) (Y : Observed G) (n k : ℕ) → X.trace n ≡ Y.trace k → X.live n ≡ Y.live k → texts_of m Y k ≡ texts_of m X n
texts_same m X Y n k t l =
    ap (λ tr. (if m.trace then trace_text tr else []) ++ (if m.live then live_text (Y.live k) else [])) (sym t)
    ∙ ap (λ rows. (if m.trace then trace_text (X.trace n) else []) ++ (if m.live then live_text rows else [])) (sym l)

run_status : (m : Meaning) (k : Kind) (end : CEnd) (x : VEnd) → m.command ≡ command.Run → k ≡ kind_of_end m.command end → Mates x end → k ≡ kind_of_program_end x
run_status m k end x run is mates = is ∙ (ap (λ c. kind_of_end c end) run ∙ same_status x end mates)

ends_before : ProgramsAreQuiet → (asked : Option Meaning) (files : Files) (m : Meaning) (input : List ℕ) (unit : CUnit) (o o' e e' : SinkView) (k : Kind) (texts : List ℕ) (muted : Bool) (file : List ℕ) → RunOf asked files m input unit
    → ToEnd m unit (world_of m input) o o' e e' k texts → EndsBefore asked files o o' e e' (says_run k texts muted file)
ends_before law asked files m input unit o o' e e' k texts muted file r t =
    let x = r.unit_is in
    let met = ends_met law x.program unit (world_of m input) m.steps t.end x.same (x.within m.steps) t.is in
    record {
      meaning = m;
      program = x.program;
      input = input;
      is_program = program_of asked files m input unit r;
      steps = met.steps;
      end = met.program_end;
      ended = met.ended;
      status = run_status m k t.end met.program_end r.is_run t.status met.mates;
      texts = t.told ∙ texts_same m (VRun x.program (world_of m input)) (CRun unit (world_of m input)) met.steps m.steps met.trace met.live;
      out = subst (λ tr. Takes o (printed stream.Out tr) o') (sym met.trace) t.out;
      err = subst (λ tr. Takes e (printed stream.Err tr) e') (sym met.trace) t.err;
    }

end_defined : ProgramsAreQuiet → (asked : Option Meaning) (files : Files) (m : Meaning) (input : List ℕ) (unit : CUnit) (o o' e e' : SinkView) (k : Kind) (texts : List ℕ) (d : UndefKind) → RunOf asked files m input unit → ToEnd m unit (world_of m input) o o' e e' k texts
    → k ≢ kind.Undefined d
end_defined law asked files m input unit o o' e e' k texts d r t h =
    let x = r.unit_is in
    let met = ends_met law x.program unit (world_of m input) m.steps t.end x.same (x.within m.steps) t.is in
    program_defined met.program_end d (sym (run_status m k t.end met.program_end r.is_run t.status met.mates) ∙ h)

program_prints : (asked : Option Meaning) (files : Files) (m : Meaning) (input : List ℕ) (unit : CUnit) (o o' : SinkView) → RunOf asked files m input unit → TakesFront (printed stream.Out ((CRun unit (world_of m input)).trace m.steps)) o o' → ProgramPrints asked files o o'
program_prints asked files m input unit o o' r t =
    let x = r.unit_is in
    let met = prints_met x.program unit (world_of m input) m.steps stream.Out x.same (x.within m.steps) in
    record {
      meaning = m;
      program = x.program;
      input = input;
      is_program = program_of asked files m input unit r;
      steps = met.0;
      front = t.0;
      begins = begins_trans t.0 _ _ t.1 met.1;
      out = t.2;
    }

ran_program : ProgramsAreQuiet → (asked : Option Meaning) (files : Files) (m : Meaning) (input : List ℕ) (unit : CUnit) (o o' e e' : SinkView) (k : Kind) (texts : List ℕ) (muted : Bool) (file : List ℕ) → RunOf asked files m input unit
    → TakesFront (printed stream.Out ((CRun unit (world_of m input)).trace m.steps)) o o' → Takes e [] e' → ((m.trace ≡ false) × (m.live ≡ false) → texts ≡ []) → ToEnd m unit (world_of m input) o o' e e' k texts ⊎ NoEnd k
    → ProgramSo asked files o o' e e' (says_run k texts muted file)
ran_program law asked files m input unit o o' e e' k texts muted file r t none plain (inl end) =
    let p = program_prints asked files m input unit o o' r t in
    record {
      ends = λ of h. ends_before law asked files m input unit o o' e e' k texts muted file r end;
      prints = λ of h. p;
      only = inr p;
      nothing = none;
      plain = λ asks. plain (asks m r.is_asked);
      defined = λ d. end_defined law asked files m input unit o o' e e' k texts d r end;
    }
ran_program law asked files m input unit o o' e e' k texts muted file r t nothing plain (inr none) =
    let p = program_prints asked files m input unit o o' r t in
    record {
      ends = λ of h. not_end k none h;
      prints = λ of h. p;
      only = inr p;
      nothing = nothing;
      plain = λ asks. plain (asks m r.is_asked);
      defined = λ d. no_end_defined k d none;
    }

-- nothing was run
nothing_ran : (asked : Option Meaning) (files : Files) (o e : SinkView) (x : Outcome) → (AreOf asked command.Run → IsOfEnd x.kind → ⊥) → (AreOf asked command.Run → IsOfRun x.kind → ⊥) → x.texts ≡ [] → ((d : UndefKind) → x.kind ≢ kind.Undefined d) → ProgramSo asked files o o e e x
nothing_ran asked files o e x a b none c =
    record { ends = λ of h. absurd (a of h); prints = λ of h. absurd (b of h); only = inl refl; nothing = takes_none e e refl; plain = λ asks. none; defined = c }

-- what was read back was run
back_ran : OneAnswer → ProgramsAreQuiet → (m : Meaning) (files : Files) (f g : FolderView) (o e : SinkView) (input : List ℕ) (rs : List Call) (c b : List ℕ) (unit : CUnit) (o' e' : SinkView) (k : Kind) (texts : List ℕ) (muted : Bool) (file : List ℕ) → IsName m.name
    → After f files → Chain f (read_back m rs c (Ok b)) g → m.command ≡ command.Run → IsBuilt m input rs c → Answers b (length c) (Ok unit) → Ran m unit (world_of m input) o o' e e' k texts muted → ProgramSo (Some m) files o o' e e' (says_run k texts muted file)
back_ran one law m files f g o e input rs c b unit o' e' k texts muted file name known chain run h a r =
    let w = back_told f g files m h.sources input c (Ok b) rs h.all_given known chain in
    let same = one_content (w.after (c_file m.name)) b c w.honest w.written in
    let x = unit_of one h.sources m.strict_null c b (world_of m input) unit (world_is m input name w.bytes) h.compiled same a in
    let of : RunOf (Some m) files m input unit = record { is_asked = refl; is_run = run; sources = h.sources; holds = w.holds; is_input = w.is_input; bytes = w.bytes; unit_is = x } in
    let so = ran_so m unit (world_of m input) o o' e e' k texts muted r in
    let none = quiet law x.program unit (world_of m input) m.steps e e' x.same (x.within m.steps) so.err in
    ran_program law (Some m) files m input unit o o' e e' k texts muted file of so.out none (plain_run m unit (world_of m input) o o' e e' k texts muted r) (to_end m unit (world_of m input) o o' e e' k texts muted r)

c_program : OneAnswer → ProgramsAreQuiet → (m : Meaning) (files : Files) (f g : FolderView) (o e : SinkView) (calls : List Call) (input file b : List ℕ) (limit : ℕ) (unit : CUnit) (o' e' : SinkView) (k : Kind) (texts : List ℕ) (muted : Bool) → IsName m.name
    → (AreOf (Some m) command.Exec → ⊥) → After f files → Chain f calls g → HasC m calls input file b limit → Answers b limit (Ok unit) → Ran m unit (world_of m input) o o' e e' k texts muted → ProgramSo (Some m) files o o' e e' (says_run k texts muted file)
c_program one law m files f g o e _ input _ b _ unit o' e' k texts muted name not known chain (course.back rs _ c _ run built) a r =
    back_ran one law m files f g o e input rs c b unit o' e' k texts muted (c_file m.name) name known chain run built a r
c_program one law m files f g o e calls input file b _ unit o' e' k texts muted name not known chain (course.given _ _ _ _ exec alone all) a r = absurd (not (m, refl, exec))

goes_program : OneAnswer → ProgramsAreQuiet → (m : Meaning) (files : Files) (f g : FolderView) (o e : SinkView) (calls : List Call) (o' e' : SinkView) (x : Outcome) → IsName m.name → (AreOf (Some m) command.Exec → ⊥) → After f files → Chain f calls g → Goes m o e calls o' e' x
    → ProgramSo (Some m) files o o' e e' x
goes_program one law m files f g o e calls o' e' _ name not known chain (course.no_file file rs up) = nothing_ran (Some m) files o e _ (λ of h. h) (λ of h. h) refl (λ d h. cc)
goes_program one law m files f g o e calls o' e' _ name not known chain (course.unread file rs up) = nothing_ran (Some m) files o e _ (λ of h. h) (λ of h. h) refl (λ d h. cc)
goes_program one law m files f g o e calls o' e' _ name not known chain (course.refused ss i rs r all b) = nothing_ran (Some m) files o e _ (λ of h. h) (λ of h. h) refl (λ d h. cc)
goes_program one law m files f g o e calls o' e' _ name not known chain (course.accepted ss i rs is all a) =
    let no = λ (of : AreOf (Some m) command.Run). run_checks m.command (command_is (Some m) m command.Run refl of) is in nothing_ran (Some m) files o e _ (λ of h. no of) (λ of h. no of) refl ended_defined
goes_program one law m files f g o e calls o' e' _ name not known chain (course.unwritten i rs c h) = nothing_ran (Some m) files o e _ (λ of h. h) (λ of h. h) refl (λ d h. cc)
goes_program one law m files f g o e calls o' e' _ name not known chain (course.emitted i rs c em h) =
    let no = λ (of : AreOf (Some m) command.Run). run_emits m.command (command_is (Some m) m command.Run refl of) em in nothing_ran (Some m) files o e _ (λ of h. no of) (λ of h. no of) refl ended_defined
goes_program one law m files f g o e calls o' e' _ name not known chain (course.gone i rs c ru h) = nothing_ran (Some m) files o e _ (λ of h. h) (λ of h. h) refl (λ d h. cc)
goes_program one law m files f g o e calls o' e' _ name not known chain (course.unread_back i rs c ru h) = nothing_ran (Some m) files o e _ (λ of h. h) (λ of h. h) refl (λ d h. cc)
goes_program one law m files f g o e calls o' e' _ name not known chain (course.c_refused cs i f2 b l r h a) = nothing_ran (Some m) files o e _ (λ of h. h) (λ of h. h) refl (λ d h. cc)
goes_program one law m files f g o e calls o' e' _ name not known chain (course.ran cs i file b l unit p q k texts muted h a r) =
    c_program one law m files f g o e calls i file b l unit o' e' k texts muted name not known chain h a r
goes_program one law m files f g o e calls o' e' _ name not known chain (course.memory cs p) = nothing_ran (Some m) files o e _ (λ of h. h) (λ of h. h) refl memory_defined

-- 6. The clause

ends_behind : (asked : Option Meaning) (files : Files) (o o' e mid e' : SinkView) (x : Outcome) (k : Kind) → k ≡ x.kind → (Takes mid (x.texts ++ line_of x.kind x.named x.source) e' ⊎ Rose e.faults e'.faults) → IsOfEnd x.kind → EndsBefore asked files o o' e mid x → ProgramEnds asked files o o' e e' k
ends_behind asked files o o' e mid e' x k same heard is b =
    record {
      meaning = b.meaning;
      program = b.program;
      input = b.input;
      is_program = b.is_program;
      steps = b.steps;
      end = b.end;
      ended = b.ended;
      status = same ∙ b.status;
      out = b.out;
      err = go heard;
    }
  where
    errs : List ℕ
    errs = printed stream.Err ((VRun b.program (world_of b.meaning b.input)).trace b.steps)

    texts : List ℕ
    texts = texts_of b.meaning (VRun b.program (world_of b.meaning b.input)) b.steps

    line_is : line_of x.kind x.named x.source ≡ line_of k [] []
    line_is = end_line x.kind x.named x.source is ∙ ap (λ z. line_of z [] []) (sym same)

    go : (Takes mid (x.texts ++ line_of x.kind x.named x.source) e' ⊎ Rose e.faults e'.faults) → Takes e (errs ++ (texts ++ line_of k [] [])) e' ⊎ Rose e.faults e'.faults
    go (inl put) =
        let said = subst (λ z. Takes mid (z ++ line_of x.kind x.named x.source) e') b.texts put in
        inl (takes_both e mid e' errs (texts ++ line_of k [] []) b.err (subst (λ z. Takes mid (texts ++ z) e') line_is said))
    go (inr r) = inr r

finished : (asked : Option Meaning) (files : Files) (o o' e mid e' : SinkView) (x : Outcome) (k : Kind) → e.faults ≤ mid.faults → mid.faults ≤ e'.faults → (x.muted ≡ true → Rose e.faults mid.faults) → SpeaksOf asked x.kind x.named x.source → ProgramSo asked files o o' e mid x
    → Told x mid e' k → RunsProgram asked files o o' e e' k
finished asked files o o' e mid e' x _ le later on_err speaks so (causes.line m t) =
    record {
      ends = λ of h. ends_behind asked files o o' e mid e' x x.kind refl (inl t) h (so.ends of h);
      prints = so.prints;
      only = so.only;
      said = λ asks. (
          let put = subst (λ z. Takes mid (z ++ line_of x.kind x.named x.source) e') (so.plain asks) t in
          inl (x.named, x.source, speaks, takes_both e mid e' [] (line_of x.kind x.named x.source) so.nothing put)
          );
      defined = so.defined;
    }
finished asked files o o' e mid e' x _ le later on_err speaks so (causes.mute m) =
    let r = rose_behind e.faults mid.faults e'.faults (on_err m) later in
    record {
      ends = λ of h. ends_behind asked files o o' e mid e' x x.kind refl (inr r) h (so.ends of h);
      prints = so.prints;
      only = so.only;
      said = λ asks. inr (inl r);
      defined = so.defined;
    }
finished asked files o o' e mid e' x _ le later on_err speaks so (causes.rose n lt r) =
    let q = rose_before e.faults mid.faults e'.faults le r in
    record {
      ends = λ of h. (let is = subst IsOfEnd (end_heard x.kind h) h in ends_behind asked files o o' e mid e' x (unheard x.kind) (end_heard x.kind h) (inr q) is (so.ends of is));
      prints = λ of h. so.prints of (run_heard x.kind h);
      only = so.only;
      said = λ asks. inr (inl q);
      defined = λ d h. so.defined d (unheard_is x.kind (kind.Undefined d) h (λ y. cc));
    }
finished asked files o o' e mid e' x _ le later on_err speaks so causes.no_memory =
    record {
      ends = λ of h. absurd h;
      prints = λ of h. absurd h;
      only = so.only;
      said = λ asks. inr (inr refl);
      defined = memory_defined;
    }

by_program : OneAnswer → ProgramsAreQuiet → (asked : Option Meaning) (files : Files) (f g : FolderView) (o e : SinkView) (calls : List Call) (o' e' : SinkView) (x : Outcome) → ((m : Meaning) → asked ≡ Some m → IsName m.name) → (AreOf asked command.Exec → ⊥) → After f files → Chain f calls g
    → GoesBy o e asked calls o' e' x → ProgramSo asked files o o' e e' x
by_program one law _ files f g o e _ _ _ _ name not known chain course.usage = nothing_ran None files o e _ (λ of h. h) (λ of h. h) refl (λ d h. cc)
by_program one law asked files f g o e _ _ _ _ name not known chain (course.no_memory _) = nothing_ran asked files o e _ (λ of h. h) (λ of h. h) refl memory_defined
by_program one law _ files f g o e calls o' e' x name not known chain (course.asked m _ _ _ _ goes) = goes_program one law m files f g o e calls o' e' x (name m refl) not known chain goes

pub program_told : OneAnswer → ProgramsAreQuiet → (asked : Option Meaning) (f f' : FolderView) (o o' e e' : SinkView) (status : Status) → ((m : Meaning) → asked ≡ Some m → IsName m.name) → IsCall asked f f' o o' e e' status → ProgramTold asked f o o' e e' status.kind
program_told one law asked f f' o o' e e' status name call =
    λ files is not.
    let x = call.outcome in
    let so = call_so asked o e call.calls o' call.middle x call.goes in
    finished asked files o o' e call.middle e' x status.kind so.sinks.err_faults (finish_faults x call.middle e' status call.finishes) so.sinks.on_err so.speaks
    (by_program one law asked files f f' o e call.calls o' call.middle x name not is call.chain call.goes) (told x call.middle e' status call.finishes)
