-- What the status of a call tells of the words, the counts and the message line.
use Rattle.std.proofs.Common.{◌≡◌, ◌≢◌, ℕ, ◌+◌, ◌-◌, ◌^◌, ◌≤◌, ◌<◌, min, Bool, true, false, List, [], ◌∷◌, ◌++◌, length, Option, Some, None, Result, Ok, Err, refl, sym, ap, append_assoc, pos, ◌∙◌, subst, inl, inr, ◌⊎◌, arith}
use Rattle.vg_base.specs.declared.outside.FolderFault.{FolderFault}
use Rattle.vg_base.specs.declared.outside.FolderFault.TheVariants as fault
use Rattle.vg_base.specs.declared.outside.Call.{Call}
use Rattle.vg_base.specs.declared.outside.Call.TheVariants.{Read, Write}
use Rattle.vg_base.specs.declared.event.CEnd.{CEnd}
use Rattle.vg_base.specs.declared.event.CEnd.TheVariants as c
use Rattle.vg_base.specs.declared.event.UndefKind.{UndefKind}
use Rattle.vg_base.specs.declared.event.UndefKind.TheVariants as u
use Rattle.vg_base.specs.Outside.{FolderView, SinkView, IsRead, IsWrite, Takes, Rose}
use Rattle.vg_base.specs.Run.{Begins}
use Rattle.vg_base.specs.World.{World}
use Rattle.vg_base.proofs.OutsideLaws.{takes_none, takes_both}
use Rattle.vg_base.proofs.RunLaws.{begins_refl}
use Rattle.c_tree.specs.declared.unit.Unit.{Unit as CUnit}
use Rattle.static_rules.specs.declared.rules.Refusal.{Refusal}
use Rattle.command_line.specs.declared.choice.Command.{Command}
use Rattle.command_line.specs.declared.choice.Command.TheVariants as command
use Rattle.command_line.specs.Names.{c_file}
use Rattle.command_line.specs.Meaning.{Meaning, writes}
use Rattle.vala2c.specs.declared.status.Kind.{Kind}
use Rattle.vala2c.specs.declared.status.Kind.TheVariants as kind
use Rattle.vala2c.specs.declared.status.Status.{Status}
use Rattle.vala2c.specs.Status.{line_of, kind_of_end, kind_of_undefined, unheard}
use Rattle.vala2c.specs.Course.{Chain, TakesAll, TakesFront, Ran, AllRead, AllGiven, IsBuilt, IsPlanned, IsRefusal, HasC, Goes, GoesBy, Outcome, Speaks, Closes, Finishes, IsCall, prints_out, prints_err, files_read, written, read_back, world_of, says, says_run}
use Rattle.vala2c.specs.Course as course
use Rattle.vala2c.specs.Causes.{AreOf, RunC, IsCOf, SpeaksOf, Says, SaysBehind, IsOfRun, IsOfCheck, IsOfEmit, IsOfExec, Causes, last_of}
use Rattle.vala2c.proofs.Reading.{one_asked, none_asked, run_checks, run_emits, run_executes, check_emits, check_executes, emit_executes, check_writes, exec_writes, is_file, given_read, given_whole, entries, entries_behind, entries_same, last_behind, IsFine, last_read}

-- 1. Counts

rose_under : (limit a b x : ℕ) → a ≤ b → min (b + 1) limit ≤ x → min (a + 1) limit ≤ x
rose_under limit a b x le r = omega arith

rose_over : (limit a x y : ℕ) → min (a + 1) limit ≤ x → x ≤ y → min (a + 1) limit ≤ y
rose_over limit a x y r le = omega arith

-- a count that was no greater before rose too, and one that is no less behind
pub rose_before : (a b x : ℕ) → a ≤ b → Rose b x → Rose a x
rose_before a b x le r = rose_under (2 ^ 64 - 1) a b x le r

pub rose_behind : (a x y : ℕ) → Rose a x → x ≤ y → Rose a y
rose_behind a x y r le = rose_over (2 ^ 64 - 1) a x y r le

-- 2. What is said on err

unheard_same : (k : Kind) (named source : List ℕ) (n : ℕ) → n < length (line_of k named source) → unheard k ≡ k
unheard_same (kind.Ended code) named source n h = absurd (omega arith)
unheard_same k named source n h = refl

-- a status that is another than a refused put is no other for it
pub unheard_is : (a l : Kind) → unheard a ≡ l → l ≢ kind.OutFault → a ≡ l
unheard_is (kind.Ended code) l e not = absurd (not (sym e))
unheard_is kind.Usage l e not = e
unheard_is kind.NoFile l e not = e
unheard_is kind.ReadFault l e not = e
unheard_is kind.WriteFault l e not = e
unheard_is kind.OutFault l e not = e
unheard_is (kind.Refused r) l e not = e
unheard_is (kind.CRefused r) l e not = e
unheard_is kind.StepsSpent l e not = e
unheard_is kind.Waiting l e not = e
unheard_is (kind.Trapped t) l e not = e
unheard_is kind.Dead l e not = e
unheard_is (kind.Undefined d) l e not = e
unheard_is kind.Memory l e not = e

-- WHAT IS TOLD of what a call comes to: all of it was put on err, or nothing since a print there was refused; or a put was refused; or
-- memory ran out. The last index is the status.
pub data Told (x : Outcome) (e e' : SinkView) : Kind → Type 0 where
  line : x.muted ≡ false → Takes e (x.texts ++ line_of x.kind x.named x.source) e' → Told x e e' x.kind
  mute : x.muted ≡ true → Told x e e' x.kind
  rose : (n : ℕ) → n < length (x.texts ++ line_of x.kind x.named x.source) → Rose e.faults e'.faults → Told x e e' (unheard x.kind)
  no_memory : Told x e e' kind.Memory

told_by : (x : Outcome) (text : List ℕ) (spoken : Kind) (e e' : SinkView) (k : Kind) → Speaks x text spoken → Closes text spoken e e' k → Told x e e' k
told_by x _ _ e e' _ (course.answer m) (course.put t) = line m t.0
told_by x _ _ e e' _ (course.answer m) (course.refused n lt t r) = rose n lt r
told_by x _ _ e e' _ (course.answer m) (course.memory n lt t) = no_memory
told_by x _ _ e e' _ (course.no_memory named source m) (course.put t) = no_memory
told_by x _ _ e e' _ (course.no_memory named source m) (course.refused n lt t r) = no_memory
told_by x _ _ e e' _ (course.no_memory named source m) (course.memory n lt t) = no_memory
told_by x _ _ e e' _ (course.nothing m) (course.put t) = mute m
told_by x _ _ e e' _ (course.nothing m) (course.refused n lt t r) = absurd (omega (arith, lt))
told_by x _ _ e e' _ (course.nothing m) (course.memory n lt t) = no_memory

pub told : (x : Outcome) (e e' : SinkView) (status : Status) → Finishes x e e' status → Told x e e' status.kind
told x e e' status h = told_by x h.line h.spoken e e' status.kind h.speaks h.closes

closed_faults : (text : List ℕ) (spoken : Kind) (e e' : SinkView) (k : Kind) → Closes text spoken e e' k → e.faults ≤ e'.faults
closed_faults text spoken e e' k (course.put t) = t.1
closed_faults text spoken e e' k (course.refused n lt t r) = t.1
closed_faults text spoken e e' k (course.memory n lt t) = t.1

pub finish_faults : (x : Outcome) (e e' : SinkView) (status : Status) → Finishes x e e' status → e.faults ≤ e'.faults
finish_faults x e e' status h = closed_faults h.line h.spoken e e' status.kind h.closes

-- what a call comes to whose status is neither want of memory nor a refused put
pub answered : (x : Outcome) (e e' : SinkView) (k l : Kind) → Told x e e' k → k ≡ l → l ≢ kind.Memory → l ≢ kind.OutFault → x.kind ≡ l
answered x e e' _ l (line m t) is not un = is
answered x e e' _ l (mute m) is not un = is
answered x e e' _ l (rose n lt r) is not un = unheard_is x.kind l is un
answered x e e' _ l no_memory is not un = absurd (not (sym is))

-- where no text is told, what the call comes to stands in the status, unless memory ran out
pub plain_status : (x : Outcome) (e e' : SinkView) (k : Kind) → Told x e e' k → x.texts ≡ [] → (k ≡ x.kind) ⊎ (k ≡ kind.Memory)
plain_status x e e' _ (line m t) is = inl refl
plain_status x e e' _ (mute m) is = inl refl
plain_status x e e' _ (rose n lt r) is = inl (unheard_same x.kind x.named x.source n (subst (λ t. n < length (t ++ line_of x.kind x.named x.source)) is lt))
plain_status x e e' _ no_memory is = inr refl

pub in_status : (x : Outcome) (e e' : SinkView) (k l : Kind) → Told x e e' k → x.texts ≡ [] → (x.kind ≡ l) ⊎ (x.kind ≡ kind.Memory) → (k ≡ l) ⊎ (k ≡ kind.Memory)
in_status x e e' k l t none h = both (plain_status x e e' k t none) h
  where
    both : (k ≡ x.kind) ⊎ (k ≡ kind.Memory) → (x.kind ≡ l) ⊎ (x.kind ≡ kind.Memory) → (k ≡ l) ⊎ (k ≡ kind.Memory)
    both (inl a) (inl b) = inl (a ∙ b)
    both (inl a) (inr b) = inr (a ∙ b)
    both (inr a) b = inr a

-- 3. The run of a unit

abbrev pub SpeaksOfNothing : Kind → Type 0
SpeaksOfNothing k = (asked : Option Meaning) (named source : List ℕ) → SpeaksOf asked k named source

-- the status of an end of a run: what it speaks of, that it is one of a run, and that it is no fault
pub record IsEndStatus (k : Kind) : Type 0 where
  pub speaks : SpeaksOfNothing k
  pub of_run : IsOfRun k
  pub no_fault : k ≢ kind.OutFault

undefined_status : (c : Command) (d : UndefKind) → IsEndStatus (kind_of_undefined c d)
undefined_status command.Exec u.Freed = record { speaks = λ asked named source. tt; of_run = tt; no_fault = λ h. cc }
undefined_status command.Run u.Freed = record { speaks = λ asked named source. tt; of_run = tt; no_fault = λ h. cc }
undefined_status command.Emit u.Freed = record { speaks = λ asked named source. tt; of_run = tt; no_fault = λ h. cc }
undefined_status command.Check u.Freed = record { speaks = λ asked named source. tt; of_run = tt; no_fault = λ h. cc }
undefined_status command.Exec u.Null = record { speaks = λ asked named source. tt; of_run = tt; no_fault = λ h. cc }
undefined_status command.Run u.Null = record { speaks = λ asked named source. tt; of_run = tt; no_fault = λ h. cc }
undefined_status command.Emit u.Null = record { speaks = λ asked named source. tt; of_run = tt; no_fault = λ h. cc }
undefined_status command.Check u.Null = record { speaks = λ asked named source. tt; of_run = tt; no_fault = λ h. cc }
undefined_status command.Exec u.Outside = record { speaks = λ asked named source. tt; of_run = tt; no_fault = λ h. cc }
undefined_status command.Run u.Outside = record { speaks = λ asked named source. tt; of_run = tt; no_fault = λ h. cc }
undefined_status command.Emit u.Outside = record { speaks = λ asked named source. tt; of_run = tt; no_fault = λ h. cc }
undefined_status command.Check u.Outside = record { speaks = λ asked named source. tt; of_run = tt; no_fault = λ h. cc }
undefined_status command.Exec u.Unset = record { speaks = λ asked named source. tt; of_run = tt; no_fault = λ h. cc }
undefined_status command.Run u.Unset = record { speaks = λ asked named source. tt; of_run = tt; no_fault = λ h. cc }
undefined_status command.Emit u.Unset = record { speaks = λ asked named source. tt; of_run = tt; no_fault = λ h. cc }
undefined_status command.Check u.Unset = record { speaks = λ asked named source. tt; of_run = tt; no_fault = λ h. cc }
undefined_status command.Exec u.Kind = record { speaks = λ asked named source. tt; of_run = tt; no_fault = λ h. cc }
undefined_status command.Run u.Kind = record { speaks = λ asked named source. tt; of_run = tt; no_fault = λ h. cc }
undefined_status command.Emit u.Kind = record { speaks = λ asked named source. tt; of_run = tt; no_fault = λ h. cc }
undefined_status command.Check u.Kind = record { speaks = λ asked named source. tt; of_run = tt; no_fault = λ h. cc }
undefined_status command.Exec u.Func = record { speaks = λ asked named source. tt; of_run = tt; no_fault = λ h. cc }
undefined_status command.Run u.Func = record { speaks = λ asked named source. tt; of_run = tt; no_fault = λ h. cc }
undefined_status command.Emit u.Func = record { speaks = λ asked named source. tt; of_run = tt; no_fault = λ h. cc }
undefined_status command.Check u.Func = record { speaks = λ asked named source. tt; of_run = tt; no_fault = λ h. cc }
undefined_status command.Exec u.Divide = record { speaks = λ asked named source. tt; of_run = tt; no_fault = λ h. cc }
undefined_status command.Run u.Divide = record { speaks = λ asked named source. tt; of_run = tt; no_fault = λ h. cc }
undefined_status command.Emit u.Divide = record { speaks = λ asked named source. tt; of_run = tt; no_fault = λ h. cc }
undefined_status command.Check u.Divide = record { speaks = λ asked named source. tt; of_run = tt; no_fault = λ h. cc }
undefined_status command.Exec u.Overflow = record { speaks = λ asked named source. tt; of_run = tt; no_fault = λ h. cc }
undefined_status command.Run u.Overflow = record { speaks = λ asked named source. tt; of_run = tt; no_fault = λ h. cc }
undefined_status command.Emit u.Overflow = record { speaks = λ asked named source. tt; of_run = tt; no_fault = λ h. cc }
undefined_status command.Check u.Overflow = record { speaks = λ asked named source. tt; of_run = tt; no_fault = λ h. cc }

end_status : (command : Command) (end : CEnd) → IsEndStatus (kind_of_end command end)
end_status command (c.Ended code) = record { speaks = λ asked named source. tt; of_run = tt; no_fault = λ h. cc }
end_status command (c.Aborted k) = record { speaks = λ asked named source. tt; of_run = tt; no_fault = λ h. cc }
end_status command c.Waiting = record { speaks = λ asked named source. tt; of_run = tt; no_fault = λ h. cc }
end_status command (c.Undefined d) = undefined_status command d

spent_no_fault : kind.StepsSpent ≢ kind.OutFault
spent_no_fault h = cc

memory_no_fault : kind.Memory ≢ kind.OutFault
memory_no_fault h = cc

-- what a run says of its status and its sinks, whichever way it went
pub record RanSo (m : Meaning) (unit : CUnit) (w : World) (o o' e e' : SinkView) (k : Kind) (muted : Bool) : Type 0 where
  pub speaks : SpeaksOfNothing k
  pub is_of_run : IsOfRun k ⊎ (k ≡ kind.Memory)
  pub fault : k ≡ kind.OutFault → Rose o.faults o'.faults ⊎ Rose e.faults e'.faults
  pub on_err : muted ≡ true → Rose e.faults e'.faults
  pub out : TakesFront (prints_out unit w m.steps) o o'
  pub err : TakesFront (prints_err unit w m.steps) e e'

all_front : (bytes : List ℕ) (s s' : SinkView) → TakesAll bytes s s' → TakesFront bytes s s'
all_front bytes s s' t = (bytes, begins_refl bytes, t.0, t.1)

pub ran_so : (m : Meaning) (unit : CUnit) (w : World) (o o' e e' : SinkView) (k : Kind) (texts : List ℕ) (muted : Bool) → Ran m unit w o o' e e' k texts muted → RanSo m unit w o o' e e' k muted
ran_so m unit w o o' e e' k texts muted (course.ended end is out err) =
    let s = end_status m.command end in
    record { speaks = s.speaks; is_of_run = inl s.of_run; fault = λ h. absurd (s.no_fault h); on_err = λ h. cc; out = all_front _ o o' out; err = all_front _ e e' err }
ran_so m unit w o o' e e' k texts muted (course.spent is out err) =
    record { speaks = λ asked named source. tt; is_of_run = inl tt; fault = λ h. absurd (spent_no_fault h); on_err = λ h. cc; out = all_front _ o o' out; err = all_front _ e e' err }
ran_so m unit w o o' e e' k texts muted (course.refused out err r) =
    record { speaks = λ asked named source. tt; is_of_run = inl tt; fault = λ h. inl r; on_err = λ h. cc; out = out; err = err }
ran_so m unit w o o' e e' k texts muted (course.refused_on_err out err r) =
    record { speaks = λ asked named source. tt; is_of_run = inl tt; fault = λ h. inr r; on_err = λ h. r; out = out; err = err }
ran_so m unit w o o' e e' k texts muted (course.memory out err) =
    record { speaks = λ asked named source. tt; is_of_run = inr refl; fault = λ h. absurd (memory_no_fault h); on_err = λ h. cc; out = out; err = err }

pub nothing_begins : (front bytes : List ℕ) → bytes ≡ [] → Begins front bytes → front ≡ []
nothing_begins [] bytes is b = refl
nothing_begins (x ∷ front) bytes is b = let e : x ∷ (front ++ b.0) ≡ [] = b.1 ∙ is in cc

-- C runs by `run` and `exec` alone
pub c_of : (asked : Option Meaning) (m : Meaning) (calls : List Call) (input file bytes : List ℕ) (limit : ℕ) → asked ≡ Some m → HasC m calls input file bytes limit → RunC asked
c_of asked m _ input _ bytes _ is (course.back reads _ c _ run built) = inl (m, is, run)
c_of asked m calls input file bytes _ is (course.given _ _ _ _ exec one all) = inr (m, is, exec)

-- the file of the C
pub file_of_c : (asked : Option Meaning) (m : Meaning) (calls : List Call) (input file bytes : List ℕ) (limit : ℕ) → asked ≡ Some m → HasC m calls input file bytes limit → IsCOf asked file
file_of_c asked m _ input _ bytes _ is (course.back reads _ c _ run built) = inl (m, is, built.writes, refl)
file_of_c asked m calls input file bytes _ is (course.given _ _ _ _ exec one all) = inr (m, is, exec, one)

-- 4. How a call goes: its sinks before the message line

pub record SinksSo (asked : Option Meaning) (o o' e e' : SinkView) (x : Outcome) : Type 0 where
  pub out_faults : o.faults ≤ o'.faults
  pub err_faults : e.faults ≤ e'.faults
  pub took : (bytes : List ℕ) × Takes e bytes e'
  pub nothing : (RunC asked → IsOfRun x.kind → ⊥) → x.kind ≢ kind.Memory → Takes e [] e' × (x.texts ≡ [])
  pub fault : x.kind ≡ kind.OutFault → Rose o.faults o'.faults ⊎ Rose e.faults e'.faults
  pub on_err : x.muted ≡ true → Rose e.faults e'.faults
  pub silent : (IsOfRun x.kind → ⊥) → x.kind ≢ kind.Memory → o' ≡ o

untouched : (asked : Option Meaning) (o e : SinkView) (x : Outcome) → x.kind ≢ kind.OutFault → x.texts ≡ [] → x.muted ≡ false → SinksSo asked o o e e x
untouched asked o e x not none m =
    record { out_faults = omega arith; err_faults = omega arith; took = ([], takes_none e e refl); nothing = λ a b. (takes_none e e refl, none); fault = λ h. absurd (not h); on_err = λ h. cc; silent = λ a b. refl }

not_silent : {A : Type 0} (k : Kind) → IsOfRun k ⊎ (k ≡ kind.Memory) → (IsOfRun k → ⊥) → k ≢ kind.Memory → A
not_silent k (inl h) a b = absurd (a h)
not_silent k (inr h) a b = absurd (b h)

ran_sinks : (asked : Option Meaning) (m : Meaning) (unit : CUnit) (w : World) (o o' e e' : SinkView) (k : Kind) (texts : List ℕ) (muted : Bool) (file : List ℕ) → RunC asked → RanSo m unit w o o' e e' k muted
    → SinksSo asked o o' e e' (says_run k texts muted file)
ran_sinks asked m unit w o o' e e' k texts muted file of r =
    record { out_faults = r.out.3; err_faults = r.err.3; took = (r.err.0, r.err.2); nothing = λ a b. not_silent k r.is_of_run (a of) b; fault = r.fault; on_err = r.on_err; silent = λ a b. not_silent k r.is_of_run a b }

accepted_no_fault : kind.Ended (pos 0) ≢ kind.OutFault
accepted_no_fault h = cc

pub goes_sinks : (asked : Option Meaning) (m : Meaning) (o e : SinkView) (calls : List Call) (o' e' : SinkView) (x : Outcome) → asked ≡ Some m → Goes m o e calls o' e' x → SinksSo asked o o' e e' x
goes_sinks asked m o e calls o' e' _ is (course.no_file f rs up) = untouched asked o e _ (λ h. cc) refl refl
goes_sinks asked m o e calls o' e' _ is (course.unread f rs up) = untouched asked o e _ (λ h. cc) refl refl
goes_sinks asked m o e calls o' e' _ is (course.refused ss i rs r all b) = untouched asked o e _ (λ h. cc) refl refl
goes_sinks asked m o e calls o' e' _ is (course.accepted ss i rs c all h) = untouched asked o e _ accepted_no_fault refl refl
goes_sinks asked m o e calls o' e' _ is (course.unwritten i rs c h) = untouched asked o e _ (λ h. cc) refl refl
goes_sinks asked m o e calls o' e' _ is (course.emitted i rs c em h) = untouched asked o e _ accepted_no_fault refl refl
goes_sinks asked m o e calls o' e' _ is (course.gone i rs c ru h) = untouched asked o e _ (λ h. cc) refl refl
goes_sinks asked m o e calls o' e' _ is (course.unread_back i rs c ru h) = untouched asked o e _ (λ h. cc) refl refl
goes_sinks asked m o e calls o' e' _ is (course.c_refused cs i f b l r h a) = untouched asked o e _ (λ h. cc) refl refl
goes_sinks asked m o e calls o' e' _ is (course.ran cs i f b l unit p q k texts muted h a r) =
    ran_sinks asked m unit (world_of m i) o o' e e' k texts muted f (c_of asked m calls i f b l is h) (ran_so m unit (world_of m i) o o' e e' k texts muted r)
goes_sinks asked m o e calls o' e' _ is (course.memory cs p) = untouched asked o e _ memory_no_fault refl refl

-- 5. What the message line speaks of

pub goes_speaks : (asked : Option Meaning) (m : Meaning) (o e : SinkView) (calls : List Call) (o' e' : SinkView) (x : Outcome) → asked ≡ Some m → Goes m o e calls o' e' x → SpeaksOf asked x.kind x.named x.source
goes_speaks asked m o e calls o' e' _ is (course.no_file f rs up) = inl (is_file asked m up.front f up.behind is up.files_are)
goes_speaks asked m o e calls o' e' _ is (course.unread f rs up) = inl (is_file asked m up.front f up.behind is up.files_are)
goes_speaks asked m o e calls o' e' _ is (course.refused ss i rs r all b) = (m, ss, is, b, refl, refl)
goes_speaks asked m o e calls o' e' _ is (course.accepted ss i rs c all h) = tt
goes_speaks asked m o e calls o' e' _ is (course.unwritten i rs c h) = (m, is, h.writes, refl)
goes_speaks asked m o e calls o' e' _ is (course.emitted i rs c em h) = tt
goes_speaks asked m o e calls o' e' _ is (course.gone i rs c ru h) = inr (m, is, h.writes, refl)
goes_speaks asked m o e calls o' e' _ is (course.unread_back i rs c ru h) = inr (m, is, h.writes, refl)
goes_speaks asked m o e calls o' e' _ is (course.c_refused cs i f b l r h a) = file_of_c asked m calls i f b l is h
goes_speaks asked m o e calls o' e' _ is (course.ran cs i f b l unit p q k texts muted h a r) = (ran_so m unit (world_of m i) o o' e e' k texts muted r).speaks asked f []
goes_speaks asked m o e calls o' e' _ is (course.memory cs p) = tt

-- 6. Its calls

pub c_planned : (m : Meaning) (calls : List Call) (input file bytes : List ℕ) (limit : ℕ) → HasC m calls input file bytes limit → IsPlanned m calls
c_planned m _ input _ bytes _ (course.back reads _ c _ run built) = course.back input reads c (Ok bytes) run built
c_planned m calls input file bytes _ (course.given _ _ _ _ exec one all) = course.reads calls (given_whole m (bytes ∷ []) input calls all)

pub goes_planned : (m : Meaning) (o e : SinkView) (calls : List Call) (o' e' : SinkView) (x : Outcome) → Goes m o e calls o' e' x → IsPlanned m calls
goes_planned m o e calls o' e' _ (course.no_file f rs up) = course.unread f rs fault.Missing up
goes_planned m o e calls o' e' _ (course.unread f rs up) = course.unread f rs fault.Failed up
goes_planned m o e calls o' e' _ (course.refused ss i rs r all b) = course.reads rs (given_whole m ss i rs all)
goes_planned m o e calls o' e' _ (course.accepted ss i rs c all h) = course.reads rs (given_whole m ss i rs all)
goes_planned m o e calls o' e' _ (course.unwritten i rs c h) = course.wrote i rs c (Err fault.Failed) h
goes_planned m o e calls o' e' _ (course.emitted i rs c em h) = course.wrote i rs c (Ok tt) h
goes_planned m o e calls o' e' _ (course.gone i rs c ru h) = course.back i rs c (Err fault.Missing) ru h
goes_planned m o e calls o' e' _ (course.unread_back i rs c ru h) = course.back i rs c (Err fault.Failed) ru h
goes_planned m o e calls o' e' _ (course.c_refused cs i f b l r h a) = c_planned m calls i f b l h
goes_planned m o e calls o' e' _ (course.ran cs i f b l unit p q k texts muted h a r) = c_planned m calls i f b l h
goes_planned m o e calls o' e' _ (course.memory cs p) = p

-- the last call, and the last that leaves an entry
abbrev pub LastIs : List Call → Call → Type 0
LastIs calls call = (last_of calls ≡ Some call) × (last_of (entries calls) ≡ Some call)

-- what the last call and the status tell of each other
pub record FaultsSo (calls : List Call) (k : Kind) (named : List ℕ) : Type 0 where
  pub no_file : k ≡ kind.NoFile → LastIs calls (Read named (Err fault.Missing))
  pub read_fault : k ≡ kind.ReadFault → LastIs calls (Read named (Err fault.Failed))
  pub write_fault : k ≡ kind.WriteFault → (bytes : List ℕ) × LastIs calls (Write named bytes (Err fault.Failed))
  pub if_missing : (name : List ℕ) → last_of (entries calls) ≡ Some (Read name (Err fault.Missing)) → (k ≡ kind.NoFile) ⊎ (k ≡ kind.Memory)
  pub if_unread : (name : List ℕ) → last_of (entries calls) ≡ Some (Read name (Err fault.Failed)) → (k ≡ kind.ReadFault) ⊎ (k ≡ kind.Memory)
  pub if_unwritten : (name bytes : List ℕ) → last_of (entries calls) ≡ Some (Write name bytes (Err fault.Failed)) → (k ≡ kind.WriteFault) ⊎ (k ≡ kind.Memory)

last_missing : (calls : List Call) (name : List ℕ) → LastIs calls (Read name (Err fault.Missing)) → FaultsSo calls kind.NoFile name
last_missing calls name l =
    record {
      no_file = λ h. l;
      read_fault = λ h. cc;
      write_fault = λ h. cc;
      if_missing = λ other e. inl refl;
      if_unread = λ other e. cc;
      if_unwritten = λ other bytes e. cc;
    }

last_unread : (calls : List Call) (name : List ℕ) → LastIs calls (Read name (Err fault.Failed)) → FaultsSo calls kind.ReadFault name
last_unread calls name l =
    record {
      no_file = λ h. cc;
      read_fault = λ h. l;
      write_fault = λ h. cc;
      if_missing = λ other e. cc;
      if_unread = λ other e. inl refl;
      if_unwritten = λ other bytes e. cc;
    }

last_unwritten : (calls : List Call) (name bytes : List ℕ) → LastIs calls (Write name bytes (Err fault.Failed)) → FaultsSo calls kind.WriteFault name
last_unwritten calls name bytes l =
    record {
      no_file = λ h. cc;
      read_fault = λ h. cc;
      write_fault = λ h. (bytes, l);
      if_missing = λ other e. cc;
      if_unread = λ other e. cc;
      if_unwritten = λ other bytes e. inl refl;
    }

fine_not : (o : Option Call) (name : List ℕ) (x : FolderFault) → IsFine o → o ≡ Some (Read name (Err x)) → ⊥
fine_not o name x fine e = subst IsFine e fine

fine_no_write : (o : Option Call) (name bytes : List ℕ) (x : FolderFault) → IsFine o → o ≡ Some (Write name bytes (Err x)) → ⊥
fine_no_write o name bytes x fine e = subst IsFine e fine

last_fine : (calls : List Call) (named : List ℕ) (k : Kind) → IsFine (last_of (entries calls)) → k ≢ kind.NoFile → k ≢ kind.ReadFault → k ≢ kind.WriteFault → FaultsSo calls k named
last_fine calls named k l a b c =
    record {
      no_file = λ h. absurd (a h);
      read_fault = λ h. absurd (b h);
      write_fault = λ h. absurd (c h);
      if_missing = λ other e. absurd (fine_not (last_of (entries calls)) other fault.Missing l e);
      if_unread = λ other e. absurd (fine_not (last_of (entries calls)) other fault.Failed l e);
      if_unwritten = λ other bytes e. absurd (fine_no_write (last_of (entries calls)) other bytes fault.Failed l e);
    }

without_memory : (calls : List Call) (named : List ℕ) → FaultsSo calls kind.Memory named
without_memory calls named =
    record {
      no_file = λ h. cc;
      read_fault = λ h. cc;
      write_fault = λ h. cc;
      if_missing = λ other e. inr refl;
      if_unread = λ other e. inr refl;
      if_unwritten = λ other bytes e. inr refl;
    }

-- a status that no run has
pub not_of_run : (k l : Kind) → IsOfRun k ⊎ (k ≡ kind.Memory) → (IsOfRun l → ⊥) → l ≢ kind.Memory → k ≢ l
not_of_run k l (inl r) a b h = a (subst IsOfRun h r)
not_of_run k l (inr m) a b h = b (sym h ∙ m)

-- the last call, behind the reads
last_after : (files sources : List (List ℕ)) (reads more : List Call) (x : Call) (xs : List Call) → AllRead files sources reads → entries more ≡ x ∷ xs → last_of (entries (reads ++ more)) ≡ last_of (x ∷ xs)
last_after files sources reads more x xs all e = ap last_of (entries_behind files sources reads more all ∙ ap (λ l. reads ++ l) e) ∙ last_behind None reads x xs

-- it is a read of all files, or the C that was read back
fine_reads : (files sources : List (List ℕ)) (reads : List Call) → AllRead files sources reads → IsFine (last_of (entries reads))
fine_reads files sources reads all = subst (λ l. IsFine (last_of l)) (sym (entries_same files sources reads all)) (last_read None files sources reads tt all)

fine_back : (m : Meaning) (input : List ℕ) (reads : List Call) (c bytes : List ℕ) → IsBuilt m input reads c → IsFine (last_of (entries (read_back m reads c (Ok bytes))))
fine_back m input reads c bytes h =
    let all = given_read m h.sources input reads h.all_given in
    let w = Write (c_file m.name) c (Ok tt) in
    let r = Read (c_file m.name) (Ok bytes) in
    subst IsFine (sym (last_after (files_read m) all.0 reads (w ∷ r ∷ []) w (r ∷ []) all.1 refl)) tt

fine_given : (m : Meaning) (sources : List (List ℕ)) (input : List ℕ) (reads : List Call) → AllGiven m sources input reads → IsFine (last_of (entries reads))
fine_given m sources input reads all = let r = given_read m sources input reads all in fine_reads (files_read m) r.0 reads r.1

fine_c : (m : Meaning) (calls : List Call) (input file bytes : List ℕ) (limit : ℕ) → HasC m calls input file bytes limit → IsFine (last_of (entries calls))
fine_c m _ input _ bytes _ (course.back reads _ c _ run built) = fine_back m input reads c bytes built
fine_c m calls input file bytes _ (course.given _ _ _ _ exec one all) = fine_given m (bytes ∷ []) input calls all

one_last : (files sources : List (List ℕ)) (reads : List Call) (x : Call) → AllRead files sources reads → entries (x ∷ []) ≡ x ∷ [] → LastIs (reads ++ x ∷ []) x
one_last files sources reads x all e = (last_behind None reads x [], last_after files sources reads (x ∷ []) x [] all e)

two_last : (files sources : List (List ℕ)) (reads : List Call) (y x : Call) → AllRead files sources reads → entries (y ∷ x ∷ []) ≡ y ∷ x ∷ [] → LastIs (reads ++ y ∷ x ∷ []) x
two_last files sources reads y x all e = (last_behind None reads y (x ∷ []), last_after files sources reads (y ∷ x ∷ []) y (x ∷ []) all e)

-- the C was written last, and that was answered Ok
written_last : (m : Meaning) (input : List ℕ) (reads : List Call) (c : List ℕ) → IsBuilt m input reads c → last_of (entries (written m reads c (Ok tt))) ≡ Some (Write (c_file m.name) c (Ok tt))
written_last m input reads c h =
    let all = given_read m h.sources input reads h.all_given in
    last_after (files_read m) all.0 reads (Write (c_file m.name) c (Ok tt) ∷ []) (Write (c_file m.name) c (Ok tt)) [] all.1 refl

last_written : (calls : List Call) (named : List ℕ) (k : Kind) (name bytes : List ℕ) → last_of (entries calls) ≡ Some (Write name bytes (Ok tt)) → k ≢ kind.NoFile → k ≢ kind.ReadFault → k ≢ kind.WriteFault → FaultsSo calls k named
last_written calls named k name bytes l a b c =
    record {
      no_file = λ h. absurd (a h);
      read_fault = λ h. absurd (b h);
      write_fault = λ h. absurd (c h);
      if_missing = λ other e. absurd (no_read name bytes other fault.Missing (sym l ∙ e));
      if_unread = λ other e. absurd (no_read name bytes other fault.Failed (sym l ∙ e));
      if_unwritten = λ other more e. absurd (no_fault name bytes other more (sym l ∙ e));
    }
  where
    no_read : (name bytes other : List ℕ) (x : FolderFault) → Some (Write name bytes (Ok tt)) ≡ Some (Read other (Err x)) → ⊥
    no_read name bytes other x e = cc

    no_fault : (name bytes other more : List ℕ) → Some (Write name bytes (Ok tt)) ≡ Some (Write other more (Err fault.Failed)) → ⊥
    no_fault name bytes other more e = cc

pub goes_faults : (m : Meaning) (o e : SinkView) (calls : List Call) (o' e' : SinkView) (x : Outcome) → Goes m o e calls o' e' x → FaultsSo calls x.kind x.named
goes_faults m o e calls o' e' _ (course.no_file f rs up) = last_missing _ f (one_last up.front up.sources rs (Read f (Err fault.Missing)) up.all_read refl)
goes_faults m o e calls o' e' _ (course.unread f rs up) = last_unread _ f (one_last up.front up.sources rs (Read f (Err fault.Failed)) up.all_read refl)
goes_faults m o e calls o' e' _ (course.refused ss i rs r all b) = last_fine rs _ (kind.Refused r) (fine_given m ss i rs all) (λ h. cc) (λ h. cc) (λ h. cc)
goes_faults m o e calls o' e' _ (course.accepted ss i rs c all h) = last_fine rs _ (kind.Ended (pos 0)) (fine_given m ss i rs all) (λ h. cc) (λ h. cc) (λ h. cc)
goes_faults m o e calls o' e' _ (course.unwritten i rs c h) =
    let all = given_read m h.sources i rs h.all_given in
    last_unwritten _ (c_file m.name) c (one_last (files_read m) all.0 rs (Write (c_file m.name) c (Err fault.Failed)) all.1 refl)
goes_faults m o e calls o' e' _ (course.emitted i rs c em h) = last_written _ _ (kind.Ended (pos 0)) (c_file m.name) c (written_last m i rs c h) (λ h. cc) (λ h. cc) (λ h. cc)
goes_faults m o e calls o' e' _ (course.gone i rs c ru h) =
    let all = given_read m h.sources i rs h.all_given in
    last_missing _ (c_file m.name) (two_last (files_read m) all.0 rs (Write (c_file m.name) c (Ok tt)) (Read (c_file m.name) (Err fault.Missing)) all.1 refl)
goes_faults m o e calls o' e' _ (course.unread_back i rs c ru h) =
    let all = given_read m h.sources i rs h.all_given in
    last_unread _ (c_file m.name) (two_last (files_read m) all.0 rs (Write (c_file m.name) c (Ok tt)) (Read (c_file m.name) (Err fault.Failed)) all.1 refl)
goes_faults m o e calls o' e' _ (course.c_refused cs i f b l r h a) = last_fine calls _ (kind.CRefused r) (fine_c m calls i f b l h) (λ h. cc) (λ h. cc) (λ h. cc)
goes_faults m o e calls o' e' _ (course.ran cs i f b l unit p q k texts muted h a r) =
    let of = (ran_so m unit (world_of m i) o o' e e' k texts muted r).is_of_run in
    last_fine calls _ k (fine_c m calls i f b l h) (not_of_run k kind.NoFile of (λ x. x) (λ h. cc)) (not_of_run k kind.ReadFault of (λ x. x) (λ h. cc)) (not_of_run k kind.WriteFault of (λ x. x) (λ h. cc))
goes_faults m o e calls o' e' _ (course.memory cs p) = without_memory cs []

not_usage : (k : Kind) → IsOfRun k ⊎ (k ≡ kind.Memory) → k ≢ kind.Usage
not_usage k r = not_of_run k kind.Usage r (λ x. x) (λ h. cc)

-- the command that the words are of
pub command_is : (asked : Option Meaning) (m : Meaning) (c : Command) → asked ≡ Some m → AreOf asked c → m.command ≡ c
command_is asked m c is of = ap (λ x. x.command) (one_asked asked m of.0 is of.1) ∙ of.2

-- what a call on words comes to
pub record WordsSo (asked : Option Meaning) (o o' : SinkView) (calls : List Call) (x : Outcome) : Type 0 where
  pub usage : x.kind ≡ kind.Usage → (asked ≡ None) × (calls ≡ [])
  pub outside : asked ≡ None → ((x.kind ≡ kind.Usage) ⊎ (x.kind ≡ kind.Memory)) × (calls ≡ [])
  pub checked : AreOf asked command.Check → IsOfCheck x.kind × (o' ≡ o)
  pub emitted : AreOf asked command.Emit → IsOfEmit x.kind × (o' ≡ o)
  pub executed : AreOf asked command.Exec → IsOfExec x.kind
  pub plain : (RunC asked → ⊥) → x.texts ≡ []

-- what can come of any command
any_so : (asked : Option Meaning) (m : Meaning) (o : SinkView) (calls : List Call) (x : Outcome) → asked ≡ Some m → x.kind ≢ kind.Usage → IsOfCheck x.kind → IsOfEmit x.kind → IsOfExec x.kind → x.texts ≡ [] → WordsSo asked o o calls x
any_so asked m o calls x is not check emit exec none =
    record { usage = λ h. absurd (not h); outside = λ h. none_asked asked m h is; checked = λ of. (check, refl); emitted = λ of. (emit, refl); executed = λ of. exec; plain = λ h. none }

-- what comes of a check alone
check_so : (asked : Option Meaning) (m : Meaning) (o : SinkView) (calls : List Call) (x : Outcome) → asked ≡ Some m → m.command ≡ command.Check → x.kind ≢ kind.Usage → IsOfCheck x.kind → x.texts ≡ [] → WordsSo asked o o calls x
check_so asked m o calls x is c not check none =
    record {
      usage = λ h. absurd (not h);
      outside = λ h. none_asked asked m h is;
      checked = λ of. (check, refl);
      emitted = λ of. check_emits m.command c (command_is asked m command.Emit is of);
      executed = λ of. check_executes m.command c (command_is asked m command.Exec is of);
      plain = λ h. none;
    }

-- what comes of a command that writes, before C runs
write_so : (asked : Option Meaning) (m : Meaning) (o : SinkView) (calls : List Call) (x : Outcome) → asked ≡ Some m → writes m.command ≡ true → x.kind ≢ kind.Usage → IsOfEmit x.kind → x.texts ≡ [] → WordsSo asked o o calls x
write_so asked m o calls x is w not emit none =
    record {
      usage = λ h. absurd (not h);
      outside = λ h. none_asked asked m h is;
      checked = λ of. check_writes m.command (command_is asked m command.Check is of) w;
      emitted = λ of. (emit, refl);
      executed = λ of. exec_writes m.command (command_is asked m command.Exec is of) w;
      plain = λ h. none;
    }

-- what comes of commands that run C
c_so : (asked : Option Meaning) (m : Meaning) (o o' : SinkView) (calls : List Call) (x : Outcome) → asked ≡ Some m → RunC asked → x.kind ≢ kind.Usage → IsOfExec x.kind → WordsSo asked o o' calls x
c_so asked m o o' calls x is (inl run) not exec =
    record {
      usage = λ h. absurd (not h);
      outside = λ h. none_asked asked m h is;
      checked = λ of. run_checks m.command (command_is asked m command.Run is run) (command_is asked m command.Check is of);
      emitted = λ of. run_emits m.command (command_is asked m command.Run is run) (command_is asked m command.Emit is of);
      executed = λ of. exec;
      plain = λ h. absurd (h (inl run));
    }
c_so asked m o o' calls x is (inr run) not exec =
    record {
      usage = λ h. absurd (not h);
      outside = λ h. none_asked asked m h is;
      checked = λ of. check_executes m.command (command_is asked m command.Check is of) (command_is asked m command.Exec is run);
      emitted = λ of. emit_executes m.command (command_is asked m command.Emit is of) (command_is asked m command.Exec is run);
      executed = λ of. exec;
      plain = λ h. absurd (h (inr run));
    }

-- what comes of `run` alone
back_so : (asked : Option Meaning) (m : Meaning) (o : SinkView) (calls : List Call) (x : Outcome) → asked ≡ Some m → m.command ≡ command.Run → x.kind ≢ kind.Usage → x.texts ≡ [] → WordsSo asked o o calls x
back_so asked m o calls x is c not none =
    record {
      usage = λ h. absurd (not h);
      outside = λ h. none_asked asked m h is;
      checked = λ of. run_checks m.command c (command_is asked m command.Check is of);
      emitted = λ of. run_emits m.command c (command_is asked m command.Emit is of);
      executed = λ of. run_executes m.command c (command_is asked m command.Exec is of);
      plain = λ h. none;
    }

refused_so : (asked : Option Meaning) (m : Meaning) (o : SinkView) (calls : List Call) (x : Outcome) (sources : List (List ℕ)) (r : Refusal) → asked ≡ Some m → IsRefusal m sources r → x.kind ≢ kind.Usage → IsOfCheck x.kind → IsOfEmit x.kind
    → x.texts ≡ [] → WordsSo asked o o calls x
refused_so asked m o calls x sources r is (course.compiled rest w b) not check emit none = write_so asked m o calls x is w not emit none
refused_so asked m o calls x sources r is (course.checked c h) not check emit none = check_so asked m o calls x is c not check none

exec_of_run : (k : Kind) → IsOfRun k ⊎ (k ≡ kind.Memory) → IsOfExec k
exec_of_run k (inr is) = subst IsOfExec (sym is) tt
exec_of_run (kind.Ended code) (inl h) = tt
exec_of_run kind.Usage (inl h) = absurd h
exec_of_run kind.NoFile (inl h) = tt
exec_of_run kind.ReadFault (inl h) = tt
exec_of_run kind.WriteFault (inl h) = absurd h
exec_of_run kind.OutFault (inl h) = tt
exec_of_run (kind.Refused r) (inl h) = absurd h
exec_of_run (kind.CRefused r) (inl h) = tt
exec_of_run kind.StepsSpent (inl h) = tt
exec_of_run kind.Waiting (inl h) = tt
exec_of_run (kind.Trapped t) (inl h) = tt
exec_of_run kind.Dead (inl h) = tt
exec_of_run (kind.Undefined d) (inl h) = tt
exec_of_run kind.Memory (inl h) = tt

pub goes_words : (asked : Option Meaning) (m : Meaning) (o e : SinkView) (calls : List Call) (o' e' : SinkView) (x : Outcome) → asked ≡ Some m → Goes m o e calls o' e' x → WordsSo asked o o' calls x
goes_words asked m o e calls o' e' _ is (course.no_file f rs up) = any_so asked m o calls _ is (λ h. cc) tt tt tt refl
goes_words asked m o e calls o' e' _ is (course.unread f rs up) = any_so asked m o calls _ is (λ h. cc) tt tt tt refl
goes_words asked m o e calls o' e' _ is (course.refused ss i rs r all b) = refused_so asked m o calls _ ss r is b (λ h. cc) tt tt refl
goes_words asked m o e calls o' e' _ is (course.accepted ss i rs c all h) = check_so asked m o calls _ is c (λ h. cc) refl refl
goes_words asked m o e calls o' e' _ is (course.unwritten i rs c h) = write_so asked m o calls _ is h.writes (λ h. cc) tt refl
goes_words asked m o e calls o' e' _ is (course.emitted i rs c em h) = write_so asked m o calls _ is h.writes (λ h. cc) refl refl
goes_words asked m o e calls o' e' _ is (course.gone i rs c ru h) = back_so asked m o calls _ is ru (λ h. cc) refl
goes_words asked m o e calls o' e' _ is (course.unread_back i rs c ru h) = back_so asked m o calls _ is ru (λ h. cc) refl
goes_words asked m o e calls o' e' _ is (course.c_refused cs i f b l r h a) = c_so asked m o o calls _ is (c_of asked m calls i f b l is h) (λ h. cc) tt
goes_words asked m o e calls o' e' _ is (course.ran cs i f b l unit p q k texts muted h a r) =
    let of = (ran_so m unit (world_of m i) o o' e e' k texts muted r).is_of_run in
    c_so asked m o o' calls _ is (c_of asked m calls i f b l is h) (not_usage k of) (exec_of_run k of)
goes_words asked m o e calls o' e' _ is (course.memory cs p) = any_so asked m o calls _ is (λ h. cc) tt tt tt refl

-- all of this of a call on any words
pub record CallSo (asked : Option Meaning) (o e : SinkView) (calls : List Call) (o' e' : SinkView) (x : Outcome) : Type 0 where
  pub sinks : SinksSo asked o o' e e' x
  pub speaks : SpeaksOf asked x.kind x.named x.source
  pub faults : FaultsSo calls x.kind x.named
  pub planned : (m : Meaning) → asked ≡ Some m → IsPlanned m calls
  pub on_words : WordsSo asked o o' calls x

no_calls : (m : Meaning) → IsPlanned m []
no_calls m = course.reads [] (record { front = []; behind = files_read m; files_are = refl; sources = []; all_read = course.none })

-- a call that touches nothing
nothing_so : (asked : Option Meaning) (o e : SinkView) (x : Outcome) → x.kind ≢ kind.OutFault → x.texts ≡ [] → x.muted ≡ false → SpeaksOf asked x.kind x.named x.source → FaultsSo [] x.kind x.named → WordsSo asked o o [] x
    → CallSo asked o e [] o e x
nothing_so asked o e x not none m speaks faults on_words =
    record { sinks = untouched asked o e x not none m; speaks = speaks; faults = faults; planned = λ m is. no_calls m; on_words = on_words }

pub call_so : (asked : Option Meaning) (o e : SinkView) (calls : List Call) (o' e' : SinkView) (x : Outcome) → GoesBy o e asked calls o' e' x → CallSo asked o e calls o' e' x
call_so _ o e _ _ _ _ course.usage =
    nothing_so None o e _ (λ h. cc) refl refl tt (last_fine [] [] kind.Usage tt (λ h. cc) (λ h. cc) (λ h. cc))
    (record {
      usage = λ h. (refl, refl);
      outside = λ h. (inl refl, refl);
      checked = λ of. none_asked None of.0 refl of.1;
      emitted = λ of. none_asked None of.0 refl of.1;
      executed = λ of. none_asked None of.0 refl of.1;
      plain = λ h. refl;
    })
call_so _ o e calls o' e' x (course.asked m _ _ _ _ goes) =
    record {
      sinks = goes_sinks (Some m) m o e calls o' e' x refl goes;
      speaks = goes_speaks (Some m) m o e calls o' e' x refl goes;
      faults = goes_faults m o e calls o' e' x goes;
      planned = λ n is. subst (λ n. IsPlanned n calls) (one_asked (Some m) m n refl is) (goes_planned m o e calls o' e' x goes);
      on_words = goes_words (Some m) m o e calls o' e' x refl goes;
    }
call_so asked o e _ _ _ _ (course.no_memory _) =
    nothing_so asked o e _ memory_no_fault refl refl tt (without_memory [] [])
    (record {
      usage = λ h. cc;
      outside = λ h. (inr refl, refl);
      checked = λ of. (tt, refl);
      emitted = λ of. (tt, refl);
      executed = λ of. tt;
      plain = λ h. refl;
    })

-- 7. The counts of the folder

pub chain_counts : (f : FolderView) (calls : List Call) (g : FolderView) → Chain f calls g → (f.faults ≤ g.faults) × (f.misses ≤ g.misses)
chain_counts f calls g (course.none _) = (omega arith, omega arith)
chain_counts f calls g (course.read _ mid _ name answer cs h rest) =
    let later = chain_counts mid cs g rest in
    let a = h.faults in
    let b = h.misses in
    (omega (arith, later.0), omega (arith, later.1))
chain_counts f calls g (course.write _ mid _ name bytes answer cs h rest) =
    let later = chain_counts mid cs g rest in
    let a = h.faults in
    let b = h.misses in
    (omega (arith, later.0), omega (arith, later.1))

-- the counts that a call raises
abbrev Raises : Call → FolderView → FolderView → Type 0
Raises (Read name (Err fault.Missing)) f g = Rose f.misses g.misses
Raises (Read name (Err fault.Failed)) f g = Rose f.faults g.faults
Raises (Write name bytes (Err fault.Failed)) f g = Rose f.faults g.faults
Raises call f g = Unit {0}

read_raises : (f g : FolderView) (name : List ℕ) (answer : Result (List ℕ) FolderFault) → IsRead f name answer g → Raises (Read name answer) f g
read_raises f g name (Err fault.Missing) h = h.missing refl
read_raises f g name (Err fault.Failed) h = h.failed refl
read_raises f g name (Err fault.Memory) h = tt
read_raises f g name (Ok bytes) h = tt

write_raises : (f g : FolderView) (name bytes : List ℕ) (answer : Result (Unit {0}) FolderFault) → IsWrite f name bytes answer g → Raises (Write name bytes answer) f g
write_raises f g name bytes (Err fault.Failed) h = h.failed refl
write_raises f g name bytes (Err fault.Missing) h = tt
write_raises f g name bytes (Err fault.Memory) h = tt
write_raises f g name bytes (Ok x) h = tt

raises_before : (call : Call) (f mid g : FolderView) → f.faults ≤ mid.faults → f.misses ≤ mid.misses → Raises call mid g → Raises call f g
raises_before (Read name (Err fault.Missing)) f mid g a b r = rose_before f.misses mid.misses g.misses b r
raises_before (Read name (Err fault.Failed)) f mid g a b r = rose_before f.faults mid.faults g.faults a r
raises_before (Read name (Err fault.Memory)) f mid g a b r = tt
raises_before (Read name (Ok bytes)) f mid g a b r = tt
raises_before (Write name bytes (Err fault.Failed)) f mid g a b r = rose_before f.faults mid.faults g.faults a r
raises_before (Write name bytes (Err fault.Missing)) f mid g a b r = tt
raises_before (Write name bytes (Err fault.Memory)) f mid g a b r = tt
raises_before (Write name bytes (Ok x)) f mid g a b r = tt

raises_same : (call last : Call) (f mid g : FolderView) → Chain mid [] g → Some call ≡ Some last → Raises call f mid → Raises last f g
raises_same call last f mid g (course.none _) e r = let same : call ≡ last = cc in subst (λ c. Raises c f mid) same r

-- the last call of a chain raised its count
pub chain_raises : (f : FolderView) (calls : List Call) (g : FolderView) (last : Call) → Chain f calls g → last_of calls ≡ Some last → Raises last f g
chain_raises f calls g last (course.none _) e = cc
chain_raises f calls g last (course.read _ mid _ name answer [] h rest) e = raises_same (Read name answer) last f mid g rest e (read_raises f mid name answer h)
chain_raises f calls g last (course.read _ mid _ name answer (c ∷ cs) h rest) e = raises_before last f mid g h.faults h.misses (chain_raises mid (c ∷ cs) g last rest e)
chain_raises f calls g last (course.write _ mid _ name bytes answer [] h rest) e = raises_same (Write name bytes answer) last f mid g rest e (write_raises f mid name bytes answer h)
chain_raises f calls g last (course.write _ mid _ name bytes answer (c ∷ cs) h rest) e = raises_before last f mid g h.faults h.misses (chain_raises mid (c ∷ cs) g last rest e)

-- 8. The clause

-- want of memory, or another answer
memory_or : (k : Kind) → (k ≡ kind.Memory) ⊎ (k ≢ kind.Memory)
memory_or (kind.Ended code) = inr (λ h. cc)
memory_or kind.Usage = inr (λ h. cc)
memory_or kind.NoFile = inr (λ h. cc)
memory_or kind.ReadFault = inr (λ h. cc)
memory_or kind.WriteFault = inr (λ h. cc)
memory_or kind.OutFault = inr (λ h. cc)
memory_or (kind.Refused r) = inr (λ h. cc)
memory_or (kind.CRefused r) = inr (λ h. cc)
memory_or kind.StepsSpent = inr (λ h. cc)
memory_or kind.Waiting = inr (λ h. cc)
memory_or (kind.Trapped t) = inr (λ h. cc)
memory_or kind.Dead = inr (λ h. cc)
memory_or (kind.Undefined d) = inr (λ h. cc)
memory_or kind.Memory = inl refl

-- where no C was run, the line stands alone
said_alone : (asked : Option Meaning) (x : Outcome) (o o' e mid e' : SinkView) (k : Kind) → SpeaksOf asked x.kind x.named x.source → SinksSo asked o o' e mid x → mid.faults ≤ e'.faults → Told x mid e' k → (RunC asked → IsOfRun k → ⊥)
    → (x.kind ≡ kind.Memory) ⊎ (x.kind ≢ kind.Memory) → Says asked k e e' ⊎ (Rose e.faults e'.faults ⊎ (k ≡ kind.Memory))
said_alone asked x o o' e mid e' _ speaks s le (line m t) none (inl is) = inr (inr is)
said_alone asked x o o' e mid e' _ speaks s le (line m t) none (inr not) =
    let n = s.nothing none not in
    let put : Takes mid (line_of x.kind x.named x.source) e' = subst (λ ts. Takes mid (ts ++ line_of x.kind x.named x.source) e') n.1 t in
    inl (x.named, x.source, speaks, takes_both e mid e' [] (line_of x.kind x.named x.source) n.0 put)
said_alone asked x o o' e mid e' _ speaks s le (mute m) none other = inr (inl (rose_behind e.faults mid.faults e'.faults (s.on_err m) le))
said_alone asked x o o' e mid e' _ speaks s le (rose n lt r) none other = inr (inl (rose_before e.faults mid.faults e'.faults s.err_faults r))
said_alone asked x o o' e mid e' _ speaks s le no_memory none other = inr (inr refl)

said_behind : (asked : Option Meaning) (x : Outcome) (o o' e mid e' : SinkView) (k : Kind) → SpeaksOf asked x.kind x.named x.source → SinksSo asked o o' e mid x → mid.faults ≤ e'.faults → Told x mid e' k
    → SaysBehind asked k e e' ⊎ (Rose e.faults e'.faults ⊎ (k ≡ kind.Memory))
said_behind asked x o o' e mid e' _ speaks s le (line m t) =
    let text = line_of x.kind x.named x.source in
    let all : Takes e (s.took.0 ++ (x.texts ++ text)) e' = takes_both e mid e' s.took.0 (x.texts ++ text) s.took.1 t in
    inl (s.took.0 ++ x.texts, x.named, x.source, speaks, subst (λ l. Takes e l e') (sym (append_assoc s.took.0 x.texts text)) all)
said_behind asked x o o' e mid e' _ speaks s le (mute m) = inr (inl (rose_behind e.faults mid.faults e'.faults (s.on_err m) le))
said_behind asked x o o' e mid e' _ speaks s le (rose n lt r) = inr (inl (rose_before e.faults mid.faults e'.faults s.err_faults r))
said_behind asked x o o' e mid e' _ speaks s le no_memory = inr (inr refl)

-- an error of a sink is one of out, or of err before or in what is said there
out_or_err : (o o' e mid e' : SinkView) → mid.faults ≤ e'.faults → Rose o.faults o'.faults ⊎ Rose e.faults mid.faults → Rose o.faults o'.faults ⊎ Rose e.faults e'.faults
out_or_err o o' e mid e' le (inl r) = inl r
out_or_err o o' e mid e' le (inr r) = inr (rose_behind e.faults mid.faults e'.faults r le)

fault_so : (asked : Option Meaning) (x : Outcome) (o o' e mid e' : SinkView) (k : Kind) → SinksSo asked o o' e mid x → mid.faults ≤ e'.faults → Told x mid e' k → k ≡ kind.OutFault → Rose o.faults o'.faults ⊎ Rose e.faults e'.faults
fault_so asked x o o' e mid e' _ s le (line m t) is = out_or_err o o' e mid e' le (s.fault is)
fault_so asked x o o' e mid e' _ s le (mute m) is = out_or_err o o' e mid e' le (s.fault is)
fault_so asked x o o' e mid e' _ s le (rose n lt r) is = inr (rose_before e.faults mid.faults e'.faults s.err_faults r)
fault_so asked x o o' e mid e' _ s le no_memory is = absurd (memory_no_fault is)

run_unheard : (k : Kind) → IsOfRun k → IsOfRun (unheard k)
run_unheard (kind.Ended code) h = tt
run_unheard kind.Usage h = h
run_unheard kind.NoFile h = h
run_unheard kind.ReadFault h = h
run_unheard kind.WriteFault h = h
run_unheard kind.OutFault h = h
run_unheard (kind.Refused r) h = h
run_unheard (kind.CRefused r) h = h
run_unheard kind.StepsSpent h = h
run_unheard kind.Waiting h = h
run_unheard (kind.Trapped t) h = h
run_unheard kind.Dead h = h
run_unheard (kind.Undefined d) h = h
run_unheard kind.Memory h = h

exec_unheard : (k : Kind) → IsOfExec k → IsOfExec (unheard k)
exec_unheard (kind.Ended code) h = tt
exec_unheard kind.Usage h = h
exec_unheard kind.NoFile h = h
exec_unheard kind.ReadFault h = h
exec_unheard kind.WriteFault h = h
exec_unheard kind.OutFault h = h
exec_unheard (kind.Refused r) h = h
exec_unheard (kind.CRefused r) h = h
exec_unheard kind.StepsSpent h = h
exec_unheard kind.Waiting h = h
exec_unheard (kind.Trapped t) h = h
exec_unheard kind.Dead h = h
exec_unheard (kind.Undefined d) h = h
exec_unheard kind.Memory h = h

silent_so : (asked : Option Meaning) (x : Outcome) (o o' e mid e' : SinkView) (k : Kind) → SinksSo asked o o' e mid x → Told x mid e' k → (IsOfRun k → ⊥) → k ≢ kind.Memory → o' ≡ o
silent_so asked x o o' e mid e' _ s (line m t) a b = s.silent a b
silent_so asked x o o' e mid e' _ s (mute m) a b = s.silent a b
silent_so asked x o o' e mid e' _ s (rose n lt r) a b = s.silent (λ h. a (run_unheard x.kind h)) (λ h. b (ap unheard h))
silent_so asked x o o' e mid e' _ s no_memory a b = absurd (b refl)

exec_status : (x : Outcome) (e e' : SinkView) (k : Kind) → Told x e e' k → IsOfExec x.kind → IsOfExec k
exec_status x e e' _ (line m t) h = h
exec_status x e e' _ (mute m) h = h
exec_status x e e' _ (rose n lt r) h = exec_unheard x.kind h
exec_status x e e' _ no_memory h = tt

-- the status of a check is one, and that of `emit`
status_so : (P : Kind → Type 0) (x : Outcome) (k : Kind) → (k ≡ x.kind) ⊎ (k ≡ kind.Memory) → P kind.Memory → P x.kind → P k
status_so P x k (inl is) memory h = subst P (sym is) h
status_so P x k (inr is) memory h = subst P (sym is) memory

pub no_c_checked : (asked : Option Meaning) → AreOf asked command.Check → RunC asked → ⊥
no_c_checked asked of (inl r) = run_checks of.0.command (command_is asked of.0 command.Run of.1 r) of.2
no_c_checked asked of (inr r) = check_executes of.0.command of.2 (command_is asked of.0 command.Exec of.1 r)

pub no_c_emitted : (asked : Option Meaning) → AreOf asked command.Emit → RunC asked → ⊥
no_c_emitted asked of (inl r) = run_emits of.0.command (command_is asked of.0 command.Run of.1 r) of.2
no_c_emitted asked of (inr r) = emit_executes of.0.command of.2 (command_is asked of.0 command.Exec of.1 r)

pub no_c_outside : (asked : Option Meaning) → asked ≡ None → RunC asked → ⊥
no_c_outside asked is (inl r) = none_asked asked r.0 is r.1
no_c_outside asked is (inr r) = none_asked asked r.0 is r.1

pub causes : (asked : Option Meaning) (f f' : FolderView) (o o' e e' : SinkView) (status : Status) → IsCall asked f f' o o' e e' status → Causes asked f f' o o' e e' status
causes asked f f' o o' e e' status call =
    let x = call.outcome in
    let so = call_so asked o e call.calls o' call.middle x call.goes in
    let end = told x call.middle e' status call.finishes in
    let counts = chain_counts f call.calls f' call.chain in
    let later = finish_faults x call.middle e' status call.finishes in
    let was = answered x call.middle e' status.kind in
    let plain = plain_status x call.middle e' status.kind end in
    record {
      code = call.finishes.code;
      usage = λ h. (so.on_words.usage (was kind.Usage end h (λ x. cc) (λ x. cc))).0;
      outside = λ h. in_status x call.middle e' status.kind kind.Usage end (so.on_words.plain (no_c_outside asked h)) (so.on_words.outside h).0;
      no_file = λ h. (let l = so.faults.no_file (was kind.NoFile end h (λ x. cc) (λ x. cc)) in chain_raises f call.calls f' _ call.chain l.0);
      read_fault = λ h. (let l = so.faults.read_fault (was kind.ReadFault end h (λ x. cc) (λ x. cc)) in chain_raises f call.calls f' _ call.chain l.0);
      write_fault = λ h. (let l = so.faults.write_fault (was kind.WriteFault end h (λ x. cc) (λ x. cc)) in chain_raises f call.calls f' _ call.chain l.1.0);
      out_fault = fault_so asked x o o' e call.middle e' status.kind so.sinks later end;
      misses = counts.1;
      faults = counts.0;
      out_faults = so.sinks.out_faults;
      err_faults = (let a = so.sinks.err_faults in omega arith);
      behind = said_behind asked x o o' e call.middle e' status.kind so.speaks so.sinks later end;
      said = λ none. said_alone asked x o o' e call.middle e' status.kind so.speaks so.sinks later end none (memory_or x.kind);
      silent = silent_so asked x o o' e call.middle e' status.kind so.sinks end;
      checked = λ of. (let h = so.on_words.checked of in (status_so IsOfCheck x status.kind (plain (so.on_words.plain (no_c_checked asked of))) tt h.0, h.1));
      emitted = λ of. (let h = so.on_words.emitted of in (status_so IsOfEmit x status.kind (plain (so.on_words.plain (no_c_emitted asked of))) tt h.0, h.1));
      executed = λ of. exec_status x call.middle e' status.kind end (so.on_words.executed of);
    }
