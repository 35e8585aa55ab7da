-- The calls that a folder tells.
use Rattle.std.proofs.Common.{◌≡◌, ◌≢◌, ◌≤◌, ℕ, Bool, true, false, List, [], ◌∷◌, ◌++◌, length, Option, Some, None, Ok, Err, Result, refl, sym, ap, subst, ◌∙◌, inl, inr, ◌⊎◌, append-nil, append_assoc, pos, get_or}
use Rattle.vg_base.specs.declared.outside.FolderFault.{FolderFault}
use Rattle.vg_base.specs.declared.outside.FolderFault.TheVariants as fault
use Rattle.vg_base.specs.declared.outside.Call.{Call}
use Rattle.vg_base.specs.declared.outside.Call.TheVariants.{Read, Write}
use Rattle.vg_base.specs.World.{World}
use Rattle.vg_base.specs.Outside.{FolderView, SinkView, AddsCalls, Takes, Rose, entry_of_read, entry_of_write}
use Rattle.vg_base.proofs.OutsideLaws.{told_none, told_both, takes_both}
use Rattle.static_rules.specs.declared.rules.Refusal.{Refusal}
use Rattle.vala_compile.specs.Program.{AreRead}
use Rattle.c_tree.specs.declared.unit.Unit.{Unit as CUnit}
use Rattle.c_tree.specs.declared.kinds.Refusal.{Refusal as CRefusal}
use Rattle.c_tree.specs.Answers.{Answers}
use Rattle.c_tree.specs.Laws.{OneAnswer}
use Rattle.c_meaning.specs.Runs.{CRun}
use Rattle.command_line.specs.declared.choice.Command.TheVariants as command
use Rattle.command_line.specs.Names.{c_file}
use Rattle.command_line.specs.Meaning.{Meaning}
use Rattle.vala2c.specs.declared.status.Kind.{Kind}
use Rattle.vala2c.specs.declared.status.Kind.TheVariants as kind
use Rattle.vala2c.specs.declared.status.Status.{Status}
use Rattle.vala2c.specs.Status.{line_of, kind_of_run, kind_of_end, unheard}
use Rattle.vala2c.specs.Course.{Chain, AllRead, AllGiven, ReadUpTo, FrontRead, IsBuilt, IsRefusal, IsPlanned, HasC, Ran, Goes, GoesBy, Outcome, IsCall, files_read, written, read_back, most_bytes, world_of, texts_of, prints_out, prints_err, says_run}
use Rattle.vala2c.specs.Course as course
use Rattle.vala2c.specs.Causes.{RunC, IsOfRun, EmittedOf, RunsAsMeant, RanOf, ToldCalls, TakesLine}
use Rattle.vala2c.proofs.Reading.{one_asked, none_asked, run_checks, run_emits, run_executes, check_emits, check_executes, emit_executes, check_writes, exec_writes, given_front, given_read, given_whole, entries, entries_behind, entries_same, one_read, not_all}
use Rattle.vala2c.proofs.Rules.{one_refusal, never_accepted, never_built}
use Rattle.vala2c.proofs.Causes.{SinksSo, ran_so, not_of_run, call_so, told, answered, in_status, Told, rose_before, rose_behind, finish_faults, no_c_emitted, no_c_checked}
use Rattle.vala2c.proofs.Causes as causes

-- 1. What is told

pub chain_told : (f : FolderView) (calls : List Call) (g : FolderView) → Chain f calls g → AddsCalls f (entries calls) g
chain_told f calls g (course.none _) = told_none f.calls
chain_told f calls g (course.read _ mid _ name answer cs h rest) =
    told_both f.calls mid.calls g.calls (entry_of_read name answer) (entries cs) h.calls (chain_told mid cs g rest)
chain_told f calls g (course.write _ mid _ name bytes answer cs h rest) =
    told_both f.calls mid.calls g.calls (entry_of_write name bytes answer) (entries cs) h.calls (chain_told mid cs g rest)

-- a front of the files was read, where the next read left no entry
front_of : (files : List (List ℕ)) (file : List ℕ) (reads : List Call) → ReadUpTo files file reads → FrontRead files reads
front_of files file reads up = record { front = up.front; behind = file ∷ up.behind; files_are = up.files_are; sources = up.sources; all_read = up.all_read }

-- what stands behind the reads leaves these entries
behind_reads : (files sources : List (List ℕ)) (reads tail left : List Call) → AllRead files sources reads → entries tail ≡ left → entries (reads ++ tail) ≡ reads ++ left
behind_reads files sources reads tail left all e = entries_behind files sources reads tail all ∙ ap (λ l. reads ++ l) e

-- the same behind all that was given
behind_given : (m : Meaning) (sources : List (List ℕ)) (input : List ℕ) (reads tail left : List Call) → AllGiven m sources input reads → entries tail ≡ left → entries (reads ++ tail) ≡ reads ++ left
behind_given m sources input reads tail left all e = let r = given_read m sources input reads all in behind_reads (files_read m) r.0 reads tail left r.1 e

given_entries : (m : Meaning) (sources : List (List ℕ)) (input : List ℕ) (reads : List Call) → AllGiven m sources input reads → entries reads ≡ reads
given_entries m sources input reads all = let r = given_read m sources input reads all in entries_same (files_read m) r.0 reads r.1

-- the calls behind which there is C leave all their entries
c_entries : (m : Meaning) (calls : List Call) (input file bytes : List ℕ) (limit : ℕ) → HasC m calls input file bytes limit → entries calls ≡ calls
c_entries m _ input _ bytes _ (course.back reads _ c _ run built) =
    let l = Write (c_file m.name) c (Ok tt) ∷ Read (c_file m.name) (Ok bytes) ∷ [] in
    behind_given m built.sources input reads l l built.all_given refl
c_entries m calls input file bytes _ (course.given _ _ _ _ exec one all) = given_entries m (bytes ∷ []) input calls all

-- what leaves an entry is planned too
planned_behind : (m : Meaning) (files sources : List (List ℕ)) (reads tail left : List Call) → AllRead files sources reads → entries tail ≡ left → IsPlanned m (reads ++ left) → IsPlanned m (entries (reads ++ tail))
planned_behind m files sources reads tail left all e h = subst (IsPlanned m) (sym (behind_reads files sources reads tail left all e)) h

nothing_behind : (m : Meaning) (files sources : List (List ℕ)) (reads tail : List Call) → AllRead files sources reads → entries tail ≡ [] → IsPlanned m reads → IsPlanned m (entries (reads ++ tail))
nothing_behind m files sources reads tail all e h = subst (IsPlanned m) (sym (behind_reads files sources reads tail [] all e ∙ append-nil reads)) h

unread_planned : (m : Meaning) (file : List ℕ) (reads : List Call) (x : FolderFault) → ReadUpTo (files_read m) file reads → IsPlanned m (entries (reads ++ Read file (Err x) ∷ []))
unread_planned m file reads fault.Missing up =
    let l = Read file (Err fault.Missing) ∷ [] in planned_behind m up.front up.sources reads l l up.all_read refl (course.unread file reads fault.Missing up)
unread_planned m file reads fault.Failed up =
    let l = Read file (Err fault.Failed) ∷ [] in planned_behind m up.front up.sources reads l l up.all_read refl (course.unread file reads fault.Failed up)
unread_planned m file reads fault.Memory up =
    nothing_behind m up.front up.sources reads (Read file (Err fault.Memory) ∷ []) up.all_read refl (course.reads reads (front_of (files_read m) file reads up))

wrote_planned : (m : Meaning) (input : List ℕ) (reads : List Call) (c : List ℕ) (a : Result (Unit {0}) FolderFault) → IsBuilt m input reads c → IsPlanned m (entries (written m reads c a))
wrote_planned m input reads c (Ok x) h =
    let r = given_read m h.sources input reads h.all_given in
    let l = Write (c_file m.name) c (Ok x) ∷ [] in planned_behind m (files_read m) r.0 reads l l r.1 refl (course.wrote input reads c (Ok x) h)
wrote_planned m input reads c (Err fault.Missing) h =
    let r = given_read m h.sources input reads h.all_given in
    let l = Write (c_file m.name) c (Err fault.Missing) ∷ [] in planned_behind m (files_read m) r.0 reads l l r.1 refl (course.wrote input reads c (Err fault.Missing) h)
wrote_planned m input reads c (Err fault.Failed) h =
    let r = given_read m h.sources input reads h.all_given in
    let l = Write (c_file m.name) c (Err fault.Failed) ∷ [] in planned_behind m (files_read m) r.0 reads l l r.1 refl (course.wrote input reads c (Err fault.Failed) h)
wrote_planned m input reads c (Err fault.Memory) h =
    let r = given_read m h.sources input reads h.all_given in
    nothing_behind m (files_read m) r.0 reads (Write (c_file m.name) c (Err fault.Memory) ∷ []) r.1 refl (course.reads reads (given_whole m h.sources input reads h.all_given))

back_planned : (m : Meaning) (input : List ℕ) (reads : List Call) (c : List ℕ) (a : Result (List ℕ) FolderFault) → m.command ≡ command.Run → IsBuilt m input reads c → IsPlanned m (entries (read_back m reads c a))
back_planned m input reads c (Ok b) run h =
    let r = given_read m h.sources input reads h.all_given in
    let l = Write (c_file m.name) c (Ok tt) ∷ Read (c_file m.name) (Ok b) ∷ [] in planned_behind m (files_read m) r.0 reads l l r.1 refl (course.back input reads c (Ok b) run h)
back_planned m input reads c (Err fault.Missing) run h =
    let r = given_read m h.sources input reads h.all_given in
    let l = Write (c_file m.name) c (Ok tt) ∷ Read (c_file m.name) (Err fault.Missing) ∷ [] in planned_behind m (files_read m) r.0 reads l l r.1 refl (course.back input reads c (Err fault.Missing) run h)
back_planned m input reads c (Err fault.Failed) run h =
    let r = given_read m h.sources input reads h.all_given in
    let l = Write (c_file m.name) c (Ok tt) ∷ Read (c_file m.name) (Err fault.Failed) ∷ [] in planned_behind m (files_read m) r.0 reads l l r.1 refl (course.back input reads c (Err fault.Failed) run h)
back_planned m input reads c (Err fault.Memory) run h =
    let r = given_read m h.sources input reads h.all_given in
    let w = Write (c_file m.name) c (Ok tt) in
    planned_behind m (files_read m) r.0 reads (w ∷ Read (c_file m.name) (Err fault.Memory) ∷ []) (w ∷ []) r.1 refl (course.wrote input reads c (Ok tt) h)

pub entries_planned : (m : Meaning) (calls : List Call) → IsPlanned m calls → IsPlanned m (entries calls)
entries_planned m calls (course.reads rs up) = subst (IsPlanned m) (sym (entries_same up.front up.sources rs up.all_read)) (course.reads rs up)
entries_planned m calls (course.unread f rs x up) = unread_planned m f rs x up
entries_planned m calls (course.wrote i rs c a h) = wrote_planned m i rs c a h
entries_planned m calls (course.back i rs c a run h) = back_planned m i rs c a run h

-- 2. What was read is one

same_read : (f : List ℕ) (s t : List ℕ) (a b : List Call) → Read f (Ok s) ∷ a ≡ Read f (Ok t) ∷ b → a ≡ b
same_read f s t a b e = cc

-- behind all files the rest of the calls is one
one_tail : (files s t : List (List ℕ)) (a b more others : List Call) → AllRead files s a → AllRead files t b → a ++ more ≡ b ++ others → more ≡ others
one_tail _ _ _ _ _ more others course.none course.none e = e
one_tail _ _ _ _ _ more others (course.one file x files s a h) (course.one _ y _ t b k) e = one_tail files s t a b more others h k (same_read file x y (a ++ more) (b ++ others) e)

given_tail : (m : Meaning) (s t : List (List ℕ)) (i j : List ℕ) (a b more others : List Call) → AllGiven m s i a → AllGiven m t j b → a ++ more ≡ b ++ others → more ≡ others
given_tail m s t i j a b more others h k e =
    let p = given_read m s i a h in
    let q = given_read m t j b k in
    one_tail (files_read m) p.0 q.0 a b more others p.1 q.1 e

-- the sources are one
given_sources : (m : Meaning) (s t : List (List ℕ)) (i j : List ℕ) (a b more others : List Call) → AllGiven m s i a → AllGiven m t j b → a ++ more ≡ b ++ others → s ≡ t
given_sources m s t i j a b more others h k e =
    let p = given_front m s i a h in
    let q = given_front m t j b k in
    let left : p.0 ++ (p.1 ++ more) ≡ a ++ more = sym (append_assoc p.0 p.1 more) ∙ ap (λ l. l ++ more) (sym p.3) in
    let right : b ++ others ≡ q.0 ++ (q.1 ++ others) = ap (λ l. l ++ others) q.3 ∙ append_assoc q.0 q.1 others in
    one_read m.files s t p.0 q.0 (p.1 ++ more) (q.1 ++ others) p.2 q.2 (left ∙ (e ∙ right))

-- where a file was not read, not all were given
never_given : {A : Type 0} (m : Meaning) (file : List ℕ) (reads calls : List Call) (x : FolderFault) (s : List (List ℕ)) (i : List ℕ) (b others : List Call) → ReadUpTo (files_read m) file reads → calls ≡ reads ++ Read file (Err x) ∷ []
    → AllGiven m s i b → calls ≡ b ++ others → A
never_given m file reads calls x s i b others up e k e2 =
    let r = given_read m s i b k in
    not_all up.front up.sources r.0 file up.behind x reads b [] others up.all_read (subst (λ fs. AllRead fs r.0 b) up.files_are r.1) (sym e ∙ e2)

-- what stands behind the reads where there is C
pub record CBehind (m : Meaning) (calls : List Call) (bytes : List ℕ) (limit : ℕ) : Type 0 where
  pub sources : List (List ℕ)
  pub input : List ℕ
  pub reads : List Call
  pub tail : List Call
  pub all_given : AllGiven m sources input reads
  pub all : calls ≡ reads ++ tail
  pub by_command : ((c : List ℕ) × (m.command ≡ command.Run) × (tail ≡ Write (c_file m.name) c (Ok tt) ∷ Read (c_file m.name) (Ok bytes) ∷ []) × (limit ≡ length c))
      ⊎ ((m.command ≡ command.Exec) × (tail ≡ []) × (limit ≡ most_bytes) × (sources ≡ bytes ∷ []))

c_behind : (m : Meaning) (calls : List Call) (input file bytes : List ℕ) (limit : ℕ) → HasC m calls input file bytes limit → CBehind m calls bytes limit
c_behind m _ input _ bytes _ (course.back reads _ c _ run built) =
    record { sources = built.sources; input = input; reads = reads; tail = Write (c_file m.name) c (Ok tt) ∷ Read (c_file m.name) (Ok bytes) ∷ []; all_given = built.all_given; all = refl; by_command = inl (c, run, refl, refl) }
c_behind m calls input file bytes _ (course.given _ _ _ _ exec one all) =
    record { sources = bytes ∷ []; input = input; reads = calls; tail = []; all_given = all; all = sym (append-nil calls); by_command = inr (exec, refl, refl, refl) }

same_two : (name : List ℕ) (c d a b : List ℕ) → Write name c (Ok tt) ∷ Read name (Ok a) ∷ [] ≡ Write name d (Ok tt) ∷ Read name (Ok b) ∷ [] → (c ≡ d) × (a ≡ b)
same_two name c d a b e = (cc, cc)

same_one : (a b : List ℕ) → a ∷ [] ≡ b ∷ [] → a ≡ b
same_one a b e = cc

-- the C and its limit are one
one_c : (m : Meaning) (calls : List Call) (a b : List ℕ) (k l : ℕ) → CBehind m calls a k → CBehind m calls b l → (a ≡ b) × (k ≡ l)
one_c m calls a b k l p q = both p.by_command q.by_command
  where
    tails : p.tail ≡ q.tail
    tails = given_tail m p.sources q.sources p.input q.input p.reads q.reads p.tail q.tail p.all_given q.all_given (sym p.all ∙ q.all)

    both : ((c : List ℕ) × (m.command ≡ command.Run) × (p.tail ≡ Write (c_file m.name) c (Ok tt) ∷ Read (c_file m.name) (Ok a) ∷ []) × (k ≡ length c))
        ⊎ ((m.command ≡ command.Exec) × (p.tail ≡ []) × (k ≡ most_bytes) × (p.sources ≡ a ∷ []))
        → ((c : List ℕ) × (m.command ≡ command.Run) × (q.tail ≡ Write (c_file m.name) c (Ok tt) ∷ Read (c_file m.name) (Ok b) ∷ []) × (l ≡ length c))
        ⊎ ((m.command ≡ command.Exec) × (q.tail ≡ []) × (l ≡ most_bytes) × (q.sources ≡ b ∷ [])) → (a ≡ b) × (k ≡ l)
    both (inl x) (inl y) = let s = same_two (c_file m.name) x.0 y.0 a b (sym x.2 ∙ (tails ∙ y.2)) in (s.1, x.3 ∙ (ap length s.0 ∙ sym y.3))
    both (inl x) (inr y) = run_executes m.command x.1 y.0
    both (inr x) (inl y) = run_executes m.command y.1 x.0
    both (inr x) (inr y) =
        let s = given_sources m p.sources q.sources p.input q.input p.reads q.reads p.tail q.tail p.all_given q.all_given (sym p.all ∙ q.all) in
        (same_one a b (sym x.3 ∙ (s ∙ y.3)), x.2 ∙ sym y.2)

-- 3. How the calls and what the call comes to go together, where the calls leave these entries

pub record CallsSo (m : Meaning) (calls : List Call) (x : Outcome) : Type 0 where
  pub refused : (r : Refusal) → x.kind ≡ kind.Refused r → (sources : List (List ℕ)) × (input : List ℕ) × IsRefusal m sources r × AllGiven m sources input calls × (x.named ≡ get_or m.files r.span.file []) × (x.source ≡ get_or sources r.span.file [])
  pub if_broken : (sources : List (List ℕ)) (input : List ℕ) (reads more : List Call) (r : Refusal) → AllGiven m sources input reads → calls ≡ reads ++ more → IsRefusal m sources r → (x.kind ≡ kind.Refused r) ⊎ (x.kind ≡ kind.Memory)
  pub accepted : (code : _) → m.command ≡ command.Check → x.kind ≡ kind.Ended code → (sources : List (List ℕ)) × (input : List ℕ) × AllGiven m sources input calls × AreRead sources
  pub if_accepted : (sources : List (List ℕ)) (input : List ℕ) → m.command ≡ command.Check → AllGiven m sources input calls → AreRead sources → (x.kind ≡ kind.Ended (pos 0)) ⊎ (x.kind ≡ kind.Memory)
  pub emitted : (code : _) → m.command ≡ command.Emit → x.kind ≡ kind.Ended code → EmittedOf m calls
  pub if_emitted : m.command ≡ command.Emit → EmittedOf m calls → (x.kind ≡ kind.Ended (pos 0)) ⊎ (x.kind ≡ kind.Memory)
  pub c_refused : (r : CRefusal) → x.kind ≡ kind.CRefused r → (input : List ℕ) × (bytes : List ℕ) × (limit : ℕ) × HasC m calls input x.named bytes limit × Answers bytes limit (Err r)
  pub if_c_refused : (bytes : List ℕ) (limit : ℕ) (r : CRefusal) → CBehind m calls bytes limit → Answers bytes limit (Err r) → (x.kind ≡ kind.CRefused r) ⊎ (x.kind ≡ kind.Memory)

-- statuses that are no answer to sources or to C
pub record IsNoAnswer (k : Kind) : Type 0 where
  pub not_refused : (r : Refusal) → k ≢ kind.Refused r
  pub not_ended : (code : _) → k ≢ kind.Ended code
  pub not_c_refused : (r : CRefusal) → k ≢ kind.CRefused r

no_file_answers : IsNoAnswer kind.NoFile
no_file_answers = record { not_refused = λ r h. cc; not_ended = λ c h. cc; not_c_refused = λ r h. cc }

read_fault_answers : IsNoAnswer kind.ReadFault
read_fault_answers = record { not_refused = λ r h. cc; not_ended = λ c h. cc; not_c_refused = λ r h. cc }

write_fault_answers : IsNoAnswer kind.WriteFault
write_fault_answers = record { not_refused = λ r h. cc; not_ended = λ c h. cc; not_c_refused = λ r h. cc }

memory_answers : IsNoAnswer kind.Memory
memory_answers = record { not_refused = λ r h. cc; not_ended = λ c h. cc; not_c_refused = λ r h. cc }

-- what was emitted was given
emitted_given : {A : Type 0} (m : Meaning) (file : List ℕ) (reads calls : List Call) (x : FolderFault) → ReadUpTo (files_read m) file reads → calls ≡ reads ++ Read file (Err x) ∷ [] → EmittedOf m calls → A
emitted_given m file reads calls x up e em =
    never_given m file reads calls x em.is_built.sources em.input em.reads (Write (c_file m.name) em.c (Ok tt) ∷ []) up e em.is_built.all_given em.all

-- the reads stopped at a file: not all were given
unread_calls : (m : Meaning) (file : List ℕ) (reads calls : List Call) (f : FolderFault) (x : Outcome) → ReadUpTo (files_read m) file reads → calls ≡ reads ++ Read file (Err f) ∷ [] → IsNoAnswer x.kind → CallsSo m calls x
unread_calls m file reads calls f x up e a =
    record {
      refused = λ r h. absurd (a.not_refused r h);
      if_broken = λ ss i rs more r all e2 b. never_given m file reads calls f ss i rs more up e all e2;
      accepted = λ code c h. absurd (a.not_ended code h);
      if_accepted = λ ss i c all h. never_given m file reads calls f ss i calls [] up e all (sym (append-nil calls));
      emitted = λ code c h. absurd (a.not_ended code h);
      if_emitted = λ c em. emitted_given m file reads calls f up e em;
      c_refused = λ r h. absurd (a.not_c_refused r h);
      if_c_refused = λ bytes limit r p h. never_given m file reads calls f p.sources p.input p.reads p.tail up e p.all_given p.all;
    }

-- no call stands behind the reads: nothing was emitted, and there is C for `exec` alone
no_tail_emitted : {A : Type 0} (m : Meaning) (sources : List (List ℕ)) (input : List ℕ) (reads : List Call) → AllGiven m sources input reads → EmittedOf m reads → A
no_tail_emitted m sources input reads all em =
    absurd (differ em.c (given_tail m sources em.is_built.sources input em.input reads em.reads [] (Write (c_file m.name) em.c (Ok tt) ∷ []) all em.is_built.all_given (append-nil reads ∙ em.all)))
  where
    differ : (c : List ℕ) → [] ≡ Write (c_file m.name) c (Ok tt) ∷ [] → ⊥
    differ c e = cc

no_tail_c : {A : Type 0} (m : Meaning) (sources : List (List ℕ)) (input : List ℕ) (reads : List Call) (bytes : List ℕ) (limit : ℕ) → AllGiven m sources input reads → (m.command ≡ command.Exec → ⊥) → CBehind m reads bytes limit → A
no_tail_c {A = A} m sources input reads bytes limit all not p = go p.by_command
  where
    tails : [] ≡ p.tail
    tails = given_tail m sources p.sources input p.input reads p.reads [] p.tail all p.all_given (append-nil reads ∙ p.all)

    differ : (c : List ℕ) → [] ≡ Write (c_file m.name) c (Ok tt) ∷ Read (c_file m.name) (Ok bytes) ∷ [] → ⊥
    differ c e = cc

    go : ((c : List ℕ) × (m.command ≡ command.Run) × (p.tail ≡ Write (c_file m.name) c (Ok tt) ∷ Read (c_file m.name) (Ok bytes) ∷ []) × (limit ≡ length c))
        ⊎ ((m.command ≡ command.Exec) × (p.tail ≡ []) × (limit ≡ most_bytes) × (p.sources ≡ bytes ∷ [])) → A
    go (inl x) = absurd (differ x.0 (tails ∙ x.2))
    go (inr x) = absurd (not x.0)

-- sources with a broken rule are of no `exec`
refusal_no_exec : (m : Meaning) (sources : List (List ℕ)) (r : Refusal) → IsRefusal m sources r → m.command ≡ command.Exec → ⊥
refusal_no_exec m sources r (course.compiled rest w b) e = exec_writes m.command e w
refusal_no_exec m sources r (course.checked c h) e = check_executes m.command c e

refused_calls : (m : Meaning) (sources : List (List ℕ)) (input : List ℕ) (reads : List Call) (r : Refusal) → AllGiven m sources input reads → IsRefusal m sources r → CallsSo m reads (course.says_broken r m.files sources)
refused_calls m sources input reads r all b =
    record {
      refused = λ q h. (let e : r ≡ q = same_rule r q h in (sources, input, subst (IsRefusal m sources) e b, all, ap (λ x. get_or m.files x.span.file []) e, ap (λ x. get_or sources x.span.file []) e));
      if_broken = λ ss i rs more q all2 e2 b2. (
          let e = given_sources m ss sources i input rs reads more [] all2 all (sym e2 ∙ sym (append-nil reads)) in
          inl (ap kind.Refused (one_refusal m sources r q b (subst (λ l. IsRefusal m l q) e b2)))
          );
      accepted = λ code c h. absurd (not_ended r code h);
      if_accepted = λ ss i c all2 h. (
          let e = given_sources m ss sources i input reads reads [] [] all2 all refl in
          never_accepted m sources r c (subst AreRead e h) b
          );
      emitted = λ code c h. absurd (not_ended r code h);
      if_emitted = λ c em. no_tail_emitted m sources input reads all em;
      c_refused = λ q h. absurd (differ r q h);
      if_c_refused = λ bytes limit q p h. no_tail_c m sources input reads bytes limit all (refusal_no_exec m sources r b) p;
    }
  where
    same_rule : (r q : Refusal) → kind.Refused r ≡ kind.Refused q → r ≡ q
    same_rule r q e = cc

    not_ended : (r : Refusal) (code : _) → kind.Refused r ≡ kind.Ended code → ⊥
    not_ended r code e = cc

    differ : (r : Refusal) (q : CRefusal) → kind.Refused r ≡ kind.CRefused q → ⊥
    differ r q e = cc

ended_not_refused : (r : Refusal) → kind.Ended (pos 0) ≡ kind.Refused r → ⊥
ended_not_refused r e = cc

ended_not_c_refused : (r : CRefusal) → kind.Ended (pos 0) ≡ kind.CRefused r → ⊥
ended_not_c_refused r e = cc

accepted_calls : (m : Meaning) (sources : List (List ℕ)) (input : List ℕ) (reads : List Call) → m.command ≡ command.Check → AllGiven m sources input reads → AreRead sources → CallsSo m reads (course.says (kind.Ended (pos 0)) [])
accepted_calls m sources input reads is all h =
    record {
      refused = λ r e. absurd (ended_not_refused r e);
      if_broken = λ ss i rs more q all2 e2 b2. (
          let e = given_sources m ss sources i input rs reads more [] all2 all (sym e2 ∙ sym (append-nil reads)) in
          never_accepted m sources q is h (subst (λ l. IsRefusal m l q) e b2)
          );
      accepted = λ code c e. (sources, input, all, h);
      if_accepted = λ ss i c all2 h2. inl refl;
      emitted = λ code c e. check_emits m.command is c;
      if_emitted = λ c em. check_emits m.command is c;
      c_refused = λ r e. absurd (ended_not_c_refused r e);
      if_c_refused = λ bytes limit q p a. no_tail_c m sources input reads bytes limit all (λ e. check_executes m.command is e) p;
    }

-- the sources were compiled, and behind the reads stands a tail of other calls
built_broken : {A : Type 0} (m : Meaning) (input : List ℕ) (reads tail calls : List Call) (c : List ℕ) → IsBuilt m input reads c → calls ≡ reads ++ tail → (ss : List (List ℕ)) (i : List ℕ) (rs more : List Call) (r : Refusal)
    → AllGiven m ss i rs → calls ≡ rs ++ more → IsRefusal m ss r → A
built_broken m input reads tail calls c h e ss i rs more r all e2 b =
    let s = given_sources m ss h.sources i input rs reads more tail all h.all_given (sym e2 ∙ e) in
    never_built m h.sources c r h.writes h.compiled (subst (λ l. IsRefusal m l r) s b)

-- a fault behind the compiler
fault_calls : (m : Meaning) (input : List ℕ) (reads tail calls : List Call) (c : List ℕ) (x : Outcome) → IsBuilt m input reads c → calls ≡ reads ++ tail → IsNoAnswer x.kind
    → ((d : List ℕ) → tail ≡ Write (c_file m.name) d (Ok tt) ∷ [] → ⊥) → ((d bytes : List ℕ) → tail ≡ Write (c_file m.name) d (Ok tt) ∷ Read (c_file m.name) (Ok bytes) ∷ [] → ⊥) → CallsSo m calls x
fault_calls m input reads tail calls c x h e a one two =
    record {
      refused = λ r y. absurd (a.not_refused r y);
      if_broken = λ ss i rs more r all e2 b. built_broken m input reads tail calls c h e ss i rs more r all e2 b;
      accepted = λ code is y. absurd (a.not_ended code y);
      if_accepted = λ ss i is all y. check_writes m.command is h.writes;
      emitted = λ code is y. absurd (a.not_ended code y);
      if_emitted = λ is em. absurd (one em.c (given_tail m h.sources em.is_built.sources input em.input reads em.reads tail (Write (c_file m.name) em.c (Ok tt) ∷ []) h.all_given em.is_built.all_given (sym e ∙ em.all)));
      c_refused = λ r y. absurd (a.not_c_refused r y);
      if_c_refused = λ bytes limit r p y. go bytes limit p p.by_command;
    }
  where
    go : {A : Type 0} (bytes : List ℕ) (limit : ℕ) (p : CBehind m calls bytes limit) → ((c : List ℕ) × (m.command ≡ command.Run) × (p.tail ≡ Write (c_file m.name) c (Ok tt) ∷ Read (c_file m.name) (Ok bytes) ∷ []) × (limit ≡ length c))
        ⊎ ((m.command ≡ command.Exec) × (p.tail ≡ []) × (limit ≡ most_bytes) × (p.sources ≡ bytes ∷ [])) → A
    go bytes limit p (inl y) = absurd (two y.0 bytes (given_tail m h.sources p.sources input p.input reads p.reads tail p.tail h.all_given p.all_given (sym e ∙ p.all) ∙ y.2))
    go bytes limit p (inr y) = exec_writes m.command y.0 h.writes

-- the C was written, and no more
emitted_calls : (m : Meaning) (input : List ℕ) (reads calls : List Call) (c : List ℕ) → m.command ≡ command.Emit → IsBuilt m input reads c → calls ≡ written m reads c (Ok tt) → CallsSo m calls (course.says (kind.Ended (pos 0)) [])
emitted_calls m input reads calls c is h e =
    record {
      refused = λ r y. absurd (ended_not_refused r y);
      if_broken = λ ss i rs more r all e2 b. built_broken m input reads (Write (c_file m.name) c (Ok tt) ∷ []) calls c h e ss i rs more r all e2 b;
      accepted = λ code ch y. check_emits m.command ch is;
      if_accepted = λ ss i ch all y. check_emits m.command ch is;
      emitted = λ code em y. record { input = input; reads = reads; c = c; is_built = h; all = e };
      if_emitted = λ em y. inl refl;
      c_refused = λ r y. absurd (ended_not_c_refused r y);
      if_c_refused = λ bytes limit r p y. no_c bytes limit p p.by_command;
    }
  where
    no_c : {A : Type 0} (bytes : List ℕ) (limit : ℕ) (p : CBehind m calls bytes limit) → ((c : List ℕ) × (m.command ≡ command.Run) × (p.tail ≡ Write (c_file m.name) c (Ok tt) ∷ Read (c_file m.name) (Ok bytes) ∷ []) × (limit ≡ length c))
        ⊎ ((m.command ≡ command.Exec) × (p.tail ≡ []) × (limit ≡ most_bytes) × (p.sources ≡ bytes ∷ [])) → A
    no_c bytes limit p (inl y) = run_emits m.command y.1 is
    no_c bytes limit p (inr y) = emit_executes m.command is y.0

-- what an `exec` is given breaks no rule of Vala, and no C is emitted or checked where it runs
c_broken : {A : Type 0} (m : Meaning) (calls : List Call) (input file bytes : List ℕ) (limit : ℕ) → HasC m calls input file bytes limit → (ss : List (List ℕ)) (i : List ℕ) (rs more : List Call) (r : Refusal) → AllGiven m ss i rs → calls ≡ rs ++ more → IsRefusal m ss r → A
c_broken m _ input _ bytes _ (course.back reads _ c _ run built) ss i rs more r all e b = built_broken m input reads _ _ c built refl ss i rs more r all e b
c_broken m calls input file bytes _ (course.given _ _ _ _ exec one given) ss i rs more r all e b = absurd (refusal_no_exec m ss r b exec)

c_checks : {A : Type 0} (m : Meaning) (calls : List Call) (input file bytes : List ℕ) (limit : ℕ) → HasC m calls input file bytes limit → m.command ≡ command.Check → A
c_checks m _ input _ bytes _ (course.back reads _ c _ run built) is = run_checks m.command run is
c_checks m calls input file bytes _ (course.given _ _ _ _ exec one given) is = check_executes m.command is exec

c_emits : {A : Type 0} (m : Meaning) (calls : List Call) (input file bytes : List ℕ) (limit : ℕ) → HasC m calls input file bytes limit → m.command ≡ command.Emit → A
c_emits m _ input _ bytes _ (course.back reads _ c _ run built) is = run_emits m.command run is
c_emits m calls input file bytes _ (course.given _ _ _ _ exec one given) is = emit_executes m.command is exec

abbrev refusing : CRefusal → Result CUnit CRefusal
refusing r = Err r

-- there is C, which is refused
c_refused_calls : OneAnswer → (m : Meaning) (calls : List Call) (input file bytes : List ℕ) (limit : ℕ) (r : CRefusal) → HasC m calls input file bytes limit → Answers bytes limit (Err r) → CallsSo m calls (course.says (kind.CRefused r) file)
c_refused_calls once m calls input file bytes limit r h a =
    record {
      refused = λ q y. absurd (differ r q y);
      if_broken = λ ss i rs more q all e2 b. c_broken m calls input file bytes limit h ss i rs more q all e2 b;
      accepted = λ code is y. c_checks m calls input file bytes limit h is;
      if_accepted = λ ss i is all y. c_checks m calls input file bytes limit h is;
      emitted = λ code is y. c_emits m calls input file bytes limit h is;
      if_emitted = λ is em. c_emits m calls input file bytes limit h is;
      c_refused = λ q y. (input, bytes, limit, h, subst (λ z. Answers bytes limit (Err z)) (same r q y) a);
      if_c_refused = λ b l q p y. (
          let one = one_c m calls b bytes l limit p (c_behind m calls input file bytes limit h) in
          let there : Answers bytes limit (Err q) = subst (λ n. Answers bytes n (Err q)) one.1 (subst (λ z. Answers z l (Err q)) one.0 y) in
          inl (ap kind.CRefused (same_refusal r q (once bytes limit (Err r) (Err q) a there)))
          );
    }
  where
    differ : (r : CRefusal) (q : Refusal) → kind.CRefused r ≡ kind.Refused q → ⊥
    differ r q e = cc

    same : (r q : CRefusal) → kind.CRefused r ≡ kind.CRefused q → r ≡ q
    same r q e = cc

    same_refusal : (r q : CRefusal) → refusing r ≡ refusing q → r ≡ q
    same_refusal r q e = cc

-- it runs
ran_calls : OneAnswer → (m : Meaning) (calls : List Call) (input file bytes : List ℕ) (limit : ℕ) (unit : CUnit) (x : Outcome) → HasC m calls input file bytes limit → Answers bytes limit (Ok unit) → ((r : Refusal) → x.kind ≢ kind.Refused r)
    → ((r : CRefusal) → x.kind ≢ kind.CRefused r) → CallsSo m calls x
ran_calls once m calls input file bytes limit unit x h a un nc =
    record {
      refused = λ q y. absurd (un q y);
      if_broken = λ ss i rs more q all e2 b. c_broken m calls input file bytes limit h ss i rs more q all e2 b;
      accepted = λ code is y. c_checks m calls input file bytes limit h is;
      if_accepted = λ ss i is all y. c_checks m calls input file bytes limit h is;
      emitted = λ code is y. c_emits m calls input file bytes limit h is;
      if_emitted = λ is em. c_emits m calls input file bytes limit h is;
      c_refused = λ q y. absurd (nc q y);
      if_c_refused = λ b l q p y. (
          let one = one_c m calls b bytes l limit p (c_behind m calls input file bytes limit h) in
          let there : Answers bytes limit (Err q) = subst (λ n. Answers bytes n (Err q)) one.1 (subst (λ z. Answers z l (Err q)) one.0 y) in
          absurd (differ unit q (once bytes limit (Ok unit) (Err q) a there))
          );
    }
  where
    differ : (u : CUnit) (q : CRefusal) → Ok u ≡ refusing q → ⊥
    differ u q e = cc

no_memory : (m : Meaning) (calls : List Call) → CallsSo m calls (course.says kind.Memory [])
no_memory m calls =
    record {
      refused = λ r h. absurd (memory_answers.not_refused r h);
      if_broken = λ ss i rs more r all e b. inr refl;
      accepted = λ code is h. absurd (memory_answers.not_ended code h);
      if_accepted = λ ss i is all h. inr refl;
      emitted = λ code is h. absurd (memory_answers.not_ended code h);
      if_emitted = λ is em. inr refl;
      c_refused = λ r h. absurd (memory_answers.not_c_refused r h);
      if_c_refused = λ bytes limit r p h. inr refl;
    }

pub goes_calls : OneAnswer → (m : Meaning) (o e : SinkView) (calls : List Call) (o' e' : SinkView) (x : Outcome) → Goes m o e calls o' e' x → CallsSo m (entries calls) x
goes_calls once m o e calls o' e' _ (course.no_file f rs up) =
    let l = Read f (Err fault.Missing) ∷ [] in
    unread_calls m f rs _ fault.Missing _ up (behind_reads up.front up.sources rs l l up.all_read refl) no_file_answers
goes_calls once m o e calls o' e' _ (course.unread f rs up) =
    let l = Read f (Err fault.Failed) ∷ [] in
    unread_calls m f rs _ fault.Failed _ up (behind_reads up.front up.sources rs l l up.all_read refl) read_fault_answers
goes_calls once m o e calls o' e' _ (course.refused ss i rs r all b) = subst (λ l. CallsSo m l (course.says_broken r m.files ss)) (sym (given_entries m ss i rs all)) (refused_calls m ss i rs r all b)
goes_calls once m o e calls o' e' _ (course.accepted ss i rs c all h) = subst (λ l. CallsSo m l (course.says (kind.Ended (pos 0)) [])) (sym (given_entries m ss i rs all)) (accepted_calls m ss i rs c all h)
goes_calls once m o e calls o' e' _ (course.unwritten i rs c h) =
    let l = Write (c_file m.name) c (Err fault.Failed) ∷ [] in
    fault_calls m i rs l _ c _ h (behind_given m h.sources i rs l l h.all_given refl) write_fault_answers (λ d y. cc) (λ d b y. cc)
goes_calls once m o e calls o' e' _ (course.emitted i rs c em h) =
    let l = Write (c_file m.name) c (Ok tt) ∷ [] in
    emitted_calls m i rs _ c em h (behind_given m h.sources i rs l l h.all_given refl)
goes_calls once m o e calls o' e' _ (course.gone i rs c ru h) =
    let l = Write (c_file m.name) c (Ok tt) ∷ Read (c_file m.name) (Err fault.Missing) ∷ [] in
    fault_calls m i rs l _ c _ h (behind_given m h.sources i rs l l h.all_given refl) no_file_answers (λ d y. cc) (λ d b y. cc)
goes_calls once m o e calls o' e' _ (course.unread_back i rs c ru h) =
    let l = Write (c_file m.name) c (Ok tt) ∷ Read (c_file m.name) (Err fault.Failed) ∷ [] in
    fault_calls m i rs l _ c _ h (behind_given m h.sources i rs l l h.all_given refl) read_fault_answers (λ d y. cc) (λ d b y. cc)
goes_calls once m o e calls o' e' _ (course.c_refused cs i f b l r h a) =
    subst (λ y. CallsSo m y (course.says (kind.CRefused r) f)) (sym (c_entries m calls i f b l h)) (c_refused_calls once m calls i f b l r h a)
goes_calls once m o e calls o' e' _ (course.ran cs i f b l unit p q k texts muted h a r) =
    let of = (ran_so m unit (world_of m i) o o' e e' k texts muted r).is_of_run in
    subst (λ y. CallsSo m y (says_run k texts muted f)) (sym (c_entries m calls i f b l h))
    (ran_calls once m calls i f b l unit (says_run k texts muted f) h a (λ z. not_of_run k (kind.Refused z) of (λ y. y) (λ y. cc)) (λ z. not_of_run k (kind.CRefused z) of (λ y. y) (λ y. cc)))
goes_calls once m o e calls o' e' _ (course.memory cs p) = no_memory m (entries cs)

-- 4. The run

-- the status of a run is that of what the call comes to
pub run_heard : (k : Kind) → IsOfRun (unheard k) → IsOfRun k
run_heard (kind.Ended code) h = tt
run_heard kind.Usage h = h
run_heard kind.NoFile h = h
run_heard kind.ReadFault h = h
run_heard kind.WriteFault h = h
run_heard kind.OutFault h = h
run_heard (kind.Refused r) h = h
run_heard (kind.CRefused r) h = h
run_heard kind.StepsSpent h = h
run_heard kind.Waiting h = h
run_heard (kind.Trapped t) h = h
run_heard kind.Dead h = h
run_heard (kind.Undefined d) h = h
run_heard kind.Memory h = h

pub run_answered : (x : Outcome) (e e' : SinkView) (k : Kind) → Told x e e' k → IsOfRun k → IsOfRun x.kind
run_answered x e e' _ (causes.line m t) h = h
run_answered x e e' _ (causes.mute m) h = h
run_answered x e e' _ (causes.rose n lt r) h = run_heard x.kind h
run_answered x e e' _ causes.no_memory h = absurd h

-- the message line of a run speaks of nothing
pub line_quiet : (k : Kind) (named source : List ℕ) → IsOfRun k → line_of k named source ≡ line_of k [] []
line_quiet (kind.Ended code) named source h = refl
line_quiet kind.Usage named source h = refl
line_quiet kind.NoFile named source h = absurd h
line_quiet kind.ReadFault named source h = absurd h
line_quiet kind.WriteFault named source h = absurd h
line_quiet kind.OutFault named source h = refl
line_quiet (kind.Refused r) named source h = absurd h
line_quiet (kind.CRefused r) named source h = absurd h
line_quiet kind.StepsSpent named source h = refl
line_quiet kind.Waiting named source h = refl
line_quiet (kind.Trapped t) named source h = refl
line_quiet kind.Dead named source h = refl
line_quiet (kind.Undefined d) named source h = refl
line_quiet kind.Memory named source h = refl

-- all that the run prints was put: then what is told of it is as it is meant, or a put was refused
told_run : (m : Meaning) (unit : CUnit) (w : World) (k : Kind) (file : List ℕ) (o o' e mid e' : SinkView) (l : Kind) → Takes o (prints_out unit w m.steps) o' → Takes e (prints_err unit w m.steps) mid → e.faults ≤ mid.faults
    → k ≡ kind_of_run m.command ((CRun unit w).ended m.steps) → Told (says_run k (texts_of m (CRun unit w) m.steps) false file) mid e' l → IsOfRun l → RunsAsMeant m unit w o o' e e' l ⊎ (Rose o.faults o'.faults ⊎ Rose e.faults e'.faults)
told_run m unit w k file o o' e mid e' _ out err le is (causes.line q t) h =
    let texts = texts_of m (CRun unit w) m.steps in
    let put : Takes mid (texts ++ line_of k [] []) e' = subst (λ z. Takes mid (texts ++ z) e') (line_quiet k file [] h) t in
    inl (record { out = out; err = takes_both e mid e' (prints_err unit w m.steps) (texts ++ line_of k [] []) err put; end = is })
told_run m unit w k file o o' e mid e' _ out err le is (causes.mute q) h = absurd (differ q)
  where
    differ : false ≡ true → ⊥
    differ q = cc
told_run m unit w k file o o' e mid e' _ out err le is (causes.rose n lt r) h = inr (inr (rose_before e.faults mid.faults e'.faults le r))
told_run m unit w k file o o' e mid e' _ out err le is causes.no_memory h = absurd h

pub run_so : (m : Meaning) (unit : CUnit) (w : World) (file : List ℕ) (o o' e mid e' : SinkView) (k l : Kind) (texts : List ℕ) (muted : Bool) → Ran m unit w o o' e mid k texts muted → mid.faults ≤ e'.faults → Told (says_run k texts muted file) mid e' l → IsOfRun l
    → RunsAsMeant m unit w o o' e e' l ⊎ (Rose o.faults o'.faults ⊎ Rose e.faults e'.faults)
run_so m unit w file o o' e mid e' _ l _ _ (course.ended end is out err) le t h = told_run m unit w (kind_of_end m.command end) file o o' e mid e' l out.0 err.0 err.1 (ap (kind_of_run m.command) (sym is)) t h
run_so m unit w file o o' e mid e' _ l _ _ (course.spent is out err) le t h = told_run m unit w kind.StepsSpent file o o' e mid e' l out.0 err.0 err.1 (ap (kind_of_run m.command) (sym is)) t h
run_so m unit w file o o' e mid e' _ l _ _ (course.refused out err r) le t h = inr (inl r)
run_so m unit w file o o' e mid e' _ l _ _ (course.refused_on_err out err r) le t h = inr (inr (rose_behind e.faults mid.faults e'.faults r le))
run_so m unit w file o o' e mid e' _ l _ _ (course.memory out err) le t h = absurd (run_answered _ mid e' l t h)

-- 5. The clause

-- the message line of what comes without a run
line_so : (asked : Option Meaning) (x : Outcome) (o o' e mid e' : SinkView) (k l : Kind) → SinksSo asked o o' e mid x → mid.faults ≤ e'.faults → Told x mid e' k → k ≡ l → l ≢ kind.Memory → (IsOfRun l → ⊥)
    → TakesLine (line_of l x.named x.source) e e'
line_so asked x o o' e mid e' _ l s le (causes.line m t) is not none =
    let n = s.nothing (λ of r. none (subst IsOfRun is r)) (λ q. not (sym is ∙ q)) in
    let put : Takes mid (line_of x.kind x.named x.source) e' = subst (λ ts. Takes mid (ts ++ line_of x.kind x.named x.source) e') n.1 t in
    inl (subst (λ a. Takes e (line_of a x.named x.source) e') is (takes_both e mid e' [] (line_of x.kind x.named x.source) n.0 put))
line_so asked x o o' e mid e' _ l s le (causes.mute m) is not none = inr (rose_behind e.faults mid.faults e'.faults (s.on_err m) le)
line_so asked x o o' e mid e' _ l s le (causes.rose n lt r) is not none = inr (rose_before e.faults mid.faults e'.faults s.err_faults r)
line_so asked x o o' e mid e' _ l s le causes.no_memory is not none = absurd (not (sym is))

-- what a call comes to stands in the status, where a refused put does not change it
pub stands : (x : Outcome) (e e' : SinkView) (k l : Kind) → Told x e e' k → unheard l ≡ l → (x.kind ≡ l) ⊎ (x.kind ≡ kind.Memory) → (k ≡ l) ⊎ (k ≡ kind.Memory)
stands x e e' _ l (causes.line m t) un h = h
stands x e e' _ l (causes.mute m) un h = h
stands x e e' _ l (causes.rose n lt r) un (inl is) = inl (ap unheard is ∙ un)
stands x e e' _ l (causes.rose n lt r) un (inr is) = inr (ap unheard is)
stands x e e' _ l causes.no_memory un h = inr refl

-- what comes of words that ask for something
pub asked_by : (asked : Option Meaning) (o e : SinkView) (calls : List Call) (o' e' : SinkView) (x : Outcome) → GoesBy o e asked calls o' e' x → x.kind ≢ kind.Usage → x.kind ≢ kind.Memory → (m : Meaning) × (asked ≡ Some m)
asked_by _ o e _ _ _ _ course.usage a b = absurd (a refl)
asked_by _ o e calls o' e' x (course.asked m _ _ _ _ goes) a b = (m, refl)
asked_by asked o e _ _ _ _ (course.no_memory _) a b = absurd (b refl)

calls_so : OneAnswer → (asked : Option Meaning) (m : Meaning) (o e : SinkView) (calls : List Call) (o' e' : SinkView) (x : Outcome) → asked ≡ Some m → GoesBy o e asked calls o' e' x → CallsSo m (entries calls) x
calls_so once _ m o e _ _ _ _ is course.usage = none_asked None m refl is
calls_so once _ m o e calls o' e' x is (course.asked n _ _ _ _ goes) = subst (λ z. CallsSo z (entries calls) x) (one_asked (Some n) n m refl is) (goes_calls once n o e calls o' e' x goes)
calls_so once asked m o e _ _ _ _ is (course.no_memory _) = no_memory m []

goes_ran : (m : Meaning) (o e : SinkView) (calls : List Call) (o' mid e' : SinkView) (x : Outcome) (l : Kind) → Goes m o e calls o' mid x → RunC (Some m) → IsOfRun x.kind → mid.faults ≤ e'.faults → Told x mid e' l → IsOfRun l → RanOf (Some m) (entries calls) o o' e e' l
goes_ran m o e calls o' mid e' _ l (course.no_file f rs up) of h le t hl = absurd h
goes_ran m o e calls o' mid e' _ l (course.unread f rs up) of h le t hl = absurd h
goes_ran m o e calls o' mid e' _ l (course.refused ss i rs r all b) of h le t hl = absurd h
goes_ran m o e calls o' mid e' _ l (course.accepted ss i rs c all g) of h le t hl = absurd (no_c_checked (Some m) (m, refl, c) of)
goes_ran m o e calls o' mid e' _ l (course.unwritten i rs c g) of h le t hl = absurd h
goes_ran m o e calls o' mid e' _ l (course.emitted i rs c em g) of h le t hl = absurd (no_c_emitted (Some m) (m, refl, em) of)
goes_ran m o e calls o' mid e' _ l (course.gone i rs c ru g) of h le t hl = absurd h
goes_ran m o e calls o' mid e' _ l (course.unread_back i rs c ru g) of h le t hl = absurd h
goes_ran m o e calls o' mid e' _ l (course.c_refused cs i f b n r g a) of h le t hl = absurd h
goes_ran m o e calls o' mid e' _ l (course.ran cs i f b n unit p q k texts muted g a r) of h le t hl =
    record {
      calls = record { meaning = m; is_asked = refl; input = i; file = f; bytes = b; limit = n; has_c = subst (λ z. HasC m z i f b n) (sym (c_entries m calls i f b n g)) g };
      unit = unit;
      is_unit = a;
      runs = run_so m unit (world_of m i) f o o' e mid e' k l texts muted r le t hl;
    }
goes_ran m o e calls o' mid e' _ l (course.memory cs p) of h le t hl = absurd h

pub ran_of : (asked : Option Meaning) (o e : SinkView) (calls : List Call) (o' mid e' : SinkView) (x : Outcome) (l : Kind) → GoesBy o e asked calls o' mid x → RunC asked → IsOfRun x.kind → mid.faults ≤ e'.faults → Told x mid e' l → IsOfRun l
    → RanOf asked (entries calls) o o' e e' l
ran_of _ o e _ _ mid e' _ l course.usage of h le t hl = absurd h
ran_of asked o e _ _ mid e' _ l (course.no_memory _) of h le t hl = absurd h
ran_of _ o e calls o' mid e' x l (course.asked m _ _ _ _ goes) of h le t hl = goes_ran m o e calls o' mid e' x l goes of h le t hl

pub told_calls : OneAnswer → (asked : Option Meaning) (f f' : FolderView) (o o' e e' : SinkView) (status : Status) → IsCall asked f f' o o' e e' status → ToldCalls asked f f' o o' e e' status
told_calls once asked f f' o o' e e' status call =
    let x = call.outcome in
    let so = call_so asked o e call.calls o' call.middle x call.goes in
    let made = λ (m : Meaning) (is : asked ≡ Some m). calls_so once asked m o e call.calls o' call.middle x is call.goes in
    let end = told x call.middle e' status call.finishes in
    let later = finish_faults x call.middle e' status call.finishes in
    let was = answered x call.middle e' status.kind in
    let still = stands x call.middle e' status.kind in
    let line = λ (l : Kind). line_so asked x o o' e call.middle e' status.kind l so.sinks later end in
    let by = asked_by asked o e call.calls o' call.middle x call.goes in
    record {
      added = entries call.calls;
      told = chain_told f call.calls f' call.chain;
      planned = λ m is. entries_planned m call.calls (so.planned m is);
      outside = λ h. ap entries (so.on_words.outside h).1;
      usage = λ h. ap entries (so.on_words.usage (was kind.Usage end h (λ y. cc) (λ y. cc))).1;
      no_file = λ h. (let l = so.faults.no_file (was kind.NoFile end h (λ y. cc) (λ y. cc)) in (x.named, l.1, line kind.NoFile h (λ y. cc) (λ y. y)));
      read_fault = λ h. (let l = so.faults.read_fault (was kind.ReadFault end h (λ y. cc) (λ y. cc)) in (x.named, l.1, line kind.ReadFault h (λ y. cc) (λ y. y)));
      write_fault = λ h. (let l = so.faults.write_fault (was kind.WriteFault end h (λ y. cc) (λ y. cc)) in (x.named, l.0, l.1.1, line kind.WriteFault h (λ y. cc) (λ y. y)));
      if_missing = λ name l. still kind.NoFile end refl (so.faults.if_missing name l);
      if_unread = λ name l. still kind.ReadFault end refl (so.faults.if_unread name l);
      if_unwritten = λ name bytes l. still kind.WriteFault end refl (so.faults.if_unwritten name bytes l);
      refused = λ r h. (
          let a = was (kind.Refused r) end h (λ y. cc) (λ y. cc) in
          let n = by (other_kind (kind.Refused r) kind.Usage x.kind a (λ y. cc)) (other_kind (kind.Refused r) kind.Memory x.kind a (λ y. cc)) in
          let y = (made n.0 n.1).refused r a in
          record { meaning = n.0; is_asked = n.1; sources = y.0; input = y.1; is_refusal = y.2; all_given = y.3; line = line_named (kind.Refused r) x.named x.source (get_or n.0.files r.span.file []) (get_or y.0 r.span.file []) e e' y.4 y.5 (line (kind.Refused r) h (λ y. cc) (λ y. y)) }
          );
      if_broken = λ m ss i rs more r is all l b. still (kind.Refused r) end refl ((made m is).if_broken ss i rs more r all l b);
      accepted = λ m code is c h. (made m is).accepted code c (ended_answer code (so.on_words.plain (no_c_checked asked (m, is, c))) h);
      if_accepted = λ m ss i is c all h. in_status x call.middle e' status.kind (kind.Ended (pos 0)) end (so.on_words.plain (no_c_checked asked (m, is, c))) ((made m is).if_accepted ss i c all h);
      emitted = λ m code is c h. (made m is).emitted code c (ended_answer code (so.on_words.plain (no_c_emitted asked (m, is, c))) h);
      if_emitted = λ m is c em. in_status x call.middle e' status.kind (kind.Ended (pos 0)) end (so.on_words.plain (no_c_emitted asked (m, is, c))) ((made m is).if_emitted c em);
      c_refused = λ r h. (
          let a = was (kind.CRefused r) end h (λ y. cc) (λ y. cc) in
          let n = by (other_kind (kind.CRefused r) kind.Usage x.kind a (λ y. cc)) (other_kind (kind.CRefused r) kind.Memory x.kind a (λ y. cc)) in
          let y = (made n.0 n.1).c_refused r a in
          record {
            calls = record { meaning = n.0; is_asked = n.1; input = y.0; file = x.named; bytes = y.1; limit = y.2; has_c = y.3 };
            refused = y.4;
            line = line (kind.CRefused r) h (λ y. cc) (λ y. y);
          }
          );
      if_c_refused = λ c r h. still (kind.CRefused r) end refl ((made c.meaning c.is_asked).if_c_refused c.bytes c.limit r (c_behind c.meaning (entries call.calls) c.input c.file c.bytes c.limit c.has_c) h);
      ran = λ of h. ran_of asked o e call.calls o' call.middle e' x status.kind call.goes of (run_answered x call.middle e' status.kind end h) later end h;
    }
  where
    other_kind : (l other k : Kind) → k ≡ l → l ≢ other → k ≢ other
    other_kind l other k is not e = not (sym is ∙ e)

    line_named : (k : Kind) (named source other text : List ℕ) (e e' : SinkView) → named ≡ other → source ≡ text → TakesLine (line_of k named source) e e' → TakesLine (line_of k other text) e e'
    line_named k named source other text e e' n s l = subst (λ z. TakesLine (line_of k other z) e e') s (subst (λ z. TakesLine (line_of k z source) e e') n l)

    ended_answer : (code : _) → call.outcome.texts ≡ [] → status.kind ≡ kind.Ended code → call.outcome.kind ≡ kind.Ended code
    ended_answer code none h = answered call.outcome call.middle e' status.kind (kind.Ended code) (told call.outcome call.middle e' status call.finishes) h (λ y. cc) (λ y. cc)
