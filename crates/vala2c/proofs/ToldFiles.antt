-- The files of a folder that tells them.
use Rattle.std.proofs.Common.{◌≡◌, ◌≢◌, ℕ, zero, suc, true, List, [], ◌∷◌, ◌++◌, map, length, Option, Some, None, Result, Ok, Err, refl, sym, ap, ◌∙◌, subst, inl, inr, ◌⊎◌, arith, append-nil, pos}
use Rattle.std.specs.Prelude.{IsSome}
use Rattle.std.specs.List.{AllByRecursion, Contains}
use Rattle.std.proofs.lemmas.List.Elements.{All-from_recursion}
use Rattle.vg_base.specs.declared.outside.FolderFault.{FolderFault}
use Rattle.vg_base.specs.declared.outside.FolderFault.TheVariants as fault
use Rattle.vg_base.specs.declared.outside.Call.{Call}
use Rattle.vg_base.specs.declared.outside.Call.TheVariants.{Read, Write}
use Rattle.vg_base.specs.Outside.{Files, FolderView, SinkView, IsAnswer}
use Rattle.c_tree.specs.declared.kinds.Refusal.{Refusal as CRefusal}
use Rattle.c_tree.specs.declared.unit.Unit.{Unit as CUnit}
use Rattle.c_tree.specs.Answers.{Answers}
use Rattle.c_tree.specs.Laws.{OneAnswer}
use Rattle.static_rules.specs.declared.rules.Refusal.{Refusal}
use Rattle.vala_compile.specs.Program.{AreRead}
use Rattle.vala_compile.specs.Correct.{IsCompiled}
use Rattle.command_line.specs.declared.choice.Command.{Command}
use Rattle.command_line.specs.declared.choice.Command.TheVariants as command
use Rattle.command_line.specs.Names.{c_file}
use Rattle.command_line.specs.Meaning.{Meaning, writes}
use Rattle.vala2c.specs.declared.status.Kind.{Kind}
use Rattle.vala2c.specs.declared.status.Kind.TheVariants as kind
use Rattle.vala2c.specs.declared.status.Status.{Status}
use Rattle.vala2c.specs.Status.{unheard}
use Rattle.vala2c.specs.Course.{Chain, AllRead, AllGiven, IsBuilt, IsRefusal, IsPlanned, HasC, Goes, GoesBy, Outcome, IsCall, files_read, input_file, written, world_of}
use Rattle.vala2c.specs.Course as course
use Rattle.vala2c.specs.Causes.{IsOfRun, IsFileOf, IsCFile, WritesNothing, RefusedUnless, Hold, HoldInput, IsThere, HoldsC, IsHonest, FilesTold}
use Rattle.vala2c.proofs.Reading.{After, reads_told, chain_split, given_read, one_asked, none_asked, run_checks, run_emits, run_executes, check_emits, check_writes, exec_writes, emit_executes, is_file, entries, entries_behind, entries_same, one_holding, all_both}
use Rattle.vala2c.proofs.Rules.{one_refusal, never_accepted, never_built}
use Rattle.vala2c.proofs.Causes.{ran_so, not_of_run, told, Told, answered, plain_status, call_so, goes_planned, no_c_checked}
use Rattle.vala2c.proofs.Causes as causes
use Rattle.vala2c.proofs.ToldCalls.{run_answered, chain_told, entries_planned, asked_by}
use Rattle.vala2c.proofs.Folders.{no_call_more, read_alone, OnlyCFile, given_told, wrote_told, back_told, one_content}

-- 1. Reads up to a file

pub record Unread (files : Files) (g : FolderView) (front sources : List (List ℕ)) (file : List ℕ) (answer : Result (List ℕ) FolderFault) : Type 0 where
  pub told : After g files
  pub holds : Hold files front sources
  pub honest : IsAnswer files file answer

read_up_to : (f g : FolderView) (files : Files) (front sources : List (List ℕ)) (file : List ℕ) (answer : Result (List ℕ) FolderFault) (reads : List Call) → AllRead front sources reads → After f files → Chain f (reads ++ Read file answer ∷ []) g → Unread files g front sources file answer
read_up_to f g files front sources file answer reads all is chain =
    let x = chain_split f g front sources reads _ all chain in
    let before = reads_told f x.0 files front sources reads all is x.1 in
    let last = read_alone x.0 g files file answer before.0 x.2 in
    record { told = last.0; holds = before.1; honest = last.1 }

-- 2. What each call says of the files

first_held : (files : Files) (name source : List ℕ) (names sources : List (List ℕ)) → Hold files (name ∷ names) (source ∷ sources) → files name ≡ Some source
first_held files name source names sources h = cc

others_held : (files : Files) (name source : List ℕ) (names sources : List (List ℕ)) → Hold files (name ∷ names) (source ∷ sources) → Hold files names sources
others_held files name source names sources h = cc

honest_reads : (asked : Option Meaning) (files after : Files) (names sources : List (List ℕ)) (reads : List Call) → AllRead names sources reads → Hold files names sources → AllByRecursion (IsHonest asked files after) reads
honest_reads asked files after _ _ _ course.none h = tt
honest_reads asked files after _ _ _ (course.one name source names sources calls all) h =
    let there = first_held files name source names sources h in
    (((λ x. there), (λ x. inl there)), honest_reads asked files after names sources calls all (others_held files name source names sources h))

-- the entries are these reads and then these
honest_so : (asked : Option Meaning) (files after : Files) (names sources : List (List ℕ)) (reads tail : List Call) → AllRead names sources reads → Hold files names sources → AllByRecursion (IsHonest asked files after) (entries tail)
    → AllByRecursion (IsHonest asked files after) (entries (reads ++ tail))
honest_so asked files after names sources reads tail all h k =
    subst (AllByRecursion (IsHonest asked files after)) (sym (entries_behind names sources reads tail all)) (all_both (IsHonest asked files after) reads (entries tail) (honest_reads asked files after names sources reads all h) k)

honest_unread : (asked : Option Meaning) (files after : Files) (file : List ℕ) (x : FolderFault) → after ≡ files → AllByRecursion (IsHonest asked files after) (entries (Read file (Err x) ∷ []))
honest_unread asked files after file fault.Missing same = ((λ n. same), tt)
honest_unread asked files after file fault.Failed same = ((λ n. same), tt)
honest_unread asked files after file fault.Memory same = tt

honest_write : (asked : Option Meaning) (files after : Files) (target c : List ℕ) (a : Result (Unit {0}) FolderFault) → (a ≡ Ok tt → after target ≡ Some c) → AllByRecursion (IsHonest asked files after) (entries (Write target c a ∷ []))
honest_write asked files after target c (Ok x) there = (there refl, tt)
honest_write asked files after target c (Err fault.Missing) there = (tt, tt)
honest_write asked files after target c (Err fault.Failed) there = (tt, tt)
honest_write asked files after target c (Err fault.Memory) there = tt

-- the C file is read back
honest_back : (m : Meaning) (files after : Files) (c : List ℕ) (a : Result (List ℕ) FolderFault) → IsCFile (Some m) (c_file m.name) → after (c_file m.name) ≡ Some c → IsAnswer after (c_file m.name) a
    → AllByRecursion (IsHonest (Some m) files after) (entries (Write (c_file m.name) c (Ok tt) ∷ Read (c_file m.name) a ∷ []))
honest_back m files after c (Ok b) is there honest = (there, (((λ x. absurd (x is)), (λ x. inr honest)), tt))
honest_back m files after c (Err fault.Missing) is there honest = (there, ((λ x. absurd (x is)), tt))
honest_back m files after c (Err fault.Failed) is there honest = (there, ((λ x. absurd (x is)), tt))
honest_back m files after c (Err fault.Memory) is there honest = (there, tt)

-- What is left behind the calls of a plan.
pub record PlanSo (m : Meaning) (files : Files) (g : FolderView) (calls : List Call) : Type 0 where
  pub after : Files
  pub told : After g after
  pub others : (name : List ℕ) → (IsCFile (Some m) name → ⊥) → after name ≡ files name
  pub kept : (writes m.command ≡ true → ⊥) → after ≡ files
  pub honest : AllByRecursion (IsHonest (Some m) files after) (entries calls)

nothing_changed : (m : Meaning) (files : Files) (g : FolderView) (calls : List Call) → After g files → AllByRecursion (IsHonest (Some m) files files) (entries calls) → PlanSo m files g calls
nothing_changed m files g calls is h = record { after = files; told = is; others = λ name x. refl; kept = λ x. refl; honest = h }

c_file_changed : (m : Meaning) (files after : Files) (g : FolderView) (calls : List Call) → writes m.command ≡ true → After g after → OnlyCFile m files after → AllByRecursion (IsHonest (Some m) files after) (entries calls) → PlanSo m files g calls
c_file_changed m files after g calls w there others h =
    record { after = after; told = there; others = λ name x. others name (λ e. x (m, refl, w, e)); kept = λ x. absurd (x w); honest = h }

-- all that was given in front of other calls is held
front_held : (files : Files) (m : Meaning) (sources : List (List ℕ)) (input : List ℕ) (reads tail : List Call) (f g : FolderView) → AllGiven m sources input reads → After f files → Chain f (reads ++ tail) g → (contents : List (List ℕ)) × AllRead (files_read m) contents reads × Hold files (files_read m) contents
front_held files m sources input reads tail f g all is chain =
    let r = given_read m sources input reads all in
    let x = chain_split f g (files_read m) r.0 reads tail r.1 chain in
    let t = reads_told f x.0 files (files_read m) r.0 reads r.1 is x.1 in
    (r.0, r.1, t.1)

pub plan_so : (m : Meaning) (files : Files) (f g : FolderView) (calls : List Call) → After f files → Chain f calls g → IsPlanned m calls → PlanSo m files g calls
plan_so m files f g calls is chain (course.reads rs up) =
    let r = reads_told f g files up.front up.sources rs up.all_read is chain in
    let h = honest_reads (Some m) files files up.front up.sources rs up.all_read r.1 in
    nothing_changed m files g rs r.0 (subst (AllByRecursion (IsHonest (Some m) files files)) (sym (entries_same up.front up.sources rs up.all_read)) h)
plan_so m files f g calls is chain (course.unread file rs x up) =
    let r = read_up_to f g files up.front up.sources file (Err x) rs up.all_read is chain in
    nothing_changed m files g _ r.told (honest_so (Some m) files files up.front up.sources rs _ up.all_read r.holds (honest_unread (Some m) files files file x refl))
plan_so m files f g calls is chain (course.wrote i rs c a h) =
    let w = wrote_told f g files m h.sources i c a rs h.all_given is chain in
    let r = front_held files m h.sources i rs _ f g h.all_given is chain in
    c_file_changed m files w.after g _ h.writes w.told w.writes.others (honest_so (Some m) files w.after (files_read m) r.0 rs _ r.1 r.2 (honest_write (Some m) files w.after (c_file m.name) c a w.writes.written))
plan_so m files f g calls is chain (course.back i rs c a run h) =
    let w = back_told f g files m h.sources i c a rs h.all_given is chain in
    let r = front_held files m h.sources i rs _ f g h.all_given is chain in
    c_file_changed m files w.after g _ h.writes w.told w.others (honest_so (Some m) files w.after (files_read m) r.0 rs _ r.1 r.2 (honest_back m files w.after c a (m, refl, h.writes, refl) w.written w.honest))

-- 3. What is held

no_content : {A : Type 0} (o : Option (List ℕ)) (s : List ℕ) → o ≡ Some s → o ≡ None → A
no_content o s e h = absurd (differ o s e h)
  where
    differ : (o : Option (List ℕ)) (s : List ℕ) → o ≡ Some s → o ≡ None → ⊥
    differ o s e h = cc

-- what is the C of sources is not refused
pub never_refused : {A : Type 0} → OneAnswer → (m : Meaning) (sources : List (List ℕ)) (c bytes : List ℕ) (r : CRefusal) → IsCompiled sources m.strict_null c → bytes ≡ c → Answers bytes (length c) (Err r) → A
never_refused one m sources c bytes r h same a =
    absurd (differ h.unit r (one c (length c) (Ok h.unit) (Err r) h.is_unit (subst (λ b. Answers b (length c) (Err r)) same a)))
  where
    differ : (unit : CUnit) (r : CRefusal) → Ok unit ≡ Err r → ⊥
    differ unit r e = cc

-- a file that is held is there
held : (files : Files) (names sources : List (List ℕ)) (name : List ℕ) → Hold files names sources → Contains names name → (source : List ℕ) × (files name ≡ Some source)
held files [] sources name h x = absurd (omega (arith, x.1))
held files (n ∷ names) [] name h x = cc
held files (n ∷ names) (s ∷ sources) name h (zero, l, x) = (s, ap files (sym x) ∙ first_held files n s names sources h)
held files (n ∷ names) (s ∷ sources) name h (suc k, l, x) = held files names sources name (others_held files n s names sources h) (k, omega (arith, l), x)

hold_one : (files : Files) (names sources : List (List ℕ)) (file b : List ℕ) → Hold files names sources → files file ≡ Some b → Hold files (names ++ file ∷ []) (sources ++ b ∷ [])
hold_one files [] [] file b h is = ap (λ o. o ∷ []) is
hold_one files [] (s ∷ sources) file b h is = cc
hold_one files (n ∷ names) [] file b h is = cc
hold_one files (n ∷ names) (s ∷ sources) file b h is =
    ap (λ o. o ∷ map files (names ++ file ∷ [])) (first_held files n s names sources h) ∙ ap (λ l. Some s ∷ l) (hold_one files names sources file b (others_held files n s names sources h) is)

content_of : (o : Option (List ℕ)) → IsSome o → (b : List ℕ) × (o ≡ Some b)
content_of None h = cc
content_of (Some b) h = (b, refl)

hold_more : (files : Files) (names sources : List (List ℕ)) (o : Option (List ℕ)) → Hold files names sources → IsThere files o → (contents : List (List ℕ)) × Hold files (names ++ input_file o) contents
hold_more files names sources None h t = (sources, subst (λ l. Hold files l sources) (sym (append-nil names)) h)
hold_more files names sources (Some file) h t = let b = content_of (files file) t in (sources ++ b.0 ∷ [], hold_one files names sources file b.0 h b.1)

input_there : (files : Files) (o : Option (List ℕ)) (input : List ℕ) → HoldInput files o input → IsThere files o
input_there files None input h = tt
input_there files (Some file) input h = subst IsSome (sym h) refl

-- where a file that is read is missing, they are not all held
never_held : {A : Type 0} (m : Meaning) (sources : List (List ℕ)) (files : Files) (name : List ℕ) → IsFileOf (Some m) name → files name ≡ None → Hold files m.files sources → IsThere files m.input → A
never_held m sources files name of none h t =
    let all = hold_more files m.files sources m.input h t in
    let there = held files (files_read m) all.0 name all.1 (subst (λ z. Contains (files_read z) name) (one_asked (Some m) of.0 m of.1 refl) of.2) in
    no_content (files name) there.0 there.1 none

-- 4. A course over such a folder

-- the C file holds the C of the sources that the files hold
pub record HeldC (m : Meaning) (files after : Files) : Type 0 where
  pub sources : List (List ℕ)
  pub are_sources : Hold files m.files sources
  pub c : List ℕ
  pub compiled : IsCompiled sources m.strict_null c
  pub holds : after (c_file m.name) ≡ Some c

-- what a status says of the sources that the files hold
pub record FilesSo (m : Meaning) (files after : Files) (k : Kind) : Type 0 where
  pub same : WritesNothing k → after ≡ files
  pub written : m.command ≡ command.Run → IsOfRun k → HeldC m files after
  pub emitted : m.command ≡ command.Emit → (code : _) → k ≡ kind.Ended code → HeldC m files after
  pub never : m.command ≡ command.Run → (r : CRefusal) → k ≢ kind.CRefused r
  pub no_file : k ≡ kind.NoFile → (name : List ℕ) × IsFileOf (Some m) name × (files name ≡ None)
  pub if_missing : (name : List ℕ) → IsFileOf (Some m) name → files name ≡ None → (k ≡ kind.NoFile) ⊎ ((k ≡ kind.ReadFault) ⊎ (k ≡ kind.Memory))
  pub refused : (r : Refusal) → k ≡ kind.Refused r → (sources : List (List ℕ)) × Hold files m.files sources × IsRefusal m sources r
  pub if_broken : (sources : List (List ℕ)) (r : Refusal) → Hold files m.files sources → IsThere files m.input → IsRefusal m sources r → RefusedUnless r k
  pub accepted : (code : _) → m.command ≡ command.Check → k ≡ kind.Ended code → (sources : List (List ℕ)) × Hold files m.files sources × AreRead sources
  pub if_accepted : (sources : List (List ℕ)) → m.command ≡ command.Check → Hold files m.files sources → IsThere files m.input → AreRead sources → (k ≡ kind.Ended (pos 0)) ⊎ ((k ≡ kind.ReadFault) ⊎ (k ≡ kind.Memory))

missing_file : (m : Meaning) (files : Files) (file : List ℕ) → IsFileOf (Some m) file → files file ≡ None → FilesSo m files files kind.NoFile
missing_file m files file of none =
    record {
      same = λ h. refl;
      written = λ run h. absurd h;
      emitted = λ em code h. cc;
      never = λ run r h. cc;
      no_file = λ h. (file, of, none);
      if_missing = λ name is h. inl refl;
      refused = λ r h. cc;
      if_broken = λ ss r h t b. never_held m ss files file of none h t;
      accepted = λ code is h. cc;
      if_accepted = λ ss is h t a. never_held m ss files file of none h t;
    }

-- a read that failed: the status says nothing of the files
unread_files : (m : Meaning) (files after : Files) → FilesSo m files after kind.ReadFault
unread_files m files after =
    record {
      same = λ h. absurd h;
      written = λ run h. absurd h;
      emitted = λ em code h. cc;
      never = λ run r h. cc;
      no_file = λ h. cc;
      if_missing = λ name is h. inr (inl refl);
      refused = λ r h. cc;
      if_broken = λ ss r h t b. inr (inl refl);
      accepted = λ code is h. cc;
      if_accepted = λ ss is h t a. inr (inl refl);
    }

no_memory : (m : Meaning) (files after : Files) → FilesSo m files after kind.Memory
no_memory m files after =
    record {
      same = λ h. absurd h;
      written = λ run h. absurd h;
      emitted = λ em code h. cc;
      never = λ run r h. cc;
      no_file = λ h. cc;
      if_missing = λ name is h. inr (inr refl);
      refused = λ r h. cc;
      if_broken = λ ss r h t b. inr (inr refl);
      accepted = λ code is h. cc;
      if_accepted = λ ss is h t a. inr (inr refl);
    }

-- the files hold one list of sources
their_sources : (m : Meaning) (files : Files) (s t : List (List ℕ)) → Hold files m.files s → Hold files m.files t → t ≡ s
their_sources m files s t h k = one_holding files m.files t s k h

broken_files : (m : Meaning) (sources : List (List ℕ)) (files : Files) (r : Refusal) → Hold files m.files sources → IsThere files m.input → IsRefusal m sources r → FilesSo m files files (kind.Refused r)
broken_files m sources files r h t b =
    record {
      same = λ x. refl;
      written = λ run x. absurd x;
      emitted = λ em code x. cc;
      never = λ run q x. cc;
      no_file = λ x. cc;
      if_missing = λ name of none. never_held m sources files name of none h t;
      refused = λ q x. (let e : r ≡ q = same_rule r q x in (sources, h, subst (IsRefusal m sources) e b));
      if_broken = λ ss q k t2 b2. (let e = their_sources m files sources ss h k in inl (ap kind.Refused (one_refusal m sources r q b (subst (λ l. IsRefusal m l q) e b2))));
      accepted = λ code is x. cc;
      if_accepted = λ ss is k t2 a. (let e = their_sources m files sources ss h k in never_accepted m sources r is (subst AreRead e a) b);
    }
  where
    same_rule : (r q : Refusal) → kind.Refused r ≡ kind.Refused q → r ≡ q
    same_rule r q e = cc

accepted_files : (m : Meaning) (sources : List (List ℕ)) (files : Files) → m.command ≡ command.Check → Hold files m.files sources → IsThere files m.input → AreRead sources → FilesSo m files files (kind.Ended (pos 0))
accepted_files m sources files is h t a =
    record {
      same = λ x. absurd x;
      written = λ run x. run_checks m.command run is;
      emitted = λ em code x. check_emits m.command is em;
      never = λ run q x. cc;
      no_file = λ x. cc;
      if_missing = λ name of none. never_held m sources files name of none h t;
      refused = λ q x. cc;
      if_broken = λ ss q k t2 b2. (let e = their_sources m files sources ss h k in never_accepted m sources q is a (subst (λ l. IsRefusal m l q) e b2));
      accepted = λ code is2 x. (sources, h, a);
      if_accepted = λ ss is2 k t2 b. inl refl;
    }

-- the sources were compiled
built_files : (m : Meaning) (input : List ℕ) (reads : List Call) (c : List ℕ) (files after : Files) (k : Kind) → (b : IsBuilt m input reads c) → Hold files m.files b.sources → IsThere files m.input → (WritesNothing k → ⊥) → (m.command ≡ command.Run → IsOfRun k → after (c_file m.name) ≡ Some c)
    → (m.command ≡ command.Emit → (code : _) → k ≡ kind.Ended code → after (c_file m.name) ≡ Some c) → ((r : CRefusal) → k ≢ kind.CRefused r) → k ≢ kind.NoFile → ((r : Refusal) → k ≢ kind.Refused r) → FilesSo m files after k
built_files m input reads c files after k b h t some there emits never not_missing not_refused =
    record {
      same = λ x. absurd (some x);
      written = λ run x. record { sources = b.sources; are_sources = h; c = c; compiled = b.compiled; holds = there run x };
      emitted = λ em code x. record { sources = b.sources; are_sources = h; c = c; compiled = b.compiled; holds = emits em code x };
      never = λ run. never;
      no_file = λ x. absurd (not_missing x);
      if_missing = λ name of none. never_held m b.sources files name of none h t;
      refused = λ r x. absurd (not_refused r x);
      if_broken = λ ss q l t2 b2. (let e = their_sources m files b.sources ss h l in never_built m b.sources c q b.writes b.compiled (subst (λ l. IsRefusal m l q) e b2));
      accepted = λ code is x. check_writes m.command is b.writes;
      if_accepted = λ ss is x t2 a. check_writes m.command is b.writes;
    }

-- what `exec` reads is all held, and its status tells nothing more of the files
exec_files : (m : Meaning) (sources : List (List ℕ)) (files after : Files) (k : Kind) → m.command ≡ command.Exec → Hold files m.files sources → IsThere files m.input → (WritesNothing k → ⊥) → k ≢ kind.NoFile → ((r : Refusal) → k ≢ kind.Refused r) → FilesSo m files after k
exec_files m sources files after k exec h t some not_missing not_refused =
    record {
      same = λ x. absurd (some x);
      written = λ run x. run_executes m.command run exec;
      emitted = λ em code x. emit_executes m.command em exec;
      never = λ run. run_executes m.command run exec;
      no_file = λ x. absurd (not_missing x);
      if_missing = λ name of none. never_held m sources files name of none h t;
      refused = λ r x. absurd (not_refused r x);
      if_broken = λ ss q l t2 b. absurd (no_rule q ss b);
      accepted = λ code is x. absurd (no_check is);
      if_accepted = λ ss is x t2 a. absurd (no_check is);
    }
  where
    no_check : m.command ≡ command.Check → ⊥
    no_check is = (let e : command.Check ≡ command.Exec = sym is ∙ exec in cc)

    no_rule : (q : Refusal) (ss : List (List ℕ)) → IsRefusal m ss q → ⊥
    no_rule q ss (course.compiled rest w b) = exec_writes m.command exec w
    no_rule q ss (course.checked is b) = no_check is

run_writes : {A : Type 0} (k : Kind) → IsOfRun k ⊎ (k ≡ kind.Memory) → WritesNothing k → A
run_writes kind.Usage (inl a) x = absurd a
run_writes kind.NoFile (inl a) x = absurd a
run_writes (kind.Refused q) (inl a) x = absurd a
run_writes k (inr m) x = absurd (subst WritesNothing m x)
run_writes k (inl a) x = absurd x

-- the files behind calls are one function
same_after : (o : Option Files) (a b : Files) → o ≡ Some a → o ≡ Some b → b ≡ a
same_after o a b e h = cc

-- C is refused or runs: what was written holds the C, and is never refused
c_refused_files : OneAnswer → (m : Meaning) (files after : Files) (f g : FolderView) (calls : List Call) (input file b : List ℕ) (limit : ℕ) (r : CRefusal) → After f files → Chain f calls g → HasC m calls input file b limit → Answers b limit (Err r) → FilesSo m files after (kind.CRefused r)
c_refused_files one m files after f g _ input _ b _ r is chain (course.back rs _ c _ run h) a =
    let w = back_told f g files m h.sources input c (Ok b) rs h.all_given is chain in
    never_refused one m h.sources c b r h.compiled (one_content (w.after (c_file m.name)) b c w.honest w.written) a
c_refused_files one m files after f g calls input file b _ r is chain (course.given _ _ _ _ exec alone all) a =
    let t = given_told f g files m (b ∷ []) input calls all is chain in
    exec_files m (b ∷ []) files after (kind.CRefused r) exec t.holds (input_there files m.input input t.is_input) (λ x. x) (λ x. cc) (λ q x. cc)

ran_files : (m : Meaning) (files after : Files) (f g : FolderView) (calls : List Call) (input file b : List ℕ) (limit : ℕ) (k : Kind) → IsOfRun k ⊎ (k ≡ kind.Memory) → After f files → After g after → Chain f calls g → HasC m calls input file b limit → FilesSo m files after k
ran_files m files after f g _ input _ b _ k of is there chain (course.back rs _ c _ run h) =
    let w = back_told f g files m h.sources input c (Ok b) rs h.all_given is chain in
    let same = same_after g.files w.after after w.told there in
    let holds = ap (λ (fs : Files). fs (c_file m.name)) same ∙ w.written in
    built_files m input rs c files after k h w.holds (input_there files m.input input w.is_input) (λ x. run_writes k of x) (λ q x. holds) (λ em code x. run_emits m.command run em) (λ q. not_of_run k (kind.CRefused q) of (λ y. y) (λ y. cc))
    (not_of_run k kind.NoFile of (λ y. y) (λ y. cc)) (λ q. not_of_run k (kind.Refused q) of (λ y. y) (λ y. cc))
ran_files m files after f g calls input file b _ k of is there chain (course.given _ _ _ _ exec alone all) =
    let t = given_told f g files m (b ∷ []) input calls all is chain in
    exec_files m (b ∷ []) files after k exec t.holds (input_there files m.input input t.is_input) (λ x. run_writes k of x) (not_of_run k kind.NoFile of (λ y. y) (λ y. cc)) (λ q. not_of_run k (kind.Refused q) of (λ y. y) (λ y. cc))

pub goes_files : OneAnswer → (m : Meaning) (files after : Files) (f g : FolderView) (o e : SinkView) (calls : List Call) (o' e' : SinkView) (x : Outcome) → After f files → After g after → Chain f calls g → Goes m o e calls o' e' x → FilesSo m files after x.kind
goes_files one m files after f g o e calls o' e' _ is there chain (course.no_file file rs up) =
    let r = read_up_to f g files up.front up.sources file (Err fault.Missing) rs up.all_read is chain in
    subst (λ a. FilesSo m files a kind.NoFile) (sym (same_after g.files files after r.told there)) (missing_file m files file (is_file (Some m) m up.front file up.behind refl up.files_are) r.honest)
goes_files one m files after f g o e calls o' e' _ is there chain (course.unread file rs up) = unread_files m files after
goes_files one m files after f g o e calls o' e' _ is there chain (course.refused ss i rs r all b) =
    let t = given_told f g files m ss i rs all is chain in
    subst (λ a. FilesSo m files a (kind.Refused r)) (sym (same_after g.files files after t.told there)) (broken_files m ss files r t.holds (input_there files m.input i t.is_input) b)
goes_files one m files after f g o e calls o' e' _ is there chain (course.accepted ss i rs c all a) =
    let t = given_told f g files m ss i rs all is chain in
    subst (λ a. FilesSo m files a (kind.Ended (pos 0))) (sym (same_after g.files files after t.told there)) (accepted_files m ss files c t.holds (input_there files m.input i t.is_input) a)
goes_files one m files after f g o e calls o' e' _ is there chain (course.unwritten i rs c h) =
    let w = wrote_told f g files m h.sources i c (Err fault.Failed) rs h.all_given is chain in
    built_files m i rs c files after kind.WriteFault h w.holds (input_there files m.input i w.is_input) (λ x. x) (λ run x. absurd x) (λ em code x. cc) (λ r x. cc) (λ x. cc) (λ r x. cc)
goes_files one m files after f g o e calls o' e' _ is there chain (course.emitted i rs c em h) =
    let w = wrote_told f g files m h.sources i c (Ok tt) rs h.all_given is chain in
    let same = same_after g.files w.after after w.told there in
    let holds = ap (λ (fs : Files). fs (c_file m.name)) same ∙ w.writes.written refl in
    built_files m i rs c files after (kind.Ended (pos 0)) h w.holds (input_there files m.input i w.is_input) (λ x. x) (λ run x. run_emits m.command run em) (λ em2 code x. holds) (λ r x. cc) (λ x. cc) (λ r x. cc)
goes_files one m files after f g o e calls o' e' _ is there chain (course.gone i rs c run h) =
    let w = back_told f g files m h.sources i c (Err fault.Missing) rs h.all_given is chain in no_content (w.after (c_file m.name)) c w.written w.honest
goes_files one m files after f g o e calls o' e' _ is there chain (course.unread_back i rs c run h) = unread_files m files after
goes_files one m files after f g o e calls o' e' _ is there chain (course.c_refused cs i f2 b l r h a) = c_refused_files one m files after f g calls i f2 b l r is chain h a
goes_files one m files after f g o e calls o' e' _ is there chain (course.ran cs i f2 b l unit p q k texts muted h a r) =
    ran_files m files after f g calls i f2 b l k (ran_so m unit (world_of m i) o o' e e' k texts muted r).is_of_run is there chain h
goes_files one m files after f g o e calls o' e' _ is there chain (course.memory cs p) = no_memory m files after

-- 5. The clause

-- what is left behind a call on any words
pub record CallLeft (asked : Option Meaning) (files : Files) (g : FolderView) (calls : List Call) (k : Kind) : Type 0 where
  pub after : Files
  pub told : After g after
  pub others : (name : List ℕ) → (IsCFile asked name → ⊥) → after name ≡ files name
  pub kept : (m : Meaning) → asked ≡ Some m → (writes m.command ≡ true → ⊥) → after ≡ files
  pub honest : AllByRecursion (IsHonest asked files after) (entries calls)
  pub so : (m : Meaning) → asked ≡ Some m → FilesSo m files after k
  pub same : WritesNothing k → after ≡ files

call_left : OneAnswer → (asked : Option Meaning) (files : Files) (f g : FolderView) (o e : SinkView) (calls : List Call) (o' e' : SinkView) (x : Outcome) → After f files → Chain f calls g → GoesBy o e asked calls o' e' x → CallLeft asked files g calls x.kind
call_left one _ files f g o e _ _ _ _ is chain course.usage =
    record { after = files; told = subst (λ x. After x files) (no_call_more f g chain) is; others = λ name x. refl; kept = λ m x y. refl; honest = tt; so = λ m x. none_asked None m refl x; same = λ x. refl }
call_left one asked files f g o e _ _ _ _ is chain (course.no_memory _) =
    record { after = files; told = subst (λ x. After x files) (no_call_more f g chain) is; others = λ name x. refl; kept = λ m x y. refl; honest = tt; so = λ m x. no_memory m files files; same = λ x. refl }
call_left one _ files f g o e calls o' e' x is chain (course.asked m _ _ _ _ goes) =
    let plan = plan_so m files f g calls is chain (goes_planned m o e calls o' e' x goes) in
    let s = goes_files one m files plan.after f g o e calls o' e' x is plan.told chain goes in
    record {
      after = plan.after;
      told = plan.told;
      others = plan.others;
      kept = λ n y z. plan.kept (subst (λ v. (writes v.command ≡ true → ⊥)) (one_asked (Some m) n m y refl) z);
      honest = plan.honest;
      so = λ n y. subst (λ v. FilesSo v files plan.after x.kind) (one_asked (Some m) m n refl y) s;
      same = s.same;
    }

-- what a status of another answer than these leaves open
unless_memory : (x : Outcome) (e e' : SinkView) (k l : Kind) → Told x e e' k → unheard l ≡ l → (x.kind ≡ l) ⊎ ((x.kind ≡ kind.ReadFault) ⊎ (x.kind ≡ kind.Memory)) → (k ≡ l) ⊎ ((k ≡ kind.ReadFault) ⊎ (k ≡ kind.Memory))
unless_memory x e e' _ l (causes.line m t) un h = h
unless_memory x e e' _ l (causes.mute m) un h = h
unless_memory x e e' _ l (causes.rose n lt r) un (inl is) = inl (ap unheard is ∙ un)
unless_memory x e e' _ l (causes.rose n lt r) un (inr (inl is)) = inr (inl (ap unheard is))
unless_memory x e e' _ l (causes.rose n lt r) un (inr (inr is)) = inr (inr (ap unheard is))
unless_memory x e e' _ l causes.no_memory un h = inr (inr refl)

plain_unless : (x : Outcome) (k l : Kind) → (k ≡ x.kind) ⊎ (k ≡ kind.Memory) → (x.kind ≡ l) ⊎ ((x.kind ≡ kind.ReadFault) ⊎ (x.kind ≡ kind.Memory)) → (k ≡ l) ⊎ ((k ≡ kind.ReadFault) ⊎ (k ≡ kind.Memory))
plain_unless x k l (inl a) (inl b) = inl (a ∙ b)
plain_unless x k l (inl a) (inr (inl b)) = inr (inl (a ∙ b))
plain_unless x k l (inl a) (inr (inr b)) = inr (inr (a ∙ b))
plain_unless x k l (inr a) b = inr (inr a)

nothing_heard : (k : Kind) → WritesNothing (unheard k) → WritesNothing k
nothing_heard (kind.Ended code) h = absurd h
nothing_heard kind.Usage h = h
nothing_heard kind.NoFile h = h
nothing_heard kind.ReadFault h = h
nothing_heard kind.WriteFault h = h
nothing_heard kind.OutFault h = h
nothing_heard (kind.Refused r) h = h
nothing_heard (kind.CRefused r) h = h
nothing_heard kind.StepsSpent h = h
nothing_heard kind.Waiting h = h
nothing_heard (kind.Trapped t) h = h
nothing_heard kind.Dead h = h
nothing_heard (kind.Undefined d) h = h
nothing_heard kind.Memory h = h

nothing_answered : (x : Outcome) (e e' : SinkView) (k : Kind) → Told x e e' k → WritesNothing k → WritesNothing x.kind
nothing_answered x e e' _ (causes.line m t) h = h
nothing_answered x e e' _ (causes.mute m) h = h
nothing_answered x e e' _ (causes.rose n lt r) h = nothing_heard x.kind h
nothing_answered x e e' _ causes.no_memory h = absurd h

check_kept : (c : Command) → c ≡ command.Check → writes c ≡ true → ⊥
check_kept c is w = check_writes c is w

exec_kept : (c : Command) → c ≡ command.Exec → writes c ≡ true → ⊥
exec_kept c is w = exec_writes c is w

holds_c : (asked : Option Meaning) (m : Meaning) (files after : Files) → asked ≡ Some m → HeldC m files after → HoldsC asked files after
holds_c asked m files after is h = record { meaning = m; is_asked = is; sources = h.sources; are_sources = h.are_sources; c = h.c; compiled = h.compiled; holds = h.holds }

pub told_files : OneAnswer → (asked : Option Meaning) (f f' : FolderView) (o o' e e' : SinkView) (status : Status) → IsCall asked f f' o o' e e' status → FilesTold asked f f' status
told_files one asked f f' o o' e e' status call =
    λ files is.
    let x = call.outcome in
    let so = call_so asked o e call.calls o' call.middle x call.goes in
    let left = call_left one asked files f f' o e call.calls o' call.middle x is call.chain call.goes in
    let end = told x call.middle e' status call.finishes in
    let was = answered x call.middle e' status.kind in
    let unless = unless_memory x call.middle e' status.kind in
    let by = asked_by asked o e call.calls o' call.middle x call.goes in
    let ended = λ (code : _) (h : status.kind ≡ kind.Ended code). was (kind.Ended code) end h (λ y. cc) (λ y. cc) in
    record {
      after = left.after;
      told = left.told;
      added = entries call.calls;
      told_calls = chain_told f call.calls f' call.chain;
      honest = All-from_recursion (IsHonest asked files left.after) (entries call.calls) left.honest;
      planned = λ m y. entries_planned m call.calls (so.planned m y);
      others = left.others;
      same = λ h. left.same (nothing_answered x call.middle e' status.kind end h);
      checked = λ of. left.kept of.0 of.1 (check_kept of.0.command of.2);
      executed = λ of. left.kept of.0 of.1 (exec_kept of.0.command of.2);
      written = λ of h. holds_c asked of.0 files left.after of.1 ((left.so of.0 of.1).written of.2 (run_answered x call.middle e' status.kind end h));
      emitted = λ of code h. holds_c asked of.0 files left.after of.1 ((left.so of.0 of.1).emitted of.2 code (ended code h));
      never_c_refused = λ of r h. (left.so of.0 of.1).never of.2 r (was (kind.CRefused r) end h (λ y. cc) (λ y. cc));
      no_file = λ h. (
          let a = was kind.NoFile end h (λ y. cc) (λ y. cc) in
          let n = by (other_kind kind.NoFile kind.Usage x.kind a (λ y. cc)) (other_kind kind.NoFile kind.Memory x.kind a (λ y. cc)) in
          let y = (left.so n.0 n.1).no_file a in
          (y.0, subst (λ z. IsFileOf z y.0) (sym n.1) y.1, y.2)
          );
      if_missing = λ name of none. unless kind.NoFile end refl ((left.so of.0 of.1).if_missing name (of.0, refl, of.2) none);
      refused = λ r h. (
          let a = was (kind.Refused r) end h (λ y. cc) (λ y. cc) in
          let n = by (other_kind (kind.Refused r) kind.Usage x.kind a (λ y. cc)) (other_kind (kind.Refused r) kind.Memory x.kind a (λ y. cc)) in
          let y = (left.so n.0 n.1).refused r a in
          (n.0, y.0, n.1, y.1, y.2)
          );
      if_broken = λ m ss r y h t b. unless (kind.Refused r) end refl ((left.so m y).if_broken ss r h t b);
      accepted = λ m code y c h. (left.so m y).accepted code c (ended code h);
      if_accepted = λ m ss y c h t a. plain_unless x status.kind (kind.Ended (pos 0)) (plain_status x call.middle e' status.kind end (so.on_words.plain (no_c_checked asked (m, y, c)))) ((left.so m y).if_accepted ss c h t a);
    }
  where
    other_kind : (l other k : Kind) → k ≡ l → l ≢ other → k ≢ other
    other_kind l other k is not e = not (sym is ∙ e)
