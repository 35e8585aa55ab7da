-- From the stages of a command to how its call goes.
use Rattle.std.proofs.Common.{◌≡◌, ◌≢◌, ℕ, ◌≤◌, Bool, true, false, List, [], ◌∷◌, ◌++◌, length, get_or, Option, Some, None, Result, Ok, Err, refl, sym, ap, ◌∙◌, subst, append-nil, pos, arith}
use Rattle.std.proofs.lemmas.List.{append_assoc}
use Rattle.vg_base.specs.declared.outside.FolderFault.{FolderFault}
use Rattle.vg_base.specs.declared.outside.FolderFault.TheVariants as fault
use Rattle.vg_base.specs.declared.outside.Call.{Call}
use Rattle.vg_base.specs.declared.outside.Call.TheVariants.{Read, Write}
use Rattle.vg_base.specs.Outside.{FolderView, SinkView, IsRead, IsWrite}
use Rattle.vg_base.specs.World.{World}
use Rattle.static_rules.specs.declared.rules.Refusal.{Refusal}
use Rattle.command_line.specs.declared.choice.Command.{Command}
use Rattle.command_line.specs.declared.choice.Command.TheVariants as command
use Rattle.command_line.specs.Laws.{IsInBounds}
use Rattle.command_line.specs.Meaning.{Meaning, most_files, writes}
use Rattle.command_line.specs.Names.{c_file}
use Rattle.vala2c.specs.declared.status.Kind.{Kind}
use Rattle.vala2c.specs.declared.status.Kind.TheVariants as kind
use Rattle.vala2c.specs.declared.status.Status.{Status}
use Rattle.vala2c.specs.Status.{line_of}
use Rattle.vala2c.specs.Course.{AllGiven, AllRead, CallBy, Chain, Finishes, FrontRead, Goes, GoesBy, HasC, IsBuilt, IsPlanned, IsRefusal, Outcome, Speaks}
use Rattle.vala2c.specs.Course.{files_read, input_file, most_bytes, read_back, says, says_broken, says_run, world_of, written}
use Rattle.vala2c.specs.Course as course
use Rattle.vala2c.specs.Stages.{Back, BackCalls, Executes, GivenRead, ReadStopped, Stage, Stops, Written, read_kind, write_kind}
use Rattle.vala2c.specs.Stages as stage
use Rattle.vala2c.proofs.Reading.{chain_on, one_more}

-- 1. The end of a call

-- a message line that does not change with the file that it may name
speaks_renamed : (k spoken : Kind) (file other line : List ℕ) → line_of k file [] ≡ line_of k other [] → Speaks (says k file) line spoken → Speaks (says k other) line spoken
speaks_renamed k _ file other _ e (course.answer u) = subst (λ l. Speaks (says k other) l k) (sym e) (course.answer refl)
speaks_renamed k _ file other _ e (course.no_memory named source u) = course.no_memory named source refl
speaks_renamed k _ file other _ e (course.nothing u) = course.nothing u

pub renamed : (k : Kind) (file other : List ℕ) (e e' : SinkView) (status : Status) → line_of k file [] ≡ line_of k other [] → Finishes (says k file) e e' status → Finishes (says k other) e e' status
renamed k file other e e' status same h = record { line = h.line; spoken = h.spoken; speaks = speaks_renamed k h.spoken file other h.line same h.speaks; closes = h.closes; code = h.code }

-- What a stage came to, with the message line that names this file, is what the call comes to.
pub record Reaches (m : Meaning) (o e : SinkView) (calls : List Call) (o' e' : SinkView) (k : Kind) (texts : List ℕ) (muted : Bool) (file : List ℕ) : Type 0 where
  pub outcome : Outcome
  pub goes : Goes m o e calls o' e' outcome
  pub finish : (e'' : SinkView) (status : Status) → Finishes (says_run k texts muted file) e' e'' status → Finishes outcome e' e'' status

reached : (m : Meaning) (o e : SinkView) (calls : List Call) (o' e' : SinkView) (k : Kind) (texts : List ℕ) (muted : Bool) (file : List ℕ) → Goes m o e calls o' e' (says_run k texts muted file) → Reaches m o e calls o' e' k texts muted file
reached m o e calls o' e' k texts muted file goes = record { outcome = says_run k texts muted file; goes = goes; finish = λ e'' status h. h }

without_memory : (m : Meaning) (o e : SinkView) (calls : List Call) (file : List ℕ) → IsPlanned m calls → Reaches m o e calls o e kind.Memory [] false file
without_memory m o e calls file plan = record { outcome = says kind.Memory []; goes = course.memory calls plan; finish = λ e'' status h. renamed kind.Memory file [] e e'' status refl h }

-- 2. The reads

-- all that was read is a front of what is read
pub given_front : (m : Meaning) (sources : List (List ℕ)) (input : List ℕ) (calls : List Call) → AllGiven m sources input calls → FrontRead (files_read m) calls
given_front m sources _ calls (course.alone _ _ is all) = record { front = m.files; behind = input_file m.input; files_are = refl; sources = sources; all_read = all }
given_front m sources input _ (course.with_input file _ _ calls is all bytes) =
    record {
      front = m.files ++ file ∷ [];
      behind = [];
      files_are = ap (λ o. m.files ++ input_file o) is ∙ sym (append-nil (m.files ++ file ∷ []));
      sources = sources ++ input ∷ [];
      all_read = one_more m.files sources calls file input all;
    }

stopped_reaches : (m : Meaning) (o e : SinkView) (calls : List Call) (k : Kind) (file : List ℕ) → Stops (files_read m) calls k file → Reaches m o e calls o e k [] false file
stopped_reaches m o e _ _ file (stage.unread _ reads fault.Missing up) = reached m o e _ o e kind.NoFile [] false file (course.no_file file reads up)
stopped_reaches m o e _ _ file (stage.unread _ reads fault.Failed up) = reached m o e _ o e kind.ReadFault [] false file (course.unread file reads up)
stopped_reaches m o e _ _ file (stage.unread _ reads fault.Memory up) = without_memory m o e _ file (course.unread file reads fault.Memory up)
stopped_reaches m o e calls _ _ (stage.no_memory _ front) = without_memory m o e calls [] (course.reads calls front)

-- a call that stopped at the reads
pub stopped_call : (m : Meaning) (o e e' : SinkView) (f g : FolderView) (k : Kind) (file : List ℕ) (status : Status) → ReadStopped (files_read m) k file f g → Finishes (says k file) e e' status → CallBy (Goes m o e) f g o e' status
stopped_call m o e e' f g k file status h finish =
    let r = stopped_reaches m o e h.calls k file h.stops in
    record { calls = h.calls; chain = h.chain; middle = e; outcome = r.outcome; goes = r.goes; finishes = r.finish e' status finish }

-- a call that read all and did no more
pub read_call : (m : Meaning) (sources : List (List ℕ)) (input : List ℕ) (o e e' : SinkView) (f g : FolderView) (x : Outcome) (status : Status) → (h : GivenRead m sources input f g) → Goes m o e h.calls o e x → Finishes x e e' status → CallBy (Goes m o e) f g o e' status
read_call m sources input o e e' f g x status h goes finish = record { calls = h.calls; chain = h.chain; middle = e; outcome = x; goes = goes; finishes = finish }

-- where a rule is broken
pub refused_call : (m : Meaning) (sources shown : List (List ℕ)) (input : List ℕ) (o e e' : SinkView) (f g : FolderView) (r s : Refusal) (status : Status) → GivenRead m sources input f g → IsRefusal m sources r → shown ≡ sources → s ≡ r
    → Finishes (says_broken s m.files shown) e e' status → CallBy (Goes m o e) f g o e' status
refused_call m sources shown input o e e' f g r s status h b es er finish =
    let to_sources = subst (λ l. Finishes (says_broken s m.files l) e e' status) es finish in
    let to : Finishes (says_broken r m.files sources) e e' status = subst (λ x. Finishes (says_broken x m.files sources) e e' status) er to_sources in
    read_call m sources input o e e' f g (says_broken r m.files sources) status h (course.refused sources input h.calls r h.all_given b) to

-- where memory ran out behind the reads
pub no_memory_call : (m : Meaning) (sources : List (List ℕ)) (input named : List ℕ) (o e e' : SinkView) (f g : FolderView) (status : Status) → GivenRead m sources input f g → Finishes (says kind.Memory named) e e' status → CallBy (Goes m o e) f g o e' status
no_memory_call m sources input named o e e' f g status h finish =
    read_call m sources input o e e' f g (says kind.Memory []) status h (course.memory h.calls (course.reads h.calls (given_front m sources input h.calls h.all_given))) (renamed kind.Memory named [] e e' status refl finish)

-- a check that ends
pub accepted_call : (m : Meaning) (sources : List (List ℕ)) (input named : List ℕ) (o e e' : SinkView) (f g : FolderView) (status : Status) → (h : GivenRead m sources input f g) → Goes m o e h.calls o e (says (kind.Ended (pos 0)) []) → Finishes (says (kind.Ended (pos 0)) named) e e' status
    → CallBy (Goes m o e) f g o e' status
accepted_call m sources input named o e e' f g status h goes finish = read_call m sources input o e e' f g (says (kind.Ended (pos 0)) []) status h goes (renamed (kind.Ended (pos 0)) named [] e e' status refl finish)

-- 3. The C

executes : (m : Meaning) (calls : List Call) (input file bytes : List ℕ) (limit : ℕ) (o e o' e' : SinkView) (k : Kind) (texts : List ℕ) (muted : Bool) → HasC m calls input file bytes limit → IsPlanned m calls → Executes m bytes limit (world_of m input) o e o' e' k texts muted
    → Reaches m o e calls o' e' k texts muted file
executes m calls input file bytes limit o e _ _ _ _ _ has plan stage.no_memory = without_memory m o e calls file plan
executes m calls input file bytes limit o e _ _ _ _ _ has plan (stage.c_refused r a) = reached m o e calls o e (kind.CRefused r) [] false file (course.c_refused calls input file bytes limit r has a)
executes m calls input file bytes limit o e o' e' k texts muted has plan (stage.ran unit _ _ _ _ _ a r) = reached m o e calls o' e' k texts muted file (course.ran calls input file bytes limit unit o' e' k texts muted has a r)

back_reaches : (m : Meaning) (input : List ℕ) (reads : List Call) (c : List ℕ) (o e : SinkView) → m.command ≡ command.Run → IsBuilt m input reads c → (answer : Result (List ℕ) FolderFault) (o' e' : SinkView) (k : Kind) (texts : List ℕ) (muted : Bool)
    → Back m (length c) (world_of m input) o e answer o' e' k texts muted → Reaches m o e (read_back m reads c answer) o' e' k texts muted (c_file m.name)
back_reaches m input reads c o e is h _ _ _ _ _ _ (stage.unread fault.Missing) = reached m o e _ o e kind.NoFile [] false (c_file m.name) (course.gone input reads c is h)
back_reaches m input reads c o e is h _ _ _ _ _ _ (stage.unread fault.Failed) = reached m o e _ o e kind.ReadFault [] false (c_file m.name) (course.unread_back input reads c is h)
back_reaches m input reads c o e is h _ _ _ _ _ _ (stage.unread fault.Memory) = without_memory m o e _ (c_file m.name) (course.back input reads c (Err fault.Memory) is h)
back_reaches m input reads c o e is h _ o' e' k texts muted (stage.executes bytes _ _ _ _ _ r) =
    executes m (read_back m reads c (Ok bytes)) input (c_file m.name) bytes (length c) o e o' e' k texts muted (course.back reads input c bytes is h) (course.back input reads c (Ok bytes) is h) r

calls_reach : (m : Meaning) (input : List ℕ) (reads : List Call) (c : List ℕ) (o e : SinkView) → m.command ≡ command.Run → IsBuilt m input reads c → (calls : List Call) (o' e' : SinkView) (k : Kind) (texts : List ℕ) (muted : Bool)
    → BackCalls m (c_file m.name) (length c) (world_of m input) o e calls o' e' k texts muted → Reaches m o e (reads ++ Write (c_file m.name) c (Ok tt) ∷ calls) o' e' k texts muted (c_file m.name)
calls_reach m input reads c o e is h _ o' e' k texts muted (stage.reads_back answer _ _ _ _ _ b) = back_reaches m input reads c o e is h answer o' e' k texts muted b

written_reaches : (m : Meaning) (input : List ℕ) (reads : List Call) (c : List ℕ) (o e : SinkView) → IsBuilt m input reads c → (calls : List Call) (o' e' : SinkView) (k : Kind) (texts : List ℕ) (muted : Bool) → Written m (c_file m.name) c (world_of m input) o e calls o' e' k texts muted
    → Reaches m o e (reads ++ calls) o' e' k texts muted (c_file m.name)
written_reaches m input reads c o e h _ _ _ _ _ _ (stage.unwritten fault.Missing not) = absurd (not refl)
written_reaches m input reads c o e h _ _ _ _ _ _ (stage.unwritten fault.Failed not) = reached m o e _ o e kind.WriteFault [] false (c_file m.name) (course.unwritten input reads c h)
written_reaches m input reads c o e h _ _ _ _ _ _ (stage.unwritten fault.Memory not) = without_memory m o e _ (c_file m.name) (course.wrote input reads c (Err fault.Memory) h)
written_reaches m input reads c o e h _ _ _ _ _ _ (stage.emitted is) =
    record { outcome = says (kind.Ended (pos 0)) []; goes = course.emitted input reads c is h; finish = λ e'' status f. renamed (kind.Ended (pos 0)) (c_file m.name) [] e e'' status refl f }
written_reaches m input reads c o e h _ o' e' k texts muted (stage.back calls _ _ _ _ _ is b) = calls_reach m input reads c o e is h calls o' e' k texts muted b

-- a call that went on behind the reads
goes_on : (m : Meaning) (o e o' mid e' : SinkView) (f between g : FolderView) (reads calls : List Call) (k : Kind) (texts : List ℕ) (muted : Bool) (file : List ℕ) (status : Status) → Chain f reads between → Chain between calls g
    → Reaches m o e (reads ++ calls) o' mid k texts muted file → Finishes (says_run k texts muted file) mid e' status → CallBy (Goes m o e) f g o' e' status
goes_on m o e o' mid e' f between g reads calls k texts muted file status first later r finish =
    record { calls = reads ++ calls; chain = chain_on f between g reads calls first later; middle = mid; outcome = r.outcome; goes = r.goes; finishes = r.finish e' status finish }

-- the file is the C file of the program
pub delivered : (m : Meaning) (input : List ℕ) (target c : List ℕ) (o e o' mid e' : SinkView) (f between g : FolderView) (reads : List Call) (k : Kind) (texts : List ℕ) (muted : Bool) (status : Status) → target ≡ c_file m.name → IsBuilt m input reads c → Chain f reads between
    → Stage (Written m target c (world_of m input) o e) between g o' mid k texts muted → Finishes (says_run k texts muted target) mid e' status → CallBy (Goes m o e) f g o' e' status
delivered m input target c o e o' mid e' f between g reads k texts muted status et h first s finish =
    let w : Written m (c_file m.name) c (world_of m input) o e s.calls o' mid k texts muted = subst (λ t. Written m t c (world_of m input) o e s.calls o' mid k texts muted) et s.goes in
    goes_on m o e o' mid e' f between g reads s.calls k texts muted (c_file m.name) status first s.chain (written_reaches m input reads c o e h s.calls o' mid k texts muted w) (subst (λ t. Finishes (says_run k texts muted t) mid e' status) et finish)

-- memory ran out for the name of the file
pub undelivered : (m : Meaning) (input c named : List ℕ) (o e e' : SinkView) (f g : FolderView) (reads : List Call) (status : Status) → IsBuilt m input reads c → Chain f reads g → Finishes (says kind.Memory named) e e' status → CallBy (Goes m o e) f g o e' status
undelivered m input c named o e e' f g reads status h chain finish =
    record {
      calls = reads;
      chain = chain;
      middle = e;
      outcome = says kind.Memory [];
      goes = course.memory reads (course.reads reads (given_front m h.sources input reads h.all_given));
      finishes = renamed kind.Memory named [] e e' status refl finish;
    }

-- 4. `exec`

one_file : (m : Meaning) → m.command ≡ command.Exec → IsInBounds m → length m.files ≡ 1
one_file m is b =
    let few : length m.files ≤ 1 = subst (λ c. length m.files ≤ most_files c) is b.few in
    let some = b.some in
    omega (arith, few, some)

alike : (files sources : List (List ℕ)) (calls : List Call) → AllRead files sources calls → length sources ≡ length files
alike _ _ _ course.none = refl
alike _ _ _ (course.one file source files sources calls h) = let more = alike files sources calls h in omega (arith, more)

given_alike : (m : Meaning) (sources : List (List ℕ)) (input : List ℕ) (calls : List Call) → AllGiven m sources input calls → length sources ≡ length m.files
given_alike m sources _ calls (course.alone _ _ is all) = alike m.files sources calls all
given_alike m sources _ _ (course.with_input file _ _ calls is all bytes) = alike m.files sources calls all

only_one : (xs : List (List ℕ)) → length xs ≡ 1 → xs ≡ get_or xs 0 [] ∷ []
only_one [] h = absurd (omega (arith, h))
only_one (x ∷ []) h = refl
only_one (x ∷ y ∷ xs) h = absurd (omega (arith, h))

pub executed : (m : Meaning) (sources : List (List ℕ)) (input file bytes : List ℕ) (limit : ℕ) (o e o' mid e' : SinkView) (f g : FolderView) (k : Kind) (texts : List ℕ) (muted : Bool) (status : Status) → m.command ≡ command.Exec → IsInBounds m → limit ≡ most_bytes
    → file ≡ get_or m.files 0 [] → bytes ≡ get_or sources 0 [] → GivenRead m sources input f g → Executes m bytes limit (world_of m input) o e o' mid k texts muted → Finishes (says_run k texts muted file) mid e' status → CallBy (Goes m o e) f g o' e' status
executed m sources input file bytes limit o e o' mid e' f g k texts muted status is b el ef eb h x finish =
    let one = one_file m is b in
    let files : m.files ≡ file ∷ [] = only_one m.files one ∙ ap (λ l. l ∷ []) (sym ef) in
    let whole : sources ≡ bytes ∷ [] = only_one sources (given_alike m sources input h.calls h.all_given ∙ one) ∙ ap (λ l. l ∷ []) (sym eb) in
    let given : AllGiven m (bytes ∷ []) input h.calls = subst (λ s. AllGiven m s input h.calls) whole h.all_given in
    let has : HasC m h.calls input file bytes limit = subst (HasC m h.calls input file bytes) (sym el) (course.given h.calls input file bytes is files given) in
    let plan : IsPlanned m h.calls = course.reads h.calls (given_front m sources input h.calls h.all_given) in
    let r = executes m h.calls input file bytes limit o e o' mid k texts muted has plan x in
    record { calls = h.calls; chain = h.chain; middle = mid; outcome = r.outcome; goes = r.goes; finishes = r.finish e' status finish }

-- 5. The words

pub asked_call : (m : Meaning) (words : Option Meaning) (f f' : FolderView) (o o' e e' : SinkView) (status : Status) → words ≡ Some m → CallBy (Goes m o e) f f' o' e' status → CallBy (GoesBy o e words) f f' o' e' status
asked_call m words f f' o o' e e' status is call =
    subst (λ w. CallBy (GoesBy o e w) f f' o' e' status) (sym is)
    (record { calls = call.calls; chain = call.chain; middle = call.middle; outcome = call.outcome; goes = course.asked m call.calls o' call.middle call.outcome call.goes; finishes = call.finishes })

pub usage_call : (words : Option Meaning) (named : List ℕ) (f : FolderView) (o e e' : SinkView) (status : Status) → words ≡ None → Finishes (says kind.Usage named) e e' status → CallBy (GoesBy o e words) f f o e' status
usage_call words named f o e e' status is finish =
    subst (λ w. CallBy (GoesBy o e w) f f o e' status) (sym is)
    (record { calls = []; chain = course.none f; middle = e; outcome = says kind.Usage []; goes = course.usage; finishes = renamed kind.Usage named [] e e' status refl finish })

pub unread_call : (words : Option Meaning) (named : List ℕ) (f : FolderView) (o e e' : SinkView) (status : Status) → Finishes (says kind.Memory named) e e' status → CallBy (GoesBy o e words) f f o e' status
unread_call words named f o e e' status finish =
    record { calls = []; chain = course.none f; middle = e; outcome = says kind.Memory []; goes = course.no_memory words; finishes = renamed kind.Memory named [] e e' status refl finish }

-- a fault of the write
pub write_fails : (m : Meaning) (target c : List ℕ) (w : World) (o e : SinkView) (f g : FolderView) (x : FolderFault) → IsWrite f target c (Err x) g → Stage (Written m target c w o e) f g o e (write_kind x) [] false
write_fails m target c w o e f g x h =
    record {
      calls = Write target c (Err x) ∷ [];
      chain = course.write f g g target c (Err x) [] h (course.none g);
      goes = stage.unwritten x (λ q. h.never_missing (ap Err q));
    }

pub writes_back : (m : Meaning) (target c : List ℕ) (w : World) (o e o' e' : SinkView) (f mid g : FolderView) (k : Kind) (texts : List ℕ) (muted : Bool) → m.command ≡ command.Run → IsWrite f target c (Ok tt) mid
    → Stage (BackCalls m target (length c) w o e) mid g o' e' k texts muted → Stage (Written m target c w o e) f g o' e' k texts muted
writes_back m target c w o e o' e' f mid g k texts muted is h s =
    record {
      calls = Write target c (Ok tt) ∷ s.calls;
      chain = course.write f mid g target c (Ok tt) s.calls h s.chain;
      goes = stage.back s.calls o' e' k texts muted is s.goes;
    }

pub emits : (m : Meaning) (target c : List ℕ) (w : World) (o e : SinkView) (f g : FolderView) → m.command ≡ command.Emit → IsWrite f target c (Ok tt) g → Stage (Written m target c w o e) f g o e (kind.Ended (pos 0)) [] false
emits m target c w o e f g is h =
    record {
      calls = Write target c (Ok tt) ∷ [];
      chain = course.write f g g target c (Ok tt) [] h (course.none g);
      goes = stage.emitted is;
    }

-- a command that writes and does not run is `emit`
pub no_other : (c : Command) → writes c ≡ true → c ≢ command.Run → c ≡ command.Emit
no_other command.Check h not = cc
no_other command.Emit h not = refl
no_other command.Run h not = absurd (not refl)
no_other command.Exec h not = cc

pub reads_back : (m : Meaning) (target : List ℕ) (limit : ℕ) (w : World) (o e o' e' : SinkView) (f g : FolderView) (answer : Result (List ℕ) FolderFault) (k : Kind) (texts : List ℕ) (muted : Bool) → IsRead f target answer g → Back m limit w o e answer o' e' k texts muted
    → Stage (BackCalls m target limit w o e) f g o' e' k texts muted
reads_back m target limit w o e o' e' f g answer k texts muted h b =
    record { calls = Read target answer ∷ []; chain = course.read f g g target answer [] h (course.none g); goes = stage.reads_back answer o' e' k texts muted b }
