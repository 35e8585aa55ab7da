-- What it says that files were read in order: of the calls, of what leaves an entry, and of the files.
use Rattle.std.proofs.Common.{◌≡◌, ℕ, true, List, [], ◌∷◌, ◌++◌, map, Option, Some, None, Result, Ok, Err, refl, sym, ap, subst, ◌∙◌, append-nil, arith}
use Rattle.std.specs.Prelude.{IfSome}
use Rattle.std.specs.List.{last_or, AllByRecursion, Contains}
use Rattle.std.proofs.lemmas.List.Elements.{Contains-append_right}
use Rattle.vg_base.specs.declared.outside.FolderFault.{FolderFault}
use Rattle.vg_base.specs.declared.outside.Call.{Call}
use Rattle.vg_base.specs.declared.outside.Call.TheVariants.{Read, Write}
use Rattle.vg_base.specs.Outside.{Files, FolderView, IsAnswer, IsRead, entry_of_read, entry_of_write}
use Rattle.command_line.specs.declared.choice.Command.{Command}
use Rattle.command_line.specs.declared.choice.Command.TheVariants as command
use Rattle.command_line.specs.Meaning.{Meaning, writes}
use Rattle.vala2c.specs.Course.{Chain, AllRead, AllGiven, FrontRead, files_read, input_file}
use Rattle.vala2c.specs.Course as course
use Rattle.vala2c.specs.Causes.{Hold, IsFileOf}

-- 1. What the words ask for

-- words ask for one thing
pub one_asked : (asked : Option Meaning) (a b : Meaning) → asked ≡ Some a → asked ≡ Some b → a ≡ b
one_asked asked a b h k = some_same a b (sym h ∙ k)
  where
    some_same : (a b : Meaning) → Some a ≡ Some b → a ≡ b
    some_same a b e = cc

-- words that ask for nothing ask for no thing
pub none_asked : {A : Type 0} (asked : Option Meaning) (m : Meaning) → asked ≡ None → asked ≡ Some m → A
none_asked asked m h k = absurd (differ m (sym h ∙ k))
  where
    differ : (m : Meaning) → None ≡ Some m → ⊥
    differ m e = cc

-- a command is one, and one that checks or is given its C does not write
pub run_checks : {A : Type 0} (c : Command) → c ≡ command.Run → c ≡ command.Check → A
run_checks c h k = absurd (differ (sym h ∙ k))
  where
    differ : command.Run ≡ command.Check → ⊥
    differ e = cc

pub run_emits : {A : Type 0} (c : Command) → c ≡ command.Run → c ≡ command.Emit → A
run_emits c h k = absurd (differ (sym h ∙ k))
  where
    differ : command.Run ≡ command.Emit → ⊥
    differ e = cc

pub run_executes : {A : Type 0} (c : Command) → c ≡ command.Run → c ≡ command.Exec → A
run_executes c h k = absurd (differ (sym h ∙ k))
  where
    differ : command.Run ≡ command.Exec → ⊥
    differ e = cc

pub check_emits : {A : Type 0} (c : Command) → c ≡ command.Check → c ≡ command.Emit → A
check_emits c h k = absurd (differ (sym h ∙ k))
  where
    differ : command.Check ≡ command.Emit → ⊥
    differ e = cc

pub check_executes : {A : Type 0} (c : Command) → c ≡ command.Check → c ≡ command.Exec → A
check_executes c h k = absurd (differ (sym h ∙ k))
  where
    differ : command.Check ≡ command.Exec → ⊥
    differ e = cc

pub emit_executes : {A : Type 0} (c : Command) → c ≡ command.Emit → c ≡ command.Exec → A
emit_executes c h k = absurd (differ (sym h ∙ k))
  where
    differ : command.Emit ≡ command.Exec → ⊥
    differ e = cc

pub check_writes : {A : Type 0} (c : Command) → c ≡ command.Check → writes c ≡ true → A
check_writes c h k = absurd (differ (sym (ap writes h) ∙ k))
  where
    differ : writes command.Check ≡ true → ⊥
    differ e = cc

pub exec_writes : {A : Type 0} (c : Command) → c ≡ command.Exec → writes c ≡ true → A
exec_writes c h k = absurd (differ (sym (ap writes h) ∙ k))
  where
    differ : writes command.Exec ≡ true → ⊥
    differ e = cc

-- a file in front of which others stand is one of those that are read
pub is_file : (asked : Option Meaning) (m : Meaning) (front : List (List ℕ)) (file : List ℕ) (behind : List (List ℕ)) → asked ≡ Some m → files_read m ≡ front ++ file ∷ behind → IsFileOf asked file
is_file asked m front file behind is e =
    (m, is, subst (λ fs. Contains fs file) (sym e) (Contains-append_right front (file ∷ behind) file (0, omega arith, refl)))

-- 2. The calls

-- calls one after another
pub chain_on : (f mid g : FolderView) (calls more : List Call) → Chain f calls mid → Chain mid more g → Chain f (calls ++ more) g
chain_on f mid g _ more (course.none _) c = c
chain_on f mid g _ more (course.read _ next _ name answer calls h rest) c = course.read f next g name answer (calls ++ more) h (chain_on next mid g calls more rest c)
chain_on f mid g _ more (course.write _ next _ name bytes answer calls h rest) c = course.write f next g name bytes answer (calls ++ more) h (chain_on next mid g calls more rest c)

-- the reads in front of other calls
pub chain_split : (f g : FolderView) (files sources : List (List ℕ)) (reads tail : List Call) → AllRead files sources reads → Chain f (reads ++ tail) g → (mid : FolderView) × Chain f reads mid × Chain mid tail g
chain_split f g _ _ _ tail course.none chain = (f, course.none f, chain)
chain_split f g _ _ _ tail (course.one file source files sources calls h) (course.read _ next _ _ _ _ r rest) =
    let x = chain_split next g files sources calls tail h rest in
    (x.0, course.read f next x.0 file (Ok source) calls r x.1, x.2)

-- one file more was read
pub one_more : (files sources : List (List ℕ)) (reads : List Call) (file source : List ℕ) → AllRead files sources reads → AllRead (files ++ file ∷ []) (sources ++ source ∷ []) (reads ++ Read file (Ok source) ∷ [])
one_more _ _ _ file source course.none = course.one file source [] [] [] course.none
one_more _ _ _ file source (course.one f s files sources calls h) = course.one f s (files ++ file ∷ []) (sources ++ source ∷ []) (calls ++ Read file (Ok source) ∷ []) (one_more files sources calls file source h)

-- the sources and the input that were given: the reads of the sources stand in front
pub given_front : (m : Meaning) (sources : List (List ℕ)) (input : List ℕ) (reads : List Call) → AllGiven m sources input reads → (front : List Call) × (tail : List Call) × AllRead m.files sources front × (reads ≡ front ++ tail)
given_front m sources _ reads (course.alone _ _ none all) = (reads, [], all, sym (append-nil reads))
given_front m sources _ _ (course.with_input file _ input calls is all bytes) = (calls, Read file (Ok input) ∷ [], all, refl)

-- all files that are read were read
pub given_read : (m : Meaning) (sources : List (List ℕ)) (input : List ℕ) (reads : List Call) → AllGiven m sources input reads → (contents : List (List ℕ)) × AllRead (files_read m) contents reads
given_read m sources _ reads (course.alone _ _ none all) = (sources, subst (λ o. AllRead (m.files ++ input_file o) sources reads) (sym none) (subst (λ fs. AllRead fs sources reads) (sym (append-nil m.files)) all))
given_read m sources _ _ (course.with_input file _ input calls is all bytes) =
    (sources ++ input ∷ [], subst (λ o. AllRead (m.files ++ input_file o) (sources ++ input ∷ []) (calls ++ Read file (Ok input) ∷ [])) (sym is) (one_more m.files sources calls file input all))

-- they are a front of the plan
pub given_whole : (m : Meaning) (sources : List (List ℕ)) (input : List ℕ) (reads : List Call) → AllGiven m sources input reads → FrontRead (files_read m) reads
given_whole m sources input reads all =
    let read = given_read m sources input reads all in
    record { front = files_read m; behind = []; files_are = sym (append-nil (files_read m)); sources = read.0; all_read = read.1 }

-- the calls that leave an entry
abbrev pub entries : List Call → List Call
entries [] = []
entries (Read name answer ∷ calls) = entry_of_read name answer ++ entries calls
entries (Write name bytes answer ∷ calls) = entry_of_write name bytes answer ++ entries calls

pub entries_behind : (files sources : List (List ℕ)) (reads tail : List Call) → AllRead files sources reads → entries (reads ++ tail) ≡ reads ++ entries tail
entries_behind _ _ _ tail course.none = refl
entries_behind _ _ _ tail (course.one file source files sources calls h) = ap (λ l. Read file (Ok source) ∷ l) (entries_behind files sources calls tail h)

pub entries_same : (files sources : List (List ℕ)) (reads : List Call) → AllRead files sources reads → entries reads ≡ reads
entries_same _ _ _ course.none = refl
entries_same _ _ _ (course.one file source files sources calls h) = ap (λ l. Read file (Ok source) ∷ l) (entries_same files sources calls h)

-- the last of calls is that of those behind
pub last_behind : (o : Option Call) (calls : List Call) (x : Call) (xs : List Call) → last_or o (calls ++ x ∷ xs) ≡ last_or (Some x) xs
last_behind o [] x xs = refl
last_behind o (c ∷ calls) x xs = last_behind (Some c) calls x xs

-- no call at all, or one that was a read and answered Ok
abbrev pub IsFine : Option Call → Type 0
IsFine None = Unit {0}
IsFine (Some (Read name (Ok bytes))) = Unit {0}
IsFine o = ⊥

pub last_read : (o : Option Call) (files sources : List (List ℕ)) (reads : List Call) → IsFine o → AllRead files sources reads → IsFine (last_or o reads)
last_read o _ _ _ fine course.none = fine
last_read o _ _ _ fine (course.one file source files sources calls h) = last_read (Some (Read file (Ok source))) files sources calls tt h

-- 3. The sources

next_calls : (f : List ℕ) (s t : List ℕ) (a b : List Call) → Read f (Ok s) ∷ a ≡ Read f (Ok t) ∷ b → (s ≡ t) × (a ≡ b)
next_calls f s t a b e = (cc, cc)

-- what was read in front of other calls is one list
pub one_read : (files s t : List (List ℕ)) (a b more others : List Call) → AllRead files s a → AllRead files t b → a ++ more ≡ b ++ others → s ≡ t
one_read _ _ _ _ _ more others course.none course.none e = refl
one_read _ _ _ _ _ more others (course.one file x files s a h) (course.one _ y _ t b k) e =
    let n = next_calls file x y (a ++ more) (b ++ others) e in
    ap (λ z. z ∷ s) n.0 ∙ ap (λ zs. y ∷ zs) (one_read files s t a b more others h k n.1)

-- where a file was not read, not all were
pub not_all : {A : Type 0} (front s t : List (List ℕ)) (file : List ℕ) (behind : List (List ℕ)) (x : FolderFault) (a b more others : List Call) → AllRead front s a → AllRead (front ++ file ∷ behind) t b → a ++ Read file (Err x) ∷ more ≡ b ++ others → A
not_all _ _ _ file behind x _ _ more others course.none (course.one _ y _ t b k) e = absurd (differ file x y more (b ++ others) e)
  where
    differ : (file : List ℕ) (x : FolderFault) (y : List ℕ) (more others : List Call) → Read file (Err x) ∷ more ≡ Read file (Ok y) ∷ others → ⊥
    differ file x y more others e = cc
not_all _ _ _ file behind x _ _ more others (course.one f u front s a h) (course.one _ y _ t b k) e =
    not_all front s t file behind x a b more others h k (next_calls f u y (a ++ Read file (Err x) ∷ more) (b ++ others) e).1

some_lists : (s t : List (List ℕ)) → map Some s ≡ map Some t → s ≡ t
some_lists [] [] e = refl
some_lists [] (y ∷ t) e = cc
some_lists (x ∷ s) [] e = cc
some_lists (x ∷ s) (y ∷ t) e =
    let h : x ≡ y = cc in
    let l : map Some s ≡ map Some t = cc in
    ap (λ z. z ∷ s) h ∙ ap (λ zs. y ∷ zs) (some_lists s t l)

-- the files of names hold one list of sources
pub one_holding : (files : Files) (names s t : List (List ℕ)) → Hold files names s → Hold files names t → s ≡ t
one_holding files names s t h k = some_lists s t (sym h ∙ k)

-- 4. The files of a folder

-- what the files are behind calls
abbrev pub After : FolderView → Files → Type 0
After f files = f.files ≡ Some files

answer_told : (o : Option Files) (files : Files) (name : List ℕ) (answer : Result (List ℕ) FolderFault) → o ≡ Some files → IfSome o (λ files. IsAnswer files name answer) → IsAnswer files name answer
answer_told o files name answer is h = subst (λ p. IfSome p (λ files. IsAnswer files name answer)) is h

pub read_told : (f g : FolderView) (files : Files) (name : List ℕ) (answer : Result (List ℕ) FolderFault) → After f files → IsRead f name answer g → After g files × IsAnswer files name answer
read_told f g files name answer is h = (h.files ∙ is, answer_told f.files files name answer is h.honest)

-- files that were read are as they were, and hold the sources
pub reads_told : (f g : FolderView) (files : Files) (names sources : List (List ℕ)) (reads : List Call) → AllRead names sources reads → After f files → Chain f reads g → After g files × Hold files names sources
reads_told f g files _ _ _ course.none is (course.none _) = (is, refl)
reads_told f g files _ _ _ (course.one name source names sources calls h) is (course.read _ mid _ _ _ _ r rest) =
    let first = read_told f mid files name (Ok source) is r in
    let later = reads_told mid g files names sources calls h first.0 rest in
    (later.0, ap (λ o. o ∷ map files names) first.1 ∙ ap (λ l. Some source ∷ l) later.1)

-- 5. What holds of each of a list

pub all_front : {X : Type 0} (P : X → Type 0) (xs ys : List X) → AllByRecursion P (xs ++ ys) → AllByRecursion P xs
all_front P [] ys h = tt
all_front P (x ∷ xs) ys h = (h.0, all_front P xs ys h.1)

pub all_both : {X : Type 0} (P : X → Type 0) (xs ys : List X) → AllByRecursion P xs → AllByRecursion P ys → AllByRecursion P (xs ++ ys)
all_both P [] ys h k = k
all_both P (x ∷ xs) ys h k = (h.0, all_both P xs ys h.1 k)

pub all_so : {X : Type 0} (P Q : X → Type 0) (xs : List X) → ((x : X) → P x → Q x) → AllByRecursion P xs → AllByRecursion Q xs
all_so P Q [] so h = tt
all_so P Q (x ∷ xs) so h = (so x h.0, all_so P Q xs so h.1)
