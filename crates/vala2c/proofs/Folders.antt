-- What becomes of the files of a folder that tells them, call by call.
use Rattle.std.proofs.Common.{◌≡◌, ◌≢◌, ℕ, List, [], ◌∷◌, ◌++◌, Option, Some, None, Result, Ok, refl, sym, ◌∙◌, subst}
use Rattle.vg_base.specs.declared.outside.FolderFault.{FolderFault}
use Rattle.vg_base.specs.declared.outside.Call.{Call}
use Rattle.vg_base.specs.declared.outside.Call.TheVariants.{Read, Write}
use Rattle.vg_base.specs.Outside.{Files, FolderView, IsAnswer, IsRead, IsWrite, Writes, WritesTold}
use Rattle.command_line.specs.Names.{c_file}
use Rattle.command_line.specs.Meaning.{Meaning}
use Rattle.vala2c.specs.Course.{Chain, AllGiven, AreBytes, written, read_back, files_read}
use Rattle.vala2c.specs.Course as course
use Rattle.vala2c.specs.Causes.{Hold, HoldInput}
use Rattle.vala2c.proofs.Reading.{After, read_told, reads_told, chain_split, given_read}

-- 1. One call after another

-- a read in front of the other calls
pub first_read : (f g : FolderView) (name : List ℕ) (answer : Result (List ℕ) FolderFault) (calls : List Call) → Chain f (Read name answer ∷ calls) g → (mid : FolderView) × IsRead f name answer mid × Chain mid calls g
first_read f g name answer calls (course.read _ mid _ _ _ _ h rest) = (mid, h, rest)

pub first_write : (f g : FolderView) (name bytes : List ℕ) (answer : Result (Unit {0}) FolderFault) (calls : List Call) → Chain f (Write name bytes answer ∷ calls) g → (mid : FolderView) × IsWrite f name bytes answer mid × Chain mid calls g
first_write f g name bytes answer calls (course.write _ mid _ _ _ _ _ h rest) = (mid, h, rest)

pub no_call_more : (f g : FolderView) → Chain f [] g → f ≡ g
no_call_more f g (course.none _) = refl

write_after : (files : Files) (name bytes : List ℕ) (answer : Result (Unit {0}) FolderFault) (p : Option Files) → WritesTold (Some files) name bytes answer p → (after : Files) × (p ≡ Some after) × Writes files name bytes answer after
write_after files name bytes answer None h = absurd h
write_after files name bytes answer (Some after) h = (after, refl, h)

pub write_told : (f g : FolderView) (files : Files) (name bytes : List ℕ) (answer : Result (Unit {0}) FolderFault) → After f files → IsWrite f name bytes answer g → (after : Files) × After g after × Writes files name bytes answer after
write_told f g files name bytes answer is h = write_after files name bytes answer g.files (subst (λ p. WritesTold p name bytes answer g.files) is h.files)

pub read_alone : (f g : FolderView) (files : Files) (name : List ℕ) (answer : Result (List ℕ) FolderFault) → After f files → Chain f (Read name answer ∷ []) g → After g files × IsAnswer files name answer
read_alone f g files name answer is chain =
    let a = first_read f g name answer [] chain in
    let r = read_told f a.0 files name answer is a.1 in
    (subst (λ x. After x files) (no_call_more a.0 g a.2) r.0, r.1)

-- 2. What was given

-- the reads of all that was given in front of other calls
pub given_split : (f g : FolderView) (m : Meaning) (sources : List (List ℕ)) (input : List ℕ) (reads tail : List Call) → AllGiven m sources input reads → Chain f (reads ++ tail) g → (mid : FolderView) × Chain f reads mid × Chain mid tail g
given_split f g m sources input reads tail all chain = let r = given_read m sources input reads all in chain_split f g (files_read m) r.0 reads tail r.1 chain

-- the files are as they were, and hold what was given
pub record GivenTold (m : Meaning) (sources : List (List ℕ)) (input : List ℕ) (files : Files) (g : FolderView) : Type 0 where
  pub told : After g files
  pub holds : Hold files m.files sources
  pub is_input : HoldInput files m.input input
  pub bytes : AreBytes input

pub given_told : (f g : FolderView) (files : Files) (m : Meaning) (sources : List (List ℕ)) (input : List ℕ) (reads : List Call) → AllGiven m sources input reads → After f files → Chain f reads g → GivenTold m sources input files g
given_told f g files m sources _ reads (course.alone _ _ none all) is chain =
    let r = reads_told f g files m.files sources reads all is chain in
    record { told = r.0; holds = r.1; is_input = subst (λ o. HoldInput files o []) (sym none) refl; bytes = tt }
given_told f g files m sources input _ (course.with_input file _ _ calls named all bytes) is chain =
    let x = chain_split f g m.files sources calls (Read file (Ok input) ∷ []) all chain in
    let before = reads_told f x.0 files m.files sources calls all is x.1 in
    let last = read_alone x.0 g files file (Ok input) before.0 x.2 in
    record { told = last.0; holds = before.1; is_input = subst (λ o. HoldInput files o input) (sym named) last.1; bytes = bytes }

-- 3. What was written, and read back

-- no file but the C file changed
abbrev pub OnlyCFile : Meaning → Files → Files → Type 0
OnlyCFile m files after = (name : List ℕ) → name ≢ c_file m.name → after name ≡ files name

-- behind the reads and a write
pub record Wrote (g : FolderView) (files : Files) (m : Meaning) (sources : List (List ℕ)) (input c : List ℕ) (answer : Result (Unit {0}) FolderFault) : Type 0 where
  pub holds : Hold files m.files sources
  pub is_input : HoldInput files m.input input
  pub bytes : AreBytes input
  pub after : Files
  pub told : After g after
  pub writes : Writes files (c_file m.name) c answer after

pub wrote_told : (f g : FolderView) (files : Files) (m : Meaning) (sources : List (List ℕ)) (input c : List ℕ) (answer : Result (Unit {0}) FolderFault) (reads : List Call) → AllGiven m sources input reads → After f files → Chain f (written m reads c answer) g
    → Wrote g files m sources input c answer
wrote_told f g files m sources input c answer reads all is chain =
    let x = given_split f g m sources input reads _ all chain in
    let before = given_told f x.0 files m sources input reads all is x.1 in
    let b = first_write x.0 g (c_file m.name) c answer [] x.2 in
    let w = write_told x.0 b.0 files (c_file m.name) c answer before.told b.1 in
    record { holds = before.holds; is_input = before.is_input; bytes = before.bytes; after = w.0; told = subst (λ v. After v w.0) (no_call_more b.0 g b.2) w.1; writes = w.2 }

-- behind all calls
pub record WroteAndRead (g : FolderView) (files : Files) (m : Meaning) (sources : List (List ℕ)) (input c : List ℕ) (answer : Result (List ℕ) FolderFault) : Type 0 where
  pub holds : Hold files m.files sources
  pub is_input : HoldInput files m.input input
  pub bytes : AreBytes input
  pub after : Files
  pub told : After g after
  pub others : OnlyCFile m files after
  pub written : after (c_file m.name) ≡ Some c
  pub honest : IsAnswer after (c_file m.name) answer

pub back_told : (f g : FolderView) (files : Files) (m : Meaning) (sources : List (List ℕ)) (input c : List ℕ) (answer : Result (List ℕ) FolderFault) (reads : List Call) → AllGiven m sources input reads → After f files → Chain f (read_back m reads c answer) g
    → WroteAndRead g files m sources input c answer
back_told f g files m sources input c answer reads all is chain =
    let x = given_split f g m sources input reads _ all chain in
    let before = given_told f x.0 files m sources input reads all is x.1 in
    let b = first_write x.0 g (c_file m.name) c (Ok tt) _ x.2 in
    let w = write_told x.0 b.0 files (c_file m.name) c (Ok tt) before.told b.1 in
    let back = read_alone b.0 g w.0 (c_file m.name) answer w.1 b.2 in
    record { holds = before.holds; is_input = before.is_input; bytes = before.bytes; after = w.0; told = back.0; others = w.2.others; written = w.2.written refl; honest = back.1 }

some_bytes : (a b : List ℕ) → Some a ≡ Some b → a ≡ b
some_bytes a b e = cc

-- what was read back is what was written
pub one_content : (o : Option (List ℕ)) (b c : List ℕ) → o ≡ Some b → o ≡ Some c → b ≡ c
one_content o b c h k = some_bytes b c (sym h ∙ k)
