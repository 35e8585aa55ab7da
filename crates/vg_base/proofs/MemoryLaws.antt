-- What folders in memory keep, and that their calls are calls on a folder.
use Rattle.std.proofs.Common.{◌≡◌, ◌≢◌, ℕ, ◌<◌, ◌≤◌, Bool, true, false, cond, List, [], ◌∷◌, ◌++◌, length, get_or, set, Option, Some, None, Result, Ok, Err, option_map, find, bytes_eq, position, refl, sym, ap, ◌∙◌, arith, slice_get, ltb, append-nil}
use Rattle.std.proofs.lemmas.List.Folds.{find_at, find-set, find_past, find-append}
use Rattle.std.proofs.lemmas.List.Quantifiers.{position-Some}
use Rattle.std.proofs.lemmas.Slice.Eq.{bytes_eq-Decides}
use Rattle.std.proofs.lemmas.Option.{slice_get-get_or, slice_get_past}
use Rattle.std.specs.List.{position_or_len}
use Rattle.std.specs.Option.{option_or}
use Rattle.std.proofs.lemmas.Bool.Decides.{nat_tests}
use Rattle.vg_base.specs.declared.mem_folder.File.{File}
use Rattle.vg_base.specs.declared.outside.FolderFault.{FolderFault}
use Rattle.vg_base.specs.declared.outside.FolderFault.TheVariants as fault
use Rattle.vg_base.specs.declared.outside.Call.TheVariants.{Read, Write}
use Rattle.vg_base.specs.Outside.{Writes, FolderView, IsRead, IsWrite}
use Rattle.vg_base.specs.Memory.{bytes_of, StoreState, MemFolderState, StoreReads, fail_call, tell_store, tell_folder}

-- the test by which a file is looked up
abbrev pub has_name : List ℕ → File → Bool
has_name name file = bytes_eq file.name name

-- what the test in `position` says of an index, and of none
pub index_of_test : (n m i : ℕ) → cond (ltb n m) (Some n) None ≡ Some i → (i ≡ n) × (i < m)
index_of_test n m i e = grind (arith, nat_tests)

pub past_of_test : (n m : ℕ) → cond (ltb n m) (Some n) None ≡ None → m ≤ n
past_of_test n m e = grind (arith, nat_tests)

-- an index that `position` gives is the first that passes; where it gives none, no element passes
pub position_index : {X : Type 0} (p : X → Bool) (xs : List X) (i : ℕ) → position p xs ≡ Some i → (i ≡ position_or_len p xs) × (i < length xs)
position_index p xs i e = index_of_test (position_or_len p xs) (length xs) i e

pub position_past : {X : Type 0} (p : X → Bool) (xs : List X) → position p xs ≡ None → length xs ≤ position_or_len p xs
position_past p xs e = past_of_test (position_or_len p xs) (length xs) e

-- `find` gives the element at that index, or nothing
pub find_none : {X : Type 0} (p : X → Bool) (xs : List X) → position p xs ≡ None → find p xs ≡ None
find_none p xs e = find_at p xs ∙ slice_get_past xs (position_or_len p xs) (position_past p xs e)

pub find_some : {X : Type 0} (p : X → Bool) (xs : List X) (i : ℕ) (d : X) → position p xs ≡ Some i → find p xs ≡ Some (get_or xs i d)
find_some p xs i d e =
    let k = position_index p xs i e in
    find_at p xs ∙ ap (slice_get xs) (sym k.0) ∙ slice_get-get_or xs i d k.1

-- another name is told apart, and a name is itself
pub is_other : (a b : List ℕ) → (b ≢ a) → bytes_eq a b ≡ false
is_other a b h = grind (arith, bytes_eq-Decides)

pub is_own : (a : List ℕ) → bytes_eq a a ≡ true
is_own a = (bytes_eq-Decides a a).1 refl

-- what a look-up by name gives
pub bytes_at : (files : List File) (name : List ℕ) (i : ℕ) (d : File) → position (has_name name) files ≡ Some i → bytes_of files name ≡ Some (get_or files i d).bytes
bytes_at files name i d e = ap (option_map (λ file. file.bytes)) (find_some (has_name name) files i d e)

pub bytes_missing : (files : List File) (name : List ℕ) → position (has_name name) files ≡ None → bytes_of files name ≡ None
bytes_missing files name e = ap (option_map (λ file. file.bytes)) (find_none (has_name name) files e)

-- a file written at the first place of its name changes no other name
pub other_at : (files : List File) (file : File) (i : ℕ) (other : List ℕ) → position (has_name file.name) files ≡ Some i → (other ≢ file.name) → find (has_name other) (set files i file) ≡ find (has_name other) files
other_at files file i other e h =
    let k = position-Some (has_name file.name) files i file e in
    let same : (get_or files i file).name ≡ file.name = (bytes_eq-Decides (get_or files i file).name file.name).0 k.1 in
    let differs = is_other file.name other h in
    find_past (has_name other) files i file file (ap (λ name. bytes_eq name other) same ∙ differs) differs

pub writes_at : (files : List File) (file : File) (i : ℕ) → position (has_name file.name) files ≡ Some i → Writes (bytes_of files) file.name file.bytes (Ok tt) (bytes_of (set files i file))
writes_at files file i e =
    let k = position_index (has_name file.name) files i e in
    record {
      others = λ other h. ap (option_map (λ file. file.bytes)) (other_at files file i other e h);
      written = λ _. ap (option_map (λ file. file.bytes)) (find-set (has_name file.name) files i file k.0 k.1 (is_own file.name));
    }

-- a file added at the end changes no other name, and is found where its name was not there
pub option_or_none : {X : Type 0} (o : Option X) → option_or o None ≡ o
option_or_none None = refl
option_or_none (Some x) = refl

pub other_end : (files : List File) (file : File) (other : List ℕ) → (other ≢ file.name) → find (has_name other) (files ++ file ∷ []) ≡ find (has_name other) files
other_end files file other h =
    let e = is_other file.name other h in
    find-append (has_name other) files (file ∷ []) ∙ rw e (option_or_none (find (has_name other) files))

pub own_end : (files : List File) (file : File) → find (has_name file.name) files ≡ None → find (has_name file.name) (files ++ file ∷ []) ≡ Some file
own_end files file e =
    let own = is_own file.name in
    find-append (has_name file.name) files (file ∷ []) ∙ rw (e, own) refl

pub writes_end : (files : List File) (file : File) → position (has_name file.name) files ≡ None → Writes (bytes_of files) file.name file.bytes (Ok tt) (bytes_of (files ++ file ∷ []))
writes_end files file e =
    record {
      others = λ other h. ap (option_map (λ file. file.bytes)) (other_end files file other h);
      written = λ _. ap (option_map (λ file. file.bytes)) (own_end files file (find_none (has_name file.name) files e));
    }

-- what a folder of this store with so many faults tells
abbrev pub tells : StoreState → ℕ → FolderView
tells store faults = record (tell_store store) { faults = faults }

-- a read of a store is one read of a folder, of which no call fails
pub store_read : (n : ℕ) (old new : StoreState) (name : List ℕ) (answer : Result (List ℕ) FolderFault) → old.misses ≤ new.misses → StoreReads old name answer new → IsRead (tells old n) name answer (tells new n)
store_read n old new name (Ok bytes) up (found, is) =
    record {
      faults = omega arith;
      misses = up;
      failed = λ e. cc;
      missing = λ e. cc;
      calls = ap (λ s. Some s.calls) is;
      files = ap (λ s. Some (bytes_of s.files)) is;
      honest = found;
    }
store_read n old new name (Err fault.Missing) up (found, is) =
    record {
      faults = omega arith;
      misses = up;
      failed = λ e. cc;
      missing = λ e. let same = ap (λ s. s.misses) is in omega (arith, same);
      calls = ap (λ s. Some s.calls) is;
      files = ap (λ s. Some (bytes_of s.files)) is;
      honest = found;
    }
store_read n old new name (Err fault.Failed) up none = absurd none
store_read n old new name (Err fault.Memory) up is =
    record {
      faults = omega arith;
      misses = up;
      failed = λ e. cc;
      missing = λ e. cc;
      calls = ap (λ s. Some s.calls) is ∙ ap Some (sym (append-nil old.calls));
      files = ap (λ s. Some (bytes_of s.files)) is;
      honest = tt;
    }

-- a listed read is one read of a folder
pub listed_read : (old new : MemFolderState) (name : List ℕ) → old.faults ≤ new.faults → new ≡ fail_call old (Read name (Err fault.Failed)) → IsRead (tell_folder old) name (Err fault.Failed) (tell_folder new)
listed_read old new name up is =
    record {
      faults = up;
      misses = let same = ap (λ f. f.store.misses) is in omega (arith, same);
      failed = λ e. let same = ap (λ f. f.faults) is in omega (arith, same);
      missing = λ e. cc;
      calls = ap (λ f. Some f.store.calls) is;
      files = ap (λ f. Some (bytes_of f.store.files)) is;
      honest = tt;
    }

-- and a listed write is one write
pub listed_write : (old new : MemFolderState) (name bytes : List ℕ) → old.faults ≤ new.faults → new ≡ fail_call old (Write name bytes (Err fault.Failed)) → IsWrite (tell_folder old) name bytes (Err fault.Failed) (tell_folder new)
listed_write old new name bytes up is =
    record {
      faults = up;
      misses = let same = ap (λ f. f.store.misses) is in omega (arith, same);
      failed = λ e. let same = ap (λ f. f.faults) is in omega (arith, same);
      never_missing = λ e. cc;
      calls = ap (λ f. Some f.store.calls) is;
      files = record { others = λ other h. ap (λ f. bytes_of f.store.files other) is; written = λ e. cc };
    }
