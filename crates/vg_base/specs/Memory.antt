-- Folders and sinks that are kept in memory: what they hold, and what one call does to it.
use Rattle.std.specs.Prelude.{◌≡◌, ℕ, ◌+◌, ◌-◌, ◌^◌, ◌<◌, Bool, true, false, List, [], ◌∷◌, ◌++◌, length, take, min, find, bytes_eq, Some, None, option_map, Result, Ok, Err, ◌==◌}
use Rattle.std.specs.List.{list_any}
use Rattle.vg_base.specs.declared.mem_folder.File.{File}
use Rattle.vg_base.specs.declared.outside.FolderFault.{FolderFault}
use Rattle.vg_base.specs.declared.outside.FolderFault.TheVariants as fault
use Rattle.vg_base.specs.declared.outside.PutFault.{PutFault}
use Rattle.vg_base.specs.declared.outside.PutFault.TheVariants as put
use Rattle.vg_base.specs.declared.outside.Call.{Call}
use Rattle.vg_base.specs.declared.outside.Call.TheVariants.{Read, Write}
use Rattle.vg_base.specs.Outside.{Files, FolderView, SinkView, Writes}

-- what a folder holds: its files, its calls so far, and how many of them found no file
pub record StoreState : Type 0 where
  pub files : List File
  pub calls : List Call
  pub misses : ℕ

-- a folder of which listed calls fail, and how many did
pub record MemFolderState : Type 0 where
  pub store : StoreState
  pub faults : ℕ
  pub fails : List ℕ

-- a sink of which listed puts fail: the bytes it took, how many puts it answered and how many of them failed, and how much one put takes
pub record MemSinkState : Type 0 where
  pub taken : List ℕ
  pub puts : ℕ
  pub faults : ℕ
  pub fails : List ℕ
  pub most : ℕ

-- the bytes of the first file of that name
abbrev pub bytes_of : List File → Files
bytes_of files name = option_map (λ file. file.bytes) (find (λ file. bytes_eq file.name name) files)

-- one more, or the greatest u64
abbrev pub counted : ℕ → ℕ
counted n = min (n + 1) (2 ^ 64 - 1)

-- whether the list names the call that comes after n others
abbrev pub is_listed : List ℕ → ℕ → Bool
is_listed fails n = list_any (λ call. call == n + 1) fails

abbrev pub add_call : StoreState → Call → StoreState
add_call store call = record store { calls = store.calls ++ call ∷ [] }

-- the store after a read that found no file
abbrev pub add_miss : StoreState → Call → StoreState
add_miss store call = record store { calls = store.calls ++ call ∷ []; misses = counted store.misses }

-- the name has these bytes now; the other files, the calls and the counts are as they were
pub record Adds (old : StoreState) (name bytes : List ℕ) (new : StoreState) : Type 0 where
  pub files : Writes (bytes_of old.files) name bytes (Ok tt) (bytes_of new.files)
  pub calls : new.calls ≡ old.calls
  pub misses : new.misses ≡ old.misses

-- a read answers what the files say, and its call is added; for want of memory nothing changes
abbrev pub StoreReads : StoreState → List ℕ → Result (List ℕ) FolderFault → StoreState → Type 0
StoreReads old name (Ok bytes) new =
    (bytes_of old.files name ≡ Some bytes) × (new ≡ add_call old (Read name (Ok bytes)))
StoreReads old name (Err fault.Missing) new =
    (bytes_of old.files name ≡ None) × (new ≡ add_miss old (Read name (Err fault.Missing)))
StoreReads old name (Err fault.Failed) new = ⊥
StoreReads old name (Err fault.Memory) new = new ≡ old

-- a write to a store, for which memory may run out
pub record StoreWrote (old : StoreState) (name bytes : List ℕ) (answer : Result (Unit {0}) FolderFault) (added : List Call) (new : StoreState) : Type 0 where
  pub files : Writes (bytes_of old.files) name bytes answer (bytes_of new.files)
  pub calls : new.calls ≡ old.calls ++ added
  pub misses : new.misses ≡ old.misses

abbrev pub StoreWrites : StoreState → List ℕ → List ℕ → Result (Unit {0}) FolderFault → StoreState → Type 0
StoreWrites old name bytes (Ok u) new = StoreWrote old name bytes (Ok u) (Write name bytes (Ok u) ∷ []) new
StoreWrites old name bytes (Err fault.Missing) new = ⊥
StoreWrites old name bytes (Err fault.Failed) new = ⊥
StoreWrites old name bytes (Err fault.Memory) new = StoreWrote old name bytes (Err fault.Memory) [] new

-- the folder after a call that was listed: the call is added, and nothing else but the count changes
abbrev pub fail_call : MemFolderState → Call → MemFolderState
fail_call folder call = record folder { store = add_call folder.store call; faults = counted folder.faults }

-- whether the next call on the folder is listed
abbrev pub next_fails : MemFolderState → Bool
next_fails folder = is_listed folder.fails (length folder.store.calls)

-- the store changed, and what is said of failures stays
pub record Stores (old new : MemFolderState) (P : StoreState → StoreState → Type 0) : Type 0 where
  pub store : P old.store new.store
  pub faults : new.faults ≡ old.faults
  pub fails : new.fails ≡ old.fails

-- a read fails exactly where it is listed, unless memory ran out
abbrev pub MemReads : MemFolderState → List ℕ → Result (List ℕ) FolderFault → MemFolderState → Type 0
MemReads old name (Err fault.Failed) new =
    (next_fails old ≡ true) × (new ≡ fail_call old (Read name (Err fault.Failed)))
MemReads old name (Err fault.Memory) new = new ≡ old
MemReads old name answer new =
    (next_fails old ≡ false) × Stores old new (λ s t. StoreReads s name answer t)

-- likewise a write
abbrev pub MemWrites : MemFolderState → List ℕ → List ℕ → Result (Unit {0}) FolderFault → MemFolderState → Type 0
MemWrites old name bytes (Err fault.Failed) new =
    (next_fails old ≡ true) × (new ≡ fail_call old (Write name bytes (Err fault.Failed)))
MemWrites old name bytes (Err fault.Memory) new =
    Stores old new (λ s t. StoreWrites s name bytes (Err fault.Memory) t)
MemWrites old name bytes answer new =
    (next_fails old ≡ false) × Stores old new (λ s t. StoreWrites s name bytes answer t)

-- a put that the sink takes: at most so many bytes from the front
abbrev pub put_taken : MemSinkState → List ℕ → MemSinkState
put_taken sink piece = record sink { taken = sink.taken ++ take (min sink.most (length piece)) piece; puts = counted sink.puts }

abbrev pub put_failed : MemSinkState → MemSinkState
put_failed sink = record sink { puts = counted sink.puts; faults = counted sink.faults }

-- a put of something fails exactly where it is listed, unless memory ran out
abbrev pub MemPutsSome : MemSinkState → List ℕ → Result ℕ PutFault → MemSinkState → Type 0
MemPutsSome old piece (Ok n) new =
    (is_listed old.fails old.puts ≡ false) × (n ≡ min old.most (length piece)) × (new ≡ put_taken old piece)
MemPutsSome old piece (Err put.Failed) new = (is_listed old.fails old.puts ≡ true) × (new ≡ put_failed old)
MemPutsSome old piece (Err put.Memory) new = new ≡ old

-- a put of nothing does nothing
pub record MemPuts (old : MemSinkState) (piece : List ℕ) (answer : Result ℕ PutFault) (new : MemSinkState) : Type 0 where
  pub empty : length piece ≡ 0 → (answer ≡ Ok 0) × (new ≡ old)
  pub some : 0 < length piece → MemPutsSome old piece answer new

-- a put that takes the whole piece, unless memory ran out
abbrev pub GoodPuts : List ℕ → List ℕ → Result ℕ PutFault → List ℕ → Type 0
GoodPuts old piece (Ok n) new = (n ≡ length piece) × (new ≡ old ++ piece)
GoodPuts old piece (Err put.Failed) new = ⊥
GoodPuts old piece (Err put.Memory) new = (new ≡ old) × (0 < length piece)

-- what they tell
abbrev pub tell_store : StoreState → FolderView
tell_store s = record { files = Some (bytes_of s.files); calls = Some s.calls; faults = 0; misses = s.misses }

abbrev pub tell_folder : MemFolderState → FolderView
tell_folder f = record (tell_store f.store) { faults = f.faults }

abbrev pub tell_sink : MemSinkState → SinkView
tell_sink s = record { taken = Some s.taken; faults = s.faults }

abbrev pub tell_taken : List ℕ → SinkView
tell_taken taken = record { taken = Some taken; faults = 0 }
