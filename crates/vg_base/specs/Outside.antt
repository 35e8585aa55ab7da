-- The outside: what a folder and a sink tell, and what one call on them does.
use Rattle.std.specs.Prelude.{◌≡◌, ◌≢◌, ℕ, ◌+◌, ◌-◌, ◌^◌, ◌≤◌, ◌<◌, List, [], ◌∷◌, ◌++◌, length, take, Option, Some, None, Result, Ok, Err, IsSome, IfSome, min}
use Rattle.std.specs.Option.{option_map}
use Rattle.std.specs.declared.vec.Vec.{Vec}
use Rattle.std.specs.declared.alloc.Global.{Global}
use Rattle.vg_base.specs.declared.outside.FolderFault.{FolderFault}
use Rattle.vg_base.specs.declared.outside.FolderFault.TheVariants as fault
use Rattle.vg_base.specs.declared.outside.PutFault.{PutFault}
use Rattle.vg_base.specs.declared.outside.PutFault.TheVariants as put
use Rattle.vg_base.specs.declared.outside.Call.{Call}
use Rattle.vg_base.specs.declared.outside.Call.TheVariants.{Read, Write}
use Rattle.vg_base.specs.declared.outside.SinkFault.{SinkFault}

-- A count is a u64 that stays at the greatest u64 once it is there; then it counts as one that rose.
abbrev pub Rose : ℕ → ℕ → Type 0
Rose before now = min (before + 1) (2 ^ 64 - 1) ≤ now

-- the bytes of each file that is there, by its name
abbrev pub Files : Type 0
Files = List ℕ → Option (List ℕ)

-- what a folder tells
pub record FolderView : Type 0 where
  -- its files, where it tells them
  pub files : Option Files
  -- its calls so far, where it tells them
  pub calls : Option (List Call)
  -- how many calls failed, and how many found no file
  pub faults : ℕ
  pub misses : ℕ

-- a folder that tells its files tells its calls
abbrev pub TellsCalls : FolderView → Type 0
TellsCalls f = IsSome f.files → IsSome f.calls

-- a call that was answered by want of memory leaves no entry
abbrev pub entry_of_read : List ℕ → Result (List ℕ) FolderFault → List Call
entry_of_read name (Err fault.Memory) = []
entry_of_read name answer = Read name answer ∷ []

abbrev pub entry_of_write : List ℕ → List ℕ → Result (Unit {0}) FolderFault → List Call
entry_of_write name bytes (Err fault.Memory) = []
entry_of_write name bytes answer = Write name bytes answer ∷ []

-- where the calls are told, these are added at their end
abbrev pub AddsCalls : FolderView → List Call → FolderView → Type 0
AddsCalls old added new = new.calls ≡ option_map (λ cs. cs ++ added) old.calls

-- the answer to a read is right of these files
abbrev pub IsAnswer : Files → List ℕ → Result (List ℕ) FolderFault → Type 0
IsAnswer files name (Ok bytes) = files name ≡ Some bytes
IsAnswer files name (Err fault.Missing) = files name ≡ None
IsAnswer files name (Err fault.Failed) = Unit {0}
IsAnswer files name (Err fault.Memory) = Unit {0}

-- one read
pub record IsRead (old : FolderView) (name : List ℕ) (answer : Result (List ℕ) FolderFault) (new : FolderView) : Type 0 where
  pub faults : old.faults ≤ new.faults
  pub misses : old.misses ≤ new.misses
  pub failed : answer ≡ Err fault.Failed → Rose old.faults new.faults
  pub missing : answer ≡ Err fault.Missing → Rose old.misses new.misses
  pub calls : AddsCalls old (entry_of_read name answer) new
  pub files : new.files ≡ old.files
  pub honest : IfSome old.files (λ files. IsAnswer files name answer)

-- no file but the named one changed, and that one has the bytes where the write was not refused
pub record Writes (old : Files) (name bytes : List ℕ) (answer : Result (Unit {0}) FolderFault) (new : Files) : Type 0 where
  pub others : (other : List ℕ) → other ≢ name → new other ≡ old other
  pub written : answer ≡ Ok tt → new name ≡ Some bytes

-- files that are told before and after, or at neither time
abbrev pub WritesTold : Option Files → List ℕ → List ℕ → Result (Unit {0}) FolderFault → Option Files → Type 0
WritesTold None name bytes answer None = Unit {0}
WritesTold (Some old) name bytes answer (Some new) = Writes old name bytes answer new
WritesTold None name bytes answer (Some new) = ⊥
WritesTold (Some old) name bytes answer None = ⊥

-- one write
pub record IsWrite (old : FolderView) (name bytes : List ℕ) (answer : Result (Unit {0}) FolderFault) (new : FolderView) : Type 0 where
  pub faults : old.faults ≤ new.faults
  pub misses : old.misses ≤ new.misses
  pub failed : answer ≡ Err fault.Failed → Rose old.faults new.faults
  pub never_missing : answer ≢ Err fault.Missing
  pub calls : AddsCalls old (entry_of_write name bytes answer) new
  pub files : WritesTold old.files name bytes answer new.files

-- the answers as clauses see them
abbrev pub read_answer : Result (Vec ℕ Global) FolderFault → Result (List ℕ) FolderFault
read_answer (Ok v) = Ok v.items
read_answer (Err e) = Err e

abbrev pub write_answer : Result (Unit {0}) FolderFault → Result (Unit {0}) FolderFault
write_answer answer = answer

-- what a sink tells
pub record SinkView : Type 0 where
  -- the bytes that it took so far, where it tells them
  pub taken : Option (List ℕ)
  pub faults : ℕ

-- where a sink tells its bytes, it took these besides
abbrev pub Takes : SinkView → List ℕ → SinkView → Type 0
Takes old bytes new = new.taken ≡ option_map (λ taken. taken ++ bytes) old.taken

-- how many bytes a put took
abbrev pub put_count : Result ℕ PutFault → ℕ
put_count (Ok n) = n
put_count (Err e) = 0

-- a put that is not refused takes something of a piece that is not empty
abbrev pub IsCount : ℕ → Result ℕ PutFault → Type 0
IsCount len (Ok n) = (n ≤ len) × (0 < len → 0 < n)
IsCount len (Err e) = Unit {0}

-- one put
pub record IsPut (old : SinkView) (piece : List ℕ) (answer : Result ℕ PutFault) (new : SinkView) : Type 0 where
  pub faults : old.faults ≤ new.faults
  pub failed : answer ≡ Err put.Failed → Rose old.faults new.faults
  pub empty : length piece ≡ 0 → answer ≡ Ok 0
  pub count : IsCount (length piece) answer
  pub took : Takes old (take (put_count answer) piece) new

-- all the bytes were put, or a part of them in front of a put that was refused
abbrev pub PutsAll : SinkView → List ℕ → Result (Unit {0}) SinkFault → SinkView → Type 0
PutsAll old bytes (Ok _) new = (old.faults ≤ new.faults) × Takes old bytes new
PutsAll old bytes (Err f) new =
    (old.faults ≤ new.faults)
    × (f.taken < length bytes)
    × (f.cause ≡ put.Failed → Rose old.faults new.faults)
    × Takes old (take f.taken bytes) new
