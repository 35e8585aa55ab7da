-- The same of files as the program holds them.
use Rattle.std.proofs.Common.{◌≡◌, ℕ, zero, suc, ◌+◌, ◌<◌, ◌≤◌, Bool, List, [], ◌∷◌, length, take, get_or, map, None, Result, Ok, Err, refl, sym, ap, subst, ◌∙◌, arith}
use Rattle.std.proofs.lemmas.List.{length-map}
use Rattle.std.specs.declared.vec.Vec.{Vec}
use Rattle.std.specs.declared.alloc.Global.{Global}
use Rattle.vg_base.specs.declared.event.Fault.{Fault}
use Rattle.vg_base.specs.declared.event.Fault.TheVariants as answer
use Rattle.static_rules.specs.declared.rules.Refusal.{Refusal}
use Rattle.vala_tree.specs.declared.member.FileTree.{FileTree}
use Rattle.vala_lexer.specs.Tokens.{Lexeme, Tokens, all_of}
use Rattle.vala_file_grammar.specs.FileAnswer.{Answers, AnswersFile, most_bytes}
use Rattle.vala_compile.specs.Program.{AreFiles, AreRead, most_files, Refuses, behind_most, Joined}
use Rattle.vala_compile.specs.Steps.{State, steps, at_end, outcome, Gives, Told}
use Rattle.vala_compile.specs.Correct.{Checks, Compiles}
use Rattle.vala_compile.proofs.Files.{front_more, front_refused, front_over, are_at, file_tokens, LedFiles, files_on, files_refused, files_end}
use Rattle.vala_compile.proofs.Theorem.{left, broken}

abbrev Held : Type 0
Held = List (Vec ℕ Global)

abbrev pub bytes_of : Held → List (List ℕ)
bytes_of files = map (λ (f : Vec ℕ Global). f.items) files

within : (files : Held) (i : ℕ) → i < length files → i < length (bytes_of files)
within files i l = let same : length (bytes_of files) ≡ length files = length-map files (λ (f : Vec ℕ Global). f.items) in omega (arith, same, l)

found : (files : Held) (i : ℕ) (v : Vec ℕ Global) (bytes : List ℕ) → i < length files → v ≡ get_or files i v → bytes ≡ v.items → bytes ≡ get_or (bytes_of files) i bytes
found [] i v bytes l e same = absurd (omega arith)
found (f ∷ files) zero v bytes l e same = same ∙ ap (λ (f : Vec ℕ Global). f.items) e
found (f ∷ files) (suc i) v bytes l e same = found files i v bytes (omega arith) e same

-- ---- files that are checked

module _ (files : Held) (i : ℕ) (v : Vec ℕ Global) (bytes : List ℕ) (l : i < length files) (e : v ≡ get_or files i v) (same : bytes ≡ v.items) where
  pub checked_more : (tree : FileTree) → AreFiles 0 (take i (bytes_of files)) → Answers bytes i (Ok tree) → AreFiles 0 (take (i + 1) (bytes_of files))
  checked_more tree h a = front_more (bytes_of files) i bytes tree (within files i l) (found files i v bytes l e same) h a

  pub checked_refused : (strict : Bool) (fault : Fault Refusal) → i < most_files → AreFiles 0 (take i (bytes_of files)) → AnswersFile bytes i (Err fault) → Checks (bytes_of files) strict (Err fault)
  checked_refused strict answer.Memory small h a = tt
  checked_refused strict (answer.Refused r) small h a = front_refused (bytes_of files) i bytes r (within files i l) small (found files i v bytes l e same) h a

  pub checked_over : (r : Refusal) → i ≤ most_files → most_files ≤ i → AreFiles 0 (take i (bytes_of files)) → r ≡ behind_most bytes → Refuses (bytes_of files) r
  checked_over r few many h is =
      let most : i ≡ most_files = omega (arith, few, many) in
      subst (λ (r : Refusal). Refuses (bytes_of files) r) (sym is) (front_over (bytes_of files) i bytes (within files i l) most (found files i v bytes l e same) h)

  -- ---- files that are read

  pub read_short : AreRead (bytes_of files) → length bytes < 4294967296
  read_short h =
      let here = are_at 0 (bytes_of files) i bytes i (omega arith) (within files i l) h.0 in
      let tokens = file_tokens (get_or (bytes_of files) i bytes) i (Ok here.0) here.0 here.1 refl in
      let short : length bytes ≤ most_bytes = subst (λ (b : List ℕ). length b ≤ most_bytes) (sym (found files i v bytes l e same)) tokens.2 in
      omega (arith, short)

  pub read_more : (s after : State) → LedFiles (bytes_of files) i s → ((vs : List Lexeme) → Tokens (all_of bytes i) vs None → steps s vs ≡ Ok after) → LedFiles (bytes_of files) (i + 1) after
  read_more s after led taken = files_on (bytes_of files) i bytes s after (within files i l) (found files i v bytes l e same) led taken

  pub read_stopped : (s after : State) (fault : Fault Refusal) → LedFiles (bytes_of files) i s → ((vs : List Lexeme) → Tokens (all_of bytes i) vs None → Gives (steps s vs) (Err fault) after)
      → (ts : List Lexeme) → Joined 0 (bytes_of files) ts → Told (outcome ts) (Err fault)
  read_stopped s after answer.Memory led taken ts j = tt
  read_stopped s after (answer.Refused r) led taken ts j = files_refused (bytes_of files) i bytes s after r (within files i l) (found files i v bytes l e same) led taken ts j

pub read_end : (files : Held) (i : ℕ) (s : State) (result : Result (Vec (List ℕ) Global) (Fault Refusal)) → length files ≤ i → LedFiles (bytes_of files) i s → Told (at_end s) result
    → (ts : List Lexeme) → Joined 0 (bytes_of files) ts → Told (outcome ts) result
read_end files i s result l led told ts j =
    let same : length (bytes_of files) ≡ length files = length-map files (λ (f : Vec ℕ Global). f.items) in
    let all : length (bytes_of files) ≤ i = omega (arith, same, l) in
    subst (λ x. Told x result) (sym (files_end (bytes_of files) i s all led ts j)) told

-- ---- what is compiled

pub refused_first : (files : List (List ℕ)) (strict : Bool) (fault : Fault Refusal) → Checks files strict (Err fault) → Compiles files strict (Err fault)
refused_first files strict answer.Memory h = tt
refused_first files strict (answer.Refused r) h = broken files strict r h

pub refused_last : (files : List (List ℕ)) (strict : Bool) (fault : Fault Refusal) → AreRead files → ((ts : List Lexeme) → Joined 0 files ts → Told (outcome ts) (Err fault)) → Compiles files strict (Err fault)
refused_last files strict answer.Memory read told = tt
refused_last files strict (answer.Refused r) read told = left files strict r read told
