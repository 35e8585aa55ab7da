-- What is known of files, one after another: those in front, their tokens, and the first refusal.
use Rattle.std.proofs.Common.{◌≡◌, ℕ, zero, suc, ◌+◌, ◌<◌, ◌≤◌, List, [], ◌∷◌, ◌++◌, length, take, drop, get_or, Option, None, Result, Ok, Err, refl, sym, ap, ap₂, subst, ◌∙◌, arith}
use Rattle.std.proofs.lemmas.List.{take-append-drop, drop_more, take_more, length-take-le, drop_all}
use Rattle.vg_base.specs.declared.event.Fault.TheVariants as answer
use Rattle.static_rules.specs.declared.rules.Refusal.{Refusal}
use Rattle.vala_tree.specs.declared.member.FileTree.{FileTree}
use Rattle.vala_lexer.specs.Tokens.{Lexeme, Left, Tokens, all_of}
use Rattle.vala_lexer.proofs.CoverLemmas.{one_list}
use Rattle.vala_file_grammar.specs.FileAnswer.{Answers, many, few, Says, file, broken, too_long, faulty as unread, most_bytes}
use Rattle.vala_compile.specs.Program.{AreFiles, most_files, Refuses, faulty, over, behind_most, Joined, no_file, file as joined}
use Rattle.vala_compile.specs.Steps.{State, Stepped, and_then, steps, start, at_end, outcome_of, outcome, Gives, Told}
use Rattle.vala_compile.proofs.Programs.{steps_more}

-- ---- one file

unbroken : (l : Left) (ts : List Lexeme) (o : Option Refusal) (x : Result FileTree Refusal) (tree : FileTree) → Says l ts o x → x ≡ Ok tree → o ≡ None
unbroken l ts _ _ tree (file a i) e = refl
unbroken l ts _ _ tree (broken r a i) e = absurd cc
unbroken l ts _ _ tree (too_long o a t rest i) e = absurd cc
unbroken l ts _ _ tree (unread o f rest i) e = absurd cc

-- a file of the grammar is short, and no rule is broken among its tokens
pub file_tokens : (bytes : List ℕ) (number : ℕ) (x : Result FileTree Refusal) (tree : FileTree) → Answers bytes number x → x ≡ Ok tree
    → (ts : List Lexeme) × Tokens (all_of bytes number) ts None × (length bytes ≤ most_bytes)
file_tokens bytes number _ tree (many h) e = absurd cc
file_tokens bytes number _ tree (few ts o x small tokens says) e =
    (ts, subst (λ (o : Option Refusal). Tokens (all_of bytes number) ts o) (unbroken (all_of bytes number) ts o x tree says e) tokens, small)

-- ---- the files in front

are_more : (number : ℕ) (files : List (List ℕ)) (bytes : List ℕ) (last : ℕ) → last ≡ number + length files → AreFiles number files → (tree : FileTree) × Answers bytes last (Ok tree)
    → AreFiles number (files ++ bytes ∷ [])
are_more number [] bytes last e h a = (subst (λ (n : ℕ). (tree : FileTree) × Answers bytes n (Ok tree)) (omega arith) a, tt)
are_more number (f ∷ files) bytes last e h a = (h.0, are_more (suc number) files bytes last (omega arith) h.1 a)

pub are_at : (number : ℕ) (files : List (List ℕ)) (i : ℕ) (d : List ℕ) (last : ℕ) → last ≡ number + i → i < length files → AreFiles number files → (tree : FileTree) × Answers (get_or files i d) last (Ok tree)
are_at number [] i d last e l h = absurd (omega arith)
are_at number (f ∷ files) zero d last e l h = subst (λ (n : ℕ). (tree : FileTree) × Answers f n (Ok tree)) (omega arith) h.0
are_at number (f ∷ files) (suc i) d last e l h = are_at (suc number) files i d last (omega arith) (omega arith) h.1

front_length : (files : List (List ℕ)) (i : ℕ) → i < length files → length (take i files) ≡ i
front_length files i l = length-take-le i files (omega arith)

-- one more file is one of the grammar
pub front_more : (files : List (List ℕ)) (i : ℕ) (bytes : List ℕ) (tree : FileTree) → i < length files → bytes ≡ get_or files i bytes → AreFiles 0 (take i files) → Answers bytes i (Ok tree)
    → AreFiles 0 (take (i + 1) files)
front_more files i bytes tree l e h a =
    subst (λ (fs : List (List ℕ)). AreFiles 0 fs) (sym (take_more files i bytes l ∙ ap (λ (b : List ℕ). take i files ++ b ∷ []) (sym e)))
    (are_more 0 (take i files) bytes i (let n = front_length files i l in omega (arith, n)) h (tree, a))

parted : (files : List (List ℕ)) (i : ℕ) (bytes : List ℕ) → i < length files → bytes ≡ get_or files i bytes → files ≡ take i files ++ bytes ∷ drop (i + 1) files
parted files i bytes l e =
    sym (take-append-drop i files) ∙ ap (λ (fs : List (List ℕ)). take i files ++ fs) (drop_more files i bytes l ∙ ap (λ (b : List ℕ). b ∷ drop (i + 1) files) (sym e))

-- a file that is refused
pub front_refused : (files : List (List ℕ)) (i : ℕ) (bytes : List ℕ) (r : Refusal) → i < length files → i < most_files → bytes ≡ get_or files i bytes → AreFiles 0 (take i files) → Answers bytes i (Err r)
    → Refuses files r
front_refused files i bytes r l small e h a =
    let same : i ≡ length (take i files) = sym (front_length files i l) in
    faulty (take i files) bytes (drop (i + 1) files) r (parted files i bytes l e) h (subst (λ (n : ℕ). n < most_files) same small) (subst (λ (n : ℕ). Answers bytes n (Err r)) same a)

-- a file behind the most
pub front_over : (files : List (List ℕ)) (i : ℕ) (bytes : List ℕ) → i < length files → i ≡ most_files → bytes ≡ get_or files i bytes → AreFiles 0 (take i files) → Refuses files (behind_most bytes)
front_over files i bytes l most e h = over (take i files) bytes (drop (i + 1) files) (parted files i bytes l e) h (front_length files i l ∙ most)

-- ---- the tokens of all files

pub joined_one : (number : ℕ) (files : List (List ℕ)) (ts us : List Lexeme) → Joined number files ts → Joined number files us → ts ≡ us
joined_one _ _ _ _ (no_file number) (no_file _) = refl
joined_one _ _ _ _ (joined number bytes files ts us one more) (joined _ _ _ vs ws other further) =
    ap₂ (λ (x y : List Lexeme). x ++ y) (one_list (all_of bytes number) ts vs None None one other).0 (joined_one (suc number) files us ws more further)

pub joined_some : (number : ℕ) (files : List (List ℕ)) → AreFiles number files → (ts : List Lexeme) × Joined number files ts
joined_some number [] h = ([], no_file number)
joined_some number (bytes ∷ files) h =
    let one = file_tokens bytes number (Ok h.0.0) h.0.0 h.0.1 refl in
    let more = joined_some (suc number) files h.1 in (one.0 ++ more.0, joined number bytes files one.0 more.0 one.1 more.1)

-- what is said of all tokens is said of those of the files from this one on
abbrev pub LedFiles : List (List ℕ) → ℕ → State → Type 0
LedFiles files i s = (ts : List Lexeme) → Joined 0 files ts → (us : List Lexeme) × Joined i (drop i files) us × (steps start ts ≡ steps s us)

first_file : (number : ℕ) (bytes : List ℕ) (files all : List (List ℕ)) (us : List Lexeme) → all ≡ bytes ∷ files → Joined number all us
    → (vs ws : List Lexeme) × (us ≡ vs ++ ws) × Tokens (all_of bytes number) vs None × Joined (suc number) files ws
first_file number bytes files _ _ e (no_file _) = absurd cc
first_file number bytes files _ _ e (joined _ b fs vs ws one more) =
    let heads : b ≡ bytes = cc in
    let tails : fs ≡ files = cc in
    (vs, ws, refl, subst (λ (b : List ℕ). Tokens (all_of b number) vs None) heads one, subst (λ (fs : List (List ℕ)). Joined (suc number) fs ws) tails more)

at_file : (files : List (List ℕ)) (i : ℕ) (bytes : List ℕ) (s : State) → i < length files → bytes ≡ get_or files i bytes → LedFiles files i s → (ts : List Lexeme) → Joined 0 files ts
    → (vs ws : List Lexeme) × Tokens (all_of bytes i) vs None × Joined (suc i) (drop (i + 1) files) ws × (steps start ts ≡ and_then (steps s vs) (λ after. steps after ws))
at_file files i bytes s l e led ts j =
    let before = led ts j in
    let first = first_file i bytes (drop (i + 1) files) (drop i files) before.0 (drop_more files i bytes l ∙ ap (λ (b : List ℕ). b ∷ drop (i + 1) files) (sym e)) before.1 in
    (first.0, first.1, first.3, first.4, before.2 ∙ ap (λ (us : List Lexeme). steps s us) first.2 ∙ steps_more first.0 first.1 s)

pub files_on : (files : List (List ℕ)) (i : ℕ) (bytes : List ℕ) (s after : State) → i < length files → bytes ≡ get_or files i bytes → LedFiles files i s
    → ((vs : List Lexeme) → Tokens (all_of bytes i) vs None → steps s vs ≡ Ok after) → LedFiles files (i + 1) after
files_on files i bytes s after l e led taken ts j =
    let here = at_file files i bytes s l e led ts j in
    let same : suc i ≡ i + 1 = omega arith in
    (here.1, subst (λ (n : ℕ). Joined n (drop (i + 1) files) here.1) same here.3, here.4 ∙ ap (λ (r : Stepped). and_then r (λ after. steps after here.1)) (taken here.0 here.2))

pub files_refused : (files : List (List ℕ)) (i : ℕ) (bytes : List ℕ) (s after : State) (r : Refusal) → i < length files → bytes ≡ get_or files i bytes → LedFiles files i s
    → ((vs : List Lexeme) → Tokens (all_of bytes i) vs None → Gives (steps s vs) (Err (answer.Refused r)) after) → (ts : List Lexeme) → Joined 0 files ts → Told (outcome ts) (Err (answer.Refused r))
files_refused files i bytes s after r l e led taken ts j =
    let here = at_file files i bytes s l e led ts j in
    let g = taken here.0 here.2 in
    (g.0, ap outcome_of (here.4 ∙ ap (λ (r : Stepped). and_then r (λ after. steps after here.1)) g.1), g.2)

no_tokens : (number : ℕ) (files : List (List ℕ)) (us : List Lexeme) → files ≡ [] → Joined number files us → us ≡ []
no_tokens _ _ _ e (no_file number) = refl
no_tokens _ _ _ e (joined number bytes files ts us one more) = absurd cc

pub files_end : (files : List (List ℕ)) (i : ℕ) (s : State) → length files ≤ i → LedFiles files i s → (ts : List Lexeme) → Joined 0 files ts → outcome ts ≡ at_end s
files_end files i s l led ts j =
    let before = led ts j in
    ap outcome_of (before.2 ∙ ap (λ (us : List Lexeme). steps s us) (no_tokens i (drop i files) before.0 (drop_all i files l) before.1))
