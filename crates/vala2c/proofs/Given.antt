-- From the reads of the code to what was read.
use Rattle.std.proofs.Common.{◌≡◌, ℕ, suc, ◌<◌, ◌+◌, take, drop, map, List, [], ◌∷◌, ◌++◌, length, get_or, Option, Some, None, Result, Ok, Err, refl, sym, ap, ◌∙◌, subst, append-nil, arith}
use Rattle.std.proofs.lemmas.List.{map-append, take-append-drop, append_assoc}
use Rattle.std.proofs.Math.Seq.{take-suc, drop-cons}
use Rattle.vg_base.specs.declared.outside.FolderFault.{FolderFault}
use Rattle.vg_base.specs.declared.outside.Call.{Call}
use Rattle.vg_base.specs.declared.outside.Call.TheVariants.{Read}
use Rattle.vg_base.specs.Outside.{FolderView, IsRead}
use Rattle.command_line.specs.Meaning.{Meaning}
use Rattle.vala2c.specs.declared.status.Kind.{Kind}
use Rattle.vala2c.specs.declared.status.Kind.TheVariants as kind
use Rattle.vala2c.specs.Course.{AllGiven, AllRead, AreBytes, Chain, FrontRead, ReadUpTo, files_read, input_file}
use Rattle.vala2c.specs.Course as course
use Rattle.vala2c.specs.Stages.{GivenRead, InputRead, InputUnread, ReadStopped, SourcesRead, Stops, read_kind}
use Rattle.vala2c.specs.Stages as stage
use Rattle.vala2c.proofs.Reading.{chain_on, one_more}

-- 1. The sources

-- one file more was read
pub reads_one_more : (files sources : List (List ℕ)) (file source : List ℕ) (f mid g : FolderView) → SourcesRead files sources f mid → IsRead mid file (Ok source) g → SourcesRead (files ++ file ∷ []) (sources ++ source ∷ []) f g
reads_one_more files sources file source f mid g h r =
    record {
      calls = h.calls ++ Read file (Ok source) ∷ [];
      all_read = one_more files sources h.calls file source h.all_read;
      chain = chain_on f mid g h.calls (Read file (Ok source) ∷ []) h.chain (course.read mid g g file (Ok source) [] r (course.none g));
    }

-- the next is not read
pub stops_at : (files front : List (List ℕ)) (file : List ℕ) (behind sources : List (List ℕ)) (x : FolderFault) (f mid g : FolderView) → files ≡ front ++ file ∷ behind → SourcesRead front sources f mid → IsRead mid file (Err x) g
    → ReadStopped files (read_kind x) file f g
stops_at files front file behind sources x f mid g e h r =
    record {
      calls = h.calls ++ Read file (Err x) ∷ [];
      stops = stage.unread file h.calls x (record { front = front; behind = behind; files_are = e; sources = sources; all_read = h.all_read });
      chain = chain_on f mid g h.calls (Read file (Err x) ∷ []) h.chain (course.read mid g g file (Err x) [] r (course.none g));
    }

-- memory runs out behind some
pub stops_for_memory : (files front behind sources : List (List ℕ)) (f g : FolderView) → files ≡ front ++ behind → SourcesRead front sources f g → ReadStopped files kind.Memory [] f g
stops_for_memory files front behind sources f g e h =
    record { calls = h.calls; stops = stage.no_memory h.calls (record { front = front; behind = behind; files_are = e; sources = sources; all_read = h.all_read }); chain = h.chain }

-- the bytes of sources with one more
pub more_sources : {A : Type 0} (bytes : A → List ℕ) (old : List A) (source : A) (new : List A) → new ≡ old ++ source ∷ [] → map bytes new ≡ map bytes old ++ bytes source ∷ []
more_sources bytes old source new e = ap (map bytes) e ∙ map-append bytes old (source ∷ [])

-- no file was read yet
pub none_read : {A : Type 0} (name : A → List ℕ) (words : List A) (f : FolderView) → SourcesRead (map name (take 0 words)) [] f f
none_read name words f = record { calls = []; all_read = course.none; chain = course.none f }

-- the words up to and with one, and what stands in front of it and behind
front_next : {A : Type 0} (name : A → List ℕ) (words : List A) (i : ℕ) (w : A) → i < length words → w ≡ get_or words i w → map name (take (suc i) words) ≡ map name (take i words) ++ name w ∷ []
front_next name words i w l e = ap (map name) (take-suc words i w l) ∙ map-append name (take i words) (get_or words i w ∷ []) ∙ ap (λ x. map name (take i words) ++ name x ∷ []) (sym e)

around : {A : Type 0} (name : A → List ℕ) (words : List A) (i : ℕ) (w : A) → i < length words → w ≡ get_or words i w → map name words ≡ map name (take i words) ++ name w ∷ map name (drop (suc i) words)
around name words i w l e =
    ap (map name) (sym (take-append-drop i words)) ∙ map-append name (take i words) (drop i words) ∙ ap (λ x. map name (take i words) ++ map name x) (drop-cons words i w l) ∙ ap (λ x. map name (take i words) ++ name x ∷ map name (drop (suc i) words)) (sym e)

-- the fronts of the words in a loop
read_one : {A : Type 0} (name : A → List ℕ) (words : List A) (i : ℕ) (w : A) (file : List ℕ) (sources : List (List ℕ)) (source : List ℕ) (f mid g : FolderView) → i < length words → w ≡ get_or words i w → file ≡ name w
    → SourcesRead (map name (take i words)) sources f mid → IsRead mid file (Ok source) g → SourcesRead (map name (take (suc i) words)) (sources ++ source ∷ []) f g
read_one name words i w file sources source f mid g l e n h r =
    subst (λ x. SourcesRead x (sources ++ source ∷ []) f g) (sym (front_next name words i w l e)) (reads_one_more (map name (take i words)) sources (name w) source f mid g h (subst (λ x. IsRead mid x (Ok source) g) n r))

next_place : (i : ℕ) → suc i ≡ i + 1
next_place i = omega arith

pub read_next : {A : Type 0} (name : A → List ℕ) (words : List A) (i : ℕ) (w : A) (file : List ℕ) (sources : List (List ℕ)) (source : List ℕ) (f mid g : FolderView) → i < length words → w ≡ get_or words i w → file ≡ name w
    → SourcesRead (map name (take i words)) sources f mid → IsRead mid file (Ok source) g → SourcesRead (map name (take (i + 1) words)) (sources ++ source ∷ []) f g
read_next name words i w file sources source f mid g l e n h r =
    subst (λ k. SourcesRead (map name (take k words)) (sources ++ source ∷ []) f g) (next_place i) (read_one name words i w file sources source f mid g l e n h r)

pub read_refused : {A : Type 0} (name : A → List ℕ) (words : List A) (i : ℕ) (w : A) (file : List ℕ) (sources : List (List ℕ)) (x : FolderFault) (f mid g : FolderView) → i < length words → w ≡ get_or words i w → file ≡ name w
    → SourcesRead (map name (take i words)) sources f mid → IsRead mid file (Err x) g → ReadStopped (map name words) (read_kind x) file f g
read_refused name words i w file sources x f mid g l e n h r =
    subst (λ y. ReadStopped (map name words) (read_kind x) y f g) (sym n)
    (stops_at (map name words) (map name (take i words)) (name w) (map name (drop (suc i) words)) sources x f mid g (around name words i w l e) h (subst (λ y. IsRead mid y (Err x) g) n r))

pub read_without_memory : {A : Type 0} (name : A → List ℕ) (words : List A) (i : ℕ) (w : A) (file : List ℕ) (sources : List (List ℕ)) (source : List ℕ) (f mid g : FolderView) → i < length words → w ≡ get_or words i w → file ≡ name w
    → SourcesRead (map name (take i words)) sources f mid → IsRead mid file (Ok source) g → ReadStopped (map name words) kind.Memory [] f g
read_without_memory name words i w file sources source f mid g l e n h r =
    let e2 : map name words ≡ map name (take (suc i) words) ++ map name (drop (suc i) words) = ap (map name) (sym (take-append-drop (suc i) words)) ∙ map-append name (take (suc i) words) (drop (suc i) words) in
    stops_for_memory (map name words) (map name (take (suc i) words)) (map name (drop (suc i) words)) (sources ++ source ∷ []) f g e2 (read_one name words i w file sources source f mid g l e n h r)

-- 2. The input

-- the bytes of a file
pub are_bytes : (bytes : List ℕ) → ((i : ℕ) → get_or bytes i 0 < 256) → AreBytes bytes
are_bytes [] h = tt
are_bytes (b ∷ bytes) h = (h 0, are_bytes bytes (λ i. h (suc i)))

pub input_there : (f g : FolderView) (file input : List ℕ) → IsRead f file (Ok input) g → AreBytes input → InputRead (Some file) input f g
input_there f g file input r bytes = stage.one file input f g (course.read f g g file (Ok input) [] r (course.none g)) bytes

pub input_refused : (f g : FolderView) (file : List ℕ) (x : FolderFault) → IsRead f file (Err x) g → InputUnread (Some file) (read_kind x) file f g
input_refused f g file x r = stage.unread file x f g (course.read f g g file (Err x) [] r (course.none g))

-- 3. Both

input_read : (m : Meaning) (sources : List (List ℕ)) (o : Option (List ℕ)) (input : List ℕ) (f mid g : FolderView) → m.input ≡ o → SourcesRead m.files sources f mid → InputRead o input mid g → GivenRead m sources input f g
input_read m sources _ _ f mid g is h (stage.none _) = record { calls = h.calls; all_given = course.alone sources h.calls is h.all_read; chain = h.chain }
input_read m sources _ _ f mid g is h (stage.one file input _ _ chain bytes) =
    record {
      calls = h.calls ++ Read file (Ok input) ∷ [];
      all_given = course.with_input file sources input h.calls is h.all_read bytes;
      chain = chain_on f mid g h.calls (Read file (Ok input) ∷ []) h.chain chain;
    }

pub given_read : (m : Meaning) (sources : List (List ℕ)) (input : List ℕ) (f mid g : FolderView) → SourcesRead m.files sources f mid → InputRead m.input input mid g → GivenRead m sources input f g
given_read m sources input f mid g h r = input_read m sources m.input input f mid g refl h r

-- the sources stop before the input
longer : (files front : List (List ℕ)) (file : List ℕ) (behind more : List (List ℕ)) → files ≡ front ++ file ∷ behind → files ++ more ≡ front ++ file ∷ (behind ++ more)
longer files front file behind more e = ap (λ l. l ++ more) e ∙ append_assoc front (file ∷ behind) more

up_to_longer : (files more : List (List ℕ)) (file : List ℕ) (reads : List Call) → ReadUpTo files file reads → ReadUpTo (files ++ more) file reads
up_to_longer files more file reads up =
    record { front = up.front; behind = up.behind ++ more; files_are = longer files up.front file up.behind more up.files_are; sources = up.sources; all_read = up.all_read }

front_longer : (files more : List (List ℕ)) (reads : List Call) → FrontRead files reads → FrontRead (files ++ more) reads
front_longer files more reads up =
    record { front = up.front; behind = up.behind ++ more; files_are = ap (λ l. l ++ more) up.files_are ∙ append_assoc up.front up.behind more; sources = up.sources; all_read = up.all_read }

stops_longer : (files more : List (List ℕ)) (calls : List Call) (k : Kind) (file : List ℕ) → Stops files calls k file → Stops (files ++ more) calls k file
stops_longer files more calls k file (stage.unread _ reads x up) = stage.unread file reads x (up_to_longer files more file reads up)
stops_longer files more calls k file (stage.no_memory _ front) = stage.no_memory calls (front_longer files more calls front)

pub sources_stopped : (m : Meaning) (k : Kind) (file : List ℕ) (f g : FolderView) → ReadStopped m.files k file f g → ReadStopped (files_read m) k file f g
sources_stopped m k file f g h = record { calls = h.calls; stops = stops_longer m.files (input_file m.input) h.calls k file h.stops; chain = h.chain }

-- the input stops behind the sources
input_stops : (m : Meaning) (sources : List (List ℕ)) (o : Option (List ℕ)) (k : Kind) (file : List ℕ) (f mid g : FolderView) → m.input ≡ o → SourcesRead m.files sources f mid → InputUnread o k file mid g → ReadStopped (files_read m) k file f g
input_stops m sources _ _ _ f mid g is h (stage.unread file x _ _ chain) =
    record {
      calls = h.calls ++ Read file (Err x) ∷ [];
      stops = stage.unread file h.calls x (record { front = m.files; behind = []; files_are = ap (λ o. m.files ++ input_file o) is; sources = sources; all_read = h.all_read });
      chain = chain_on f mid g h.calls (Read file (Err x) ∷ []) h.chain chain;
    }

pub input_stopped : (m : Meaning) (sources : List (List ℕ)) (k : Kind) (file : List ℕ) (f mid g : FolderView) → SourcesRead m.files sources f mid → InputUnread m.input k file mid g → ReadStopped (files_read m) k file f g
input_stopped m sources k file f mid g h r = input_stops m sources m.input k file f mid g refl h r
