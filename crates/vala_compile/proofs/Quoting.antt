-- What is read of a literal byte by byte is what it denotes.
use Rattle.std.proofs.Common.{◌≡◌, ℕ, ◌==◌, Bool, true, false, List, [], ◌∷◌, ◌++◌, Option, Some, None, refl, sym, ap, subst, ◌∙◌, append_assoc, append-nil, option_and_then, ⊎_elim}
use Rattle.std.proofs.lemmas.Bool.{eqb-true, cases_Bool}
use Rattle.vg_base.specs.Small.{is_plain, escape_of, Denotes, nothing, plain, escape}
use Rattle.std.specs.Option.{option_map}
use Rattle.vala_compile.specs.declared.quoted.Place.{Place}
use Rattle.vala_compile.specs.declared.quoted.Place.TheVariants as place
use Rattle.vala_compile.specs.Carried.{Quotes}
use Rattle.vala_compile.specs.Quoted.{quoted, quoted_from, with_byte, Read}

-- ---- what is denoted is read

inside_read : (body text : List ℕ) → Denotes body text → (front : List ℕ) → quoted_from place.Inside front (body ++ 34 ∷ []) ≡ Some (front ++ text)
inside_read _ _ nothing front = rw append-nil refl
inside_read _ _ (plain b {body} {bytes = text} p d) front =
    let is_plain_byte : is_plain b ≡ true = p in
    rw is_plain_byte (inside_read body text d (front ++ b ∷ []) ∙ ap (λ (t : List ℕ). Some t) (append_assoc front (b ∷ []) text))
inside_read _ _ (escape c b {body} {bytes = text} p d) front =
    rw p (inside_read body text d (front ++ b ∷ []) ∙ ap (λ (t : List ℕ). Some t) (append_assoc front (b ∷ []) text))

pub quotes_read : (w text : List ℕ) → Quotes w text → quoted w ≡ Some text
quotes_read w text q = ap quoted q.1 ∙ inside_read q.0 text q.2 []

-- ---- what is read is denoted

-- these bytes are the rest of a literal between its quotes, of whose text the front stands before
record Inside (front bytes text : List ℕ) : Type 0 where
  body : List ℕ
  denoted : List ℕ
  bytes_are : bytes ≡ body ++ 34 ∷ []
  text_is : text ≡ front ++ denoted
  denotes : Denotes body denoted

-- what is known of bytes by which a literal ends
abbrev Meant : Place → (front bytes text : List ℕ) → Type 0
Meant place.Front front bytes text = (rest : List ℕ) × (bytes ≡ 34 ∷ rest) × Inside front rest text
Meant place.Inside front bytes text = Inside front bytes text
Meant place.Escape front bytes text = (c b : ℕ) × (rest : List ℕ) × (bytes ≡ c ∷ rest) × (escape_of c ≡ Some b) × Inside (front ++ b ∷ []) rest text
Meant place.Behind front bytes text = (bytes ≡ []) × (text ≡ front)

by_test : {R : Type 0} (t : Bool) → (t ≡ true → R) → (t ≡ false → R) → R
by_test t when_true when_false = ⊎_elim when_true when_false (cases_Bool t)

plain_inside : (front : List ℕ) (b : ℕ) (bytes text : List ℕ) → is_plain b ≡ true → Inside (front ++ b ∷ []) bytes text → Inside front (b ∷ bytes) text
plain_inside front b bytes text h i = record {
  body = b ∷ i.body;
  denoted = b ∷ i.denoted;
  bytes_are = ap (λ x. b ∷ x) i.bytes_are;
  text_is = i.text_is ∙ append_assoc front (b ∷ []) i.denoted;
  denotes = plain b h i.denotes;
}

escape_inside : (front : List ℕ) (a : ℕ) (bytes text : List ℕ) → a ≡ 92 → Meant place.Escape front bytes text → Inside front (a ∷ bytes) text
escape_inside front a bytes text e (c, b, rest, bytes_are, stands, i) = record {
  body = 92 ∷ c ∷ i.body;
  denoted = b ∷ i.denoted;
  bytes_are = cc (e, bytes_are, i.bytes_are);
  text_is = i.text_is ∙ append_assoc front (b ∷ []) i.denoted;
  denotes = escape c b stands i.denotes;
}

last_inside : (front : List ℕ) (a : ℕ) (bytes text : List ℕ) → a ≡ 34 → Meant place.Behind front bytes text → Inside front (a ∷ bytes) text
last_inside front a bytes text e m = record {
  body = [];
  denoted = [];
  bytes_are = cc (e, m.0);
  text_is = m.1 ∙ sym (append-nil front);
  denotes = nothing;
}

some_is : (x y : List ℕ) → Some x ≡ Some y → x ≡ y
some_is x y e = cc

abbrev go_on : List ℕ → List ℕ → Read → Option (List ℕ)
go_on front bytes r = option_and_then {T = Option ℕ × Place} (λ r. quoted_from r.1 (with_byte front r.0) bytes) r

escaped : (front : List ℕ) (c : ℕ) (bytes text : List ℕ) (o : Option ℕ) → escape_of c ≡ o → go_on front bytes (option_map (λ b. (Some b, place.Inside)) o) ≡ Some text
    → ((front : List ℕ) → quoted_from place.Inside front bytes ≡ Some text → Inside front bytes text) → Meant place.Escape front (c ∷ bytes) text
escaped front c bytes text None i e later = absurd cc
escaped front c bytes text (Some b) i e later = (c, b, bytes, refl, i, later (front ++ b ∷ []) e)

sound : (bytes : List ℕ) (p : Place) (front text : List ℕ) → quoted_from p front bytes ≡ Some text → Meant p front bytes text
sound [] place.Front front text e = absurd cc
sound [] place.Inside front text e = absurd cc
sound [] place.Escape front text e = absurd cc
sound [] place.Behind front text e = (refl, sym (some_is front text e))
sound (b ∷ bytes) place.Front front text e =
    by_test (b == 34)
    (λ h. let next : quoted_from place.Inside front bytes ≡ Some text = rw h at e in (bytes, ap (λ x. x ∷ bytes) (eqb-true b 34 h), sound bytes place.Inside front text next))
    (λ h. let none : None ≡ Some text = rw h at e in absurd cc)
sound (b ∷ bytes) place.Inside front text e =
    by_test (is_plain b)
    (λ h. let next : quoted_from place.Inside (front ++ b ∷ []) bytes ≡ Some text = rw h at e in plain_inside front b bytes text h (sound bytes place.Inside (front ++ b ∷ []) text next))
    (λ h. by_test (b == 92)
    (λ k. let next : quoted_from place.Escape front bytes ≡ Some text = rw (h, k) at e in escape_inside front b bytes text (eqb-true b 92 k) (sound bytes place.Escape front text next))
    (λ k. by_test (b == 34)
    (λ m. let next : quoted_from place.Behind front bytes ≡ Some text = rw (h, k, m) at e in last_inside front b bytes text (eqb-true b 34 m) (sound bytes place.Behind front text next))
    (λ m. let none : None ≡ Some text = rw (h, k, m) at e in absurd cc)))
sound (b ∷ bytes) place.Escape front text e = escaped front b bytes text (escape_of b) refl e (λ front next. sound bytes place.Inside front text next)
sound (b ∷ bytes) place.Behind front text e = absurd cc

pub read_quotes : (w text : List ℕ) → quoted w ≡ Some text → Quotes w text
read_quotes w text e =
    let m = sound w place.Front [] text e in
    (m.2.body, m.1 ∙ ap (λ x. 34 ∷ x) m.2.bytes_are, subst (λ t. Denotes m.2.body t) (sym m.2.text_is) m.2.denotes)
