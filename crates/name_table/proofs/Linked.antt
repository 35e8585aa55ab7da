-- Stored entries: what is added, dropped, found and changed.
use Rattle.std.proofs.Common.{inl, inr, ◌≡◌, ◌≢◌, ℕ, zero, suc, ◌==◌, ◌<◌, ◌≤◌, Bool, true, false, cond, List, [], ◌∷◌, ◌++◌, length, map, reverse, Option, Some, None, refl, sym, ◌∙◌, ap, subst, arith, set, get_or}
use Rattle.std.proofs.lemmas.List.{reverse-append, reverse-reverse, length-reverse, length-map, set-append_left}
use Rattle.std.proofs.Math.Seq.{set-append_seam}
use Rattle.std.proofs.lemmas.Bool.Decides.{eqb_tells}
use Rattle.std.proofs.lemmas.Option.{slice_get_within, get_or_from_slice_get}
use Rattle.std.proofs.lemmas.Slice.Eq.{bytes_eq-Decides}
use Rattle.std.specs.List.{slice_get}
use Rattle.std.specs.Option.{option_map, IsSome}
use Rattle.std.specs.Str.{bytes_eq}
use Rattle.std.specs.HashMap.{HashMap, get_by}
use Rattle.name_table.specs.declared.entry.Entry.{Entry}
use Rattle.name_table.specs.declared.key.Key.{Key}
use Rattle.name_table.specs.declared.found.Found.{Found}
use Rattle.name_table.specs.Names.{latest, changed}
use Rattle.name_table.specs.Index.{seen, listed, position, IsLinked, IsIndexed}

some_at : (b : Bool) (o q : Option ℕ) (n : ℕ) → b ≡ true → o ≡ cond b (Some n) q → IsSome o
some_at b o q n same is = let P : Option ℕ → Type 0 = λ x. IsSome x in subst P (sym (is ∙ ap (λ x. cond x (Some n) q) same)) refl

-- a name that was put into an index is there
pub covered : {S : Type 0} (old new : HashMap Key ℕ S) (name : List ℕ) (at : ℕ)
    → ((other : List ℕ) → get_by (λ k. bytes_eq other k.name.now) new ≡ cond (bytes_eq name other) (Some at) (get_by (λ k. bytes_eq other k.name.now) old)) → IsSome (get_by (λ k. bytes_eq name k.name.now) new)
covered old new name at put = some_at _ _ _ _ ((bytes_eq-Decides name name).1 refl) (put name)

same_name : (b : Bool) (o h p q : Option ℕ) → (b ≡ true → h ≡ p) → o ≡ cond b q p → cond b h o ≡ p
same_name true o h p q same is = same refl
same_name false o h p q same is = is

slice_get_more : {A : Type 0} (xs ys : List A) (i : ℕ) (a : A) → slice_get xs i ≡ Some a → slice_get (xs ++ ys) i ≡ Some a
slice_get_more [] ys i a is = cc
slice_get_more (x ∷ xs) ys zero a is = is
slice_get_more (x ∷ xs) ys (suc i) a is = slice_get_more xs ys i a is

slice_get_seam : {A : Type 0} (xs ys : List A) (a : A) → slice_get (xs ++ a ∷ ys) (length xs) ≡ Some a
slice_get_seam [] ys a = refl
slice_get_seam (x ∷ xs) ys a = slice_get_seam xs ys a

slice_get_left : {A : Type 0} (xs ys : List A) (i : ℕ) → i < length xs → slice_get (xs ++ ys) i ≡ slice_get xs i
slice_get_left [] ys i lt = absurd (omega arith)
slice_get_left (x ∷ xs) ys zero lt = refl
slice_get_left (x ∷ xs) ys (suc i) lt = slice_get_left xs ys i (omega arith)

module _ {T : Type 0} where
  -- an entry that is added at the end stands first
  pub listed-push : (es : List (Entry T)) (e : Entry T) → listed (es ++ e ∷ []) ≡ seen e ∷ listed es
  listed-push es e = ap (map seen) (reverse-append es (e ∷ []))

  pub length-listed : (es : List (Entry T)) → length (listed es) ≡ length es
  length-listed es = length-map (reverse es) seen ∙ length-reverse es

  pub position-cons : (name : List ℕ) (e : List ℕ × T) (es : List (List ℕ × T)) → position name (e ∷ es) ≡ cond (bytes_eq e.0 name) (Some (length es)) (position name es)
  position-cons name e es =
      elim (bytes_eq e.0 name) as (λ b. option_map (λ f. f.position) (cond b (let f : Option (Found T) = Some (record { meaning = e.1; position = length es }) in f) (latest name es)) ≡ cond b (Some (length es)) (position name es))
      [ true ↦ refl | false ↦ refl ]

  pub linked-push : (es : List (Entry T)) (e : Entry T) → IsLinked (reverse es) → e.hidden ≡ position e.name.now (listed es) → IsLinked (reverse (es ++ e ∷ []))
  linked-push es e linked hides = let P : List (Entry T) → Type 0 = λ rs. IsLinked rs in subst P (sym (reverse-append es (e ∷ []))) (hides, linked)

  pub linked-pop : (es : List (Entry T)) (e : Entry T) → IsLinked (reverse (es ++ e ∷ [])) → (e.hidden ≡ position e.name.now (listed es)) × IsLinked (reverse es)
  linked-pop es e linked = let P : List (Entry T) → Type 0 = λ rs. IsLinked rs in subst P (reverse-append es (e ∷ [])) linked

  pub indexed-push : {S : Type 0} (old new : HashMap Key ℕ S) (es : List (Entry T)) (e : Entry T) → IsIndexed old (listed es)
      → ((other : List ℕ) → get_by (λ k. bytes_eq other k.name.now) new ≡ cond (bytes_eq e.name.now other) (Some (length es)) (get_by (λ k. bytes_eq other k.name.now) old))
      → IsIndexed new (listed (es ++ e ∷ []))
  indexed-push old new es e indexed put other =
      put other ∙ ap (λ (n : ℕ). cond (bytes_eq e.name.now other) (Some n) (get_by (λ k. bytes_eq other k.name.now) old)) (sym (length-listed es))
      ∙ ap (cond (bytes_eq e.name.now other) (Some (length (listed es)))) (indexed other) ∙ sym (position-cons other (seen e) (listed es)) ∙ ap (position other) (sym (listed-push es e))

  pub indexed-pop : {S : Type 0} (old new : HashMap Key ℕ S) (es : List (Entry T)) (e : Entry T) → IsLinked (reverse (es ++ e ∷ [])) → IsIndexed old (listed (es ++ e ∷ []))
      → ((other : List ℕ) → get_by (λ k. bytes_eq other k.name.now) new ≡ cond (bytes_eq e.name.now other) e.hidden (get_by (λ k. bytes_eq other k.name.now) old))
      → IsIndexed new (listed es)
  indexed-pop old new es e linked indexed put other =
      let was : get_by (λ k. bytes_eq other k.name.now) old ≡ cond (bytes_eq e.name.now other) (Some (length (listed es))) (position other (listed es)) =
      indexed other ∙ ap (position other) (listed-push es e) ∙ position-cons other (seen e) (listed es) in
      let same : bytes_eq e.name.now other ≡ true → e.hidden ≡ position other (listed es) =
      λ is. (linked-pop es e linked).0 ∙ ap (λ n. position n (listed es)) ((bytes_eq-Decides e.name.now other).0 is) in
      put other ∙ same_name (bytes_eq e.name.now other) _ _ _ _ same was

  pub latest_is : {S : Type 0} (index : HashMap Key ℕ S) (es : List (Entry T)) (e : Entry T) → IsIndexed index (listed (es ++ e ∷ [])) → IsSome (get_by (λ k. bytes_eq e.name.now k.name.now) index)
  latest_is index es e indexed =
      let here : position e.name.now (listed (es ++ e ∷ [])) ≡ cond (bytes_eq e.name.now e.name.now) (Some (length (listed es))) (position e.name.now (listed es)) =
      ap (position e.name.now) (listed-push es e) ∙ position-cons e.name.now (seen e) (listed es) in
      some_at _ _ _ _ ((bytes_eq-Decides e.name.now e.name.now).1 refl) (indexed e.name.now ∙ here)

  -- an entry that is found stands at its position
  reverse-cons : (r : Entry T) (rs : List (Entry T)) → reverse (r ∷ rs) ≡ reverse rs ++ r ∷ []
  reverse-cons r rs = reverse-append (r ∷ []) rs

  -- the entry that an answer was taken from
  pub record IsFrom (es : List (Entry T)) (f : Found T) (e : Entry T) : Type 0 where
    pub stored : slice_get es f.position ≡ Some e
    pub means : e.meaning ≡ f.meaning

  abbrev at_case : List ℕ → Entry T → List (Entry T) → Found T → Bool → Type 0
  at_case name r rs f b = cond b (Some (record { meaning = r.meaning; position = length (map seen rs) })) (latest name (map seen rs)) ≡ Some f → (e : Entry T) × IsFrom (reverse (r ∷ rs)) f e

  stored_last : (r : Entry T) (rs : List (Entry T)) → slice_get (reverse (r ∷ rs)) (length (map seen rs)) ≡ Some r
  stored_last r rs =
      ap (λ n. slice_get (reverse (r ∷ rs)) n) (length-map rs seen ∙ sym (length-reverse rs)) ∙ ap (λ xs. slice_get xs (length (reverse rs))) (reverse-cons r rs) ∙ slice_get_seam (reverse rs) [] r

  pub stored : (name : List ℕ) (rs : List (Entry T)) (f : Found T) → latest name (map seen rs) ≡ Some f → (e : Entry T) × IsFrom (reverse rs) f e
  stored name [] f is = cc
  stored name (r ∷ rs) f is =
      let latest_here : at_case name r rs f true = λ here. (r, record { stored = (let same : length (map seen rs) ≡ f.position = cc in ap (slice_get (reverse (r ∷ rs))) (sym same) ∙ stored_last r rs); means = cc }) in
      let older_here : at_case name r rs f false =
      λ below. (let older = stored name rs f below in (older.0, record { stored = ap (λ xs. slice_get xs f.position) (reverse-cons r rs) ∙ slice_get_more (reverse rs) (r ∷ []) f.position older.0 older.1.stored; means = older.1.means })) in
      elim (bytes_eq r.name.now name) as (at_case name r rs f) [ true ↦ latest_here | false ↦ older_here ] is

  some_position : (o : Option (Found T)) (p : ℕ) → Some p ≡ option_map (λ f. f.position) o → (f : Found T) × ((o ≡ Some f) × (f.position ≡ p))
  some_position None p is = cc
  some_position (Some f) p is = (f, (refl, cc))

  no_position : (o : Option (Found T)) → None ≡ option_map (λ f. f.position) o → None ≡ o
  no_position None is = refl
  no_position (Some f) is = cc

  pub not_found : (name : List ℕ) (es : List (List ℕ × T)) → None ≡ position name es → None ≡ latest name es
  not_found name es is = no_position (latest name es) is

  pub found : (name : List ℕ) (es : List (Entry T)) (p : ℕ) → Some p ≡ position name (listed es)
      → (e : Entry T) × ((slice_get es p ≡ Some e) × (latest name (listed es) ≡ Some (record { meaning = e.meaning; position = p })))
  found name es p is =
      let f = some_position (latest name (listed es)) p is in
      let e = stored name (reverse es) f.0 f.1.0 in
      let at : slice_get es p ≡ Some e.0 = ap (λ n. slice_get es n) (sym f.1.1) ∙ ap (λ xs. slice_get xs f.0.position) (sym (reverse-reverse es)) ∙ e.1.stored in
      let same : f.0 ≡ record { meaning = e.0.meaning; position = p } = ap (λ m. let g : Found T = record { meaning = m; position = f.0.position } in g) (sym e.1.means) ∙ ap (λ n. let g : Found T = record { meaning = e.0.meaning; position = n } in g) f.1.1 in
      (e.0, (at, f.1.0 ∙ ap (λ g. Some g) same))

  pub found_within : (name : List ℕ) (es : List (Entry T)) (p : ℕ) → Some p ≡ position name (listed es) → p < length es
  found_within name es p is = let e = found name es p is in slice_get_within es p e.0 e.1.0

  pub found_there : (name : List ℕ) (es : List (Entry T)) (p : ℕ) (e : Entry T) → Some p ≡ position name (listed es) → e ≡ get_or es p e
      → Some (record { meaning = e.meaning; position = p }) ≡ latest name (listed es)
  found_there name es p e is there =
      let x = found name es p is in
      let same : e ≡ x.0 = there ∙ get_or_from_slice_get es p x.0 e x.1.0 in
      ap (λ (y : Entry T). let f : Option (Found T) = Some (record { meaning = y.meaning; position = p }) in f) same ∙ sym x.1.1

  -- an entry that stands for something else now
  abbrev replaced : ℕ → T → List (Entry T) → List (Entry T)
  replaced p m [] = []
  replaced p m (r ∷ rs) = cond (length rs == p) (record r { meaning = m } ∷ rs) (r ∷ replaced p m rs)

  set_last : (r e : Entry T) (rs : List (Entry T)) (p : ℕ) → length rs ≡ p → set (reverse (r ∷ rs)) p e ≡ reverse (e ∷ rs)
  set_last r e rs p at =
      ap (λ n. set (reverse (r ∷ rs)) n e) (sym at ∙ sym (length-reverse rs)) ∙ ap (λ xs. set xs (length (reverse rs)) e) (reverse-cons r rs) ∙ set-append_seam (reverse rs) r [] e ∙ sym (reverse-cons e rs)

  set_older : (r e : Entry T) (rs : List (Entry T)) (p : ℕ) → p < length rs → set (reverse (r ∷ rs)) p e ≡ set (reverse rs) p e ++ r ∷ []
  set_older r e rs p lt =
      let within : p < length (reverse rs) = omega (arith, length-reverse rs) in
      ap (λ xs. set xs p e) (reverse-cons r rs) ∙ set-append_left (reverse rs) (r ∷ []) p e within

  last_is : (r e : Entry T) (rs : List (Entry T)) (p : ℕ) → length rs ≡ p → slice_get (reverse (r ∷ rs)) p ≡ Some e → r ≡ e
  last_is r e rs p at is =
      let here : slice_get (reverse (r ∷ rs)) p ≡ Some r = ap (slice_get (reverse (r ∷ rs))) (sym at ∙ sym (length-map rs seen)) ∙ stored_last r rs in
      cc

  older_is : (r e : Entry T) (rs : List (Entry T)) (p : ℕ) → length rs ≢ p → slice_get (reverse (r ∷ rs)) p ≡ Some e → (p < length rs) × (slice_get (reverse rs) p ≡ Some e)
  older_is r e rs p apart is =
      let inside : p < length (reverse (r ∷ rs)) = slice_get_within (reverse (r ∷ rs)) p e is in
      let below : p < length rs = (let n : length (reverse (r ∷ rs)) ≡ suc (length rs) = length-reverse (r ∷ rs) in omega arith) in
      let within : p < length (reverse rs) = omega (arith, length-reverse rs) in
      (below, sym (slice_get_left (reverse rs) (r ∷ []) p within) ∙ ap (λ xs. slice_get xs p) (sym (reverse-cons r rs)) ∙ is)

  set_replaced : (rs : List (Entry T)) (p : ℕ) (m : T) (e : Entry T) → slice_get (reverse rs) p ≡ Some e → set (reverse rs) p (record e { meaning = m }) ≡ reverse (replaced p m rs)
  set_replaced [] p m e is = cc
  set_replaced (r ∷ rs) p m e is =
      let Goal : Bool → Type 0 = λ b. set (reverse (r ∷ rs)) p (record e { meaning = m }) ≡ reverse (cond b (record r { meaning = m } ∷ rs) (r ∷ replaced p m rs)) in
      elim (eqb_tells (length rs) p) [
        | inl here ↦
            subst Goal (sym here.0) (set_last r (record e { meaning = m }) rs p here.1 ∙ ap (λ x. let y : Entry T = x in reverse (record y { meaning = m } ∷ rs)) (sym (last_is r e rs p here.1 is)))
        | inr older ↦
            (let old = older_is r e rs p older.1 is in
            subst Goal (sym older.0) (set_older r (record e { meaning = m }) rs p old.0 ∙ ap (λ xs. xs ++ r ∷ []) (set_replaced rs p m e old.1) ∙ sym (reverse-cons r (replaced p m rs))))
      ]

  seen-replaced : (p : ℕ) (m : T) (rs : List (Entry T)) → map seen (replaced p m rs) ≡ changed p m (map seen rs)
  seen-replaced p m [] = refl
  seen-replaced p m (r ∷ rs) =
      let Goal : Bool → Type 0 = λ b. map seen (cond b (record r { meaning = m } ∷ rs) (r ∷ replaced p m rs)) ≡ cond b ((r.name.now, m) ∷ map seen rs) (seen r ∷ changed p m (map seen rs)) in
      let both : (b : Bool) → Goal b = λ b. elim b as Goal [ true ↦ refl | false ↦ ap (λ es. seen r ∷ es) (seen-replaced p m rs) ] in
      both (length rs == p) ∙ ap (λ n. cond (n == p) ((r.name.now, m) ∷ map seen rs) (seen r ∷ changed p m (map seen rs))) (sym (length-map rs seen))

  length-changed : (p : ℕ) (m : T) (es : List (List ℕ × T)) → length (changed p m es) ≡ length es
  length-changed p m [] = refl
  length-changed p m (e ∷ es) =
      elim (length es == p) as (λ b. length (cond b ((e.0, m) ∷ es) (e ∷ changed p m es)) ≡ suc (length es)) [ true ↦ refl | false ↦ ap suc (length-changed p m es) ]

  position-changed : (name : List ℕ) (p : ℕ) (m : T) (es : List (List ℕ × T)) → position name (changed p m es) ≡ position name es
  position-changed name p m [] = refl
  position-changed name p m (e ∷ es) =
      let Goal : Bool → Type 0 = λ b. position name (cond b ((e.0, m) ∷ es) (e ∷ changed p m es)) ≡ position name (e ∷ es) in
      elim (length es == p) as Goal [
        | true ↦ position-cons name (e.0, m) es ∙ sym (position-cons name e es)
        | false ↦
            position-cons name e (changed p m es) ∙ ap (λ n. cond (bytes_eq e.0 name) (Some n) (position name (changed p m es))) (length-changed p m es) ∙ ap (cond (bytes_eq e.0 name) (Some (length es))) (position-changed name p m es)
            ∙ sym (position-cons name e es)
      ]

  linked-replaced : (p : ℕ) (m : T) (rs : List (Entry T)) → IsLinked rs → IsLinked (replaced p m rs)
  linked-replaced p m [] linked = tt
  linked-replaced p m (r ∷ rs) linked =
      let Goal : Bool → Type 0 = λ b. IsLinked (cond b (record r { meaning = m } ∷ rs) (r ∷ replaced p m rs)) in
      elim (length rs == p) as Goal [
        | true ↦ linked
        | false ↦ (linked.0 ∙ sym (position-changed r.name.now p m (map seen rs)) ∙ ap (position r.name.now) (sym (seen-replaced p m rs)), linked-replaced p m rs linked.1)
      ]

  set_is : (es : List (Entry T)) (p : ℕ) (m : T) (e : Entry T) → slice_get es p ≡ Some e → reverse (set es p (record e { meaning = m })) ≡ replaced p m (reverse es)
  set_is es p m e is =
      ap (λ xs. reverse (set xs p (record e { meaning = m }))) (sym (reverse-reverse es))
      ∙ ap reverse (set_replaced (reverse es) p m e (ap (λ xs. slice_get xs p) (reverse-reverse es) ∙ is)) ∙ reverse-reverse (replaced p m (reverse es))

  pub listed-set : (es : List (Entry T)) (p : ℕ) (m : T) (e : Entry T) → slice_get es p ≡ Some e → listed (set es p (record e { meaning = m })) ≡ changed p m (listed es)
  listed-set es p m e is = ap (map seen) (set_is es p m e is) ∙ seen-replaced p m (reverse es)

  pub linked-set : (es : List (Entry T)) (p : ℕ) (m : T) (e : Entry T) → slice_get es p ≡ Some e → IsLinked (reverse es) → IsLinked (reverse (set es p (record e { meaning = m })))
  linked-set es p m e is linked = let P : List (Entry T) → Type 0 = λ rs. IsLinked rs in subst P (sym (set_is es p m e is)) (linked-replaced p m (reverse es) linked)

  pub indexed-changed : {S : Type 0} (index : HashMap Key ℕ S) (p : ℕ) (m : T) (es : List (List ℕ × T)) → IsIndexed index es → IsIndexed index (changed p m es)
  indexed-changed index p m es indexed name = indexed name ∙ sym (position-changed name p m es)

  pub changed-past : (p : ℕ) (m : T) (es : List (List ℕ × T)) → length es ≤ p → changed p m es ≡ es
  changed-past p m [] past = refl
  changed-past p m (e ∷ es) past =
      let Goal : Bool → Type 0 = λ b. cond b ((e.0, m) ∷ es) (e ∷ changed p m es) ≡ e ∷ es in
      elim (eqb_tells (length es) p) [
        | inl here ↦ absurd (let at : length es ≡ p = here.1 in omega arith)
        | inr older ↦ subst Goal (sym older.0) (ap (λ xs. e ∷ xs) (changed-past p m es (omega arith)))
      ]
