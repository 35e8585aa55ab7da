-- The texts of calls between a head and a tail are determined, and so is how a text is written between its quotes.
use Rattle.std.proofs.Common.{◌≡◌, ℕ, ◌+◌, ◌<◌, List, [], ◌∷◌, ◌++◌, length, take, drop, map, get_or, refl, sym, ap, ◌∙◌, append_assoc}
use Rattle.std.specs.List.{flat_map}
use Rattle.std.proofs.lemmas.List.{append_cancel_left, drop_more, map-append, take-append-drop}
use Rattle.vg_base.specs.Small.{token_of, call, calls_between, EndsCalls}
use Rattle.vg_base.specs.declared.small.Piece.{Piece}
use Rattle.vg_base.specs.declared.small.Token.{Token}
use Rattle.vg_base.specs.declared.small.Token.TheVariants.{Word, Sign, Text, Include}

-- no call of the function stands in front
abbrev pub NoCall : List ℕ → List Token → Type 0
NoCall name ts = (text : List ℕ) (rest : List Token) → ts ≡ call name text ++ rest → ⊥

no_call : (name : List ℕ) (ts : List Token) → EndsCalls name ts → NoCall name ts
no_call name [] h text rest e = cc
no_call name (Word w ∷ ts) h text rest e = h cc
no_call name (Sign b ∷ ts) h text rest e = cc
no_call name (Text t ∷ ts) h text rest e = cc
no_call name (Include ∷ ts) h text rest e = cc

-- the same tokens have the same calls in front
same_calls : (name : List ℕ) (xs ys : List (List ℕ)) (u v : List Token) → NoCall name u → NoCall name v → flat_map (call name) xs ++ u ≡ flat_map (call name) ys ++ v → (xs ≡ ys) × (u ≡ v)
same_calls name [] [] u v h k e = (refl, e)
same_calls name [] (y ∷ ys) u v h k e = absurd (h y (flat_map (call name) ys ++ v) e)
same_calls name (x ∷ xs) [] u v h k e = absurd (k x (flat_map (call name) xs ++ u) (sym e))
same_calls name (x ∷ xs) (y ∷ ys) u v h k e =
    let text : x ≡ y = cc in
    let behind : flat_map (call name) xs ++ u ≡ flat_map (call name) ys ++ v = cc in
    let r : (xs ≡ ys) × (u ≡ v) = same_calls name xs ys u v h k behind in
    (cc, r.1)

-- what stands behind the head
behind_head : (head tail : List Token) (name : List ℕ) (texts : List (List ℕ)) (left : List Token) → head ++ left ≡ calls_between head name tail texts → left ≡ flat_map (call name) texts ++ tail
behind_head head tail name texts left e = append_cancel_left head left (flat_map (call name) texts ++ tail) (e ∙ append_assoc head (flat_map (call name) texts) tail)

pub one_list_of_texts : (head tail : List Token) (name : List ℕ) (xs ys : List (List ℕ)) → EndsCalls name tail → calls_between head name tail xs ≡ calls_between head name tail ys → xs ≡ ys
one_list_of_texts head tail name xs ys h e =
    let ends : NoCall name tail = no_call name tail h in
    let behind : flat_map (call name) xs ++ tail ≡ flat_map (call name) ys ++ tail = behind_head head tail name ys (flat_map (call name) xs ++ tail) (sym (append_assoc head (flat_map (call name) xs) tail) ∙ e) in
    (same_calls name xs ys tail tail ends ends behind).0

-- where what is left is no call and no tail, there are no such texts
pub no_texts : (tokens head tail : List Token) (name : List ℕ) (found : List (List ℕ)) (left : List Token) → EndsCalls name tail → tokens ≡ head ++ (flat_map (call name) found ++ left) → NoCall name left
    → (left ≡ tail → ⊥) → (texts : List (List ℕ)) → tokens ≡ calls_between head name tail texts → ⊥
no_texts tokens head tail name found left h e none other texts k =
    let behind : flat_map (call name) found ++ left ≡ flat_map (call name) texts ++ tail = behind_head head tail name texts (flat_map (call name) found ++ left) (sym e ∙ k) in
    other (same_calls name found texts left tail none (no_call name tail h) behind).1

-- where the next piece is not next, the pieces are not in front
pub other_piece : (tokens : List Token) (pieces : List Piece) (i : ℕ) (p : Piece) (left : List Token) → tokens ≡ map token_of (take i pieces) ++ left → i < length pieces
    → ((after : List Token) → left ≡ token_of (get_or pieces i p) ∷ after → ⊥) → (rest : List Token) → tokens ≡ map token_of pieces ++ rest → ⊥
other_piece tokens pieces i p left e within other rest k =
    let front : List Token = map token_of (take i pieces) in
    let split : map token_of pieces ≡ front ++ map token_of (drop i pieces) = ap (map token_of) (sym (take-append-drop i pieces)) ∙ map-append token_of (take i pieces) (drop i pieces) in
    let next : map token_of (drop i pieces) ≡ token_of (get_or pieces i p) ∷ map token_of (drop (i + 1) pieces) = ap (map token_of) (drop_more pieces i p within) in
    let whole : front ++ left ≡ front ++ (map token_of (drop i pieces) ++ rest) = sym e ∙ k ∙ ap (λ x. x ++ rest) split ∙ append_assoc front (map token_of (drop i pieces)) rest in
    other (map token_of (drop (i + 1) pieces) ++ rest) (append_cancel_left front left (map token_of (drop i pieces) ++ rest) whole ∙ ap (λ x. x ++ rest) next)
