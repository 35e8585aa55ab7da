-- The walk over the words of a name.
use Rattle.std.proofs.Common.{◌≡◌, ◌∙◌, refl, sym, ap, ℕ, ◌+◌, ◌<◌, ◌≤◌, List, [], ◌∷◌, length, drop, get_or, slice_get, Result, Ok, Err, arith}
use Rattle.std.proofs.lemmas.List.{drop_more, drop_all}
use Rattle.static_rules.specs.declared.rules.Refusal.{Refusal}
use Rattle.static_rules.specs.declared.rules.Rule.{Rule}
use Rattle.vala_tree.specs.declared.names.Identifier.{Identifier}
use Rattle.symbols.specs.declared.table.Names.{Names}
use Rattle.symbols.specs.Search.{member_answer, as_refusal}
use Rattle.symbols.specs.Types.{members_told, refused}

module _ (ns : Names) (scope : ℕ) where
  step : (words : List Identifier) (i n : ℕ) (d : Identifier) (o : Result ℕ Refusal) (r : Result ℕ Rule) → i < length words → member_answer ns scope (get_or words i d) (slice_get ns.symbols n) ≡ r → o ≡ members_told ns scope (drop i words) (Ok n) → o ≡ members_told ns scope (drop (i + 1) words) (as_refusal (get_or words i d).span r)
  step words i n d o r h e k =
      let cut : drop i words ≡ get_or words i d ∷ drop (i + 1) words = drop_more words i d h in
      k ∙ ap (λ z. members_told ns scope z (Ok n)) cut ∙ ap (λ a. members_told ns scope (drop (i + 1) words) (as_refusal (get_or words i d).span a)) e

  pub next_word : (words : List Identifier) (i n m : ℕ) (d : Identifier) (o : Result ℕ Refusal) → i < length words → member_answer ns scope (get_or words i d) (slice_get ns.symbols n) ≡ Ok m → o ≡ members_told ns scope (drop i words) (Ok n) → o ≡ members_told ns scope (drop (i + 1) words) (Ok m)
  next_word words i n m d o h e k = step words i n d o (Ok m) h e k

  told_err : (words : List Identifier) (f : Refusal) → members_told ns scope words (Err f) ≡ Err f
  told_err [] f = refl
  told_err (x ∷ xs) f = refl

  pub word_refused : (words : List Identifier) (i n : ℕ) (r : Rule) (d : Identifier) (o : Result ℕ Refusal) → i < length words → member_answer ns scope (get_or words i d) (slice_get ns.symbols n) ≡ Err r → o ≡ members_told ns scope (drop i words) (Ok n) → Err (refused r (get_or words i d).span) ≡ o
  word_refused words i n r d o h e k = sym (step words i n d o (Err r) h e k ∙ told_err (drop (i + 1) words) (refused r (get_or words i d).span))

  pub no_word : (words : List Identifier) (i n : ℕ) (o : Result ℕ Refusal) → length words ≤ i → o ≡ members_told ns scope (drop i words) (Ok n) → Ok n ≡ o
  no_word words i n o h k = sym (k ∙ ap (λ z. members_told ns scope z (Ok n)) (drop_all i words h))
