-- Tokens that tell of what kind a declaration is, by their steps.
use Rattle.std.proofs.Common.{◌≡◌, ℕ, Bool, true, false, List, if◌then◌else◌, Option, Some, None, Ok, Err, refl, ◌∙◌}
use Rattle.predictive_grammar.specs.Forms.{Form}
use Rattle.predictive_grammar.specs.Steps.{Outcome, Parser, and_then, ◌>>=◌, pure, LeftOut}
use Rattle.predictive_grammar.specs.Reading.{walk}
use Rattle.vala_lexer.specs.Tokens.{Lexeme}
use Rattle.vala_tree.specs.declared.member.Modifier.{Modifier}
use Rattle.vala_grammar.specs.declared.sort.Sort.{Sort}
use Rattle.vala_grammar.specs.Label.{Label}
use Rattle.vala_file_grammar.specs.Embed.{F}
use Rattle.vala_file_grammar.specs.Kinds.{sorted}
use Rattle.vala_file_grammar.specs.Parts.{FilePart}
use Rattle.vala_file_grammar.specs.Heads.{HeadKind, first_wrong, wrong_word}
use Rattle.vala_file_grammar.specs.Grammar.{where_told, where_right}
use Rattle.vala_parse.specs.Steps.{either, got, next, reads, way}
use Rattle.vala_parse.specs.Heads.{told, told_by}

-- a token or another way
taken_or : {A : Type 0} (b : Bool) (o : Outcome Label Lexeme Lexeme) (f : Lexeme → Parser Label Lexeme A) (g : Parser Label Lexeme A) (i : List Lexeme)
    → (if b then and_then o f else g i) ≡ and_then (if b then and_then o (λ t. pure (Some t)) else Ok (None, i)) (either f g)
taken_or true (Ok x) f g i = refl
taken_or true (Err e) f g i = refl
taken_or false o f g i = refl

wrong_or : {A : Type 0} (b : Bool) (e : Label) (f : Lexeme → Parser Label Lexeme A) (g : Parser Label Lexeme A) (i : List Lexeme)
    → (if b then Err (LeftOut e, i) else g i) ≡ and_then (if b then Err (LeftOut e, i) else Ok (None, i)) (either f g)
wrong_or true e f g i = refl
wrong_or false e f g i = refl

right_law : {r : FilePart} (h : HeadKind) (m : Option Modifier) (x : Sort) (k : Lexeme → Form F r) (other : Form F r) (l : ℕ) (i : List Lexeme)
    → reads (where_right h m x k other) l i ≡ (told_by h x l m >>= either (λ t. reads (k t) l) (reads other l)) i
unfolding walk got
right_law h None x k other l i = taken_or (next (sorted x) i) (got (sorted x) 0 l i) (λ t. reads (k t) l) (reads other l) i
right_law h (Some m) x k other l i = wrong_or (next (sorted x) i) (wrong_word h m) (λ t. reads (k t) l) (reads other l) i

pub told_law : {r : FilePart} (h : HeadKind) (ms : List Modifier) (x : Sort) (k : Lexeme → Form F r) (other : Form F r) (l : ℕ) (i : List Lexeme)
    → reads (where_told h ms x k other) l i ≡ (told h ms x l >>= either (λ t. reads (k t) l) (reads other l)) i
unfolding told
told_law h ms x k other l i = right_law h (first_wrong h ms) x k other l i

either_same : {A : Type 0} (o : Outcome Label Lexeme (Option Lexeme)) (f : Lexeme → Parser Label Lexeme A) (g h : Parser Label Lexeme A) → ((j : List Lexeme) → g j ≡ h j)
    → and_then o (either f g) ≡ and_then o (either f h)
either_same (Err e) f g h same = refl
either_same (Ok x) f g h same = go x.0
  where
    go : (v : Option Lexeme) → either f g v x.1 ≡ either f h v x.1
    go None = same x.1
    go (Some t) = refl

pub told_two : {r : FilePart} (ms : List Modifier) (h h' : HeadKind) (x x' : Sort) (k k' : Lexeme → Form F r) (other : Form F r) (l : ℕ) (i : List Lexeme)
    → reads (where_told h ms x k (where_told h' ms x' k' other)) l i
    ≡ (told h ms x l >>= either (λ t. reads (k t) l) (told h' ms x' l >>= either (λ t. reads (k' t) l) (reads other l))) i
told_two ms h h' x x' k k' other l i =
    told_law h ms x k (where_told h' ms x' k' other) l i
    ∙ either_same (told h ms x l i) (λ t. reads (k t) l) (reads (where_told h' ms x' k' other) l) (told h' ms x' l >>= either (λ t. reads (k' t) l) (reads other l)) (λ j. told_law h' ms x' k' other l j)

pub told_three : {r : FilePart} (ms : List Modifier) (h h' h'' : HeadKind) (x x' x'' : Sort) (k k' k'' : Lexeme → Form F r) (other : Form F r) (l : ℕ) (i : List Lexeme)
    → reads (where_told h ms x k (where_told h' ms x' k' (where_told h'' ms x'' k'' other))) l i
    ≡ (told h ms x l >>= either (λ t. reads (k t) l) (told h' ms x' l >>= either (λ t. reads (k' t) l) (told h'' ms x'' l >>= either (λ t. reads (k'' t) l) (reads other l)))) i
told_three ms h h' h'' x x' x'' k k' k'' other l i =
    told_law h ms x k (where_told h' ms x' k' (where_told h'' ms x'' k'' other)) l i
    ∙ either_same (told h ms x l i) (λ t. reads (k t) l) (reads (where_told h' ms x' k' (where_told h'' ms x'' k'' other)) l)
    (told h' ms x' l >>= either (λ t. reads (k' t) l) (told h'' ms x'' l >>= either (λ t. reads (k'' t) l) (reads other l))) (λ j. told_two ms h' h'' x' x'' k' k'' other l j)
