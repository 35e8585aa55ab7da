-- The tokens of bytes begin one behind another, also where the name of an included file is one.
use Rattle.std.proofs.Common.{ℕ, zero, suc, ◌-◌, ◌≤◌, List, [], ◌∷◌, length, drop, Option, Some, None, arith}
use Rattle.c_lexer.specs.declared.token.BadToken.{BadToken}
use Rattle.c_lexer.specs.Laws.{Covers, last, stopped, next}
use Rattle.c_lexer.specs.Tokens.{Left, Lexeme, Tokens, all_of}
use Rattle.c_tree.specs.Words.{Named, Behind, Other, Hash, IncludeWord, Inside, then_behind, file_behind, words_by, words_behind, words}
use Rattle.c_places.proofs.Picks.{Rising}

-- from a place on, tokens of a text begin one behind another
abbrev Rows : ℕ → List Lexeme → Type 0
Rows from [] = Unit {0}
Rows from (t ∷ ts) = (from ≤ t.start) × Rows (suc t.start) ts

rows_from : (at from : ℕ) (ts : List Lexeme) → from ≤ at → Rows at ts → Rows from ts
rows_from at from [] h g = tt
rows_from at from (t ∷ ts) h g = (omega (arith, h, g.0), g.1)

covered_rows : {at : ℕ} {z : List ℕ} {ts : List Lexeme} {o : Option BadToken} → Covers at z ts o → Rows at ts
covered_rows (last w b) = tt
covered_rows (stopped w z b c) = tt
covered_rows (next w rest t {ts} b l s e f more) = (omega (arith, s), rows_from t.end (suc t.start) ts (omega (arith, e, l.some)) (covered_rows more))

rising_by : (o : Option Named) (b : Behind) (t : Lexeme) (ts : List Lexeme) (from : ℕ) → from ≤ t.start
    → ((c : Behind) → Rising (suc t.start) (words_behind c ts)) → Rising from (words_by o b t ts (λ c. words_behind c ts))
rising_by None b t ts from h more = (h, more (then_behind b t))
rising_by (Some n) b t ts from h more = (h, more (Inside (n.tokens - 1)))

words_rise : (b : Behind) (from : ℕ) (ts : List Lexeme) → Rows from ts → Rising from (words_behind b ts)
words_rise Other from [] g = tt
words_rise Hash from [] g = tt
words_rise IncludeWord from [] g = tt
words_rise (Inside zero) from [] g = tt
words_rise (Inside (suc n)) from [] g = tt
words_rise (Inside (suc n)) from (t ∷ ts) g = words_rise (Inside n) from ts (rows_from (suc t.start) from ts (omega (arith, g.0)) g.1)
words_rise (Inside zero) from (t ∷ ts) g = rising_by (file_behind (Inside 0) t ts) (Inside 0) t ts from g.0 (λ c. words_rise c (suc t.start) ts g.1)
words_rise Other from (t ∷ ts) g = rising_by (file_behind Other t ts) Other t ts from g.0 (λ c. words_rise c (suc t.start) ts g.1)
words_rise Hash from (t ∷ ts) g = rising_by (file_behind Hash t ts) Hash t ts from g.0 (λ c. words_rise c (suc t.start) ts g.1)
words_rise IncludeWord from (t ∷ ts) g = rising_by (file_behind IncludeWord t ts) IncludeWord t ts from g.0 (λ c. words_rise c (suc t.start) ts g.1)

-- that tokens cover bytes
abbrev pub TokensCover : Type 0
TokensCover = (l : Left) (ts : List Lexeme) (o : Option BadToken) → l.at ≤ length l.bytes → Tokens l ts o → Covers l.at (drop l.at l.bytes) ts o

pub tokens_rise : TokensCover → (bytes : List ℕ) (ts : List Lexeme) (o : Option BadToken) → Tokens (all_of bytes) ts o → Rising 0 (words ts)
tokens_rise covered bytes ts o tokens = words_rise Other 0 ts (covered_rows (covered (all_of bytes) ts o (omega arith) tokens))
