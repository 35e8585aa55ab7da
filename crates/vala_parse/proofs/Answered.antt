-- What the reader of a file gives is what its bytes answer.
use Rattle.std.proofs.Common.{◌≡◌, ℕ, ◌<◌, ◌≤◌, true, false, List, [], length, Option, Some, None, Result, Ok, Err, refl, sym, ap, subst, ◌∙◌, true≢false}
use Rattle.vg_base.specs.declared.event.Span.{Span}
use Rattle.vg_base.specs.declared.event.Fault.{Fault}
use Rattle.static_rules.specs.declared.rules.Refusal.{Refusal}
use Rattle.predictive_grammar.specs.Steps.{Outcome}
use Rattle.predictive_grammar.specs.Exact.{Answers}
use Rattle.predictive_grammar.proofs.Main as main
use Rattle.vala_lexer.specs.Tokens.{Left, Lexeme, Answer, Tokens, next_of, left, all_of}
use Rattle.vala_lexer.specs.declared.cursor.Lexer.{Lexer}
use Rattle.vala_tree.specs.declared.member.FileTree.{FileTree}
use Rattle.vala_grammar.specs.Label.{Label}
use Rattle.vala_grammar.specs.Answer.{limits}
use Rattle.vala_file_grammar.specs.Trees.{FileText}
use Rattle.vala_file_grammar.specs.Parts.{File}
use Rattle.vala_file_grammar.specs.Embed.{F}
use Rattle.vala_file_grammar.specs.Grammar.{forms}
use Rattle.vala_file_grammar.specs.Tables.{tables}
use Rattle.vala_file_grammar.specs.Read.{file_reader}
use Rattle.vala_file_grammar.specs.FileAnswer.{AnswersFile, Says, IsFile, file_tree, file, broken, too_long, faulty, most_bytes, too_large, many, few}
use Rattle.vala_file_grammar.specs.FileAnswer as answer
use Rattle.vala_cursor.specs.declared.stop.Flaw.{Flaw}
use Rattle.vala_cursor.specs.declared.stop.Flaw.TheVariants as flaw
use Rattle.vala_cursor.specs.declared.stop.Stop.{Stop}
use Rattle.vala_cursor.specs.declared.stop.Stop.TheVariants.{Memory, Flawed}
use Rattle.vala_cursor.specs.Gets.{Gives, fault_of}
use Rattle.vala_cursor.specs.Parsed.{refused, refused_by, last_of}
use Rattle.vala_cursor.specs.Rest.{tokens_of, stop_of}
use Rattle.vala_cursor.proofs.Left.{tokens_next, tokens_end, tokens_broken, stop_end, stop_broken, all_tokens}
use Rattle.vala_cursor.proofs.Refused.{refused_is}
use Rattle.vala_parse.specs.Files.{is_end}
use Rattle.vala_file_grammar.proofs.Predictive.{predictive}

module _ (old new : Left) (kept : stop_of new ≡ stop_of old) where
  exact : (o : Outcome Label Lexeme FileText) → file_reader File 0 (tokens_of old) ≡ o → Answers F forms File 0 limits (tokens_of old) o
  exact o e = subst (λ (x : Outcome Label Lexeme FileText). Answers F forms File 0 limits (tokens_of old) x) e (main.answers F forms tables predictive File 0 limits (tokens_of old))

  found : (a : FileText) (rest : List Lexeme) → tokens_of new ≡ rest → file_reader File 0 (tokens_of old) ≡ Ok (a, tokens_of new) → IsFile (tokens_of old) a rest
  found a rest r e = subst (λ (i : List Lexeme). IsFile (tokens_of old) a i) r (exact (Ok (a, tokens_of new)) e)

  -- where nothing is left, the tree
  ends : (a : FileText) → file_reader File 0 (tokens_of old) ≡ Ok (a, tokens_of new) → next_of new ≡ Ok None → Says old (tokens_of old) (stop_of old) (Ok (file_tree a (tokens_of old)))
  ends a e n =
      subst (λ (o : Option Refusal). Says old (tokens_of old) o (Ok (file_tree a (tokens_of old)))) (sym (stop_end new n) ∙ kept)
      (file a (found a [] (tokens_end new n) e))

  -- where something is, the refusal of what it is
  goes_on : (a : FileText) → file_reader File 0 (tokens_of old) ≡ Ok (a, tokens_of new) → (x : Answer) → next_of new ≡ x → is_end x ≡ false
      → Says old (tokens_of old) (stop_of old) (Err (refused_by flaw.Syntax (last_of old) x))
  goes_on a e (Ok None) n some = absurd (true≢false some)
  goes_on a e (Ok (Some t)) n some = too_long (stop_of old) a t _ (found a _ (tokens_next new t n) e)
  goes_on a e (Err r) n some =
      subst (λ (o : Option Refusal). Says old (tokens_of old) o (Err r)) (sym (stop_broken new r n) ∙ kept) (broken r a (found a [] (tokens_broken new r n) e))

  -- where no file goes on, the refusal of that
  breaks : (f : Flaw) → file_reader File 0 (tokens_of old) ≡ Err (fault_of f, tokens_of new) → Says old (tokens_of old) (stop_of old) (Err (refused_by f (last_of old) (next_of new)))
  breaks f e =
      subst (λ (r : Refusal). Says old (tokens_of old) (stop_of old) (Err r)) (sym (refused_is old new (tokens_of old) (stop_of old) (all_tokens old) kept f (next_of new) refl))
      (faulty (stop_of old) (fault_of f) (tokens_of new) (exact (Err (fault_of f, tokens_of new)) e))

-- of the bytes of a file

abbrev Told : Left → Result FileTree Refusal → Type 0
Told l x = (ts : List Lexeme) × (o : Option Refusal) × Tokens l ts o × Says l ts o x

told : (l : Left) (x : Result FileTree Refusal) → Says l (tokens_of l) (stop_of l) x → Told l x
told l x says = (tokens_of l, stop_of l, all_tokens l, says)

module _ (bytes : List ℕ) (number : ℕ) (start front new : Lexer) (starts : left start ≡ all_of bytes number) (same : front ≡ start) (small : length bytes ≤ most_bytes) (kept : stop_of (left new) ≡ stop_of (left front)) where
  at_bytes : (x : Result FileTree Refusal) → Told (left front) x → answer.Answers bytes number x
  at_bytes x t = let u = subst (λ (l : Left). Told l x) (ap left same ∙ starts) t in few u.0 u.1 x small u.2 u.3

  same_last : (last : Span) → last ≡ last_of (left start) → last ≡ last_of (left front)
  same_last last l = l ∙ ap (λ (x : Lexer). last_of (left x)) (sym same)

  at_end : (x : Answer) → is_end x ≡ true → x ≡ Ok None
  at_end (Ok None) e = refl
  at_end (Ok (Some t)) e = absurd (true≢false (sym e))
  at_end (Err r) e = absurd (true≢false (sym e))

  pub answers_tree : (a : FileText) (count : ℕ) → file_reader File 0 (tokens_of (left front)) ≡ Ok (a, tokens_of (left new)) → is_end (next_of (left new)) ≡ true → count ≡ length (tokens_of (left start))
      → AnswersFile bytes number (Ok (record { usings = a.usings; members = a.members; tokens = count }))
  answers_tree a count e n c =
      subst (λ (k : ℕ). answer.Answers bytes number (Ok (record { usings = a.usings; members = a.members; tokens = k }))) (ap (λ (x : Lexer). length (tokens_of (left x))) same ∙ sym c)
      (at_bytes (Ok (file_tree a (tokens_of (left front)))) (told (left front) (Ok (file_tree a (tokens_of (left front)))) (ends (left front) (left new) kept a e (at_end (next_of (left new)) n))))

  pub answers_more : (a : FileText) (last : Span) (r : Fault Refusal) → file_reader File 0 (tokens_of (left front)) ≡ Ok (a, tokens_of (left new))
      → is_end (next_of (left new)) ≡ false → last ≡ last_of (left start) → r ≡ refused (Flawed flaw.Syntax) last (next_of (left new)) → AnswersFile bytes number (Err r)
  answers_more a last r e some l is =
      subst (λ (z : Fault Refusal). AnswersFile bytes number (Err z)) (sym (is ∙ ap (λ (z : Span). refused (Flawed flaw.Syntax) z (next_of (left new))) (same_last last l)))
      (at_bytes (Err (refused_by flaw.Syntax (last_of (left front)) (next_of (left new)))) (told (left front) (Err (refused_by flaw.Syntax (last_of (left front)) (next_of (left new))))
      (goes_on (left front) (left new) kept a e (next_of (left new)) refl some)))

  by_stop : {X : Type 0} (view : X → FileText) (stop : Stop) → Gives view (file_reader File 0 (tokens_of (left front))) (Err stop) (tokens_of (left new))
      → AnswersFile bytes number (Err (refused stop (last_of (left front)) (next_of (left new))))
  by_stop view Memory e = tt
  by_stop view (Flawed f) e =
      at_bytes (Err (refused_by f (last_of (left front)) (next_of (left new)))) (told (left front) (Err (refused_by f (last_of (left front)) (next_of (left new)))) (breaks (left front) (left new) kept f e))

  pub answers_fault : {X : Type 0} (view : X → FileText) (stop : Stop) (last : Span) (r : Fault Refusal) → Gives view (file_reader File 0 (tokens_of (left front))) (Err stop) (tokens_of (left new))
      → last ≡ last_of (left start) → r ≡ refused stop last (next_of (left new)) → AnswersFile bytes number (Err r)
  answers_fault view stop last r e l is =
      subst (λ (z : Fault Refusal). AnswersFile bytes number (Err z)) (sym (is ∙ ap (λ (z : Span). refused stop z (next_of (left new))) (same_last last l))) (by_stop view stop e)

pub answers_many : (bytes : List ℕ) (number : ℕ) → most_bytes < length bytes → answer.Answers bytes number (Err (too_large number))
answers_many bytes number h = many h
