-- Files by their steps.
use Rattle.std.proofs.Common.{◌≡◌, ℕ, List, [], ◌∷◌, ◌++◌}
use Rattle.predictive_grammar.specs.Steps.{◌>>=◌, pure}
use Rattle.predictive_grammar.specs.Reading.{walk}
use Rattle.vala_lexer.specs.Tokens.{Lexeme}
use Rattle.vala_tree.specs.declared.names.NameTree.{NameTree}
use Rattle.vala_tree.specs.declared.member.Member.{Member}
use Rattle.vala_grammar.specs.declared.sort.Sort.TheVariants as s
use Rattle.vala_grammar.specs.Parts as c
use Rattle.vala_file_grammar.specs.Kinds.{sorted}
use Rattle.vala_file_grammar.specs.Parts as p
use Rattle.vala_file_grammar.specs.Grammar.{forms, begins_member, is_left_out}
use Rattle.vala_file_grammar.specs.Read.{file_reader}
use Rattle.vala_parse.specs.Steps.{got, leave, one, way}
use Rattle.vala_parse.proofs.Unfolds.{law}

pub file_law : (l : ℕ) (i : List Lexeme) → file_reader p.File l i ≡ (file_reader (p.Usings []) l >>= pure) i
unfolding walk forms
file_law l i = law p.File l i

pub usings_law : (us : List NameTree) (l : ℕ) (i : List Lexeme) → file_reader (p.Usings us) l i
    ≡ way (sorted s.Using) (one s.Using l >>= λ t. file_reader (p.Code c.Name) l >>= λ n. file_reader (p.MoreUsings (us ++ n ∷ [])) l >>= pure) (file_reader (p.FileMembers us []) l >>= pure) i
unfolding walk forms got
usings_law us l i = law (p.Usings us) l i

pub more_usings_law : (us : List NameTree) (l : ℕ) (i : List Lexeme) → file_reader (p.MoreUsings us) l i
    ≡ way (sorted s.Comma) (one s.Comma l >>= λ t. file_reader (p.Code c.Name) l >>= λ n. file_reader (p.MoreUsings (us ++ n ∷ [])) l >>= pure)
    (one s.Semicolon l >>= λ z. file_reader (p.Usings us) l >>= pure) i
unfolding walk forms got
more_usings_law us l i = law (p.MoreUsings us) l i

pub file_members_law : (us : List NameTree) (ms : List Member) (l : ℕ) (i : List Lexeme) → file_reader (p.FileMembers us ms) l i
    ≡ way (is_left_out p.Outside) leave (way (begins_member p.Outside) (file_reader (p.MemberOf p.Outside) l >>= λ m. file_reader (p.FileMembers us (ms ++ m ∷ [])) l >>= pure)
    (pure (record { usings = us; members = ms }))) i
unfolding walk forms
file_members_law us ms l i = law (p.FileMembers us ms) l i
