-- A form of one grammar as one of a wider grammar, whose kinds say more of a token.
use Rattle.predictive_grammar.specs.Forms.{Form, give, take, part, pick, bar}
use Rattle.vala_lexer.specs.Tokens.{Lexeme}
use Rattle.vala_grammar.specs.Label.{Label}
use Rattle.vala_grammar.specs.Parts.{Part}
use Rattle.vala_grammar.specs.Grammar.{G}
use Rattle.predictive_grammar.specs.Forms.{Signature}
use Rattle.vala_file_grammar.specs.Kinds.{Kind, kind, of_sort}
use Rattle.vala_file_grammar.specs.Parts.{FilePart, Code, file_tree_of}

abbrev pub F : Signature
F = record { Token = Lexeme; Kind = Kind; kind = kind; Part = FilePart; Tree = file_tree_of; Label = Label }

abbrev pub embed : {r : Part} → Form G r → Form F (Code r)
embed (give a) = give a
embed (take up items test k) = take up items (of_sort test) (λ t. embed (k t))
embed (part up q k) = part up (Code q) (λ b. embed (k b))
embed (pick test a b) = pick (of_sort test) (embed a) (embed b)
embed (bar left e k) = bar (of_sort left) e (embed k)
