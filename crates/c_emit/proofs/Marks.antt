-- What is written of the unit of a program: its head, its calls, and what stands behind them.
use Rattle.std.proofs.Common.{◌≡◌, ◌∙◌, refl, sym, ap, subst, ℕ, List, [], ◌∷◌, ◌++◌, map, codes, Some, append_assoc, append-nil, arith}
use Rattle.c_lexer.specs.declared.token.NumberType.TheVariants.{Gint}
use Rattle.c_lexer.specs.declared.token.Keyword.TheVariants as keyword
use Rattle.c_lexer.specs.declared.token.Sign.TheVariants as sign
use Rattle.c_tree.specs.declared.code.Expr.{Expr}
use Rattle.c_tree.specs.declared.code.Shape.{Shape, out-Shape}
use Rattle.c_tree.specs.declared.code.Shape.TheVariants as shape
use Rattle.c_tree.specs.declared.code.Shape.TheOpen.{Shape-F}
use Rattle.c_tree.specs.declared.code.Shape.TheFolds.{fold-Shape, fold-Suffix, fold-Choice, fold-Link, fold_out-Expr, fold_out-Shape, map-Shape}
use Rattle.c_tree.specs.declared.code.Suffix.{Suffix}
use Rattle.c_tree.specs.declared.code.Choice.{Choice}
use Rattle.c_tree.specs.declared.code.Link.{Link}
use Rattle.c_tree.specs.declared.code.Stmt.TheOpen.{Stmt-F}
use Rattle.c_tree.specs.declared.unit.Include.TheVariants as include
use Rattle.c_tree.specs.Bare.{nowhere}
use Rattle.c_printer.specs.declared.grade.Brackets.TheVariants.{Clear}
use Rattle.c_printer.specs.Marks.{Marks, Name, AKeyword, Number, Chars, ASign, Space, Line}
use Rattle.c_printer.specs.Put.{AreBytes}
use Rattle.c_printer.specs.PutItems.{include_marks, signature_marks, unit_marks}
use Rattle.c_printer.specs.PutStatements.{Indented, block_marks, stmt_marks, lines, close_marks}
use Rattle.c_printer.specs.PutValues.{Printed, PrintedLink, print_shape, print_suffix, print_choice, print_expr, print_link, printed, value_marks, placed}
use Rattle.c_printer.specs.declared.grade.Place.TheVariants.{Anywhere}
use Rattle.c_printer.specs.Writable.{IsWritable, AreWritable}
use Rattle.c_printer.proofs.StatementReading.{stmt_written, block_written}
use Rattle.c_emit.specs.Program.{Program as Texts, IsText, AreTexts}
use Rattle.c_emit.specs.Emission.{format_of, value, main_signature, main_body, print_call, print_stmt, return_zero, unit_of}
use Rattle.c_emit.proofs.Formats.{format_text}

-- 1. The marks

-- what stands behind the calls
abbrev pub tail_marks : Marks
tail_marks = Line 4 ∷ AKeyword keyword.Return ∷ Space ∷ Number 0 Gint ∷ ASign sign.Semicolon ∷ Line 0 ∷ ASign sign.CloseBrace ∷ Line 0 ∷ []

-- `g_print ("TEXT");` on a line
abbrev pub call_line : List ℕ → Marks → Marks
call_line format ms = Line 4 ∷ Name (codes "g_print") ∷ Space ∷ ASign sign.OpenParen ∷ Chars format ∷ ASign sign.CloseParen ∷ ASign sign.Semicolon ∷ ms

-- the calls, and what stands behind them
abbrev pub calls_marks : Texts → Marks
calls_marks [] = tail_marks
calls_marks (text ∷ texts) = call_line (format_of text) (calls_marks texts)

-- what stands in front of the calls
abbrev pub head_before : Marks → Marks
head_before ms = include_marks include.Glib ++ Line 0 ∷ Line 0 ∷ signature_marks main_signature ++ Line 0 ∷ ASign sign.OpenBrace ∷ ms

-- 2. They are what is written

-- the values that are written, one level down
abbrev shape_printed : Shape → Printed
shape_printed = fold-Shape Printed Marks Marks Printed PrintedLink (print_shape Clear) (print_suffix Clear) (print_choice Clear) print_expr (print_link Clear)

abbrev layer : Shape-F Shape Suffix Choice Expr Link → Shape-F Printed Marks Marks Printed PrintedLink
layer =
    map-Shape Shape Suffix Choice Expr Link Printed Marks Marks Printed PrintedLink shape_printed
    (fold-Suffix Printed Marks Marks Printed PrintedLink (print_shape Clear) (print_suffix Clear) (print_choice Clear) print_expr (print_link Clear))
    (fold-Choice Printed Marks Marks Printed PrintedLink (print_shape Clear) (print_suffix Clear) (print_choice Clear) print_expr (print_link Clear))
    (printed Clear)
    (fold-Link Printed Marks Marks Printed PrintedLink (print_shape Clear) (print_suffix Clear) (print_choice Clear) print_expr (print_link Clear))

value_level : (s : Shape) → printed Clear (value s) ≡ print_shape Clear (layer (out-Shape s))
value_level s =
    fold_out-Expr Printed Marks Marks Printed PrintedLink (print_shape Clear) (print_suffix Clear) (print_choice Clear) print_expr (print_link Clear) (value s)
    ∙ fold_out-Shape Printed Marks Marks Printed PrintedLink (print_shape Clear) (print_suffix Clear) (print_choice Clear) print_expr (print_link Clear) s

text_out : (bytes : List ℕ) → print_shape Clear (layer (out-Shape (shape.Text bytes))) ≡ print_shape Clear (Shape-F.Text bytes)
unfolding out-Shape denote.Hole.Carrier.out
text_out bytes = refl

zero_out : print_shape Clear (layer (out-Shape (shape.Number (record { value = 0; kind = Gint })))) ≡ print_shape Clear
    (Shape-F.Number (record { value = 0; kind = Gint }))
unfolding out-Shape denote.Hole.Carrier.out
zero_out = refl

text_marks : (bytes : List ℕ) → value_marks Clear (value (shape.Text bytes)) ≡ Chars bytes ∷ []
text_marks bytes = ap (placed Clear Anywhere) (value_level (shape.Text bytes) ∙ text_out bytes)

zero_marks : value_marks Clear (value (shape.Number (record { value = 0; kind = Gint }))) ≡ Number 0 Gint ∷ []
zero_marks = ap (placed Clear Anywhere) (value_level (shape.Number (record { value = 0; kind = Gint })) ∙ zero_out)

call_written : (text : List ℕ) (ms : Marks) → Line 4 ∷ stmt_marks Clear (print_stmt text) 4 ++ ms ≡ call_line (format_of text) ms
call_written text ms =
    ap (λ (m : Indented). Line 4 ∷ m 4 ++ ms) (stmt_written Clear (Stmt-F.Call (print_call text)))
    ∙ ap (λ (v : Marks). Line 4 ∷
    ((Name (codes "g_print") ∷ Space ∷ ASign sign.OpenParen ∷ (v ++ []) ++ ASign sign.CloseParen ∷ []) ++ ASign sign.Semicolon ∷ []) ++ ms)
    (text_marks (format_of text))

return_written : (ms : Marks)
    → Line 4 ∷ stmt_marks Clear return_zero 4 ++ ms ≡ Line 4 ∷ AKeyword keyword.Return ∷ Space ∷ Number 0 Gint ∷ ASign sign.Semicolon ∷ ms
return_written ms =
    ap (λ (m : Indented). Line 4 ∷ m 4 ++ ms) (stmt_written Clear (Stmt-F.Return nowhere (Some (value (shape.Number (record { value = 0; kind = Gint }))))))
    ∙ ap (λ (v : Marks). Line 4 ∷ ((AKeyword keyword.Return ∷ Space ∷ v) ++ ASign sign.Semicolon ∷ []) ++ ms) zero_marks

abbrev behind_body : Marks
behind_body = Line 0 ∷ ASign sign.CloseBrace ∷ Line 0 ∷ []

body_written : (texts : Texts) → lines 4 (map (stmt_marks Clear) (map print_stmt texts ++ return_zero ∷ [])) ++ behind_body ≡ calls_marks texts
body_written [] = ap (λ (m : Marks). m ++ behind_body) (return_written [])
body_written (text ∷ texts) =
    append_assoc (Line 4 ∷ stmt_marks Clear (print_stmt text) 4) (lines 4 (map (stmt_marks Clear) (map print_stmt texts ++ return_zero ∷ []))) behind_body
    ∙ call_written text (lines 4 (map (stmt_marks Clear) (map print_stmt texts ++ return_zero ∷ [])) ++ behind_body)
    ∙ ap (call_line (format_of text)) (body_written texts)

abbrev behind_head : Marks → Marks
behind_head ms = include_marks include.Glib ++ Line 0 ∷ Line 0 ∷ signature_marks main_signature ++ Line 0 ∷ ms

pub unit_written : (texts : Texts) → unit_marks Clear (unit_of texts) ≡ head_before (calls_marks texts)
unit_written texts =
    ap (λ (m : Marks). behind_head (m ++ Line 0 ∷ [])) (append-nil (block_marks Clear (main_body texts) 0))
    ∙ ap (λ (m : Indented). behind_head (m 0 ++ Line 0 ∷ [])) (block_written Clear [] (map print_stmt texts ++ return_zero ∷ []) nowhere)
    ∙ ap head_before (append_assoc (lines 4 (map (stmt_marks Clear) (map print_stmt texts ++ return_zero ∷ []))) (close_marks 0) (Line 0 ∷ [])
    ∙ body_written texts)

-- 3. They can be written

pub are_bytes : (bytes : List ℕ) → IsText bytes → AreBytes bytes
are_bytes [] h = tt
are_bytes (b ∷ bs) h = (h.0.1, are_bytes bs h.1)

g_print_word : IsWritable (Name (codes "g_print"))
g_print_word = (record { some = omega arith; letter = refl; all = refl }, refl)

calls_writable : (texts : Texts) → AreTexts texts → AreWritable (calls_marks texts)
calls_writable [] h = (tt, (tt, (tt, (omega arith, (tt, (tt, (tt, (tt, tt))))))))
calls_writable (text ∷ texts) h = (tt, (g_print_word, (tt, (tt, (are_bytes (format_of text) (format_text text h.0), (tt, (tt, calls_writable texts h.1)))))))

include_word : IsWritable (Name (codes "include"))
include_word = (record { some = omega arith; letter = refl; all = refl }, refl)

glib_word : IsWritable (Name (codes "glib"))
glib_word = (record { some = omega arith; letter = refl; all = refl }, refl)

h_word : IsWritable (Name (codes "h"))
h_word = (record { some = omega arith; letter = refl; all = refl }, refl)

main_word : IsWritable (Name (codes "main"))
main_word = (record { some = omega arith; letter = refl; all = refl }, refl)

argc_word : IsWritable (Name (codes "argc"))
argc_word = (record { some = omega arith; letter = refl; all = refl }, refl)

argv_word : IsWritable (Name (codes "argv"))
argv_word = (record { some = omega arith; letter = refl; all = refl }, refl)

head_writable : (ms : Marks) → AreWritable ms → AreWritable (head_before ms)
head_writable ms h =
    let opened : AreWritable (Line 0 ∷ ASign sign.OpenBrace ∷ ms) = (tt, (tt, h)) in
    let second : AreWritable
    (AKeyword keyword.Char ∷ Space ∷ ASign sign.Star ∷ ASign sign.Star ∷ Name
    (codes "argv") ∷ ASign sign.CloseParen ∷ Line 0 ∷ ASign sign.OpenBrace ∷ ms) = (tt, (tt, (tt, (tt, (argv_word, (tt, opened)))))) in
    let first : AreWritable
    (AKeyword keyword.Int ∷ Space ∷ Name
    (codes "argc") ∷ ASign sign.Comma ∷ Space ∷ AKeyword keyword.Char ∷ Space ∷ ASign sign.Star ∷ ASign sign.Star ∷ Name
    (codes "argv") ∷ ASign sign.CloseParen ∷ Line 0 ∷ ASign sign.OpenBrace ∷ ms) =
    (tt, (tt, (argc_word, (tt, (tt, second))))) in
    (tt, (include_word, (tt, (tt, (glib_word, (tt, (h_word, (tt, (tt, (tt, (tt, (tt, (main_word, (tt, (tt, first)))))))))))))))

pub unit_writable : (texts : Texts) → AreTexts texts → AreWritable (unit_marks Clear (unit_of texts))
unit_writable texts h = subst AreWritable (sym (unit_written texts)) (head_writable (calls_marks texts) (calls_writable texts h))
