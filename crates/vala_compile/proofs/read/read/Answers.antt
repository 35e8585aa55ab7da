use Rattle.std.proofs.Common.{◌≡◌, List, Err, rules, sym, subst}
use Rattle.vala_lexer.specs.Tokens.{Lexeme}
use Rattle.vala_compile.specs.Program.{Joined}
use Rattle.vala_compile.specs.Steps.{Told, outcome, seen}
use Rattle.vala_compile.proofs.Held.{bytes_of, read_short, read_more, read_stopped, read_end}
use Rattle.vala_compile.proofs.read.read.Goals as goal

pub take_file-requires : goal.take_file-requires
take_file-requires c =
    read_short c.args.files.now c.loop-number.number c.index-files-number.result c.deref.result.now c.loop-number-test.true c.index-files-number.is c.deref.ensures.value c.requires

pub returns-in_err-take_file : goal.returns-in_err-take_file
returns-in_err-take_file c =
    let fault = c.in_err-take_file.field-0.0 in
    let passed : c.from_residual.result ≡ Err fault = search rules in
    subst (λ r. (ts : List Lexeme) → Joined 0 (bytes_of c.args.files.now) ts → Told (outcome ts) r) (sym passed)
    (read_stopped c.args.files.now c.loop-number.number c.index-files-number.result c.deref.result.now c.loop-number-test.true c.index-files-number.is c.deref.ensures.value
    (seen c.loop-number.reader) (seen c.take_file.new.self) fault c.loop-number.invariant c.in_err-take_file.ensures)

pub loop-number-preserved : goal.loop-number-preserved
loop-number-preserved c =
    read_more c.args.files.now c.loop-number.number c.index-files-number.result c.deref.result.now c.loop-number-test.true c.index-files-number.is c.deref.ensures.value
    (seen c.loop-number.reader) (seen c.take_file.new.self) c.loop-number.invariant c.in_ok-take_file.ensures

pub returns : goal.returns
returns c = read_end c.args.files.now c.loop-number.number (seen c.loop-number.reader) c.texts_of.result c.loop-number-test.false c.loop-number.invariant c.texts_of.ensures
