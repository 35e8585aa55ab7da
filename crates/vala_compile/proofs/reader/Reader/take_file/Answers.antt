use Rattle.vala_lexer.specs.Tokens.{left, next_of, all_of}
use Rattle.vala_compile.specs.Carried.{lexeme}
use Rattle.vala_compile.specs.Steps.{seen}
use Rattle.vala_compile.proofs.Walking.{led_on, shorter, shown_token}
use Rattle.vala_compile.proofs.reader.Reader.take_file.Goals as goal

pub loop-token-smaller : goal.loop-token-smaller
loop-token-smaller c = shorter (left c.loop-token.lexer) (left c.next.new.self) (lexeme c.in-Ok-Some.token) (shown_token c.in-Ok-Some.field-0 c.in-Ok-Some.token (next_of (left c.loop-token.lexer)) c.in-Ok-Some.ensures.answer c.in-Ok-Some.field-0-is) c.in-Ok-Some.ensures.after

pub loop-token-preserved : goal.loop-token-preserved
loop-token-preserved c =
    led_on (all_of c.args.bytes.now c.args.file) (left c.loop-token.lexer) (left c.next.new.self) (seen c.args.self.now) (seen c.loop-token.self) (seen c.take.new.self) (lexeme c.in-Ok-Some.token) c.loop-token.invariant (shown_token c.in-Ok-Some.field-0 c.in-Ok-Some.token (next_of (left c.loop-token.lexer)) c.in-Ok-Some.ensures.answer c.in-Ok-Some.field-0-is) c.in-Ok-Some.ensures.after c.in_ok-take.ensures
