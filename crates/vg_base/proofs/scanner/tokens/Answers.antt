use Rattle.std.proofs.Common.{sym}
use Rattle.vg_base.proofs.ScannerLemmas.{all_read, refused}
use Rattle.vg_base.proofs.scanner.tokens.Goals as goal

pub returns-in-None : goal.returns-in-None
returns-in-None c =
    let none = rw c.in-None.is at c.in_ok-next.ensures in
    refused c.args.bytes.now c.loop-byte.byte-index c.loop-byte.mode c.loop-byte.tokens.items c.loop-byte-test.true c.loop-byte.invariant (sym none)

pub returns : goal.returns
returns c = all_read c.args.bytes.now c.loop-byte.byte-index c.loop-byte.mode c.loop-byte.tokens.items c.finish.result c.loop-byte-test.false c.loop-byte.invariant c.finish.ensures
