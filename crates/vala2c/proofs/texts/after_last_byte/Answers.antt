use Rattle.std.proofs.Common.{◌≡◌, ◌≢◌, ℕ, ◌<◌, ◌≤◌, ◌-◌, ◌==◌, not, List, length, drop, get_or, ap, sym, ◌∙◌, arith}
use Rattle.std.proofs.lemmas.List.{take_rest}
use Rattle.std.proofs.lemmas.List.Sums.{suffix_len_is}
use Rattle.std.proofs.lemmas.Bool.Decides.{nat_tests}
use Rattle.std.specs.List.{after_last}
use Rattle.vala2c.proofs.texts.after_last_byte.Goals as goal
use Rattle.vala2c.proofs.texts.after_last_byte.Goals.{then-loop-start-test+else-bytes-start, else-loop-start-test}

-- where the bytes from n on are others, and the one in front is the byte, they are what stands behind the last
behind : (bytes : List ℕ) (byte n : ℕ) → n ≤ length bytes → ((k : ℕ) → n ≤ k → k < length bytes → get_or bytes k 0 ≢ byte) → (0 < n → get_or bytes (n - 1) 0 ≡ byte) → drop n bytes ≡ after_last (λ b. b == byte) bytes
behind bytes byte n le others front =
    let len = suffix_len_is (λ b. not (b == byte)) bytes n 0 le (λ k a b. (let h = others k a b in grind (arith, nat_tests))) (λ p. (let h = front p in grind (arith, nat_tests))) in
    let e : length bytes - (length bytes - n) ≡ n = omega arith in
    sym (ap (λ m. drop (length bytes - m) bytes) len ∙ ap (λ m. drop m bytes) e)

pub returns : goal.returns
returns c =
    let bytes = c.args.bytes.now in
    let n = c.loop-start.start in
    let i = c.loop-start.invariant in
    take_rest bytes n
    ∙ elim c.loop-start-test.branch [
      | then-loop-start-test+else-bytes-start w ↦ behind bytes c.args.byte n i.0 i.1 (λ p. w.if-bytes-start.false)
      | else-loop-start-test w ↦ behind bytes c.args.byte n i.0 i.1 (λ p. absurd (omega arith))
    ]
