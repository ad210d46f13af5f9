use Rattle.std.proofs.Common.{◌≡◌, ℕ, ◌<◌, length, get_or, rules, arith}
use Rattle.feed_text.proofs.ClockLaws.{word_of, six_fit, not_below, clock_value}
use Rattle.feed_text.proofs.numbers.clock_of.Goals as goal

pub overflow_add-word : goal.overflow_add-word
overflow_add-word c =
    let text = c.args.text.now in
    let bytes : (k : ℕ) → get_or text k 0 < 256 = λ k. omega (arith, c.type_inv.text k) in
    let long : length text ≡ 8 = omega (arith, c.in-len8.len_at_least, c.in-len8.len_below) in
    let word : c.from_le_bytes-word.result ≡ word_of text = omega (arith, c.from_le_bytes-word.ensures) in
    let fits = six_fit text bytes long _ word c.if-word-ne3472339291344613424.false in
    omega (arith, fits)

pub overflow_sub-result : goal.overflow_sub-result
overflow_sub-result c =
    let text = c.args.text.now in
    let bytes : (k : ℕ) → get_or text k 0 < 256 = λ k. omega (arith, c.type_inv.text k) in
    let long : length text ≡ 8 = omega (arith, c.in-len8.len_at_least, c.in-len8.len_below) in
    let word : c.from_le_bytes-word.result ≡ word_of text = omega (arith, c.from_le_bytes-word.ensures) in
    let byte1 : c.from.result ≡ get_or text 0 0 = search rules in
    let byte2 : c.from-2.result ≡ get_or text 1 0 = search rules in
    let byte3 : c.from-3.result ≡ get_or text 3 0 = search rules in
    let byte4 : c.from-4.result ≡ get_or text 4 0 = search rules in
    let byte5 : c.from-5.result ≡ get_or text 6 0 = search rules in
    let byte6 : c.from-6.result ≡ get_or text 7 0 = search rules in
    let least = not_below text bytes long _ word c.if-word-ne3472339291344613424.false c.if-word-ne3472275519666401328.false in
    rw (byte1, byte2, byte3, byte4, byte5, byte6) least

pub returns : goal.returns
returns c =
    let text = c.args.text.now in
    let bytes : (k : ℕ) → get_or text k 0 < 256 = λ k. omega (arith, c.type_inv.text k) in
    let long : length text ≡ 8 = omega (arith, c.in-len8.len_at_least, c.in-len8.len_below) in
    let word : c.from_le_bytes-word.result ≡ word_of text = omega (arith, c.from_le_bytes-word.ensures) in
    let byte1 : c.from.result ≡ get_or text 0 0 = search rules in
    let byte2 : c.from-2.result ≡ get_or text 1 0 = search rules in
    let byte3 : c.from-3.result ≡ get_or text 3 0 = search rules in
    let byte4 : c.from-4.result ≡ get_or text 4 0 = search rules in
    let byte5 : c.from-5.result ≡ get_or text 6 0 = search rules in
    let byte6 : c.from-6.result ≡ get_or text 7 0 = search rules in
    λ most.
    rw (byte1, byte2, byte3, byte4, byte5, byte6)
    (clock_value text bytes long _ word c.if-word-ne3472339291344613424.false c.if-word-ne3472275519666401328.false
    (rw (← byte3, ← byte4) (omega (arith, c.if-minutes.false))) (rw (← byte5, ← byte6) (omega (arith, c.if-seconds.false))) most)
