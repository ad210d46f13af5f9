-- The keys of ids: they fit, and short ids are told apart by them.
use Rattle.std.proofs.Common.{◌≡◌, refl, sym, ◌∙◌, ℕ, zero, suc, ◌+◌, ◌*◌, ◌^◌, ◌<◌, ◌≤◌, List, [], ◌∷◌, length, get_or, min, arith}
use Rattle.std.proofs.Math.Nat.{mul-le-mul_right}
use Rattle.std.specs.Prelude.{◌≢◌}
use Rattle.feed_tables.specs.IdRows.{start_below, IsKeyOf, no_key}

abbrev AreBytes : List ℕ → Type 0
AreBytes text = (k : ℕ) → get_or text k 0 < 256

-- the number of a text, by its first byte
first_byte : (n : ℕ) (b : ℕ) (text : List ℕ) → start_below (suc n) (b ∷ text) ≡ b + start_below n text * 256
first_byte zero b text = omega arith
first_byte (suc n) b text =
    let before = first_byte n b text in
    let power : 256 ^ suc n ≡ 256 ^ n * 256 = omega arith in
    rw (before, power) (omega arith)

-- so many bytes make a number below this power
start_small : (n : ℕ) (text : List ℕ) → AreBytes text → start_below n text < 256 ^ n
start_small zero text bytes = omega arith
start_small (suc n) text bytes =
    let before = start_small n text bytes in
    let byte : get_or text n 0 ≤ 255 = let lt = bytes n in omega (arith, lt) in
    let most : get_or text n 0 * 256 ^ n ≤ 255 * 256 ^ n = mul-le-mul_right (256 ^ n) byte in
    let power : 256 ^ suc n ≡ 256 ^ n * 256 = omega arith in
    rw power (omega (arith, before, most))

-- the bytes after the first
later : (b : ℕ) (text : List ℕ) → AreBytes (b ∷ text) → AreBytes text
later b text bytes k = bytes (suc k)

-- texts of so many bytes at most whose numbers and lengths are the same are one
same_bytes : (n : ℕ) (x y : List ℕ) → AreBytes x → AreBytes y → length x ≡ length y → length y ≤ n
    → start_below n x ≡ start_below n y → x ≡ y
same_bytes n [] [] first second long few e = refl
same_bytes n [] (b ∷ y) first second long few e = absurd (omega arith)
same_bytes n (a ∷ x) [] first second long few e = absurd (omega arith)
same_bytes zero (a ∷ x) (b ∷ y) first second long few e = absurd (omega arith)
same_bytes (suc n) (a ∷ x) (b ∷ y) first second long few e =
    cons (omega (arith, numbers, one_byte, other_byte))
    (same_bytes n x y (later a x first) (later b y second) (omega arith) (omega arith) (omega (arith, numbers, one_byte, other_byte)))
  where
    numbers : a + start_below n x * 256 ≡ b + start_below n y * 256
    numbers = sym (first_byte n a x) ∙ e ∙ first_byte n b y

    one_byte : a < 256
    one_byte = first 0

    other_byte : b < 256
    other_byte = second 0

    cons : a ≡ b → x ≡ y → a ∷ x ≡ b ∷ y
    cons one rest = rw (one, rest) refl

-- an id of at most seven bytes is told by its key
pub same_id : (x y : List ℕ) (key : ℕ) → IsKeyOf key x → IsKeyOf key y → length y ≤ 7 → x ≡ y
same_id x y key first second few = same_bytes 7 x y first.bytes second.bytes long few starts
  where
    keys : start_below 7 x + min (length x) 255 * 256 ^ 7 ≡ start_below 7 y + min (length y) 255 * 256 ^ 7
    keys = sym first.number ∙ second.number

    one_small : start_below 7 x < 256 ^ 7
    one_small = start_small 7 x first.bytes

    other_small : start_below 7 y < 256 ^ 7
    other_small = start_small 7 y second.bytes

    long : length x ≡ length y
    long = omega (arith, keys, one_small, other_small)

    starts : start_below 7 x ≡ start_below 7 y
    starts = omega (arith, keys, one_small, other_small)

-- no id has the key of a slot without one
pub has_key : (key : ℕ) (id : List ℕ) → IsKeyOf key id → key ≢ no_key
has_key key [] is e = let number = is.number in absurd (omega (arith, number, e))
has_key key (b ∷ id) is e = let number = is.number in absurd (omega (arith, number, e))
