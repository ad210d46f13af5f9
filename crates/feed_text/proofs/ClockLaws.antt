-- Times whose bytes are judged all at once.
use Rattle.std.proofs.Common.{◌≡◌, refl, sym, ◌∙◌, ℕ, ◌+◌, ◌-◌, ◌*◌, ◌%◌, ◌<◌, ◌≤◌, ◌^◌, List, [], ◌∷◌, Some, true, length, get_or, ap, arith}
use Rattle.std.specs.Prelude.{bit_and}
use Rattle.std.specs.Char.{is_ascii_digit}
use Rattle.std.proofs.lemmas.Bool.Decides.{nat_tests}
use Rattle.std.proofs.lemmas.Nat.{and_block, and_le_l}
use Rattle.std.proofs.lemmas.Grind.{and_high_numeral, and_numeral}
use Rattle.feed_rows.specs.Numerals.{when_at_most}
use Rattle.feed_rows.specs.TimeGrammar.{time_value}
use Rattle.feed_text.proofs.DigitLaws.{pair_within}

-- one byte of a masked number, and the bytes above it
peel : (a m x b n y : ℕ) → a < 256 → m < 256 → x < 256 → bit_and (b * 256 + a) (n * 256 + m) ≡ y * 256 + x → (bit_and a m ≡ x) × (bit_and b n ≡ y)
peel a m x b n y fits mask value e =
    let block : bit_and b n * 256 + bit_and a m ≡ y * 256 + x = sym (and_block 8 b n a m fits mask) ∙ e in
    let low = and_le_l a m in
    (omega (arith, block, low, fits, value), omega (arith, block, low, fits, value))

-- the bytes of a number that is a byte above others
abbrev above : ℕ → ℕ → ℕ
above a b = b * 256 + a

-- a byte of the sixteen from 0x30 on
sixteen : (a : ℕ) → a < 256 → bit_and a 240 ≡ 48 → (48 ≤ a) × (a ≤ 63)
sixteen a fits e =
    let parts : bit_and a 240 + a % 16 ≡ a = and_high_numeral a 239 refl fits in
    (omega (arith, parts, e), omega (arith, parts, e))

same_byte : (a x : ℕ) → a < 256 → bit_and a 255 ≡ x → a ≡ x
same_byte a x fits e =
    let whole : bit_and a 255 ≡ a % 256 = and_numeral a 254 refl in
    omega (arith, whole, e, fits)

-- digits and colons
pub record AreClock (a b c d e f g h : ℕ) : Type 0 where
  pub hours : (48 ≤ a) × (a ≤ 57) × (48 ≤ b) × (b ≤ 57)
  pub first : c ≡ 58
  pub minutes : (48 ≤ d) × (d ≤ 57) × (48 ≤ e) × (e ≤ 57)
  pub second : f ≡ 58
  pub seconds : (48 ≤ g) × (g ≤ 57) × (48 ≤ h) × (h ≤ 57)

abbrev eight : ℕ → ℕ → ℕ → ℕ → ℕ → ℕ → ℕ → ℕ → ℕ
eight a b c d e f g h = above a (above b (above c (above d (above e (above f (above g h))))))

-- bytes among the sixteen, and colons
record AreKinds (a b c d e f g h : ℕ) : Type 0 where
  pub hours : (48 ≤ a) × (a ≤ 63) × (48 ≤ b) × (b ≤ 63)
  pub first : c ≡ 58
  pub minutes : (48 ≤ d) × (d ≤ 63) × (48 ≤ e) × (e ≤ 63)
  pub second : f ≡ 58
  pub seconds : (48 ≤ g) × (g ≤ 63) × (48 ≤ h) × (h ≤ 63)

module _ (a b c d e f g h : ℕ) (fa : a < 256) (fb : b < 256) (fc : c < 256) (fd : d < 256) (fe : e < 256) (ff : f < 256) (fg : g < 256) (fh : h < 256) where
  are_kinds : bit_and (eight a b c d e f g h) 0xf0f0fff0f0fff0f0 ≡ 0x30303a30303a3030 → AreKinds a b c d e f g h
  are_kinds is =
      let pa = peel a 0xf0 0x30 _ 0xf0f0fff0f0fff0 0x30303a30303a30 fa (omega arith) (omega arith) is in
      let pb = peel b 0xf0 0x30 _ 0xf0f0fff0f0ff 0x30303a30303a fb (omega arith) (omega arith) pa.1 in
      let pc = peel c 0xff 0x3a _ 0xf0f0fff0f0 0x30303a3030 fc (omega arith) (omega arith) pb.1 in
      let pd = peel d 0xf0 0x30 _ 0xf0f0fff0 0x30303a30 fd (omega arith) (omega arith) pc.1 in
      let pe = peel e 0xf0 0x30 _ 0xf0f0ff 0x30303a fe (omega arith) (omega arith) pd.1 in
      let pf = peel f 0xff 0x3a _ 0xf0f0 0x3030 ff (omega arith) (omega arith) pe.1 in
      let pg = peel g 0xf0 0x30 h 0xf0 0x30 fg (omega arith) (omega arith) pf.1 in
      let ka = sixteen a fa pa.0 in
      let kb = sixteen b fb pb.0 in
      let kd = sixteen d fd pd.0 in
      let ke = sixteen e fe pe.0 in
      let kg = sixteen g fg pg.0 in
      let kh = sixteen h fh pg.1 in
      record {
        hours = (ka.0, ka.1, kb.0, kb.1);
        first = same_byte c 0x3a fc pc.0;
        minutes = (kd.0, kd.1, ke.0, ke.1);
        second = same_byte f 0x3a ff pf.0;
        seconds = (kg.0, kg.1, kh.0, kh.1);
      }

  -- six more than such bytes
  no_more : AreKinds a b c d e f g h → bit_and (eight (a + 6) (b + 6) c (d + 6) (e + 6) f (g + 6) (h + 6)) 0xf0f000f0f000f0f0 ≡ 0x3030003030003030 → AreClock a b c d e f g h
  no_more kinds is =
      let ga : a + 6 < 256 = let up = kinds.hours.1 in omega (arith, up) in
      let gb : b + 6 < 256 = let up = kinds.hours.3 in omega (arith, up) in
      let gd : d + 6 < 256 = let up = kinds.minutes.1 in omega (arith, up) in
      let ge : e + 6 < 256 = let up = kinds.minutes.3 in omega (arith, up) in
      let gg : g + 6 < 256 = let up = kinds.seconds.1 in omega (arith, up) in
      let gh : h + 6 < 256 = let up = kinds.seconds.3 in omega (arith, up) in
      let pa = peel (a + 6) 0xf0 0x30 _ 0xf0f000f0f000f0 0x30300030300030 ga (omega arith) (omega arith) is in
      let pb = peel (b + 6) 0xf0 0x30 _ 0xf0f000f0f000 0x303000303000 gb (omega arith) (omega arith) pa.1 in
      let pc = peel c 0x00 0x00 _ 0xf0f000f0f0 0x3030003030 fc (omega arith) (omega arith) pb.1 in
      let pd = peel (d + 6) 0xf0 0x30 _ 0xf0f000f0 0x30300030 gd (omega arith) (omega arith) pc.1 in
      let pe = peel (e + 6) 0xf0 0x30 _ 0xf0f000 0x303000 ge (omega arith) (omega arith) pd.1 in
      let pf = peel f 0x00 0x00 _ 0xf0f0 0x3030 ff (omega arith) (omega arith) pe.1 in
      let pg = peel (g + 6) 0xf0 0x30 (h + 6) 0xf0 0x30 gg (omega arith) (omega arith) pf.1 in
      let ka = sixteen (a + 6) ga pa.0 in
      let kb = sixteen (b + 6) gb pb.0 in
      let kd = sixteen (d + 6) gd pd.0 in
      let ke = sixteen (e + 6) ge pe.0 in
      let kg = sixteen (g + 6) gg pg.0 in
      let kh = sixteen (h + 6) gh pg.1 in
      record {
        hours = (kinds.hours.0, omega (arith, ka.1), kinds.hours.2, omega (arith, kb.1));
        first = kinds.first;
        minutes = (kinds.minutes.0, omega (arith, kd.1), kinds.minutes.2, omega (arith, ke.1));
        second = kinds.second;
        seconds = (kinds.seconds.0, omega (arith, kg.1), kinds.seconds.2, omega (arith, kh.1));
      }

digit_is : (a : ℕ) → 48 ≤ a → a ≤ 57 → is_ascii_digit a ≡ true
digit_is a low high = grind (arith, nat_tests)

-- the seconds of a time of eight bytes
module _ (a b d e g h : ℕ) (hours : (48 ≤ a) × (a ≤ 57) × (48 ≤ b) × (b ≤ 57)) (minutes : (48 ≤ d) × (d ≤ 57) × (48 ≤ e) × (e ≤ 57))
    (seconds : (48 ≤ g) × (g ≤ 57) × (48 ≤ h) × (h ≤ 57)) (few_minutes : d * 10 + e ≤ 587) (few_seconds : g * 10 + h ≤ 587) where
  abbrev clock_number : ℕ
  clock_number = (a * 10 + b) * 3600 + (d * 10 + e) * 60 + (g * 10 + h) - 1933008

  pub clock_seconds_of : (most : ℕ) → time_value most (a ∷ b ∷ 58 ∷ d ∷ e ∷ 58 ∷ g ∷ h ∷ []) ≡ when_at_most most (Some clock_number)
  unfolding time_value
  clock_seconds_of most =
      let (a_low, a_high, b_low, b_high) = hours in
      let (d_low, d_high, e_low, e_high) = minutes in
      let (g_low, g_high, h_low, h_high) = seconds in
      let hour = pair_within 167 a b (digit_is a a_low a_high) (digit_is b b_low b_high) (omega (arith, a_low, a_high, b_low, b_high)) in
      let minute = pair_within 59 d e (digit_is d d_low d_high) (digit_is e e_low e_high) (omega (arith, d_low, e_low, few_minutes)) in
      let second = pair_within 59 g h (digit_is g g_low g_high) (digit_is h h_low h_high) (omega (arith, g_low, h_low, few_seconds)) in
      let same : 3600 * ((a - 48) * 10 + (b - 48)) + 60 * ((d - 48) * 10 + (e - 48)) + ((g - 48) * 10 + (h - 48)) ≡ clock_number =
      omega (arith, a_low, b_low, d_low, e_low, g_low, h_low) in
      rw (← hour, ← minute, ← second, same) refl

eight_bytes : (text : List ℕ) → length text ≡ 8
    → text ≡ get_or text 0 0 ∷ get_or text 1 0 ∷ get_or text 2 0 ∷ get_or text 3 0 ∷ get_or text 4 0 ∷ get_or text 5 0 ∷ get_or text 6 0 ∷ get_or text 7 0 ∷ []
eight_bytes [] is = absurd (omega (arith, is))
eight_bytes (a ∷ []) is = absurd (omega (arith, is))
eight_bytes (a ∷ b ∷ []) is = absurd (omega (arith, is))
eight_bytes (a ∷ b ∷ c ∷ []) is = absurd (omega (arith, is))
eight_bytes (a ∷ b ∷ c ∷ d ∷ []) is = absurd (omega (arith, is))
eight_bytes (a ∷ b ∷ c ∷ d ∷ e ∷ []) is = absurd (omega (arith, is))
eight_bytes (a ∷ b ∷ c ∷ d ∷ e ∷ f ∷ []) is = absurd (omega (arith, is))
eight_bytes (a ∷ b ∷ c ∷ d ∷ e ∷ f ∷ g ∷ []) is = absurd (omega (arith, is))
eight_bytes (a ∷ b ∷ c ∷ d ∷ e ∷ f ∷ g ∷ h ∷ []) is = refl
eight_bytes (a ∷ b ∷ c ∷ d ∷ e ∷ f ∷ g ∷ h ∷ i ∷ rest) is = absurd (omega (arith, is))

-- the number that the first eight bytes of a text make, and what they are
abbrev pub word_of : List ℕ → ℕ
word_of text =
    eight (get_or text 0 0) (get_or text 1 0) (get_or text 2 0) (get_or text 3 0)
    (get_or text 4 0) (get_or text 5 0) (get_or text 6 0) (get_or text 7 0)

abbrev AreKindsOf : List ℕ → Type 0
AreKindsOf text =
    AreKinds (get_or text 0 0) (get_or text 1 0) (get_or text 2 0) (get_or text 3 0)
    (get_or text 4 0) (get_or text 5 0) (get_or text 6 0) (get_or text 7 0)

abbrev AreClockOf : List ℕ → Type 0
AreClockOf text =
    AreClock (get_or text 0 0) (get_or text 1 0) (get_or text 2 0) (get_or text 3 0)
    (get_or text 4 0) (get_or text 5 0) (get_or text 6 0) (get_or text 7 0)

-- the hours, the minutes and the seconds that they write, and 528 more each
abbrev pub hours_in : List ℕ → ℕ
hours_in text = get_or text 0 0 * 10 + get_or text 1 0

abbrev pub minutes_in : List ℕ → ℕ
minutes_in text = get_or text 3 0 * 10 + get_or text 4 0

abbrev pub seconds_in : List ℕ → ℕ
seconds_in text = get_or text 6 0 * 10 + get_or text 7 0

-- and of a text whose bytes pass
module _ (text : List ℕ) (bytes : (k : ℕ) → get_or text k 0 < 256) (long : length text ≡ 8) (word : ℕ)
    (is_word : word ≡ word_of text)
    (kinds : bit_and word 0xf0f0fff0f0fff0f0 ≡ 0x30303a30303a3030) where
  kinds_are : AreKindsOf text
  kinds_are = are_kinds _ _ _ _ _ _ _ _ (bytes 0) (bytes 1) (bytes 2) (bytes 3) (bytes 4) (bytes 5) (bytes 6) (bytes 7) (rw is_word at kinds)

  -- six more to each digit fit
  pub six_fit : word + 0x0606000606000606 < 2 ^ 64
  six_fit =
      let top = kinds_are.seconds.3 in
      let b0 = bytes 0 in
      let b1 = bytes 1 in
      let b2 = bytes 2 in
      let b3 = bytes 3 in
      let b4 = bytes 4 in
      let b5 = bytes 5 in
      let b6 = bytes 6 in
      rw is_word (omega (arith, top, b0, b1, b2, b3, b4, b5, b6))

  module _ (more : bit_and (word + 0x0606000606000606) 0xf0f000f0f000f0f0 ≡ 0x3030003030003030) where
    sums : word + 0x0606000606000606
        ≡ eight (get_or text 0 0 + 6) (get_or text 1 0 + 6) (get_or text 2 0) (get_or text 3 0 + 6) (get_or text 4 0 + 6) (get_or text 5 0) (get_or text 6 0 + 6) (get_or text 7 0 + 6)
    sums = omega (arith, is_word)

    clock_is : AreClockOf text
    clock_is = no_more _ _ _ _ _ _ _ _ (bytes 0) (bytes 1) (bytes 2) (bytes 3) (bytes 4) (bytes 5) (bytes 6) (bytes 7) kinds_are (rw sums at more)

    pub not_below : 1933008 ≤ hours_in text * 3600 + minutes_in text * 60 + seconds_in text
    not_below =
        let (a, a', b, b') = clock_is.hours in
        let (d, d', e, e') = clock_is.minutes in
        let (g, g', h, h') = clock_is.seconds in
        omega (arith, a, b, d, e, g, h)

    pub clock_value : minutes_in text ≤ 587 → seconds_in text ≤ 587 → (most : ℕ)
        → time_value most text
        ≡ when_at_most most (Some (hours_in text * 3600 + minutes_in text * 60 + seconds_in text - 1933008))
    clock_value few_minutes few_seconds most =
        ap (time_value most) (eight_bytes text long ∙ colons)
        ∙ clock_seconds_of _ _ _ _ _ _ clock_is.hours clock_is.minutes clock_is.seconds few_minutes few_seconds most
      where
        colons : get_or text 0 0 ∷ get_or text 1 0 ∷ get_or text 2 0 ∷ get_or text 3 0 ∷ get_or text 4 0 ∷ get_or text 5 0 ∷ get_or text 6 0 ∷ get_or text 7 0 ∷ []
            ≡ get_or text 0 0 ∷ get_or text 1 0 ∷ 58 ∷ get_or text 3 0 ∷ get_or text 4 0 ∷ 58 ∷ get_or text 6 0 ∷ get_or text 7 0 ∷ []
        colons = rw (clock_is.first, clock_is.second) refl
