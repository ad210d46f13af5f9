-- The laws of the two orders of triples.
use Rattle.std.proofs.Common.{◌≡◌, ℕ, true, false, arith, ap, ◌∙◌}
use Rattle.std.specs.Prelude.{ℤ, int_le, int_lt, nat_le}
use Rattle.std.proofs.lemmas.Int.{ints}
use Rattle.std.proofs.lemmas.Bool.Decides.{nat_tests}
use Rattle.feed_rows.specs.declared.fares.Triple.{Triple}
use Rattle.feed_rows.specs.ParetoTriples.{at_most, is_before}

-- the triple with these parts
abbrev triple_of : ℤ → ℕ → ℤ → Triple
triple_of x y z = record { arrival = record { 0 = x }; rides = y; price = record { 0 = z } }

-- triples with equal parts are equal
pub same_parts : (a b : Triple) → a.arrival.0 ≡ b.arrival.0 → a.rides ≡ b.rides → a.price.0 ≡ b.price.0 → a ≡ b
same_parts a b p q r =
    ap (λ (x : ℤ). triple_of x a.rides a.price.0) p
    ∙ ap (λ (y : ℕ). triple_of b.arrival.0 y a.price.0) q
    ∙ ap (λ (z : ℤ). triple_of b.arrival.0 b.rides z) r

-- numbers that are at most each other are equal
int_le-both : (x y : ℤ) → int_le x y ≡ true → int_le y x ≡ true → x ≡ y
int_le-both x y p q = grind (arith, ints)

-- what is at most a number that is at most a third is at most the third
int_le-trans : (x y z : ℤ) → int_le x y ≡ true → int_le y z ≡ true → int_le x z ≡ true
int_le-trans x y z p q = grind (arith, ints)

-- each triple is at most itself
pub at_most-refl : (a : Triple) → at_most a a ≡ true
at_most-refl a = grind (arith, ints, nat_tests)

-- what is at most a triple that is at most a third is at most the third
pub at_most-trans : (a b c : Triple) → at_most a b ≡ true → at_most b c ≡ true → at_most a c ≡ true
at_most-trans a b c p q = grind (arith, ints, nat_tests)

-- triples that are at most each other are equal
pub at_most-antisym : (a b : Triple) → at_most a b ≡ true → at_most b a ≡ true → a ≡ b
at_most-antisym a b p q =
    same_parts a b (int_le-both _ _ (grind arith) (grind arith)) (grind (arith, nat_tests)) (int_le-both _ _ (grind arith) (grind arith))

-- what standing before means, part by part
record Ahead (a b : Triple) : Type 0 where
  pub arrival : int_le a.arrival.0 b.arrival.0 ≡ true
  pub rides : int_le b.arrival.0 a.arrival.0 ≡ true → nat_le a.rides b.rides ≡ true
  pub price : int_le b.arrival.0 a.arrival.0 ≡ true → nat_le b.rides a.rides ≡ true → int_lt a.price.0 b.price.0 ≡ true

-- what stands before another is ahead of it, part by part
ahead_of_before : (a b : Triple) → is_before a b ≡ true → Ahead a b
ahead_of_before a b h = record {
  arrival = grind (arith, ints, nat_tests);
  rides = λ p. grind (arith, ints, nat_tests);
  price = λ p q. grind (arith, ints, nat_tests);
}

-- and what is ahead, part by part, stands before
before_of_ahead : (a b : Triple) → Ahead a b → is_before a b ≡ true
before_of_ahead a b h = let p = h.arrival in let q = h.rides in let r = h.price in grind (arith, ints, nat_tests, q, r)

-- what is ahead of a triple that is ahead of a third is ahead of the third
ahead-trans : (a b c : Triple) → Ahead a b → Ahead b c → Ahead a c
ahead-trans a b c p q = record {
  arrival = int_le-trans a.arrival.0 b.arrival.0 c.arrival.0 p.arrival q.arrival;
  rides = λ back.
      let x = p.rides (int_le-trans b.arrival.0 c.arrival.0 a.arrival.0 q.arrival back) in
      let y = q.rides (int_le-trans c.arrival.0 a.arrival.0 b.arrival.0 back p.arrival) in
      grind (arith, nat_tests);
  price = λ back low.
      let ab = int_le-trans b.arrival.0 c.arrival.0 a.arrival.0 q.arrival back in
      let bc = int_le-trans c.arrival.0 a.arrival.0 b.arrival.0 back p.arrival in
      let x = p.rides ab in
      let y = q.rides bc in
      let low_a : nat_le b.rides a.rides ≡ true = grind (arith, nat_tests) in
      let low_b : nat_le c.rides b.rides ≡ true = grind (arith, nat_tests) in
      let u = p.price ab low_a in
      let v = q.price bc low_b in
      grind (arith, ints);
}

-- no triple stands before itself
pub is_before-irrefl : (a : Triple) → is_before a a ≡ false
is_before-irrefl a = grind (arith, ints, nat_tests)

-- what stands before a triple that stands before a third stands before the third
pub is_before-trans : (a b c : Triple) → is_before a b ≡ true → is_before b c ≡ true → is_before a c ≡ true
is_before-trans a b c p q = before_of_ahead a c (ahead-trans a b c (ahead_of_before a b p) (ahead_of_before b c q))

-- where neither stands before the other, each is at most the other
pub at_most-of_level : (a b : Triple) → is_before a b ≡ false → is_before b a ≡ false → at_most a b ≡ true
at_most-of_level a b p q = grind (arith, ints, nat_tests)

-- what is at most a triple does not stand after it
pub is_before-of_at_most : (a b : Triple) → at_most a b ≡ true → is_before b a ≡ false
is_before-of_at_most a b p = grind (arith, ints, nat_tests)
