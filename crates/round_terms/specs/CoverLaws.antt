-- The laws of labels: to cover is reflexive and transitive, and what covers is no later.
use Rattle.std.specs.Prelude.{◌≡◌, ℕ, true, false, ◌==◌, ◌||◌, not, nat_le, ℤ, ◌≤ℤ◌, int_le, Bool}
use Rattle.std.proofs.Common.{refl, sym, ◌∙◌, ap, ◌≤◌, arith}
use Rattle.std.proofs.lemmas.Int.{ints}
use Rattle.std.proofs.lemmas.Bool.{and_parts, and_from, eqb-true, eq-eqb}
use Rattle.std.proofs.lemmas.Bool.Decides.{nat_tests}
use Rattle.label_order.specs.Labels.{OrderLaws}
use Rattle.transit_base.specs.declared.numbers.StopId.{StopId}
use Rattle.round_terms.specs.declared.label.Label.{Label}
use Rattle.round_terms.specs.Labels.{comes_no_later, covers, facts_of}
use Rattle.round_terms.specs.Terms.{Covers}

le_true : (x y : ℤ) → int_le x y ≡ true → x ≤ℤ y
le_true x y h = grind (arith, ints)

true_le : (x y : ℤ) → x ≤ℤ y → int_le x y ≡ true
true_le x y h = grind (arith, ints)

few_true : (m n : ℕ) → nat_le m n ≡ true → m ≤ n
few_true m n h = grind (arith, nat_tests)

true_few : (m n : ℕ) → m ≤ n → nat_le m n ≡ true
true_few m n h = grind (arith, nat_tests)

-- both have rides or neither has
fresh_true : (m n : ℕ) → m ≤ n → (not (m == 0) || (n == 0)) ≡ true → (m == 0) ≡ (n == 0)
fresh_true m n le h = by (m == 0) (n == 0) refl refl h
  where
    by : (a b : Bool) → (m == 0) ≡ a → (n == 0) ≡ b → (not a || b) ≡ true → a ≡ b
    by true true p q h = refl
    by false false p q h = refl
    by true false p q h = absurd (let no : false ≡ true = h in cc)
    by false true p q h =
        let none = eqb-true n 0 q in
        absurd (let no : true ≡ false = sym (eq-eqb m 0 (omega (arith, le, none))) ∙ p in cc)

true_fresh : (m n : ℕ) → (m == 0) ≡ (n == 0) → (not (m == 0) || (n == 0)) ≡ true
true_fresh m n same = by (m == 0) (n == 0) same
  where
    by : (a b : Bool) → a ≡ b → (not a || b) ≡ true
    by true b same = sym same
    by false b same = refl

module _ {F M : Type 0} (at_most : F → F → Bool) where
  -- what the test tells
  pub covers-tells : (a b : Label F M) → covers at_most a b ≡ true → Covers at_most (facts_of a) (facts_of b)
  unfolding covers comes_no_later
  covers-tells a b h =
      let both = and_parts _ (at_most a.fare b.fare) h in
      let last = and_parts _ (not (a.rides == 0) || (b.rides == 0)) both.0 in
      let rides = and_parts _ (nat_le a.rides b.rides) last.0 in
      let when = and_parts _ (int_le a.arrival.0 b.arrival.0) rides.0 in
      let few = few_true a.rides b.rides rides.1 in
      record {
        stop = ap (λ (n : ℕ). record { 0 = n }) (eqb-true a.stop.0 b.stop.0 when.0);
        arrival = le_true _ _ when.1;
        rides = few;
        fresh = fresh_true a.rides b.rides few last.1;
        fare = both.1;
      }

  -- and when it holds
  pub covers-holds : (a b : Label F M) → Covers at_most (facts_of a) (facts_of b) → covers at_most a b ≡ true
  unfolding covers comes_no_later
  covers-holds a b c =
      and_from _ _
      (and_from _ _
      (and_from _ _
      (and_from _ _ (eq-eqb a.stop.0 b.stop.0 (ap (λ (s : StopId). s.0) c.stop)) (true_le _ _ c.arrival))
      (true_few _ _ c.rides))
      (true_fresh a.rides b.rides c.fresh))
      c.fare

  pub cover_laws : OrderLaws at_most → OrderLaws (covers {F = F} {M = M} at_most)
  cover_laws laws = record {
    reflexive = λ a. covers-holds a a (record {
      stop = refl;
      arrival = omega (arith, ints);
      rides = omega arith;
      fresh = refl;
      fare = laws.reflexive a.fare;
    });
    transitive = λ a b c p q.
        let f = covers-tells a b p in
        let s = covers-tells b c q in
        covers-holds a c (record {
          stop = f.stop ∙ s.stop;
          arrival = later _ _ _ f.arrival s.arrival;
          rides = let one = f.rides in let two = s.rides in omega (arith, one, two);
          fresh = f.fresh ∙ s.fresh;
          fare = laws.transitive a.fare b.fare c.fare f.fare s.fare;
        });
  }
    where
      later : (x y z : ℤ) → x ≤ℤ y → y ≤ℤ z → x ≤ℤ z
      later x y z p q = omega (arith, ints, p, q)

  pub cover_rises : (a b : Label F M) → covers at_most a b ≡ true → a.arrival.0 ≤ℤ b.arrival.0
  cover_rises a b h = (covers-tells a b h).arrival
