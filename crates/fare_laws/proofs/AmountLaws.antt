-- To be no dearer is what its test tells, and an order.
use Rattle.std.proofs.Common.{◌≡◌, true, arith, ℤ}
use Rattle.std.specs.Prelude.{◌+ℤ◌, ◌≤ℤ◌, int_le}
use Rattle.std.specs.Int.Signed.{≤ℤ_refl}
use Rattle.std.proofs.lemmas.Int.{ints}
use Rattle.std.proofs.lemmas.Bool.{and_parts, and_from}
use Rattle.plain_laws.proofs.Laws.{int_le-true, le-int_le}
use Rattle.feed_rows.specs.Amounts.{Spent, price, IsNoDearer, is_no_dearer}

pub no_dearer-tells : (a b : Spent) → is_no_dearer a b ≡ true → IsNoDearer a b
unfolding is_no_dearer
no_dearer-tells a b is =
    let both = and_parts (int_le a.paid b.paid) (int_le (price a) (price b)) is in
    record { paid = int_le-true _ _ both.0; price = int_le-true _ _ both.1 }

pub no_dearer-holds : (a b : Spent) → IsNoDearer a b → is_no_dearer a b ≡ true
unfolding is_no_dearer
no_dearer-holds a b less = and_from _ _ (le-int_le _ _ less.paid) (le-int_le _ _ less.price)

pub no_dearer-itself : (a : Spent) → IsNoDearer a a
no_dearer-itself a = record { paid = ≤ℤ_refl a.paid; price = ≤ℤ_refl (price a) }

pub no_dearer-trans : (a b c : Spent) → IsNoDearer a b → IsNoDearer b c → IsNoDearer a c
no_dearer-trans a b c p q = record {
  paid = through a.paid b.paid c.paid p.paid q.paid;
  price = through (price a) (price b) (price c) p.price q.price;
}
  where
    through : (x y z : ℤ) → x ≤ℤ y → y ≤ℤ z → x ≤ℤ z
    through x y z p q = omega (arith, ints, p, q)

-- what is no dearer stays so where as much was paid before both
pub no_dearer-added : (before : ℤ) (a b : Spent) → IsNoDearer a b →
    IsNoDearer (record a { paid = before +ℤ a.paid }) (record b { paid = before +ℤ b.paid })
no_dearer-added before a b less = record {
  paid = added a.paid b.paid less.paid;
  price = with_held a.paid a.held b.paid b.held less.price;
}
  where
    added : (x y : ℤ) → x ≤ℤ y → (before +ℤ x) ≤ℤ (before +ℤ y)
    added x y le = omega (arith, ints, le)

    with_held : (x h y k : ℤ) → (x +ℤ h) ≤ℤ (y +ℤ k) → ((before +ℤ x) +ℤ h) ≤ℤ ((before +ℤ y) +ℤ k)
    with_held x h y k le = omega (arith, ints, le)
