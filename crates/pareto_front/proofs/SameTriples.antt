-- What tells that two triples are equal.
use Rattle.std.proofs.Common.{◌≡◌, true, ap, ◌&&◌, int_eq}
use Rattle.std.specs.Prelude.{◌==◌}
use Rattle.std.specs.Bool.{Decides}
use Rattle.std.proofs.lemmas.Bool.Decides.{Decides-int_eq, Decides-eqb}
use Rattle.std.proofs.lemmas.Bool.{and_parts, and_from}
use Rattle.feed_rows.specs.declared.fares.Triple.{Triple}
use Rattle.feed_laws.proofs.ParetoLaws.{same_parts}

-- the test of each part in turn tells whether two triples are equal
pub same_test : (a b : Triple) → Decides (int_eq a.arrival.0 b.arrival.0 && ((a.rides == b.rides) && int_eq a.price.0 b.price.0)) (a ≡ b)
same_test a b = (from, back)
  where
    from : (int_eq a.arrival.0 b.arrival.0 && ((a.rides == b.rides) && int_eq a.price.0 b.price.0)) ≡ true → a ≡ b
    from t =
        let first = and_parts (int_eq a.arrival.0 b.arrival.0) ((a.rides == b.rides) && int_eq a.price.0 b.price.0) t in
        let later = and_parts (a.rides == b.rides) (int_eq a.price.0 b.price.0) first.1 in
        same_parts a b ((Decides-int_eq a.arrival.0 b.arrival.0).0 first.0) ((Decides-eqb a.rides b.rides).0 later.0) ((Decides-int_eq a.price.0 b.price.0).0 later.1)

    back : a ≡ b → (int_eq a.arrival.0 b.arrival.0 && ((a.rides == b.rides) && int_eq a.price.0 b.price.0)) ≡ true
    back e =
        and_from (int_eq a.arrival.0 b.arrival.0) ((a.rides == b.rides) && int_eq a.price.0 b.price.0)
        ((Decides-int_eq a.arrival.0 b.arrival.0).1 (ap (λ t. t.arrival.0) e))
        (and_from (a.rides == b.rides) (int_eq a.price.0 b.price.0) ((Decides-eqb a.rides b.rides).1 (ap (λ t. t.rides) e)) ((Decides-int_eq a.price.0 b.price.0).1 (ap (λ t. t.price.0) e)))
