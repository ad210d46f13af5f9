-- A tariff that asks for no fares.
use Rattle.std.specs.Prelude.{ℕ, Bool, true, None, nat_eq, pos, false, []}
use Rattle.std.proofs.Common.{refl, arith}
use Rattle.std.proofs.lemmas.Int.{ints}
use Rattle.label_order.specs.Labels.{OrderLaws}
use Rattle.feed_rows.specs.declared.journeys.Query.{Query}
use Rattle.feed_rows.specs.FeedRows.{FeedRows}
use Rattle.round_terms.specs.Tasks.{Task}
use Rattle.round_terms.specs.Classes.{KeepsClass}
use Rattle.round_terms.specs.Terms.{IsLawful, Terms}
use Rattle.plan_arrivals.specs.declared.no_fares.NoFare.{NoFare}
use Rattle.plan_arrivals.specs.declared.no_fares.NoMove.{NoMove}

-- any fare is as good as any other
abbrev pub any : NoFare → NoFare → Bool
any a b = true

pub any_laws : OrderLaws any
any_laws = record { reflexive = λ x. refl; transitive = λ x y z p q. refl }

-- and none has a class
pub unclassed : KeepsClass any nat_eq (λ a. None)
unclassed a b below = refl

abbrev pub no_fare : NoFare
no_fare = record {}

-- each ride is free
abbrev pub no_fares : Terms NoFare NoMove
no_fares = record {
  begins = no_fare;
  Pays = λ a ride move. Unit {0};
  after = λ a ride move. no_fare;
  price = λ fare. pos 0;
  least = λ a. pos 0;
  IsLate = λ a ride. Unit {0};
  IsSettled = λ a ride. ⊥;
  IsFare = λ rides fare. Unit {0};
}

-- such a search of the query
abbrev pub free_task : FeedRows → Query → Task NoFare NoMove
free_task feed query =
    record { at_most = any; terms = no_fares; feed = feed; query = query; whole = true; loose = false; given = [] }

pub free_lawful : (limit : ℕ) → IsLawful limit any no_fares
free_lawful limit = record {
  begins = tt;
  stays = λ a ride move fare pays. tt;
  follow = λ a b ride move of_a of_b covers pays. record { move = move; pays = tt; below = refl };
  costs = λ a b below. omega (arith, ints);
  least_ends = λ a. omega (arith, ints);
  least_stays = λ a ride move few fare pays. omega (arith, ints);
  least_below = λ a b below. omega (arith, ints);
  settles = λ a b ride move of_a of_b own other below pays. absurd own;
}
