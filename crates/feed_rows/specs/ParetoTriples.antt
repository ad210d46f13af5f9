-- Which triples of arrival, rides and price are better than others, and in which order they stand.
use Rattle.std.specs.Prelude.{Bool, ◌&&◌, ◌||◌, ◌==◌, nat_le, nat_lt, int_le, int_lt}
use Rattle.feed_rows.specs.declared.fares.Triple.{Triple}
use Rattle.plain_laws.specs.Plain.{int_same}

-- each part of the one is at most the other's
abbrev pub at_most : Triple → Triple → Bool
at_most a b = int_le a.arrival.0 b.arrival.0 && nat_le a.rides b.rides && int_le a.price.0 b.price.0

-- the one stands before the other: by arrival, then rides, then price
abbrev pub is_before : Triple → Triple → Bool
is_before a b =
    int_lt a.arrival.0 b.arrival.0
    || (int_same a.arrival.0 b.arrival.0
    && (nat_lt a.rides b.rides || ((a.rides == b.rides) && int_lt a.price.0 b.price.0)))
