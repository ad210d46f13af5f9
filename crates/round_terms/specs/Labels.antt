-- Labels as the program keeps them.
use Rattle.std.specs.Prelude.{◌==◌, Bool, ◌&&◌, ◌||◌, not, nat_le, int_le}
use Rattle.round_terms.specs.declared.label.Label.{Label}
use Rattle.round_terms.specs.Terms.{Facts}

-- what a search compares the label by
abbrev pub facts_of : {F M : Type 0} → Label F M → Facts F
facts_of label = record { stop = label.stop; arrival = label.arrival.0; rides = label.rides; fare = label.fare }

-- the one stands where the other does, since no later, after no more rides, and without any where the other has none
unfoldable pub comes_no_later : {F M : Type 0} → Label F M → Label F M → Bool
comes_no_later a b =
    (a.stop.0 == b.stop.0) && int_le a.arrival.0 b.arrival.0 && nat_le a.rides b.rides && (not (a.rides == 0) || (b.rides == 0))

-- the one covers the other, where fares are compared so
unfoldable pub covers : {F M : Type 0} → (F → F → Bool) → Label F M → Label F M → Bool
covers at_most a b = comes_no_later a b && at_most a.fare b.fare
