-- Labels in bags: those whose fares have no class by stop, and the others by stop and class.
use Rattle.std.specs.Prelude.{◌≡◌, ℕ, ◌==◌, nat_eq, Bool, true, Option, Some, None, List, [], ◌++◌, length, get_or, slice_get, All}
use Rattle.std.specs.List.{IsDistinct}
use Rattle.std.specs.Map.{keys_of, values_of}
use Rattle.std.specs.Option.{option_eq}
use Rattle.label_bag.specs.Bags.{AreApart}
use Rattle.label_bag.specs.Flights.{IsFlight}
use Rattle.plain_laws.specs.Plain.{joined_below}
use Rattle.feed_rows.specs.FeedRows.{FeedRows}
use Rattle.search_laws.specs.Stores.{gathered as gathered_by}
use Rattle.round_terms.specs.declared.classes.StopClass.{StopClass}
use Rattle.round_terms.specs.declared.label.Label.{Label}
use Rattle.round_terms.specs.Classes.{same_key}
use Rattle.round_terms.specs.Labels.{covers}

-- the bags of all stops: of labels without a class one for each stop, and of the others one for each stop and class
pub record Bags (F M : Type 0) : Type 0 where
  pub stops : List (List (Label F M))
  pub classes : List (List (Label F M))

-- bags by stop and class
abbrev pub ByClass : Type 0 → Type 0 → Type 0 → Type 0
ByClass F M C = List (StopClass C × List (Label F M))

-- labels in ascending order of arrival, of which none covers another
pub record IsBag {F M : Type 0} (at_most : F → F → Bool) (labels : List (Label F M)) : Type 0 where
  pub flight : IsFlight nat_eq (λ (x : Label F M). 0) (λ (x : Label F M). x.arrival.0) 0 labels
  pub apart : AreApart (covers at_most) labels

-- the label stands at the stop, and its fare has the class, or none
pub record IsOf {F M C : Type 0} (same : C → C → Bool) (class_of : F → Option C) (stop : ℕ) (class : Option C) (label : Label F M) :
    Type 0 where
  pub there : label.stop.0 ≡ stop
  pub classed : option_eq same (class_of label.fare) class ≡ true

-- so it is with each label of the bag
pub record IsBagOf {F M C : Type 0} (at_most : F → F → Bool) (same : C → C → Bool) (class_of : F → Option C) (stop : ℕ) (class : Option C)
    (labels : List (Label F M)) : Type 0 where
  pub bag : IsBag at_most labels
  pub each : All (IsOf same class_of stop class) labels

-- the bag with this number; none past the last
abbrev pub bag_at : {F M : Type 0} → List (List (Label F M)) → ℕ → List (Label F M)
bag_at bags number = get_or bags number []

-- the labels of all of these
abbrev pub in_all : {F M : Type 0} → List (List (Label F M)) → List (Label F M)
in_all bags = joined_below (length bags) (bag_at bags)

-- each is one of its stop, without a class
abbrev pub AreStopBags : {F M C : Type 0} → (F → F → Bool) → (C → C → Bool) → (F → Option C) → List (List (Label F M)) → Type 0
AreStopBags at_most same class_of bags = (stop : ℕ) → IsBagOf at_most same class_of stop None (bag_at bags stop)

-- each is one of its stop and class, and no two are of the same
pub record AreClassBags {F M C : Type 0} (at_most : F → F → Bool) (same : C → C → Bool) (class_of : F → Option C) (bags : ByClass F M C) :
    Type 0 where
  pub each : (number : ℕ) (key : StopClass C) → slice_get (keys_of bags) number ≡ Some key →
      IsBagOf at_most same class_of key.stop (Some key.class) (bag_at (values_of bags) number)
  pub distinct : IsDistinct (same_key same) (keys_of bags)

pub record AreBags {F M C : Type 0} (at_most : F → F → Bool) (same : C → C → Bool) (class_of : F → Option C)
    (by_stop : List (List (Label F M))) (by_class : ByClass F M C) : Type 0 where
  pub stops : AreStopBags at_most same class_of by_stop
  pub classes : AreClassBags at_most same class_of by_class

-- bags as contracts see them
abbrev pub bags_of : {F M C : Type 0} → List (List (Label F M)) → ByClass F M C → Bags F M
bags_of stops classes = record { stops = stops; classes = values_of classes }

-- the labels of all bags
abbrev pub in_bags : {F M : Type 0} → Bags F M → List (Label F M)
in_bags bags = in_all bags.stops ++ in_all bags.classes

-- there is a bag for each stop of the feed
abbrev pub AreForStops : {F M : Type 0} → FeedRows → Bags F M → Type 0
AreForStops feed bags = length bags.stops ≡ length feed.stops

-- there still is
abbrev pub StayForStops : {F M : Type 0} → Bags F M → Bags F M → Type 0
StayForStops old new = length new.stops ≡ length old.stops

-- those with so many rides
abbrev pub has_rides : {F M : Type 0} → ℕ → Label F M → Bool
has_rides rides label = label.rides == rides

abbrev pub gathered : {F M : Type 0} → ℕ → List (Label F M) → List (Label F M)
gathered = gathered_by (λ x. x.rides)
