-- Labels of journeys with their fares, as tables have them.
use Rattle.std.specs.Prelude.{List, map}
use Rattle.feed_rows.specs.declared.states.Move.{Move}
use Rattle.feed_rows.specs.PartialJourneys.{LabelFacts}
use Rattle.feed_rows.specs.RoundTables.{Label as Kept}
use Rattle.fare_tariff.specs.declared.fare.Fare.{Fare}
use Rattle.fare_tariff.specs.FareTerms.{label_facts}
use Rattle.round_terms.specs.declared.label.Label.{Label}
use Rattle.round_terms.specs.Labels.{facts_of}

-- what a table tells of the label
abbrev pub facts_of_label : Label Fare Move → LabelFacts
facts_of_label label = label_facts (facts_of label)

-- the label as tables have it
abbrev pub label_of : Label Fare Move → Kept
label_of label = record { facts = facts_of_label label; parent = label.parent; ride = label.ride; taken = label.taken }

abbrev pub labels_of : List (Label Fare Move) → List Kept
labels_of labels = map label_of labels
