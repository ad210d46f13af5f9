-- Partial journeys as the program builds them.
use Rattle.feed_rows.specs.PartialJourneys.{PartialJourney}
use Rattle.round_table.specs.declared.entries.Part.{Part}

abbrev pub part_of : Part → PartialJourney
part_of part = record { first = part.first; rides = part.rides; choice = part.choice }
