-- Changes between legs, as the program keeps them.
use Rattle.std.specs.Prelude.{◌&&◌, false, Some, pos}
use Rattle.std.specs.Option.{unwrap_or}
use Rattle.feed_rows.specs.declared.fares.TransferFacts.{TransferFacts}
use Rattle.feed_rows.specs.declared.states.FareState.{FareState}
use Rattle.feed_rows.specs.TransferRules.{AskedChange, limit_holds}
use Rattle.feed_rows.specs.FareSteps.{has_clock}
use Rattle.fare_transfer_rules.specs.declared.changes.Change.{Change}

-- a state with the clocks of the change, which is all that its limits read of the run
abbrev pub clocks_of : Change → FareState
clocks_of change =
    record { group = Some change.from; count = 0; departure = change.departure; arrival = change.arrival; first = false }

-- the facts of the change, where a clock that is lacking is put as 0
abbrev pub facts_of : Change → TransferFacts
facts_of change =
    record {
      from = change.from;
      to = change.to;
      count = change.count;
      first_departure = unwrap_or change.departure (record { 0 = pos 0 });
      first_arrival = unwrap_or change.arrival (record { 0 = pos 0 });
      next_departure = change.next_departure;
      next_arrival = change.next_arrival;
    }

-- the change as rows are asked about it: no limit holds that reads a clock which is lacking
abbrev pub asked_of : Change → AskedChange
asked_of change =
    record {
      from = change.from;
      to = change.to;
      count = change.count;
      holds = λ limit. has_clock (clocks_of change) limit.kind && limit_holds (facts_of change) limit;
    }
