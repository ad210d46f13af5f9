-- What the lines of one entry tell, line by line.
use Rattle.std.specs.Prelude.{◌==◌, if◌then◌else◌, [], ◌∷◌, ◌++◌, length, Some, None}
use Rattle.std.specs.Option.{option_or}
use Rattle.transit_base.specs.declared.numbers.StopId.{StopId}
use Rattle.feed_rows.specs.declared.journeys.Ride.{Ride}
use Rattle.feed_rows.specs.declared.fares.LegChoice.{LegChoice}
use Rattle.feed_rows.specs.declared.fares.ChangeChoice.{ChangeChoice}
use Rattle.ticket_read.specs.declared.drafts.Draft.{Draft}
use Rattle.ticket_read.specs.declared.drafts.Item.{Item}
use Rattle.ticket_read.specs.declared.drafts.Item.TheVariants as item

-- before any line
abbrev pub empty_draft : Draft
empty_draft = record { first = None; last = None; rides = []; legs = []; changes = []; after = None }

-- one goes from one stop to another: the way starts at the first such stop, and ends at the last
abbrev pub gone : Draft → StopId → StopId → Draft
gone draft from to =
    record {
      first = option_or draft.first (Some from);
      last = Some to;
      rides = draft.rides;
      legs = draft.legs;
      changes = draft.changes;
      after = draft.after;
    }

-- one rides
abbrev pub with_ride : Draft → Ride → Draft
with_ride draft ride =
    record {
      first = draft.first;
      last = draft.last;
      rides = draft.rides ++ ride ∷ [];
      legs = draft.legs;
      changes = draft.changes;
      after = draft.after;
    }

-- a leg is paid; the change between it and the leg before, if there is one, stands after that leg
abbrev pub with_leg : Draft → LegChoice → Draft
with_leg draft pick =
    record {
      first = draft.first;
      last = draft.last;
      rides = draft.rides;
      legs = draft.legs ++ pick ∷ [];
      changes = (if length draft.legs == 0 then draft.changes else draft.changes ++ draft.after ∷ []);
      after = None;
    }

-- a change is arranged
abbrev pub with_change : Draft → ChangeChoice → Draft
with_change draft pick =
    record {
      first = draft.first;
      last = draft.last;
      rides = draft.rides;
      legs = draft.legs;
      changes = draft.changes;
      after = Some pick;
    }

-- what a line tells is added
abbrev pub with_item : Draft → Item → Draft
with_item draft item.Head = draft
with_item draft (item.Walk from to) = gone draft from to
with_item draft (item.Ride ride from to) = with_ride (gone draft from to) ride
with_item draft (item.Leg pick) = with_leg draft pick
with_item draft (item.Change pick) = with_change draft pick
