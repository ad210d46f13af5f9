use Rattle.std.proofs.Common.{refl, subst}
use Rattle.plain_laws.proofs.AddsLaws.{adds_none}
use Rattle.plan_plain.specs.Searches.{HasRides, IsCheapest, IsEarliestEnd}
use Rattle.feed_rows.specs.declared.fares.Entry.{Entry}
use Rattle.feed_timetable.specs.Standings.{stand_of}
use Rattle.plan_plain.proofs.SearchLaws.{none_late, none_uncovered, best_is, gains_offer}
use Rattle.plan_plain.proofs.search.Search.offer.Goals as goal

pub returns-in_default : goal.returns-in_default
returns-in_default c =
    adds_none (λ h. h) (none_late c.args.self.now.feed c.args.self.now.query c.args.first
    (stand_of c.args.standing) c.args.path.now c.requires.searched
    (subst (IsEarliestEnd c.args.self.now.feed c.args.self.now.query
    (stand_of c.args.standing)) c.in_default.is c.earliest_end.ensures))

pub returns : goal.returns
returns c =
    let feed = c.args.self.now.feed in
    let query = c.args.self.now.query in
    let entry : Entry = record {
      triple = record { arrival = c.in-Some.end.arrival; rides = c.len.result; price = c.in-Some-2.priced.sum };
      journey = record { first = c.args.first; last = c.in-Some.end.last; rides = c.in_ok-rides.rides };
      choice = c.in-Some-2.priced.choice;
    } in
    let price = subst (IsCheapest feed c.args.path.now.rides query.buyer) c.in-Some-2.is c.in_ok-priced.ensures in
    let earliest = subst (IsEarliestEnd feed query (stand_of c.args.standing)) c.in-Some.is c.earliest_end.ensures in
    let best = best_is feed query (stand_of c.args.standing) c.args.path.now entry c.in-Some.end c.requires.searched earliest c.requires.few refl refl c.len.ensures c.in_ok-rides.ensures price in
    gains_offer feed query (HasRides feed query c.args.first c.args.path.now.rides) entry c.args.front.now c.offer.new.self best.0 best.1
    c.in_ok-offer.ensures.covered c.in_ok-offer.ensures.still c.in_ok-offer.ensures.from

pub returns-in_default-2 : goal.returns-in_default-2
returns-in_default-2 c =
    adds_none (λ h. h) (none_uncovered c.args.self.now.feed c.args.self.now.query c.args.first c.args.path.now.rides
    (subst (IsCheapest c.args.self.now.feed c.args.path.now.rides c.args.self.now.query.buyer) c.in_default-2.is c.in_ok-priced.ensures))
