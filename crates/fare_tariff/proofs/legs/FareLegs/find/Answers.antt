use Rattle.std.proofs.Common.{subst, List}
use Rattle.std.specs.Prelude.{Option}
use Rattle.transit_base.specs.declared.numbers.LegGroupId.{LegGroupId}
use Rattle.feed_rows.specs.FeedRows.{FeedRows}
use Rattle.fare_automaton.specs.Terms.{FareTerms}
use Rattle.fare_bounds.specs.LastChanges.{AreLastChanges}
use Rattle.fare_tariff.specs.Groups.{AreGroupsOf, AreKinds}
use Rattle.fare_tariff.proofs.KindLaws.{all_known}
use Rattle.fare_tariff.proofs.legs.FareLegs.find.Goals as goal

pub returns-clause-known : goal.returns-clause-known
returns-clause-known c =
    let feed = c.args.feed.now in
    let rides = c.args.rides.now in
    let kinds = c.find_kinds.new.kinds.items in
    let groups = c.find_groups.new.groups.items in
    all_known feed c.args.self.now.known.terms.buyer
    (record {
      known = c.find_kinds.new.known;
      kinds = c.find_kinds.new.kinds;
      repeats = c.args.self.now.repeats;
      groups = c.find_groups.new.groups;
      changes = c.in_ok-self.field-0;
    }) rides
    (subst (λ (f : FeedRows). AreKinds f c.find_kinds.new.known rides kinds) c.requires c.in_ok-find_kinds.ensures.kinds)
    (subst (λ (t : FareTerms). AreGroupsOf feed t.buyer rides groups) c.in_ok-find_kinds.ensures.terms c.in_ok-find_groups.ensures)
    (subst (λ (gs : List (Option LegGroupId)). AreLastChanges feed gs c.in_ok-self.field-0) c.deref-2.ensures.value c.in_ok-self.ensures)
