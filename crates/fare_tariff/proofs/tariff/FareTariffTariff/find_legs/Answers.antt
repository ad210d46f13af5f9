-- What is known by the feed and the buyer of the legs is known by those of the tariff.
use Rattle.std.proofs.Common.{subst}
use Rattle.feed_rows.specs.FeedRows.{FeedRows}
use Rattle.fare_automaton.specs.Terms.{FareTerms}
use Rattle.round_terms.specs.Legs.{AreKnown}
use Rattle.fare_tariff.specs.FareTerms.{IsKnown}
use Rattle.fare_tariff.proofs.TariffLaws.{known_repeats}
use Rattle.fare_tariff.proofs.tariff.FareTariffTariff.find_legs.Goals as goal

pub returns-in_ok-find-2-clause-known : goal.returns-in_ok-find-2-clause-known
returns-in_ok-find-2-clause-known c =
    let of = c.args.self.now in
    let legs = c.find.new.self in
    let rides = c.args.rides.now in
    known_repeats of.feed of.query.buyer legs c.find-then-self.new.self rides
    (subst (λ (t : FareTerms). AreKnown (IsKnown of.feed t.buyer legs) rides) c.requires
    (subst (λ (f : FeedRows). AreKnown (IsKnown f c.args.legs.now.known.terms.buyer legs) rides) c.feed.ensures.value
    c.in_ok-find.ensures.known))

pub returns-else-self-clause-known : goal.returns-else-self-clause-known
returns-else-self-clause-known c =
    let of = c.args.self.now in
    let legs = c.find.new.self in
    let rides = c.args.rides.now in
    subst (λ (t : FareTerms). AreKnown (IsKnown of.feed t.buyer legs) rides) c.requires
    (subst (λ (f : FeedRows). AreKnown (IsKnown f c.args.legs.now.known.terms.buyer legs) rides) c.feed.ensures.value
    c.in_ok-find.ensures.known)
