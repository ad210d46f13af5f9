-- What an automaton is about.
use Rattle.feed_rows.specs.declared.journeys.Buyer.{Buyer}
use Rattle.feed_rows.specs.FeedRows.{FeedRows}

-- a feed and a buyer
pub record FareTerms : Type 0 where
  pub feed : FeedRows
  pub buyer : Buyer

abbrev pub terms : FeedRows → Buyer → FareTerms
terms feed buyer = record { feed = feed; buyer = buyer }
