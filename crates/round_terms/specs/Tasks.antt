-- What a search by rounds is asked.
use Rattle.std.specs.Prelude.{◌≡◌, Bool, true, false, List, []}
use Rattle.feed_rows.specs.declared.fares.Triple.{Triple}
use Rattle.feed_rows.specs.declared.journeys.Query.{Query}
use Rattle.feed_rows.specs.FeedRows.{FeedRows}
use Rattle.feed_rows.specs.Journeys.{Asked as OverFeed}
use Rattle.label_order.specs.Labels.{OrderLaws}
use Rattle.round_terms.specs.declared.aim.Aim.{Aim}
use Rattle.round_terms.specs.Terms.{IsLawful, Terms}

-- a tariff, a query over a feed, and what the labels are to cover: all partial journeys but those that something found cuts off, or
-- those alone that matter for the answer beside triples that are given; or they need cover nothing, where any finals will do
pub record Asked (S : Type 0) : Type 0 where
  pub tariff : S
  pub feed : FeedRows
  pub query : Query
  pub whole : Bool
  pub loose : Bool
  pub given : List Triple

abbrev pub asked_by : {S : Type 0} → S → OverFeed → Aim → Asked S
asked_by tariff over aim = record {
  tariff = tariff;
  feed = over.feed;
  query = over.query;
  whole = aim.whole;
  loose = aim.loose;
  given = aim.given.now;
}

-- a search that is to be whole is not loose, and no triples are given to it
pub record IsAim (aim : Aim) : Type 0 where
  pub strict : aim.whole ≡ true → aim.loose ≡ false
  pub alone : aim.whole ≡ true → aim.given.now ≡ []

-- the same by what is known of fares, and by which of them is as good as which
pub record Task (F M : Type 0) : Type 1 where
  pub at_most : F → F → Bool
  pub terms : Terms F M
  pub feed : FeedRows
  pub query : Query
  pub whole : Bool
  pub loose : Bool
  pub given : List Triple

abbrev pub task_of : {S F M : Type 0} → (F → F → Bool) → (S → Terms F M) → Asked S → Task F M
task_of at_most terms asked = record {
  at_most = at_most;
  terms = terms asked.tariff;
  feed = asked.feed;
  query = asked.query;
  whole = asked.whole;
  loose = asked.loose;
  given = asked.given;
}

-- what makes a search for it right
pub record HasLaws {F M : Type 0} (task : Task F M) : Type 0 where
  pub order : OrderLaws task.at_most
  pub fares : IsLawful task.query.rides task.at_most task.terms
