-- A search without spans: by none of them is any moment too late.
use Rattle.std.proofs.Common.{◌≡◌, refl, sym, subst}
use Rattle.feed_rows.specs.declared.journeys.Query.{Query}
use Rattle.feed_rows.specs.FeedRows.{FeedRows}
use Rattle.plan_rides.specs.Cutoffs.{is_span_any}
use Rattle.plan_rides.specs.Spans.{AreSpans, SpanLists, no_spans}

-- so no spans serve for each query
pub none_spans : (feed : FeedRows) (query : Query) (lists : SpanLists) → lists ≡ no_spans → AreSpans feed query lists
unfolding is_span_any
none_spans feed query lists none = subst (AreSpans feed query) (sym none) (record {
  ends = λ stop last seconds ends goes within. refl;
  boards = λ more until within ride facts is since in_time early. refl;
  rides = λ more. record {
    still = λ stop secs enough. refl;
    rides = λ until within stand ride next ridden inside caught early. refl;
  };
})
