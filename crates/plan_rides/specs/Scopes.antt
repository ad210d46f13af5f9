-- For which queries runs are held.
use Rattle.std.specs.Prelude.{◌≡◌, ◌≤ℤ◌}
use Rattle.feed_rows.specs.declared.journeys.Query.{Query}
use Rattle.feed_rows.specs.FeedRows.{FeedRows}
use Rattle.plan_patterns.specs.declared.span.Span.{Span}
use Rattle.plan_rides.specs.declared.scope.Scope.{Scope}
use Rattle.plan_rides.specs.InTime.{deadline}

-- from when the query departs until its window ends
abbrev pub span_of : Query → Span
span_of query = record { from = query.departure; until = record { 0 = deadline query } }

-- this query alone
abbrev pub scope_of : Query → Scope
scope_of query = record { from = query.from; rides = query.rides; span = span_of query }

-- the query goes from the stop by at most so many rides, departs no earlier than the span begins, and its window ends no
-- later than the span does
pub record IsInScope (scope : Scope) (query : Query) : Type 0 where
  pub from : query.from ≡ scope.from
  pub rides : query.rides ≡ scope.rides
  pub since : scope.span.from.0 ≤ℤ query.departure.0
  pub until : deadline query ≤ℤ scope.span.until.0

-- a feed, and for which queries over it runs are held
pub record HeldFor : Type 0 where
  pub feed : FeedRows
  pub scope : Scope

abbrev pub held_for : FeedRows → Scope → HeldFor
held_for feed scope = record { feed = feed; scope = scope }
