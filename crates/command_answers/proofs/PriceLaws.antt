-- What is due for a price.
use Rattle.std.proofs.Common.{◌≡◌, sym, subst, ℕ, List}
use Rattle.std.specs.Prelude.{Ok}
use Rattle.feed_rows.specs.FeedRows.{FeedRows}
use Rattle.commands.specs.PriceQueries.{PriceQuery, price_query_of}
use Rattle.commands.specs.Requests.{PriceRequest}
use Rattle.commands.proofs.PriceQueryLaws.{priced_rides_join}
use Rattle.command_answers.specs.Due.{Task, task_by, ArePriceLines, IsDue}
use Rattle.command_answers.specs.declared.status.Status.{Status}
use Rattle.command_answers.specs.declared.status.Status.TheVariants as status

-- the rides of a query that words name are joined, and its lines are due
pub price_due : (timetable feed : FeedRows) (request : PriceRequest) (query : PriceQuery) (told : Status)
    (text lines : List (List ℕ)) → timetable ≡ feed → price_query_of timetable request ≡ Ok query
    → told ≡ status.Answered → text ≡ lines → ArePriceLines feed query.rides query.buyer lines
    → IsDue (task_by (Task.Prices feed) (price_query_of feed request)) told text
price_due timetable feed request query told text lines same named answered whole are =
    let over_feed = subst (λ f. price_query_of f request ≡ Ok query) same named in
    let joined = priced_rides_join feed request query over_feed in
    subst (λ q. IsDue (task_by (Task.Prices feed) q) told text) (sym over_feed)
    (answered, (joined, subst (ArePriceLines feed query.rides query.buyer) (sym whole) are))
