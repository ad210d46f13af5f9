use Rattle.std.proofs.Common.{◌≡◌, ◌∙◌, inl, inr, ap, subst, ℕ, length, arith}
use Rattle.std.proofs.lemmas.List.{length-map}
use Rattle.std.proofs.lemmas.Result.{IfOk-weaker}
use Rattle.ticket_explain.specs.CommandLines.{price_lines}
use Rattle.command_answers.specs.NamedRides.{rides_of}
use Rattle.command_answers.specs.RidePrices.{IsLeastOfRides}
use Rattle.feed_rows.specs.FeedRows.{FeedRows}
use Rattle.command_answers.proofs.prices.price_text.Goals as goal

pub returns-in_default : goal.returns-in_default
returns-in_default c =
    let query = c.args.query.now in
    let none = subst (IsLeastOfRides c.args.timetable.now (rides_of query.rides.items) query.buyer) c.in_default.is c.in_ok-priced.ensures in
    IfOk-weaker c.uncovered_lines_of.result _ _ (λ text is. inr (none, is)) c.uncovered_lines_of.ensures.lines

pub returns : goal.returns
returns c =
    let feed = c.args.timetable.now in
    let query = c.args.query.now in
    let priced = c.in-Some.priced in
    let least = subst (IsLeastOfRides feed (rides_of query.rides.items) query.buyer) c.in-Some.is c.in_ok-priced.ensures in
    let count : c.len.result ≡ length (rides_of query.rides.items) =
    omega (arith, c.len.ensures, query.rides.ok.0, length-map query.rides.items (λ n. n.ride)) in
    IfOk-weaker c.price_lines_of.result _ _
    (λ text is. inl (
      priced.choice,
      priced.sum.0,
      least,
      is ∙ ap (λ (f : FeedRows). price_lines f c.len.result priced.choice priced.sum.0) c.feed-feed.ensures.value
          ∙ ap (λ (n : ℕ). price_lines feed n priced.choice priced.sum.0) count,
    ))
    c.price_lines_of.ensures.lines
