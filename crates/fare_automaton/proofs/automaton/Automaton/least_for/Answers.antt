-- The rows are those of the feed.
use Rattle.std.proofs.Common.{◌∙◌, ap}
use Rattle.feed_rows.specs.FeedRows.{FeedRows}
use Rattle.fare_automaton.proofs.automaton.Automaton.least_for.Goals as goal

pub returns : goal.returns
returns c =
    c.least_count.ensures c.args.self.now.feed
    (c.items.ensures.value ∙ ap (λ (f : FeedRows). f.transfer_rules) (c.behind-self.view_is ∙ c.feed.ensures.value)) c.requires
