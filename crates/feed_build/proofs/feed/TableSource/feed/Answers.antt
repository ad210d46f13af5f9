use Rattle.std.proofs.Common.{◌∙◌, ap}
use Rattle.feed_faults.specs.AcceptedFeed.{rows_of_tables, service_names, network_names, frame_names, product_names, group_names}
use Rattle.feed_build.proofs.FeedLaws.{sound_rows, rows_are}
use Rattle.feed_build.proofs.feed.TableSource.feed.Goals as goal

pub returns : goal.returns
unfolding rows_of_tables
returns g c =
    rows_are c.args.self.now _
    c.in_ok-trip_files.ensures.first
    c.in_ok-trip_files.ensures.second
    c.in_ok-trip_files.ensures.third
    c.requires.stop_times
    c.in_ok-day_files.ensures.first
    c.in_ok-day_files.ensures.second
    c.in_ok-day_files.ensures.third
    c.in_ok-links.ensures
    c.in_ok-area_files.ensures.first
    c.in_ok-area_files.ensures.second
    c.in_ok-area_files.ensures.third
    c.in_ok-product_files.ensures.first
    c.in_ok-product_files.ensures.second
    c.in_ok-product_files.ensures.third
    c.in_ok-rule_files.ensures.first
    c.in_ok-rule_files.ensures.second
    c.in_ok-rule_files.ensures.third
    (ap (λ ids. ids.0) c.in_ok-names.ensures ∙ c.self.invariant.names_are.services ∙ ap service_names c.self.view_is)
    (ap (λ ids. ids.1) c.in_ok-names.ensures ∙ c.self.invariant.names_are.networks ∙ ap network_names c.self.view_is)
    (ap (λ ids. ids.2) c.in_ok-names.ensures ∙ c.self.invariant.names_are.frames ∙ ap frame_names c.self.view_is)
    (ap (λ ids. ids.3) c.in_ok-names.ensures ∙ c.self.invariant.names_are.products ∙ ap product_names c.self.view_is)
    (ap (λ ids. ids.4) c.in_ok-names.ensures ∙ c.self.invariant.names_are.groups ∙ ap group_names c.self.view_is)
    (rw (c.get-leg_rule_table.ensures, c.self.view_is) at c.has.ensures)
    c.currency-currency.ensures.currency
    c.currency-currency.ensures.decimals

pub invariant_of-result : goal.invariant_of-result
invariant_of-result g c =
    sound_rows c.args.self.now _ (rw (← c.self.view_is) c.self.invariant.formed) c.requires.related (returns g c)
