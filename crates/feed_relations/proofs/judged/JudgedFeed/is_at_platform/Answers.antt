use Rattle.std.proofs.Common.{◌≡◌, ◌∙◌, sym, ap, subst, get_or, false, rules}
use Rattle.feed_files.specs.declared.names.FileName.TheVariants as file
use Rattle.feed_faults.specs.FeedTables.{FeedTables, table_in}
use Rattle.feed_tables.specs.declared.calls.ReadCall.{ReadCall}
use Rattle.feed_relations.specs.JudgedBy.{are_platforms}
use Rattle.feed_relations.proofs.TripNumberLaws.{platform_of, platform_is}
use Rattle.feed_relations.proofs.judged.JudgedFeed.is_at_platform.Goals as goal

pub returns-in-Some : goal.returns-in-Some
unfolding platform_of
returns-in-Some g c =
    let platforms = c.self.inside.platforms.items in
    let are = subst (λ (t : FeedTables). platforms ≡ are_platforms (table_in t file.Stops)) c.self.view_is c.self.invariant.platforms_are in
    let found : c.unwrap_or.result ≡ get_or platforms c.in-Some.stop.0 false = search rules in
    found
    ∙ ap (platform_of platforms) (sym c.in-Some.is ∙ ap (λ (call : ReadCall). call.stop) c.call.ensures.call)
    ∙ platform_is c.args.self.now c.args.row platforms are

pub returns-in-None : goal.returns-in-None
unfolding platform_of
returns-in-None g c =
    let platforms = c.self.inside.platforms.items in
    let are = subst (λ (t : FeedTables). platforms ≡ are_platforms (table_in t file.Stops)) c.self.view_is c.self.invariant.platforms_are in
    ap (platform_of platforms) (sym c.in-None.is ∙ ap (λ (call : ReadCall). call.stop) c.call.ensures.call)
    ∙ platform_is c.args.self.now c.args.row platforms are
