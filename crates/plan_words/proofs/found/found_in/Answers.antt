use Rattle.std.proofs.Common.{ap, ap₂, ◌∙◌}
use Rattle.clap.specs.Simple.{is_simple, matches_of}
use Rattle.plan_words.specs.Found.{with_all_rules}
use Rattle.plan_words.proofs.ClapLaws.{is_found, simple}
use Rattle.plan_words.proofs.found.found_in.Goals as goal

pub returns-in-Ok-try_get_matches_from : goal.returns-in-Ok-try_get_matches_from
returns-in-Ok-try_get_matches_from c =
    let known = c.in-Ok-with_all_options.ensures ∙ ap with_all_rules c.in-Ok.ensures in
    let matches = c.in-Ok-try_get_matches_from.ensures.matches (ap is_simple known ∙ simple) in
    is_found c.args.command c.args.words.now c.in-Ok-try_get_matches_from.found c.requires (matches.0 ∙ ap₂ matches_of known c.as_slice.ensures)
