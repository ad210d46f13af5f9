use Rattle.std.proofs.Common.{◌∙◌, ap, Bool, rules, tests}
use Rattle.std.specs.Prelude.{◌||◌}
use Rattle.std.specs.List.{list_all}
use Rattle.std.proofs.lemmas.Iterator.{YieldsList-from_slice}
use Rattle.std.proofs.lemmas.Iterator.Search.{all_from_yields_List}
use Rattle.commands.specs.CommandWords.{is_single_flag}
use Rattle.commands.specs.Table.{has_value, option_text, options_of}
use Rattle.commands.specs.declared.table.CommandOption.{CommandOption}
use Rattle.plan_words.specs.Words.{behind}
use Rattle.plan_words.proofs.TableLaws.{single_flags}
use Rattle.plan_words.proofs.grammar.has_single_flags.Goals as goal

pub returns : goal.returns
returns c =
    let test : CommandOption → Bool = λ o. has_value o || is_single_flag (behind c.args.words.now) (option_text o) in
    all_from_yields_List test _ _ c.all.result c.all.ensures.ran (YieldsList-from_slice _ c.iter.ensures.rest) (λ x b q k. search (rules, tests))
    ∙ ap (list_all test) c.options.ensures
    ∙ single_flags (is_single_flag (behind c.args.words.now)) (options_of c.args.command)
