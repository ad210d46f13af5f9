use Rattle.std.proofs.Common.{◌∙◌, ap, Bool, rules, tests}
use Rattle.std.specs.Prelude.{◌&&◌, is_some}
use Rattle.std.specs.List.{list_any}
use Rattle.std.proofs.lemmas.Iterator.{YieldsList-from_slice}
use Rattle.std.proofs.lemmas.Iterator.Search.{any_from_yields_List}
use Rattle.commands.specs.CommandWords.{joined_value}
use Rattle.commands.specs.Table.{has_value, option_text, options_of}
use Rattle.commands.specs.declared.table.CommandOption.{CommandOption}
use Rattle.plan_words.proofs.TableLaws.{joins_option}
use Rattle.plan_words.proofs.grammar.is_joined.Goals as goal

pub returns : goal.returns
returns c =
    let test : CommandOption → Bool = λ o. has_value o && is_some (joined_value (option_text o) c.args.word.now) in
    any_from_yields_List test _ _ c.any.result c.any.ensures.ran (YieldsList-from_slice _ c.iter.ensures.rest) (λ x b q k. search (rules, tests))
    ∙ ap (list_any test) c.options.ensures
    ∙ joins_option c.args.word.now (options_of c.args.command)
