use Rattle.std.proofs.Common.{◌∙◌, ap, Bool, rules, tests}
use Rattle.std.specs.Prelude.{◌&&◌, bytes_eq}
use Rattle.std.specs.List.{list_any}
use Rattle.std.proofs.lemmas.Iterator.{YieldsList-from_slice}
use Rattle.std.proofs.lemmas.Iterator.Search.{any_from_yields_List}
use Rattle.commands.specs.Table.{has_value, option_text, options_of}
use Rattle.commands.specs.declared.table.CommandOption.{CommandOption}
use Rattle.plan_words.proofs.TableLaws.{names_option}
use Rattle.plan_words.proofs.grammar.is_option.Goals as goal

pub returns : goal.returns
returns c =
    let test : CommandOption → Bool = λ o. has_value o && bytes_eq c.args.word.now (option_text o) in
    any_from_yields_List test _ _ c.any.result c.any.ensures.ran (YieldsList-from_slice _ c.iter.ensures.rest) (λ x b q k. search (rules, tests))
    ∙ ap (list_any test) c.options.ensures
    ∙ names_option c.args.word.now (options_of c.args.command)
