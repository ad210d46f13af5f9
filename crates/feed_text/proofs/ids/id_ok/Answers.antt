use Rattle.std.proofs.Common.{◌≡◌, arith, rules, tests}
use Rattle.std.specs.List.{list_any}
use Rattle.std.proofs.lemmas.Bool.Decides.{nat_tests}
use Rattle.std.proofs.lemmas.Grind.{common_steps}
use Rattle.std.proofs.lemmas.Iterator.{YieldsList-from_slice}
use Rattle.std.proofs.lemmas.Iterator.Search.{any_from_yields_List}
use Rattle.feed_faults.specs.FieldGrammars.{is_break, is_id}
use Rattle.feed_text.proofs.ids.id_ok.Goals as goal

pub returns : goal.returns
unfolding is_id
returns c =
    let any : c.any.result ≡ list_any is_break c.args.text.now = any_from_yields_List is_break _ _ c.any.result c.any.ensures.ran (YieldsList-from_slice _ c.iter.ensures.rest) (λ x b q k. search (rules, tests)) in
    rw any (grind (arith, common_steps, nat_tests))
