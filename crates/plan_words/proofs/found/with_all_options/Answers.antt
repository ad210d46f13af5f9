use Rattle.std.proofs.Common.{◌≡◌, ◌∙◌, ap, subst}
use Rattle.std.specs.Prelude.{IfOk, codes}
use Rattle.clap.specs.Simple.{App, app_of, with_rule}
use Rattle.plan_words.specs.Found.{flag_rule, option_rule}
use Rattle.plan_words.proofs.found.with_all_options.Goals as goal

pub returns : goal.returns
returns c =
    let rider = option_rule (codes "--rider") (codes "rider") in
    let within = option_rule (codes "--within") (codes "within") in
    subst (λ (app : App). IfOk c.with_flag.result (λ more. app_of more ≡ with_rule app (flag_rule (codes "--stats") (codes "stats"))))
    (c.in-Ok-with_option-2.ensures
    ∙ ap (λ (app : App). with_rule app within) (c.in-Ok-with_option.ensures ∙ ap (λ (app : App). with_rule app rider) c.in-Ok.ensures))
    c.with_flag.ensures
