use Rattle.std.proofs.Common.{◌≡◌, ◌∙◌, sym, inl, inr, length}
use Rattle.commands.specs.CommandWords.{is_taken, role_at}
use Rattle.commands.specs.Table.{form_of}
use Rattle.plain_laws.specs.Plain.{all_below}
use Rattle.plan_words.specs.Words.{behind}
use Rattle.plan_words.proofs.TableLaws.{fit_none, fit_so, roles_counted, roles_taken}
use Rattle.plan_words.proofs.grammar.fits.Goals as goal
use Rattle.plan_words.proofs.grammar.fits.Goals.{then-not-are_taken-via-then-not-are_taken, then-not-are_taken-via-else-not-are_taken+then-not-has_single_options, then-not-are_taken-via-else-not-are_taken+else-not-has_single_options+then-not-has_single_flags}

pub returns-then-not-are_taken : goal.returns-then-not-are_taken
returns-then-not-are_taken c =
    let form = form_of c.args.command in
    let words = behind c.args.words.now in
    let roles = c.deref.ensures.value ∙ c.in_ok-roles.ensures in
    let taken : c.are_taken.result ≡ all_below (length words) (λ i. is_taken (role_at form words i)) = c.are_taken.ensures ∙ roles_taken form words c.deref.result.now roles in
    elim c.then-not-are_taken.branch [
      | then-not-are_taken-via-then-not-are_taken w ↦ fit_none form words (inl (sym taken ∙ w.if-not-are_taken.true))
      | then-not-are_taken-via-else-not-are_taken+then-not-has_single_options w ↦ fit_none form words (inr (inl (sym w.has_single_options.ensures ∙ w.if-not-has_single_options.true)))
      | then-not-are_taken-via-else-not-are_taken+else-not-has_single_options+then-not-has_single_flags w ↦ fit_none form words (inr (inr (sym w.has_single_flags.ensures ∙ w.if-not-has_single_flags.true)))
    ]

pub returns : goal.returns
returns c =
    let form = form_of c.args.command in
    let words = behind c.args.words.now in
    let taken : c.are_taken.result ≡ all_below (length words) (λ i. is_taken (role_at form words i)) = c.are_taken.ensures ∙ roles_taken form words c.deref.result.now (c.deref.ensures.value ∙ c.in_ok-roles.ensures) in
    let many = c.count_positional.ensures ∙ roles_counted form words c.deref-2.result.now (c.deref-2.ensures.value ∙ c.in_ok-roles.ensures) in
    c.takes_so_many.ensures
    ∙ fit_so form words c.count_positional.result (sym taken ∙ c.if-not-are_taken.false) (sym c.has_single_options.ensures ∙ c.if-not-has_single_options.false)
    (sym c.has_single_flags.ensures ∙ c.if-not-has_single_flags.false) many
