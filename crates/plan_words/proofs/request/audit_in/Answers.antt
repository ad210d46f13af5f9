use Rattle.std.proofs.Common.{ap, refl, sym, subst, ◌∙◌, ◌≡◌, ℕ, List, None, Some}
use Rattle.std.specs.Prelude.{codes, option_map}
use Rattle.commands.specs.Commands.{last_day}
use Rattle.commands.specs.CommandWords.{positional_words, word_at}
use Rattle.commands.specs.Table.{form_of}
use Rattle.commands.specs.declared.table.CommandName.TheVariants as command
use Rattle.feed_rows.specs.WordValues.{word_date}
use Rattle.plan_words.proofs.RequestLaws.{audit_read, bad_first, bad_last}
use Rattle.plan_words.proofs.request.audit_in.Goals as goal

-- a word of the same number in the same list
abbrev word_of : (n : ℕ) (xs ys : List (List ℕ)) → xs ≡ ys → word_at xs n ≡ word_at ys n
word_of n xs ys same = ap (λ (ws : List (List ℕ)). word_at ws n) same

pub returns-in_default-clause-err : goal.returns-in_default-clause-err
returns-in_default-clause-err c = λ words found.
    let date = subst (λ w. None ≡ word_date w) (c.as_bytes.ensures.value ∙ c.named.ensures ∙ word_of 0 _ _ found.named) c.in_default.ensures.value in
    sym (bad_first (positional_words (form_of command.Audit) words) words date)

pub returns-in_default-last_in-clause-err : goal.returns-in_default-last_in-clause-err
returns-in_default-last_in-clause-err c = λ words found.
    let date = subst (λ w. Some c.in-Some.first.0 ≡ word_date w) (c.as_bytes.ensures.value ∙ c.named.ensures ∙ word_of 0 _ _ found.named) c.in-Some.ensures.value in
    let last = subst (λ w. None ≡ last_day c.in-Some.first.0 w) (c.as_bytes-2.ensures.value ∙ c.named-2.ensures ∙ word_of 1 _ _ found.named) c.in_default-last_in.ensures.value in
    sym (bad_last (positional_words (form_of command.Audit) words) words c.in-Some.first.0 date last)

pub returns-clause-value : goal.returns-clause-value
returns-clause-value c = λ words found.
    let date = subst (λ w. Some c.in-Some.first.0 ≡ word_date w) (c.as_bytes.ensures.value ∙ c.named.ensures ∙ word_of 0 _ _ found.named) c.in-Some.ensures.value in
    let last = subst (λ w. Some c.in-Some-last_in.last.0 ≡ last_day c.in-Some.first.0 w) (c.as_bytes-2.ensures.value ∙ c.named-2.ensures ∙ word_of 1 _ _ found.named) c.in-Some-last_in.ensures.value in
    audit_read (positional_words (form_of command.Audit) words) words c.in-Some.first.0 c.in-Some-last_in.last.0 (option_map (λ v. v.now) c.value_of.result) date last
    (c.value_of.ensures ∙ found.options (codes "--rider") refl)
