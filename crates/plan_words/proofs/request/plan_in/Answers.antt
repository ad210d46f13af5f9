use Rattle.std.proofs.Common.{ap, arith, refl, sym, subst, ◌∙◌, ◌≡◌, ℕ, List, None, Some}
use Rattle.std.specs.Prelude.{codes, option_map}
use Rattle.commands.specs.CommandWords.{positional_words, word_at}
use Rattle.feed_rows.specs.Limits.{usual_window, most_window}
use Rattle.feed_rows.specs.WordValues.{word_date, word_time, option_number}
use Rattle.commands.specs.Table.{form_of}
use Rattle.commands.specs.declared.table.CommandName.TheVariants as command
use Rattle.plan_words.proofs.RequestLaws.{bad_date, bad_time, bad_rides, bad_window, plan_read, wide}
use Rattle.plan_words.proofs.request.plan_in.Goals as goal

-- a word of the same number in the same list
abbrev word_of : (n : ℕ) (xs ys : List (List ℕ)) → xs ≡ ys → word_at xs n ≡ word_at ys n
word_of n xs ys same = ap (λ (ws : List (List ℕ)). word_at ws n) same

pub returns-in_default-clause-err : goal.returns-in_default-clause-err
returns-in_default-clause-err c = λ words found.
    let date = subst (λ w. None ≡ word_date w)
    (c.as_bytes.ensures.value ∙ c.named.ensures ∙ word_of 2 _ _ found.named) c.in_default.ensures.value in
    sym (bad_date (positional_words (form_of command.Plan) words) words date)

pub returns-in_default-time_of-clause-err : goal.returns-in_default-time_of-clause-err
returns-in_default-time_of-clause-err c = λ words found.
    let date = subst (λ w. Some c.in-Some.day.0 ≡ word_date w)
    (c.as_bytes.ensures.value ∙ c.named.ensures ∙ word_of 2 _ _ found.named) c.in-Some.ensures.value in
    let time = subst (λ w. None ≡ word_time w)
    (c.as_bytes-2.ensures.value ∙ c.named-2.ensures ∙ word_of 3 _ _ found.named) c.in_default-time_of.ensures.value in
    sym (bad_time (positional_words (form_of command.Plan) words) words c.in-Some.day.0 date time)

pub returns-in_default-option_number-clause-err : goal.returns-in_default-option_number-clause-err
returns-in_default-option_number-clause-err c = λ words found.
    let date = subst (λ w. Some c.in-Some.day.0 ≡ word_date w)
    (c.as_bytes.ensures.value ∙ c.named.ensures ∙ word_of 2 _ _ found.named) c.in-Some.ensures.value in
    let time = subst (λ w. Some c.in-Some-time_of.seconds ≡ word_time w)
    (c.as_bytes-2.ensures.value ∙ c.named-2.ensures ∙ word_of 3 _ _ found.named) c.in-Some-time_of.ensures.value in
    let rides = c.in_default-option_number.ensures.value ∙ ap (option_number 4 0 8)
    (c.value_of.ensures ∙ found.options (codes "--rides") refl) in
    sym (bad_rides (positional_words (form_of command.Plan) words) words c.in-Some.day.0 c.in-Some-time_of.seconds
    date time rides)

pub returns-in_default-option_number-2-clause-err : goal.returns-in_default-option_number-2-clause-err
returns-in_default-option_number-2-clause-err c = λ words found.
    let date = subst (λ w. Some c.in-Some.day.0 ≡ word_date w)
    (c.as_bytes.ensures.value ∙ c.named.ensures ∙ word_of 2 _ _ found.named) c.in-Some.ensures.value in
    let time = subst (λ w. Some c.in-Some-time_of.seconds ≡ word_time w)
    (c.as_bytes-2.ensures.value ∙ c.named-2.ensures ∙ word_of 3 _ _ found.named) c.in-Some-time_of.ensures.value in
    let rides = c.in-Some-option_number.ensures.value ∙ ap (option_number 4 0 8)
    (c.value_of.ensures ∙ found.options (codes "--rides") refl) in
    let window = c.in_default-option_number-2.ensures.value ∙ ap (option_number usual_window 1 most_window)
    (c.value_of-within.ensures ∙ found.options (codes "--within") refl) in
    sym (bad_window (positional_words (form_of command.Plan) words) words c.in-Some.day.0 c.in-Some-time_of.seconds
    c.in-Some-option_number.rides date time rides window)

pub returns-clause-value : goal.returns-clause-value
returns-clause-value c = λ words found.
    let date = subst (λ w. Some c.in-Some.day.0 ≡ word_date w)
    (c.as_bytes.ensures.value ∙ c.named.ensures ∙ word_of 2 _ _ found.named) c.in-Some.ensures.value in
    let time = subst (λ w. Some c.in-Some-time_of.seconds ≡ word_time w)
    (c.as_bytes-2.ensures.value ∙ c.named-2.ensures ∙ word_of 3 _ _ found.named) c.in-Some-time_of.ensures.value in
    let rides = c.in-Some-option_number.ensures.value ∙ ap (option_number 4 0 8)
    (c.value_of.ensures ∙ found.options (codes "--rides") refl) in
    let window = c.in-Some-option_number-2.ensures.value ∙ ap (option_number usual_window 1 most_window)
    (c.value_of-within.ensures ∙ found.options (codes "--within") refl) in
    let at = rw (wide c.in-Some-time_of.seconds c.from.result
    (omega (arith, c.in-Some-time_of.ensures.bound)) c.from.ensures) at c.at.ensures in
    let rider = c.value_of-2.ensures ∙ found.options (codes "--rider") refl in
    plan_read (positional_words (form_of command.Plan) words) words c.in-Some.day.0 c.at.result.0
    c.in-Some-time_of.seconds c.in-Some-option_number.rides c.in-Some-option_number-2.window _ _
    (option_map (λ v. v.now) c.value_of-2.result) c.is_set.result date time rides window
    (c.named-3.ensures ∙ word_of 0 _ _ found.named) (c.named-4.ensures ∙ word_of 1 _ _ found.named) at rider
    (c.is_set.ensures ∙ found.flags (codes "--stats") refl)
