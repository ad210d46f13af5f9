-- Dates and times that have no text.
use Rattle.std.proofs.Common.{◌≡◌, refl, sym, ◌∙◌, ap, append_assoc, map, flat_map, ◌∷◌, ◌++◌, ℕ, ◌<◌, ◌≤◌, ◌==◌, false, List, [], ℤ, pos, negsuc, ◌+ℤ◌, ◌-ℤ◌, ◌<ℤ◌, arith}
use Rattle.std.specs.Prelude.{nat_le}
use Rattle.std.proofs.lemmas.List.{append-nil}
use Rattle.std.proofs.lemmas.Int.{ints}
use Rattle.std.proofs.lemmas.Bool.Decides.{nat_tests}
use Rattle.transit_base.specs.Limits.{most_time}
use Rattle.transit_base.specs.Dates.{is_dated}
use Rattle.transit_base.specs.DateTexts.{date_text, time_text}
use Rattle.feed_rows.specs.EntryText.{service_time_text}
use Rattle.feed_rows.specs.MoneyText.{money_text}
use Rattle.feed_rows.specs.Lines.{fields_text}
use Rattle.ticket_explain.specs.declared.field.Field.{Field}
use Rattle.ticket_explain.specs.Fields.{field_text, behind_tab}
use Rattle.ticket_explain.specs.LineParts.{head_text}

-- a day without a date adds nothing
pub undated : (text : List ℕ) (day : ℤ) → is_dated day ≡ false → text ≡ text ++ date_text day
unfolding date_text
undated text day dateless = rw dateless (sym (append-nil text))

past_test : (seconds : ℕ) → most_time < seconds → nat_le seconds most_time ≡ false
past_test seconds past = grind (arith, nat_tests)

-- seconds past 167:59:59 have no text
pub no_time : (seconds : ℕ) → most_time < seconds → time_text seconds ≡ []
unfolding time_text
no_time seconds past = rw (past_test seconds past) refl

pub untimed : (text : List ℕ) (seconds : ℕ) → most_time < seconds → text ≡ text ++ time_text seconds
untimed text seconds past = rw (no_time seconds past) (sym (append-nil text))

-- a second before the service day has no text, nor has one past its times
time_before : (second : ℤ) → second <ℤ pos 0 → service_time_text second ≡ []
time_before (pos n) before = absurd (omega (arith, ints))
time_before (negsuc n) before = refl

time_past : (second : ℤ) → pos most_time <ℤ second → service_time_text second ≡ []
time_past (pos n) past = no_time n (omega (arith, ints))
time_past (negsuc n) past = refl

-- so neither adds anything
pub early : (text : List ℕ) (second : ℤ) → second <ℤ pos 0 → text ≡ text ++ service_time_text second
early text second before = rw (time_before second before) (sym (append-nil text))

pub late : (text : List ℕ) (second : ℤ) → pos most_time <ℤ second → text ≡ text ++ service_time_text second
late text second past = rw (time_past second past) (sym (append-nil text))

-- others have the text of their seconds
pub time_within : (second : ℤ) (n : ℕ) → pos n ≡ second → time_text n ≡ service_time_text second
time_within second n same = rw (← same) refl

-- where a run is shifted by a week or more, its start is none of the service day's
pub far_before : (shift : ℤ) (first : ℕ) → shift <ℤ (pos 0 -ℤ pos most_time) → first ≤ most_time → service_time_text (shift +ℤ pos first) ≡ []
far_before shift first far small = time_before (shift +ℤ pos first) (omega (arith, ints))

pub far_past : (shift : ℤ) (first : ℕ) → pos most_time <ℤ shift → service_time_text (shift +ℤ pos first) ≡ []
far_past shift first far = time_past (shift +ℤ pos first) (omega (arith, ints))

-- a word and its first fields
pub head_of : (word : List ℕ) (fields : List Field) → word ++ flat_map behind_tab fields ≡ head_text word (map field_text fields)
head_of word [] = append-nil word
head_of word (field ∷ fields) =
    sym (append_assoc word (behind_tab field) (flat_map behind_tab fields)) ∙ head_of (word ++ behind_tab field) fields

-- the last fields and a line feed
pub end_of : (text : List ℕ) (fields : List Field)
    → (text ++ flat_map behind_tab fields) ++ 10 ∷ [] ≡ text ++ fields_text (map field_text fields)
end_of text fields =
    append_assoc text (flat_map behind_tab fields) (10 ∷ []) ∙ ap (λ rest. text ++ rest) (ended fields)
  where
    ended : (fields : List Field) → flat_map behind_tab fields ++ 10 ∷ [] ≡ fields_text (map field_text fields)
    ended [] = refl
    ended (field ∷ fields) =
        append_assoc (behind_tab field) (flat_map behind_tab fields) (10 ∷ [])
        ∙ ap (λ rest. behind_tab field ++ rest) (ended fields)

-- an amount of a currency with other decimals than 0, 2 or 3 has no text
pub moneyless : (decimals : ℕ) (amount : ℤ) → (decimals ≡ 0 → ⊥) → (decimals ≡ 2 → ⊥) → (decimals ≡ 3 → ⊥) → money_text decimals amount ≡ []
unfolding money_text
moneyless decimals amount zero two three =
    let not_zero : (decimals == 0) ≡ false = grind (arith, nat_tests) in
    let not_two : (decimals == 2) ≡ false = grind (arith, nat_tests) in
    let not_three : (decimals == 3) ≡ false = grind (arith, nat_tests) in
    rw (not_zero, not_two, not_three) refl
