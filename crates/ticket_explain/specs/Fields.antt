-- The fields of a line, as texts.
use Rattle.std.specs.Prelude.{ℕ, List, ◌∷◌, decimal}
use Rattle.transit_base.specs.DateTexts.{date_text, moment_text}
use Rattle.feed_rows.specs.MoneyText.{money_text}
use Rattle.feed_rows.specs.EntryText.{service_time_text}
use Rattle.ticket_explain.specs.declared.field.Field.{Field}
use Rattle.ticket_explain.specs.declared.field.Field.TheVariants.{Text, Number, Amount, Date, Moment, Second}

-- the text of a field
abbrev pub field_text : Field → List ℕ
field_text (Text bytes) = bytes.now
field_text (Number number) = decimal number
field_text (Amount amount decimals) = money_text decimals amount.0
field_text (Date day) = date_text day.0
field_text (Moment moment) = moment_text moment.0
field_text (Second second) = service_time_text second

-- a field, as it stands in a line
abbrev pub behind_tab : Field → List ℕ
behind_tab field = 9 ∷ field_text field
