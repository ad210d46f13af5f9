-- Texts, numbers and templates as HTML.
use Rattle.std.specs.Prelude.{ℕ, Bool, ◌||◌, filter, ◌+◌, ◌==◌, slice_get, ◌/◌, ◌%◌, if◌then◌else◌, List, [], ◌∷◌, ◌++◌, codes, decimal}
use Rattle.std.specs.List.{flat_map}
use Rattle.std.specs.Option.{option_map_or}
use Rattle.answer_page.specs.Threads.{threaded}
use Rattle.answer_page.specs.declared.page.Value.{Value}
use Rattle.answer_page.specs.declared.page.Value.TheVariants.{Text, Number, Share}

-- what shows a byte of a text: for one that markup is made of, a name of it
abbrev pub shown : ℕ → List ℕ
shown byte =
    if byte == 38 then codes "&amp;"
    else if byte == 60 then codes "&lt;"
    else if byte == 62 then codes "&gt;"
    else if byte == 34 then codes "&quot;"
    else if byte == 39 then codes "&#39;"
    else byte ∷ []

-- a text, of which no byte is markup
abbrev pub escaped : List ℕ → List ℕ
escaped text = flat_map shown text

-- the bytes of which elements and attributes are made: `<`, `>` and the quotes
abbrev pub is_markup : ℕ → Bool
is_markup byte = (byte == 60) || (byte == 62) || (byte == 34) || (byte == 39)

-- those that a text has, in order
abbrev pub markup_of : List ℕ → List ℕ
markup_of text = filter is_markup text

-- what stands for a value
abbrev pub value_html : Value → List ℕ
value_html (Text text) = escaped text
value_html (Number number) = decimal number
value_html (Share share) = decimal (share / 10) ++ 46 ∷ decimal (share % 10)

-- the value at a place, if there is one
abbrev pub next_html : List Value → ℕ → List ℕ
next_html values next = option_map_or value_html (slice_get values next) []

-- what a byte of a template stands for, where the next value is at this place: `$` for that value, and another byte for itself
abbrev pub part_html : ℕ → List Value → ℕ → List ℕ
part_html byte values next = if byte == 36 then next_html values next else byte ∷ []

-- the place of the value behind it
abbrev pub next_after : ℕ → ℕ → ℕ
next_after byte next = if byte == 36 then next + 1 else next

-- a template with these values, in order
unfoldable pub filled : List ℕ → List Value → List ℕ
filled template values = threaded (λ next byte. part_html byte values next) (λ next byte. next_after byte next) 0 template
