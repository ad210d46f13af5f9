-- What stands for a value is no markup, so that the markup of a filled template is the template's.
use Rattle.std.proofs.Common.{◌≡◌, refl, sym, ◌∙◌, ℕ, ◌%◌, ◌/◌, ◌<◌, ◌==◌, suc, zero, List, [], ◌∷◌, ◌++◌, Bool, true, false, arith, Option, Some, None, if◌then◌else◌}
use Rattle.std.specs.Prelude.{decimal, slice_get}
use Rattle.std.specs.Fmt.{digit_glyph, digits, digits_onto}
use Rattle.std.specs.List.{flat_map}
use Rattle.std.specs.Option.{option_map_or}
use Rattle.std.proofs.lemmas.Bool.Decides.{nat_tests}
use Rattle.std.proofs.lemmas.List.Elements.{filter-append}
use Rattle.answer_page.specs.Html.{is_markup, markup_of, shown, escaped, value_html, next_html, part_html, next_after, filled}
use Rattle.answer_page.specs.OwnMarkup.{IsInert, Piece, piece_html}
use Rattle.answer_page.specs.Threads.{threaded}
use Rattle.answer_page.specs.declared.page.Value.{Value}
use Rattle.answer_page.specs.declared.page.Value.TheVariants.{Text, Number, Share}

-- the markup of a text joined of two
joined : (a b x y : List ℕ) → markup_of a ≡ x → markup_of b ≡ y → markup_of (a ++ b) ≡ x ++ y
joined a b x y p q = filter-append is_markup a b ∙ rw (p, q) refl

-- a digit is none
digit_inert : (n : ℕ) (acc : List ℕ) → n < 10 → markup_of acc ≡ [] → markup_of (digit_glyph false n ∷ acc) ≡ []
digit_inert n acc small none =
    let no : is_markup (digit_glyph false n) ≡ false = grind (arith, nat_tests) in
    rw no none

digits_inert : (k n : ℕ) (acc : List ℕ) → markup_of acc ≡ [] → markup_of (digits_onto k 10 false n acc) ≡ []
digits_inert zero n acc none = none
digits_inert (suc k) n acc none =
    let last : markup_of (digit_glyph false (n % 10) ∷ acc) ≡ [] = digit_inert (n % 10) acc (omega arith) none in
    by (n / 10 == 0) last (digits_inert k (n / 10) (digit_glyph false (n % 10) ∷ acc) last)
  where
    by : (test : Bool) → markup_of (digit_glyph false (n % 10) ∷ acc) ≡ []
        → markup_of (digits_onto k 10 false (n / 10) (digit_glyph false (n % 10) ∷ acc)) ≡ []
        → markup_of (if test then digit_glyph false (n % 10) ∷ acc else digits_onto k 10 false (n / 10) (digit_glyph false (n % 10) ∷ acc)) ≡ []
    by true last more = last
    by false last more = more

decimal_inert : (n : ℕ) → markup_of (decimal n) ≡ []
unfolding digits
decimal_inert n = digits_inert 64 n [] refl

-- what shows a byte is none
shown_inert : (byte : ℕ) → markup_of (shown byte) ≡ []
shown_inert byte = amp (byte == 38) refl
  where
    other : (byte == 60) ≡ false → (byte == 62) ≡ false → (byte == 34) ≡ false → (byte == 39) ≡ false → markup_of (byte ∷ []) ≡ []
    other a b c d = rw (a, b, c, d) refl

    apos : (byte == 38) ≡ false → (byte == 60) ≡ false → (byte == 62) ≡ false → (byte == 34) ≡ false → (test : Bool) → (byte == 39) ≡ test → markup_of (shown byte) ≡ []
    apos a b c d true is = rw (a, b, c, d, is) refl
    apos a b c d false is = rw (a, b, c, d, is) (other b c d is)

    quote : (byte == 38) ≡ false → (byte == 60) ≡ false → (byte == 62) ≡ false → (test : Bool) → (byte == 34) ≡ test → markup_of (shown byte) ≡ []
    quote a b c true is = rw (a, b, c, is) refl
    quote a b c false is = apos a b c is (byte == 39) refl

    greater : (byte == 38) ≡ false → (byte == 60) ≡ false → (test : Bool) → (byte == 62) ≡ test → markup_of (shown byte) ≡ []
    greater a b true is = rw (a, b, is) refl
    greater a b false is = quote a b is (byte == 34) refl

    less : (byte == 38) ≡ false → (test : Bool) → (byte == 60) ≡ test → markup_of (shown byte) ≡ []
    less a true is = rw (a, is) refl
    less a false is = greater a is (byte == 62) refl

    amp : (test : Bool) → (byte == 38) ≡ test → markup_of (shown byte) ≡ []
    amp true is = rw is refl
    amp false is = less is (byte == 60) refl

escaped_inert : (text : List ℕ) → markup_of (escaped text) ≡ []
escaped_inert [] = refl
escaped_inert (byte ∷ text) = joined (shown byte) (escaped text) [] [] (shown_inert byte) (escaped_inert text)

-- a value is none
pub value_inert : (value : Value) → IsInert value
value_inert (Text text) = escaped_inert text
value_inert (Number number) = decimal_inert number
value_inert (Share share) =
    joined (decimal (share / 10)) (46 ∷ decimal (share % 10)) [] [] (decimal_inert (share / 10)) (decimal_inert (share % 10))

next_inert : (values : List Value) (next : ℕ) → markup_of (next_html values next) ≡ []
next_inert values next = by (slice_get values next)
  where
    by : (value : Option Value) → markup_of (option_map_or value_html value []) ≡ []
    by None = refl
    by (Some value) = value_inert value

-- what a byte of a template stands for has the markup of that byte
part_markup : (byte : ℕ) (values : List Value) (next : ℕ) → markup_of (part_html byte values next) ≡ markup_of (byte ∷ [])
part_markup byte values next = by (byte == 36) refl
  where
    by : (test : Bool) → (byte == 36) ≡ test → markup_of (if test then next_html values next else byte ∷ []) ≡ markup_of (byte ∷ [])
    by true is =
        let no : is_markup byte ≡ false = grind (arith, nat_tests) in
        next_inert values next ∙ rw no refl
    by false is = refl

filled_from : (template : List ℕ) (values : List Value) (next : ℕ)
    → markup_of (threaded (λ next byte. part_html byte values next) (λ next byte. next_after byte next) next template) ≡ markup_of template
unfolding threaded
filled_from [] values next = refl
filled_from (byte ∷ rest) values next =
    joined (part_html byte values next) _ (markup_of (byte ∷ [])) (markup_of rest) (part_markup byte values next)
    (filled_from rest values (next_after byte next))
    ∙ sym (filter-append is_markup (byte ∷ []) rest)

pub filled_markup : (template : List ℕ) (values : List Value) → markup_of (filled template values) ≡ markup_of template
unfolding filled
filled_markup template values = filled_from template values 0

pub pieces_markup : (pieces : List Piece) → markup_of (flat_map piece_html pieces) ≡ markup_of (flat_map (λ piece. piece.template) pieces)
pieces_markup [] = refl
pieces_markup (piece ∷ pieces) =
    joined (piece_html piece) (flat_map piece_html pieces) (markup_of piece.template) (markup_of (flat_map (λ piece. piece.template) pieces))
    (filled_markup piece.template piece.values) (pieces_markup pieces)
    ∙ sym (filter-append is_markup piece.template (flat_map (λ piece. piece.template) pieces))
