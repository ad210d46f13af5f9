-- A page that is made of the program's own markup, in which no value is any.
use Rattle.std.specs.Prelude.{◌≡◌, ℕ, List, [], ◌∷◌}
use Rattle.std.specs.List.{All, Contains, flat_map}
use Rattle.answer_page.specs.Html.{filled, markup_of, value_html}
use Rattle.answer_page.specs.declared.markup.TheConstants.{ALSO, ARRIVES, BAR_END, BAR_START, BOUGHT, CHART_END, CHART_START, DAY, FREE_CHANGE, HEAD_END, INCLUDED, JOURNEY_END, JOURNEY_START, LABELS, LEAVES, MARK_END, MARK_LABEL, MARK_START, NO_JOURNEY, PAGE_END, PAGE_START, PAID_CHANGE, QUESTION_END, REDUCED, RIDER, RIDE_BAR, RIDE_END, RIDE_FROM, RIDE_START, STAY, TICKETS_END, TICKETS_START, TIME, WAIT, WALK, WALK_BAR, WAY_END, WORD}
use Rattle.answer_page.specs.declared.page.Value.{Value}

-- the program's own templates: the constants of its markup, and no others
abbrev pub templates : List (List ℕ)
templates =
    PAGE_START.now ∷ WORD.now ∷ QUESTION_END.now ∷ NO_JOURNEY.now ∷ DAY.now ∷ CHART_START.now ∷ MARK_START.now
    ∷ MARK_LABEL.now ∷ MARK_END.now ∷ CHART_END.now ∷ JOURNEY_START.now ∷ LEAVES.now ∷ ALSO.now ∷ ARRIVES.now
    ∷ HEAD_END.now ∷ BAR_START.now ∷ WALK_BAR.now ∷ RIDE_BAR.now ∷ BAR_END.now ∷ TIME.now ∷ STAY.now ∷ WALK.now
    ∷ WAIT.now ∷ RIDE_START.now ∷ RIDE_FROM.now ∷ RIDE_END.now ∷ WAY_END.now ∷ TICKETS_START.now ∷ RIDER.now
    ∷ BOUGHT.now ∷ INCLUDED.now ∷ REDUCED.now ∷ FREE_CHANGE.now ∷ PAID_CHANGE.now ∷ TICKETS_END.now
    ∷ JOURNEY_END.now ∷ LABELS.now ∷ PAGE_END.now ∷ []

-- a template, and the values that fill it
pub record Piece : Type 0 where
  pub template : List ℕ
  pub values : List Value

abbrev pub piece_html : Piece → List ℕ
piece_html piece = filled piece.template piece.values

-- what stands for a value has no markup: neither an element nor the text of an attribute begins or ends there
abbrev pub IsInert : Value → Type 0
IsInert value = markup_of (value_html value) ≡ []

-- the page is joined of templates of the program, filled with values of which none is markup: so its markup is that of these
-- templates, in order
pub record IsOwnMarkup (page : List ℕ) : Type 0 where
  pub pieces : List Piece
  pub joined : page ≡ flat_map piece_html pieces
  pub own : All (λ piece. Contains templates piece.template) pieces
  pub inert : All (λ piece. All IsInert piece.values) pieces
  pub markup : markup_of page ≡ markup_of (flat_map (λ piece. piece.template) pieces)
