-- Where patterns serve stops: the positions at which riders may board.
use Rattle.std.specs.Prelude.{◌≡◌, ℕ, ◌<◌, Bool, ◌&&◌, ◌==◌, List, [], length, map, slice_get, unwrap_or}
use Rattle.std.specs.Option.{option_map_or}
use Rattle.item_groups.specs.declared.groups.Grouped.{Grouped}
use Rattle.plain_laws.specs.Plain.{at_and, joined_below, picks_below}
use Rattle.plan_patterns.specs.declared.pattern.Pattern.{Pattern}
use Rattle.plan_patterns.specs.declared.halts.Halt.{Halt}
use Rattle.plan_patterns.specs.declared.serving.Serving.{Serving}

-- a position of a pattern, by their numbers
abbrev pub serving_of : ℕ → ℕ → Serving
serving_of pattern position = record { pattern = pattern; position = position }

-- the halt at this position is at the stop, and riders may board there
abbrev pub boards_at : List Halt → ℕ → ℕ → Bool
boards_at halts stop position = at_and halts position (λ halt. halt.pickup && halt.stop.0 == stop)

-- a list by its number among lists; the empty one past their end
abbrev pub list_at : {X : Type 0} → List (List X) → ℕ → List X
list_at lists i = unwrap_or (slice_get lists i) []

-- where riders may board at the stop, by pattern and position, of patterns with these halts
abbrev pub servings_at : List (List Halt) → ℕ → List Serving
servings_at all stop =
    joined_below (length all)
    (λ pattern. picks_below (length (list_at all pattern)) (boards_at (list_at all pattern) stop) (serving_of pattern))

-- the same for each of so many stops
pub record AreServings (all : List (List Halt)) (stops : ℕ) (servings : List (List Serving)) : Type 0 where
  pub each : (stop : ℕ) → stop < stops → list_at servings stop ≡ servings_at all stop

-- the halts of patterns
abbrev pub halts_in : List Pattern → List (List Halt)
halts_in patterns = map (λ (p : Pattern). p.halts.items) patterns

-- riders may board at this position
abbrev pub is_pickup : List Halt → ℕ → Bool
is_pickup halts position = at_and halts position (λ halt. halt.pickup)

-- a position of a pattern with the number of its stop
abbrev pub grouped_serving : List Halt → ℕ → ℕ → Grouped Serving
grouped_serving halts pattern position =
    record {
      group = option_map_or (λ (h : Halt). h.stop.0) (slice_get halts position) 0;
      item = serving_of pattern position;
    }

-- those of the first n positions of a pattern at which riders may board
abbrev pub servings_before : List Halt → ℕ → ℕ → List (Grouped Serving)
servings_before halts pattern n = picks_below n (is_pickup halts) (grouped_serving halts pattern)

-- those of all positions
unfoldable pub servings_in : List Halt → ℕ → List (Grouped Serving)
servings_in halts pattern = servings_before halts pattern (length halts)

-- those of the first n patterns
abbrev pub servings_of_first : List (List Halt) → ℕ → List (Grouped Serving)
servings_of_first all n = joined_below n (λ pattern. servings_in (list_at all pattern) pattern)
