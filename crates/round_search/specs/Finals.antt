-- What the labels of a search end in.
use Rattle.std.specs.Prelude.{◌≡◌, ℕ, ◌<◌, true, List, length, slice_get, Some}
use Rattle.std.specs.List.{list_any}
use Rattle.transit_base.specs.declared.numbers.StopId.{StopId}
use Rattle.feed_rows.specs.declared.fares.Triple.{Triple}
use Rattle.feed_rows.specs.ParetoTriples.{at_most as is_no_worse}
use Rattle.plain_laws.specs.Adds.{Adds, AllStay}
use Rattle.round_terms.specs.declared.finals.Final.{Final}
use Rattle.round_terms.specs.declared.label.Label.{Label}
use Rattle.round_terms.specs.Labels.{facts_of}
use Rattle.round_terms.specs.Steps.{IsEnd}
use Rattle.round_terms.specs.Tasks.{Task}

-- some final's triple is at most this one
abbrev pub is_bettered : List Final → Triple → Type 0
is_bettered finals triple = list_any (λ final. is_no_worse final.triple triple) finals ≡ true

-- the final is an end of its label
pub record IsFinal {F M : Type 0} (task : Task F M) (labels : List (Label F M)) (final : Final) : Type 0 where
  pub label : Label F M
  pub is : slice_get labels final.label ≡ Some label
  pub end : IsEnd task (facts_of label) final.last final.triple

-- the label ends in the triple, at one of the first n stops, or anywhere
abbrev pub EndsAmong : {F M : Type 0} → Task F M → Label F M → List StopId → ℕ → Triple → Type 0
EndsAmong task x lasts n triple =
    (i : ℕ) × (i < n) × (last : StopId) × (slice_get lasts i ≡ Some last) × IsEnd task (facts_of x) last triple

abbrev pub EndsIn : {F M : Type 0} → Task F M → Label F M → Triple → Type 0
EndsIn task x triple = (last : StopId) × IsEnd task (facts_of x) last triple

-- one of the first n labels does
abbrev pub EndsBelow : {F M : Type 0} → Task F M → List (Label F M) → ℕ → Triple → Type 0
EndsBelow {F} {M} task labels n triple =
    (k : ℕ) × (k < n) × (x : Label F M) × (slice_get labels k ≡ Some x) × EndsIn task x triple

-- whatever the labels end in, some final is at most it
abbrev pub HasEnds : {F M : Type 0} → Task F M → List (Label F M) → List Final → Type 0
HasEnds task labels finals = (triple : Triple) → EndsBelow task labels (length labels) triple → is_bettered finals triple

-- what was bettered still is, and so is each triple of this part; the finals are ends of labels
abbrev pub AddsEnds : {F M : Type 0} → Task F M → List (Label F M) → (Triple → Type 0) → List Final → List Final → Type 0
AddsEnds task labels = Adds (AllStay (IsFinal task labels)) is_bettered
