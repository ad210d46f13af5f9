-- What holds of the rows of a list that pass a test, found by their numbers.
use Rattle.std.proofs.Common.{◌≡◌, refl, sym, ◌∙◌, ap, ℕ, Bool, true, false, List, length, Some}
use Rattle.std.specs.Prelude.{slice_get}
use Rattle.std.specs.List.{list_any, list_all}
use Rattle.std.proofs.lemmas.Option.{slice_get_within}
use Rattle.plain_laws.specs.Plain.{at_and, filled_and, ids_where}
use Rattle.plain_laws.proofs.Laws.{same_test, filled_and-true, list_all-at, list_all-from, list_any-place, place_of_any, slice_get-Contains, Contains-slice_get, Contains-picks_below, picks_below-tells}

module _ {X Y : Type 0} (rows : List X) (test : X → Bool) (id : ℕ → Y) (P : Y → Bool) (Q : X → Bool)
    (same : (i : ℕ) (row : X) → slice_get rows i ≡ Some row → test row ≡ true → P (id i) ≡ Q row) where
  -- a row that passes the test is picked
  has : (i : ℕ) (row : X) → slice_get rows i ≡ Some row → test row ≡ true → (k : ℕ) × (slice_get (ids_where id test rows) k ≡ Some (id i))
  has i row at passing =
      slice_get-Contains (ids_where id test rows) (id i)
      (Contains-picks_below (length rows) (λ k. at_and rows k test) id i (slice_get_within rows i row at) (ap (λ o. filled_and o test) at ∙ passing))

  -- what is picked is the number of such a row
  tells : (k : ℕ) (y : Y) → slice_get (ids_where id test rows) k ≡ Some y →
      (i : ℕ) × (row : X) × (slice_get rows i ≡ Some row) × (test row ≡ true) × (id i ≡ y)
  tells k y at =
      let p = picks_below-tells (length rows) (λ i. at_and rows i test) id y (Contains-slice_get (ids_where id test rows) k y at) in
      let row = filled_and-true (slice_get rows p.number) test p.passes in
      (p.number, row.value, row.is, row.passes, p.is)

  -- all that are picked pass where all rows do
  pub picked_all : ((row : X) → test row ≡ false → Q row ≡ true) → list_all P (ids_where id test rows) ≡ list_all Q rows
  picked_all others = same_test _ _ there back
    where
      there : list_all P (ids_where id test rows) ≡ true → list_all Q rows ≡ true
      there all = list_all-from Q rows (λ i row at. by i row at (test row) refl)
        where
          by : (i : ℕ) (row : X) → slice_get rows i ≡ Some row → (b : Bool) → test row ≡ b → Q row ≡ true
          by i row at true passing =
              let place = has i row at passing in
              sym (same i row at passing) ∙ list_all-at P (ids_where id test rows) place.0 (id i) all place.1
          by i row at false failing = others row failing

      back : list_all Q rows ≡ true → list_all P (ids_where id test rows) ≡ true
      back all = list_all-from P (ids_where id test rows) (λ k y at.
          let t = tells k y at in
          sym (ap P t.4) ∙ same t.0 t.1 t.2 t.3 ∙ list_all-at Q rows t.0 t.1 all t.2)

  -- some that is picked passes where some row does
  pub picked_any : ((row : X) → test row ≡ false → Q row ≡ false) → list_any P (ids_where id test rows) ≡ list_any Q rows
  picked_any others = same_test _ _ there back
    where
      there : list_any P (ids_where id test rows) ≡ true → list_any Q rows ≡ true
      there some =
          let place = place_of_any P (ids_where id test rows) some in
          let t = tells place.index place.item place.is in
          list_any-place Q rows t.0 t.1 t.2 (sym (same t.0 t.1 t.2 t.3) ∙ ap P t.4 ∙ place.passes)

      back : list_any Q rows ≡ true → list_any P (ids_where id test rows) ≡ true
      back some =
          let place = place_of_any Q rows some in
          by place.index place.item place.is place.passes (test place.item) refl
        where
          by : (i : ℕ) (row : X) → slice_get rows i ≡ Some row → Q row ≡ true → (b : Bool) → test row ≡ b → list_any P (ids_where id test rows) ≡ true
          by i row at passes true passing =
              let place = has i row at passing in
              list_any-place P (ids_where id test rows) place.0 (id i) place.1 (same i row at passing ∙ passes)
          by i row at passes false failing = absurd (let clash : false ≡ true = sym (others row failing) ∙ passes in cc)
