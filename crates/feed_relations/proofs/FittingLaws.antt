-- Each check of the list of a file that is kept as a table fits the file, and rows that have passed the checks before it are as it needs them.
use Rattle.std.proofs.Common.{◌≡◌, refl, ℕ, zero, suc, ◌+◌, ◌<◌, true, false, List, [], ◌∷◌, length, get_or, Option, Some, None, arith, subst}
use Rattle.std.specs.Prelude.{slice_get}
use Rattle.feed_files.specs.declared.names.FileName.{FileName}
use Rattle.feed_files.specs.declared.names.FileName.TheVariants as file
use Rattle.plain_laws.specs.Plain.{find_below, first_below, when}
use Rattle.plain_laws.proofs.Laws.{at_item, none_below, none_when, find_below_tells}
use Rattle.feed_faults.specs.declared.checks.RowRule.{RowRule}
use Rattle.feed_faults.specs.declared.checks.RowCheck.{RowCheck}
use Rattle.feed_faults.specs.declared.checks.RowCheck.TheVariants.{NewKey}
use Rattle.feed_files.specs.declared.faults.FeedFault.{FeedFault}
use Rattle.feed_faults.specs.FeedTables.{FeedTables}
use Rattle.feed_faults.specs.FaultPlaces.{field_fault}
use Rattle.feed_faults.specs.FileColumns.{checks_of}
use Rattle.feed_faults.specs.RowChecks.{fails, fault_of_check}
use Rattle.feed_tables.specs.RowNumbers.{has_table}
use Rattle.feed_relations.specs.FittingChecks.{Fits}
use Rattle.feed_relations.specs.RowKeys.{IsKeyKnown}
use Rattle.feed_relations.proofs.LeastLaws.{IsLeast, least_kept, least_found}

-- a row has passed the first n checks of its file
abbrev HasPassed : FeedTables → FileName → ℕ → ℕ → Type 0
HasPassed t name n row = first_below n (at_item (checks_of name) (fault_of_check t name row)) ≡ None

-- what a check takes as known of a row
abbrev Knows : FeedTables → FileName → RowCheck → ℕ → Type 0
Knows t name NewKey row = IsKeyKnown t name row
Knows t name check row = Unit {0}

-- a check before the first n didn't fail
passed : (t : FeedTables) (name : FileName) (n row k : ℕ) (check : RowRule) → HasPassed t name n row → k < n → slice_get (checks_of name) k ≡ Some check → fails t name check row ≡ false
passed t name n row k check has lt at =
    let none = none_below (at_item (checks_of name) (fault_of_check t name row)) n k has lt in
    none_when (fails t name check row) (field_fault name row check.column check.kind) (rw at at none)

-- each check of a list, whose first stands at a place, has what it needs
abbrev DoFit : FeedTables → FileName → ℕ → List RowRule → Type 0
DoFit t name i [] = Unit {0}
DoFit t name i (check ∷ checks) = Fits name check.check × ((row : ℕ) → HasPassed t name i row → Knows t name check.check row) × DoFit t name (i + 1) checks

module _ (t : FeedTables) (name : FileName) where
  fit_at : (i : ℕ) (checks : List RowRule) (k : ℕ) (d : RowRule) → DoFit t name i checks → k < length checks → Fits name (get_or checks k d).check
  fit_at i [] k d fit lt = absurd (omega arith)
  fit_at i (check ∷ checks) zero d fit lt = fit.0
  fit_at i (check ∷ checks) (suc k) d fit lt = fit_at (i + 1) checks k d fit.2 (omega arith)

  know_at : (i : ℕ) (checks : List RowRule) (k : ℕ) (d : RowRule) (row : ℕ) → DoFit t name i checks → k < length checks → HasPassed t name (i + k) row → Knows t name (get_or checks k d).check row
  know_at i [] k d row fit lt has = absurd (omega arith)
  know_at i (check ∷ checks) zero d row fit lt has = let e : i + 0 ≡ i = omega arith in fit.1 row (subst (λ n. HasPassed t name n row) e has)
  know_at i (check ∷ checks) (suc k) d row fit lt has =
      let e : i + suc k ≡ i + 1 + k = omega arith in
      know_at (i + 1) checks k d row fit.2 (omega arith) (subst (λ n. HasPassed t name n row) e has)

-- the checks of each file
module _ (t : FeedTables) where
  do_fit : (name : FileName) → has_table name ≡ true → DoFit t name 0 (checks_of name)
  do_fit file.Stops kept = (refl, (λ row has. tt), (refl, (λ row has. tt), (refl, (λ row has. tt), tt)))
  do_fit file.Routes kept = (refl, (λ row has. tt), tt)
  do_fit file.Trips kept = (refl, (λ row has. tt), (tt, (λ row has. tt), (tt, (λ row has. tt), tt)))
  do_fit file.StopTimes kept = absurd (cc)
  do_fit file.Calendar kept = (refl, (λ row has. tt), (refl, (λ row has. tt), tt))
  do_fit file.CalendarDates kept = (tt, (λ row has. tt), tt)
  do_fit file.Frequencies kept =
      (tt, (λ row has. tt), (tt, (λ row has. passed t file.Frequencies 1 row 0 _ has (omega arith) refl), tt))
  do_fit file.Transfers kept = (tt, (λ row has. tt), (tt, (λ row has. tt), tt))
  do_fit file.Areas kept = (refl, (λ row has. tt), tt)
  do_fit file.StopAreas kept = (tt, (λ row has. tt), (tt, (λ row has. tt), tt))
  do_fit file.Networks kept = (refl, (λ row has. tt), tt)
  do_fit file.RouteNetworks kept = (refl, (λ row has. tt), (tt, (λ row has. tt), (tt, (λ row has. tt), tt)))
  do_fit file.Timeframes kept = (tt, (λ row has. tt), (refl, (λ row has. tt), tt))
  do_fit file.RiderCategories kept = (refl, (λ row has. tt), tt)
  do_fit file.FareMedia kept = (refl, (λ row has. tt), tt)
  do_fit file.FareProducts kept = (
    tt,
    (λ row has. tt),
    (
      tt,
      (λ row has. tt),
      (
        tt,
        (λ row has. (passed t file.FareProducts 2 row 0 _ has (omega arith) refl, passed t file.FareProducts 2 row 1 _ has (omega arith) refl)),
        (tt, (λ row has. tt), tt),
      ),
    ),
  )
  do_fit file.FareLegRules kept =
      (tt, (λ row has. tt), (tt, (λ row has. tt), (tt, (λ row has. tt), (tt, (λ row has. tt), (tt, (λ row has. tt), (tt, (λ row has. tt), tt))))))
  do_fit file.FareTransferRules kept =
      (tt, (λ row has. tt), (tt, (λ row has. tt), (tt, (λ row has. tt), (tt, (λ row has. tt), (tt, (λ row has. tt), tt)))))
  do_fit file.FareLegJoinRules kept =
      (tt, (λ row has. tt), (tt, (λ row has. tt), (tt, (λ row has. tt), (tt, (λ row has. tt), (tt, (λ row has. tt), tt)))))

  pub fits : (name : FileName) (k : ℕ) (d : RowRule) → has_table name ≡ true → k < length (checks_of name) → Fits name (get_or (checks_of name) k d).check
  fits name k d kept lt = fit_at t name 0 (checks_of name) k d (do_fit name kept) lt

  pub knows : (name : FileName) (k : ℕ) (d : RowRule) (row : ℕ) → has_table name ≡ true → k < length (checks_of name) → HasPassed t name k row → (get_or (checks_of name) k d).check ≡ NewKey → IsKeyKnown t name row
  knows name k d row kept lt has is =
      let e : k ≡ 0 + k = omega arith in
      subst (λ check. Knows t name check row) is (know_at t name 0 (checks_of name) k d row (do_fit name kept) lt (subst (λ n. HasPassed t name n row) e has))

-- the least row at which a check of a list fails, after one check more, which is one of the file's list
module _ (t : FeedTables) (name : FileName) (checks : List RowRule) (are : checks ≡ checks_of name) (n i below : ℕ) (found : Option FeedFault) (d : RowRule) (lt : i < length checks) (least : IsLeast (checks_of name) (fault_of_check t name) i n below found) where
  abbrev check : RowRule
  check = get_or checks i d

  abbrev fault : ℕ → FeedFault
  fault row = field_fault name row check.column check.kind

  within : i < length (checks_of name)
  within = rw are at lt

  no_fault : (k : ℕ) → fails t name check k ≡ false → fault_of_check t name k (get_or (checks_of name) i d) ≡ None
  no_fault k e = rw (← are) (rw e refl)

  -- it fails at no row below that
  pub check_passed : find_below below (fails t name check) ≡ None → IsLeast (checks_of name) (fault_of_check t name) (i + 1) n below found
  check_passed none =
      least_kept (checks_of name) (fault_of_check t name) n i below found d within least
      (λ k small. no_fault k (none_when (fails t name check k) k (none_below (λ j. when (fails t name check j) j) below k none small)))

  -- it fails at one
  pub check_failed : (row : ℕ) → find_below below (fails t name check) ≡ Some row → IsLeast (checks_of name) (fault_of_check t name) (i + 1) n row (Some (fault row))
  check_failed row some =
      let first = find_below_tells (fails t name check) below row some in
      least_found (checks_of name) (fault_of_check t name) n i below row found d (fault row) within least first.within
      (λ k small. no_fault k (first.earlier k small))
      (rw (← are) (rw first.passes refl))
