-- Names by their first appearance: each name of a column has a number, and the names are well formed and stand once.
use Rattle.std.proofs.Common.{◌≡◌, refl, sym, ◌∙◌, ap, subst, ℕ, zero, suc, ◌+◌, ◌<◌, ◌≤◌, ⊎_elim, Bool, true, false, List, [], ◌∷◌, ◌++◌, length, get_or, All, AllPairs, arith}
use Rattle.std.specs.Prelude.{◌≢◌, Option, Some, None, ◌&&◌, is_none, bytes_eq, if◌then◌else◌}
use Rattle.std.proofs.lemmas.Bool.{cases_lt}
use Rattle.std.proofs.lemmas.List.{length_push}
use Rattle.std.proofs.lemmas.List.Elements.{All-nil, All-push}
use Rattle.std.proofs.lemmas.List.Quantifiers.{all_pairs_push}
use Rattle.std.proofs.Math.ListN.{get_or-append}
use Rattle.std.proofs.Math.Seq.{get_or-append_seam}
use Rattle.feed_files.specs.declared.names.ColumnName.{ColumnName}
use Rattle.feed_rows.specs.SoundNames.{IsIdText, IsNameList}
use Rattle.plain_laws.proofs.Laws.{find_below_some, find_below_tells, bytes_eq-true, eq-bytes_eq}
use Rattle.feed_faults.specs.Records.{FileTable, field, is_filled}
use Rattle.feed_faults.specs.AcceptedFeed.{place_of_name, name_number, with_name, with_names}

-- the name stands among the names, at its number
pub record IsNamed (names : List (List ℕ)) (name : List ℕ) : Type 0 where
  pub within : name_number names name < length names
  pub has : get_or names (name_number names name) [] ≡ name
  pub found : place_of_name names name ≡ Some (name_number names name)

-- a name that may be empty stands among the names where it is filled
abbrev pub MayBeNamed : List (List ℕ) → List ℕ → Type 0
MayBeNamed names name = is_filled name ≡ true → IsNamed names name

-- names of one number are equal
pub same_name : (names : List (List ℕ)) (a b : List ℕ) → IsNamed names a → IsNamed names b → name_number names a ≡ name_number names b → a ≡ b
same_name names a b one other same = sym one.has ∙ ap (λ i. get_or names i []) same ∙ other.has

named_at : (names : List (List ℕ)) (name : List ℕ) (i : ℕ) → place_of_name names name ≡ Some i → IsNamed names name
unfolding place_of_name
named_at names name i e =
    let first = find_below_tells (λ k. bytes_eq name (get_or names k [])) (length names) i e in
    record { within = rw e first.within; has = rw e (sym (bytes_eq-true name (get_or names i []) first.passes)); found = rw e refl }

-- a name that stands at some place
named_here : (names : List (List ℕ)) (name : List ℕ) (k : ℕ) → k < length names → get_or names k [] ≡ name → IsNamed names name
unfolding place_of_name
named_here names name k lt is =
    let hit = find_below_some (λ i. bytes_eq name (get_or names i [])) (length names) k lt (eq-bytes_eq name (get_or names k []) (sym is)) in
    named_at names name hit.0 hit.1

-- a name that has no place
no_place : (names : List (List ℕ)) (name : List ℕ) → place_of_name names name ≡ None → (k : ℕ) → k < length names → get_or names k [] ≢ name
unfolding place_of_name
no_place names name none k lt is =
    let hit = find_below_some (λ i. bytes_eq name (get_or names i [])) (length names) k lt (eq-bytes_eq name (get_or names k []) (sym is)) in
    let no : None ≡ Some hit.0 = sym none ∙ hit.1 in
    absurd (cc)

-- one more name keeps those before
named_more : (names : List (List ℕ)) (name other : List ℕ) → IsNamed names name → IsNamed (names ++ other ∷ []) name
named_more names name other named =
    let within = named.within in
    let long = length_push names other in
    named_here (names ++ other ∷ []) name (name_number names name) (omega arith) (get_or-append names (other ∷ []) [] (name_number names name) within ∙ named.has)

named_last : (names : List (List ℕ)) (name : List ℕ) → IsNamed (names ++ name ∷ []) name
named_last names name = let long = length_push names name in named_here (names ++ name ∷ []) name (length names) (omega arith) (get_or-append_seam names name [] [])

pub keeps_name : (names : List (List ℕ)) (name other : List ℕ) → IsNamed names name → IsNamed (with_name names other) name
unfolding with_name
keeps_name names name other named = step (is_filled other && is_none (place_of_name names other))
  where
    step : (b : Bool) → IsNamed (if b then names ++ other ∷ [] else names) name
    step true = named_more names name other named
    step false = named

pub takes_name : (names : List (List ℕ)) (name : List ℕ) → is_filled name ≡ true → IsNamed (with_name names name) name
unfolding with_name
takes_name names name filled = step (place_of_name names name) refl
  where
    step : (o : Option ℕ) → place_of_name names name ≡ o → IsNamed (with_name names name) name
    step None none = rw (filled, none) (named_last names name)
    step (Some i) some = rw (filled, some) (named_at names name i some)

-- the names of a column
pub keeps_names : (names : List (List ℕ)) (table : FileTable) (column : ColumnName) (n : ℕ) (name : List ℕ) → IsNamed names name → IsNamed (with_names names table column n) name
keeps_names names table column zero name named = named
keeps_names names table column (suc n) name named = keeps_name (with_names names table column n) name (field table n column) (keeps_names names table column n name named)

pub takes_names : (names : List (List ℕ)) (table : FileTable) (column : ColumnName) (n row : ℕ) → row < n → is_filled (field table row column) ≡ true → IsNamed (with_names names table column n) (field table row column)
takes_names names table column zero row lt filled = absurd (omega arith)
takes_names names table column (suc n) row lt filled = ⊎_elim
    (λ (below : row < n). keeps_name (with_names names table column n) (field table row column) (field table n column) (takes_names names table column n row below filled))
    (λ (past : n ≤ row). let at : n ≡ row = omega arith in rw at (takes_name (with_names names table column row) (field table row column) filled))
    (cases_lt row n)

-- at most so many names, well formed and apart
pub record AreNames (most : ℕ) (names : List (List ℕ)) : Type 0 where
  pub few : length names ≤ most
  pub texts : All IsIdText names
  pub no_doubles : AllPairs (λ a b. a ≢ b) names

pub no_names : AreNames 0 []
no_names = record { few = omega arith; texts = All-nil IsIdText; no_doubles = λ i j d lt within. absurd (omega arith) }

-- the default of a place that is there doesn't matter
get_or-within : (names : List (List ℕ)) (k : ℕ) (d : List ℕ) → k < length names → get_or names k d ≡ get_or names k []
get_or-within [] k d lt = absurd (omega arith)
get_or-within (x ∷ xs) zero d lt = refl
get_or-within (x ∷ xs) (suc k) d lt = get_or-within xs k d (omega arith)

more_names : (most : ℕ) (names : List (List ℕ)) (name : List ℕ) → AreNames most names → (is_filled name ≡ true → IsIdText name) → AreNames (most + 1) (with_name names name)
unfolding with_name
more_names most names name are good = step (is_filled name) refl (place_of_name names name) refl
  where
    few : length names ≤ most
    few = are.few

    same : AreNames (most + 1) names
    same = record { few = omega arith; texts = are.texts; no_doubles = are.no_doubles }

    step : (b : Bool) → is_filled name ≡ b → (o : Option ℕ) → place_of_name names name ≡ o → AreNames (most + 1) (with_name names name)
    step false e o place = rw e same
    step true e (Some i) place = rw (e, place) same
    step true e None place =
        let long = length_push names name in
        rw (e, place) (record {
          few = omega (arith, few);
          texts = All-push IsIdText names name are.texts (good e);
          no_doubles = all_pairs_push (λ a b. a ≢ b) names name are.no_doubles (λ k d lt is. no_place names name place k lt (sym (get_or-within names k d lt) ∙ is));
        })

pub column_names : (most : ℕ) (names : List (List ℕ)) (table : FileTable) (column : ColumnName) (n : ℕ) → AreNames most names → ((row : ℕ) → row < n → is_filled (field table row column) ≡ true → IsIdText (field table row column)) → AreNames (most + n) (with_names names table column n)
column_names most names table column zero are good = let e : most ≡ most + 0 = omega arith in subst (λ m. AreNames m names) e are
column_names most names table column (suc n) are good =
    let e : (most + n) + 1 ≡ most + suc n = omega arith in
    subst (λ m. AreNames m (with_names names table column (suc n))) e
    (more_names (most + n) (with_names names table column n) (field table n column) (column_names most names table column n are (λ row lt. good row (omega arith))) (good n (omega arith)))

-- at most 16,000,000 of them are the names of a sound feed
pub name_list : (most : ℕ) (names : List (List ℕ)) → AreNames most names → most ≤ 16_000_000 → IsNameList names
name_list most names are le = let few = are.few in record { few = omega arith; texts = are.texts; no_doubles = are.no_doubles }
