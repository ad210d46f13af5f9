-- The records of a text that is UTF-8 are UTF-8, and each list of such records is that of a text.
use Rattle.std.proofs.Common.{◌≡◌, refl, sym, subst, ℕ, ◌+◌, ◌<◌, ◌≤◌, ◌==◌, ◌⊎◌, inl, inr, ◌++◌, List, [], ◌∷◌, length, get_or, Bool, true, false, nat_lt, None, Some, append_assoc, arith}
use Rattle.std.specs.Prelude.{◌||◌, ◌&&◌, if◌then◌else◌, IsUtf8, All, map}
use Rattle.std.specs.List.{list_any}
use Rattle.std.proofs.lemmas.Bool.{cases_Bool, and_parts, eqb-true}
use Rattle.std.proofs.lemmas.Bool.Decides.{nat_tests}
use Rattle.std.proofs.lemmas.Option.{same_Some}
use Rattle.std.proofs.lemmas.List.{append-nil, length-append}
use Rattle.std.proofs.lemmas.Str.Ascii.{IsAscii-from_all}
use Rattle.std.proofs.Math.Utf8.{encode}
use Rattle.std.proofs.lemmas.List.Elements.{All-nil, All-cons, All-head, All-tail}
use Rattle.std.proofs.lemmas.Str.{IsUtf8-nil, IsUtf8-append, IsUtf8-from_ascii, IsUtf8-encode, IsUtf8-take, IsUtf8-drop, IsCharBoundary-before_ascii, IsCharBoundary-after_ascii, IsCharBoundary-past_char}
use Rattle.std.proofs.Math.Seq.{take-append_seam, drop-append-add, get_or-append_seam}
use Rattle.csv.specs.Machine.{Read, next_record, step, is_end, fields_after, field_after, ends_at_end, after_end, in_field, start_field, start_record}
use Rattle.csv.specs.Records.{AllText}
use Rattle.csv.specs.Reading.{default_config, Reached, is_bom, strip_bom}
use Rattle.csv.specs.Writing.{default_writer, escaped, field_text, fields_text, is_blank, needs_byte, row_text, read_back}
use Rattle.csv.specs.declared.parser.Action.{Action}
use Rattle.csv.specs.declared.parser.Action.TheVariants as act
use Rattle.csv.specs.declared.parser.State.{State}
use Rattle.csv.specs.declared.parser.State.TheVariants as st
use Rattle.csv.specs.declared.parser.Terminator.TheVariants as term
use Rattle.csv.proofs.RecordFacts.{text-more}
use Rattle.csv.proofs.RoundTrip.{rows_text, read-write}
use Rattle.feed_faults.specs.Records.{file_records}
use Rattle.feed_text.proofs.RecordLaws.{all_records}

-- a text is cut before and behind a byte of ASCII
cut_at_ascii : (xs : List ℕ) (c : ℕ) (ys : List ℕ) → c < 128 → IsUtf8 (xs ++ c ∷ ys) → IsUtf8 xs × IsUtf8 ys
cut_at_ascii xs c ys small is =
    let text = xs ++ c ∷ ys in
    let long : length xs < length text = rw (length-append xs (c ∷ ys)) (omega arith) in
    let here : get_or text (length xs) 0 ≡ c = get_or-append_seam xs c ys 0 in
    let low : get_or text (length xs) 0 < 128 = rw here small in
    let before = IsUtf8-take text (length xs) is (IsCharBoundary-before_ascii text (length xs) long low) in
    let behind = IsUtf8-drop text (length xs + 1) is (IsCharBoundary-after_ascii text (length xs) is long low) in
    (rw (take-append_seam xs (c ∷ ys)) at before, rw (drop-append-add xs (c ∷ ys) 1) at behind)

-- the states in which no comment is read
abbrev pub is_plain : State → Bool
is_plain st.StartRecord = true
is_plain st.StartField = true
is_plain st.InField = true
is_plain st.InQuoted = true
is_plain st.AfterQuote = true
is_plain st.InEscape = true
is_plain st.InComment = false
is_plain st.AfterCr = true

either : (b : Bool) (x y : State × Action) → is_plain x.0 ≡ true → is_plain y.0 ≡ true → is_plain (if b then x else y).0 ≡ true
either true x y p q = p
either false x y p q = q

after_plain : (c : ℕ) → is_plain (after_end term.CRLF c) ≡ true
after_plain c = elim (cases_Bool (c == 13)) [ inl e ↦ rw e refl | inr e ↦ rw e refl ]

in_field_plain : (c : ℕ) → is_plain (in_field default_config c).0 ≡ true
in_field_plain c = either (c == 44) _ _ refl (either ((c == 13) || (c == 10)) _ _ (after_plain c) refl)

start_field_plain : (c : ℕ) → is_plain (start_field default_config c).0 ≡ true
start_field_plain c = either (c == 34) _ _ refl (in_field_plain c)

start_record_plain : (c : ℕ) → is_plain (start_record default_config c).0 ≡ true
start_record_plain c = either ((c == 13) || (c == 10)) _ _ refl (start_field_plain c)

step_plain : (s : State) (c : ℕ) → is_plain s ≡ true → is_plain (step default_config s c).0 ≡ true
step_plain st.StartRecord c p = start_record_plain c
step_plain st.StartField c p = start_field_plain c
step_plain st.InField c p = in_field_plain c
step_plain st.InQuoted c p = either (c == 34) _ _ refl refl
step_plain st.AfterQuote c p = either (c == 34) _ _ refl (in_field_plain c)
step_plain st.InEscape c p = refl
step_plain st.InComment c p = absurd (cc)
step_plain st.AfterCr c p = either (c == 10) _ _ refl (start_record_plain c)

-- a byte past ASCII joins the field at hand
module _ (c : ℕ) (big : 128 ≤ c) where
  no_comma : (c == 44) ≡ false
  no_comma = grind (arith, nat_tests, big)

  no_quote : (c == 34) ≡ false
  no_quote = grind (arith, nat_tests, big)

  no_return : (c == 13) ≡ false
  no_return = grind (arith, nat_tests, big)

  no_feed : (c == 10) ≡ false
  no_feed = grind (arith, nat_tests, big)

  joins : (s : State) → is_plain s ≡ true → (step default_config s c).1 ≡ act.Copy
  joins st.StartRecord p = rw (no_return, no_feed, no_quote, no_comma) refl
  joins st.StartField p = rw (no_quote, no_comma, no_return, no_feed) refl
  joins st.InField p = rw (no_comma, no_return, no_feed) refl
  joins st.InQuoted p = rw no_quote refl
  joins st.AfterQuote p = rw (no_quote, no_comma, no_return, no_feed) refl
  joins st.InEscape p = refl
  joins st.InComment p = absurd (cc)
  joins st.AfterCr p = rw (no_feed, no_return, no_quote, no_comma) refl

-- what a record of a text leaves, where the fields before it and the field at hand with the rest are UTF-8
abbrev pub LeavesText : Read → Type 0
LeavesText p = AllText p.0 × (is_plain p.1 ≡ true) × IsUtf8 p.2

-- one byte on, by what it does
module _ (f : List (List ℕ)) (g : List ℕ) (c : ℕ) (rest : List ℕ) (fs : AllText f) (is : IsUtf8 (g ++ c ∷ rest)) where
  abbrev KeepsText : Action → Type 0
  KeepsText a = AllText (fields_after a f g) × IsUtf8 (field_after a c g ++ rest)

  kept : (a : Action) → (a ≡ act.Copy) ⊎ (c < 128) → KeepsText a
  kept act.Copy how = (fs, rw (append_assoc g (c ∷ []) rest) is)
  kept act.Skip (inl e) = absurd (cc)
  kept act.Skip (inr small) = let cut = cut_at_ascii g c rest small is in (fs, IsUtf8-append g rest cut.0 cut.1)
  kept act.EndField (inl e) = absurd (cc)
  kept act.EndField (inr small) = let cut = cut_at_ascii g c rest small is in (text-more f g fs cut.0, cut.1)
  kept act.EndRecord (inl e) = absurd (cc)
  kept act.EndRecord (inr small) = let cut = cut_at_ascii g c rest small is in (text-more f g fs cut.0, cut.1)

copies : (s : State) (c : ℕ) → is_plain s ≡ true → ((step default_config s c).1 ≡ act.Copy) ⊎ (c < 128)
copies s c p = elim (cases_Bool (nat_lt c 128)) [
  | inl e ↦ inr (grind (arith, nat_tests, e))
  | inr e ↦ inl (joins c (grind (arith, nat_tests, e)) s p)
]

-- a record of a text
pub next_is_text : (s : State) (f : List (List ℕ)) (g xs : List ℕ) (p : Read) → is_plain s ≡ true → AllText f → IsUtf8 (g ++ xs)
    → next_record default_config s f g xs ≡ Some p → LeavesText p
unfolding next_record
next_is_text s f g [] p plain fs is e = last (ends_at_end s) e
  where
    last : (b : Bool) → (if b then Some (f ++ (g ∷ []), st.StartRecord, []) else None) ≡ Some p → LeavesText p
    last true e = subst LeavesText (same_Some _ _ e) (text-more f g fs (rw (append-nil g) at is), refl, IsUtf8-nil)
    last false e = absurd (cc)
next_is_text s f g (c ∷ rest) p plain fs is e =
    more (step default_config s c).1 (kept f g c rest fs is (step default_config s c).1 (copies s c plain)) (step_plain s c plain)
    (λ f2 g2 fs2 is2 e2. next_is_text (step default_config s c).0 f2 g2 rest p (step_plain s c plain) fs2 is2 e2) e
  where
    more : (a : Action) → KeepsText f g c rest fs is a → is_plain (step default_config s c).0 ≡ true
        → ((f2 : List (List ℕ)) (g2 : List ℕ) → AllText f2 → IsUtf8 (g2 ++ rest) → next_record default_config (step default_config s c).0 f2 g2 rest ≡ Some p → LeavesText p)
        → (if is_end a then Some (fields_after a f g, (step default_config s c).0, rest) else next_record default_config (step default_config s c).0 (fields_after a f g) (field_after a c g) rest) ≡ Some p
        → LeavesText p
    more act.EndRecord keeps plain2 later e = subst LeavesText (same_Some _ _ e) (keeps.0, plain2, keeps.1)
    more act.Copy keeps plain2 later e = later f (g ++ c ∷ []) keeps.0 keeps.1 e
    more act.Skip keeps plain2 later e = later f g keeps.0 keeps.1 e
    more act.EndField keeps plain2 later e = later (f ++ (g ∷ [])) [] keeps.0 keeps.1 e

-- the records of a text
pub rows_are_text : (s s2 : State) (xs ys : List ℕ) (rows : List (List (List ℕ))) → is_plain s ≡ true → IsUtf8 xs
    → Reached default_config s xs rows s2 ys → All AllText rows × (is_plain s2 ≡ true) × IsUtf8 ys
unfolding Reached AllText
rows_are_text s s2 xs ys [] plain is reached = (All-nil AllText, rw (← reached.0) plain, subst IsUtf8 reached.1 is)
rows_are_text s s2 xs ys (r ∷ rs) plain is reached =
    let p = reached.0 in
    let one = next_is_text s [] [] xs p plain tt is reached.1 in
    let later = rows_are_text p.1 s2 p.2 ys rs one.1 one.2 reached.3 in
    (All-cons AllText r rs (rw reached.2 one.0) later.0, later.1, later.2)

one_is_text : (c : ℕ) → c < 128 → IsUtf8 (c ∷ [])
one_is_text c small = IsUtf8-from_ascii (c ∷ []) (IsAscii-from_all (c ∷ []) (All-cons (λ b. b < 128) c [] small (All-nil (λ b. b < 128))))

quotes_are_text : IsUtf8 (34 ∷ 34 ∷ [])
quotes_are_text = IsUtf8-append (34 ∷ []) (34 ∷ []) (one_is_text 34 (omega arith)) (one_is_text 34 (omega arith))

bom : List ℕ
bom = 0xEF ∷ 0xBB ∷ 0xBF ∷ []

bom_is_text : IsUtf8 bom
unfolding bom encode
bom_is_text = IsUtf8-encode 0xFEFF refl

-- behind a byte order mark stands a text
pub strip_bom_is_text : (xs : List ℕ) → IsUtf8 xs → IsUtf8 (strip_bom xs)
unfolding strip_bom encode
strip_bom_is_text [] is = is
strip_bom_is_text (a ∷ []) is = is
strip_bom_is_text (a ∷ b ∷ []) is = is
strip_bom_is_text (a ∷ b ∷ c ∷ rest) is = step (is_bom a b c) refl
  where
    step : (mark : Bool) → is_bom a b c ≡ mark → IsUtf8 (if mark then rest else a ∷ b ∷ c ∷ rest)
    step false e = is
    step true e =
        let all = and_parts ((a == 0xEF) && (b == 0xBB)) (c == 0xBF) e in
        let two = and_parts (a == 0xEF) (b == 0xBB) all.0 in
        behind (eqb-true a 0xEF two.0) (eqb-true b 0xBB two.1) (eqb-true c 0xBF all.1)
      where
        behind : a ≡ 0xEF → b ≡ 0xBB → c ≡ 0xBF → IsUtf8 rest
        behind ea eb ec =
            let begins : a ∷ b ∷ c ∷ rest ≡ encode 0xFEFF ++ rest = rw (ea, eb, ec) refl in
            IsUtf8-drop (a ∷ b ∷ c ∷ rest) 3 is (IsCharBoundary-past_char (a ∷ b ∷ c ∷ rest) rest 0 0xFEFF (omega arith) is begins)

-- a text with each quote written twice
module _ where
  escaped_is_text : (p g : List ℕ) → IsUtf8 (p ++ g) → IsUtf8 (p ++ escaped default_writer g)
  unfolding escaped
  escaped_is_text p [] is = is
  escaped_is_text p (b ∷ rest) is = step (b == 34) refl (λ q qs. escaped_is_text q rest qs)
    where
      step : (quote : Bool) → (b == 34) ≡ quote → ((q : List ℕ) → IsUtf8 (q ++ rest) → IsUtf8 (q ++ escaped default_writer rest))
          → IsUtf8 (p ++ (if quote then 34 ∷ b ∷ escaped default_writer rest else b ∷ escaped default_writer rest))
      step false e later = rw (← append_assoc p (b ∷ []) (escaped default_writer rest)) (later (p ++ b ∷ []) (rw (append_assoc p (b ∷ []) rest) is))
      step true e later =
          let same : b ≡ 34 = eqb-true b 34 e in
          let cut = cut_at_ascii p b rest (rw same (omega arith)) is in
          let quotes : IsUtf8 (34 ∷ b ∷ []) = rw same quotes_are_text in
          IsUtf8-append p (34 ∷ b ∷ escaped default_writer rest) cut.0 (IsUtf8-append (34 ∷ b ∷ []) (escaped default_writer rest) quotes (later [] cut.1))

quoted_is_text : (g : List ℕ) → IsUtf8 g → IsUtf8 (field_text default_writer g)
quoted_is_text g is = elim (cases_Bool (list_any (needs_byte default_writer) g)) [
  | inl e ↦ rw e (IsUtf8-append (34 ∷ []) (escaped default_writer g ++ 34 ∷ []) (one_is_text 34 (omega arith)) (IsUtf8-append (escaped default_writer g) (34 ∷ []) (escaped_is_text [] g is) (one_is_text 34 (omega arith))))
  | inr e ↦ rw e is
]

fields_are_text : (fs : List (List ℕ)) → AllText fs → IsUtf8 (fields_text default_writer fs)
unfolding fields_text AllText
fields_are_text [] are = IsUtf8-nil
fields_are_text (f ∷ fs) are =
    IsUtf8-append (44 ∷ []) (field_text default_writer f ++ fields_text default_writer fs) (one_is_text 44 (omega arith))
    (IsUtf8-append (field_text default_writer f) (fields_text default_writer fs) (quoted_is_text f are.0) (fields_are_text fs are.1))

ends_are_text : (blank : Bool) → IsUtf8 ((if blank then 34 ∷ 34 ∷ [] else []) ++ 10 ∷ [])
ends_are_text true = IsUtf8-append (34 ∷ 34 ∷ []) (10 ∷ []) quotes_are_text (one_is_text 10 (omega arith))
ends_are_text false = one_is_text 10 (omega arith)

row_is_text : (fs : List (List ℕ)) → AllText fs → IsUtf8 (row_text default_writer fs)
unfolding AllText
row_is_text [] are = ends_are_text (is_blank default_writer [])
row_is_text (f ∷ fs) are =
    IsUtf8-append (field_text default_writer f ++ fields_text default_writer fs) _
    (IsUtf8-append (field_text default_writer f) (fields_text default_writer fs) (quoted_is_text f are.0) (fields_are_text fs are.1))
    (ends_are_text (is_blank default_writer (f ∷ fs)))

rows_text_is_text : (rows : List (List (List ℕ))) → All AllText rows → IsUtf8 (rows_text rows)
unfolding rows_text
rows_text_is_text [] are = IsUtf8-nil
rows_text_is_text (r ∷ rs) are =
    IsUtf8-append (row_text default_writer r) (rows_text rs) (row_is_text r (All-head AllText r rs are)) (rows_text_is_text rs (All-tail AllText r rs are))

rows_are_reached : (rows : List (List (List ℕ))) → Reached default_config st.StartRecord (rows_text rows) (map read_back rows) st.StartRecord []
unfolding Reached rows_text
rows_are_reached [] = (refl, refl)
rows_are_reached (r ∷ rs) = ((read_back r, st.StartRecord, rows_text rs), read-write r (rows_text rs), refl, rows_are_reached rs)

-- records of UTF-8 are those of a text
pub text_of_rows : List (List (List ℕ)) → List ℕ
text_of_rows rows = bom ++ rows_text rows

pub text_of_rows_is_text : (rows : List (List (List ℕ))) → All AllText rows → IsUtf8 (text_of_rows rows)
unfolding text_of_rows
text_of_rows_is_text rows are = IsUtf8-append bom (rows_text rows) bom_is_text (rows_text_is_text rows are)

pub records_of_text : (rows : List (List (List ℕ))) → file_records (text_of_rows rows) ≡ map read_back rows
unfolding text_of_rows bom strip_bom next_record
records_of_text rows = sym (all_records default_config st.StartRecord (rows_text rows) [] (map read_back rows) (rows_are_reached rows) refl)
