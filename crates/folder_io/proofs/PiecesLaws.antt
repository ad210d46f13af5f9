-- A file that is read piece by piece.
use Rattle.std.proofs.Common.{◌≡◌, ℕ, zero, suc, ◌+◌, ◌-◌, ◌<◌, ◌≤◌, ◌⊎◌, inl, inr, List, [], ◌∷◌, ◌++◌, length, take, Option, Some, None, IfSome, true, refl, sym, ap, subst, ◌∙◌, arith, append_assoc, append-nil, length-append, length-take, take-append-drop}
use Rattle.std.specs.Prelude.{option_map}
use Rattle.std.proofs.lemmas.Bool.Decides.{nat_tests}
use Rattle.std.proofs.lemmas.List.{take-append-le}
use Rattle.std.specs.Io.KnownBytes.{Consumes}
use Rattle.feed_files.specs.FaultCounts.{Rose, Stayed}
use Rattle.folder_io.specs.declared.folder.Piece.TheVariants as piece
use Rattle.folder_io.specs.declared.pieces.PiecesEnd.{PiecesEnd}
use Rattle.folder_io.specs.declared.pieces.PiecesEnd.TheVariants.{Going, Ended, Failed, TooLarge}
use Rattle.folder_io.specs.declared.utf8.Utf8State.{Utf8State}
use Rattle.folder_io.specs.declared.utf8.Utf8State.TheVariants.{Whole}
use Rattle.folder_io.specs.FolderCalls.{FolderState, Takes}
use Rattle.folder_io.specs.Utf8Text.{utf8_after}
use Rattle.folder_io.specs.Pieces.{PiecesState, end_within, to_come, EndsAs, HasTaken, TakesOn}
use Rattle.folder_io.proofs.Utf8Laws.{utf8_after-append}

-- some bytes of what is known, and then others
consumes_more : (before between now : Option (List ℕ)) (front bytes : List ℕ) → Consumes before between front → Consumes between now bytes → Consumes before now (front ++ bytes)
consumes_more None between now front bytes first then = tt
consumes_more (Some all) None now front bytes first then = absurd first
consumes_more (Some all) (Some rest) None front bytes first then = absurd then
consumes_more (Some all) (Some rest) (Some left) front bytes first then = first ∙ ap (λ more. front ++ more) then ∙ sym (append_assoc front bytes left)

-- the bytes that a folder gave, as they stand in a part of the room
takes_consumes : (left later : Option (List ℕ)) (part : List ℕ) (count : ℕ) → IfSome left (λ bytes. Takes bytes later part (piece.Got count)) → Consumes left later (take count part)
takes_consumes None later part count takes = tt
takes_consumes (Some bytes) later part count takes = rw (takes.2, takes.1) (sym (take-append-drop count bytes))

-- what is taken behind a front
take_behind : (front rest : List ℕ) (most : ℕ) → length front ≤ most → take most (front ++ rest) ≡ front ++ take (most - length front) rest
take_behind [] rest most le = ap (λ count. take count rest) (let same : most ≡ most - 0 = omega arith in same)
take_behind (byte ∷ front) rest zero le = absurd (omega arith)
take_behind (byte ∷ front) rest (suc most) le =
    let same : most - length front ≡ suc most - length (byte ∷ front) = omega arith in
    ap (λ bytes. byte ∷ bytes) (take_behind front rest most (omega arith) ∙ ap (λ count. front ++ take count rest) same)

-- with no room a file is too large, and with some the end is as it is
end_none : (room : ℕ) (end : PiecesEnd) → room ≡ 0 → end_within room end ≡ TooLarge
end_none room end none = grind (arith, nat_tests)

end_some : (room : ℕ) (end : PiecesEnd) → 0 < room → end_within room end ≡ end
end_some room end some = grind (arith, nat_tests)

some_or_none : (room : ℕ) → (room ≡ 0) ⊎ (0 < room)
some_or_none zero = inl refl
some_or_none (suc room) = inr (omega arith)

-- a reading that goes on hasn't come to another end
pub goes_on : (room : ℕ) (end : PiecesEnd) → end_within room end ≡ Going → end ≡ Going
goes_on room end going = by (some_or_none room)
  where
    by : (room ≡ 0) ⊎ (0 < room) → end ≡ Going
    by (inl none) = let no : TooLarge ≡ Going = sym (end_none room end none) ∙ going in cc
    by (inr some) = sym (end_some room end some) ∙ going

-- and takes bytes yet
pub room_left : (room : ℕ) (end : PiecesEnd) → end_within room end ≡ Going → 0 < room
room_left room end going = by (some_or_none room)
  where
    by : (room ≡ 0) ⊎ (0 < room) → 0 < room
    by (inl none) = let no : TooLarge ≡ Going = sym (end_none room end none) ∙ going in absurd cc
    by (inr some) = some

-- what is to come behind a piece
come_more : (room : ℕ) (left later : Option (List ℕ)) (bytes : List ℕ) → length bytes ≤ room → Consumes left later bytes
    → Consumes (option_map (take room) left) (to_come (end_within (room - length bytes) Going) (room - length bytes) later) bytes
come_more room None later bytes fits takes = tt
come_more room (Some all) None bytes fits takes = absurd takes
come_more room (Some all) (Some rest) bytes fits takes = by (some_or_none (room - length bytes))
  where
    front : take room all ≡ bytes ++ take (room - length bytes) rest
    front = ap (take room) takes ∙ take_behind bytes rest room fits

    by : (room - length bytes ≡ 0) ⊎ (0 < room - length bytes)
        → Consumes (Some (take room all)) (to_come (end_within (room - length bytes) Going) (room - length bytes) (Some rest)) bytes
    by (inl none) = rw (end_none (room - length bytes) Going none) (front ∙ ap (λ count. bytes ++ take count rest) none)
    by (inr some) = rw (end_some (room - length bytes) Going some) front

-- the bytes of a piece, as they stand in the room
pub piece_bytes : (part rest : List ℕ) (count : ℕ) → count ≤ length part → (take count (part ++ rest) ≡ take count part) × (length (take count (part ++ rest)) ≡ count)
piece_bytes part rest count fits =
    let same = take-append-le count part rest fits in
    (same, ap length same ∙ omega (arith, length-take count part))

-- what is to come behind a piece that the folder gave
pub comes_behind : (room : ℕ) (kept : PiecesEnd) (left later : Option (List ℕ)) (part rest : List ℕ) (count : ℕ) → end_within room kept ≡ Going → count ≤ length part → count ≤ room
    → IfSome left (λ bytes. Takes bytes later part (piece.Got count))
    → Consumes (to_come (end_within room kept) room left) (to_come (end_within (room - count) kept) (room - count) later) (take count (part ++ rest))
comes_behind room kept left later part rest count going within fits takes =
    let bytes = piece_bytes part rest count within in
    let consumes : Consumes left later (take count (part ++ rest)) = rw bytes.0 (takes_consumes left later part count takes) in
    let comes = come_more room left later (take count (part ++ rest)) (omega (arith, bytes.1)) consumes in
    rw (going, goes_on room kept going) (rw bytes.1 at comes)

-- a folder that was asked for bytes and for nothing else
pub record IsAsked (before now : FolderState) : Type 0 where
  pub source : now.source ≡ before.source
  pub opens : now.opens ≡ before.opens
  pub stayed : Stayed before.faults now.faults

-- how a reading stands behind a piece
ends_behind : (before : PiecesState) (now : FolderState) (start : FolderState) (limit : ℕ) (taken bytes : List ℕ) (count : ℕ) → count ≤ before.room → length (taken ++ bytes) ≡ length taken + count → HasTaken start limit taken before → Stayed start.faults now.faults → now.readable ≡ true
    → EndsAs start limit (taken ++ bytes) now (end_within (before.room - count) Going)
ends_behind before now start limit taken bytes count fits size has stays readable = by (some_or_none (before.room - count))
  where
    by : (before.room - count ≡ 0) ⊎ (0 < before.room - count) → EndsAs start limit (taken ++ bytes) now (end_within (before.room - count) Going)
    by (inl none) = rw (end_none (before.room - count) Going none) (stays, omega (arith, has.room))
    by (inr some) = rw (end_some (before.room - count) Going some) (stays, omega (arith, has.room), readable)

-- a piece that the folder gave is taken
pub takes_behind : (before : PiecesState) (kept : PiecesEnd) (now : FolderState) (text : Utf8State) (part rest : List ℕ) (count : ℕ) → before.end ≡ end_within before.room kept → before.end ≡ Going → count ≤ length part → count ≤ before.room
    → IsAsked before.folder now → now.readable ≡ true → IfSome before.folder.left (λ bytes. Takes bytes now.left part (piece.Got count)) → text ≡ utf8_after before.text (take count (part ++ rest))
    → TakesOn before (take count (part ++ rest)) (record { folder = now; room = before.room - count; end = end_within (before.room - count) kept; text = text })
takes_behind before kept now text part rest count is going within fits asked readable takes reads = record {
  behind = λ start limit taken has.
      let bytes = piece_bytes part rest count within in
      let consumes : Consumes before.folder.left now.left (take count (part ++ rest)) = rw bytes.0 (takes_consumes before.folder.left now.left part count takes) in
      let stood : EndsAs start limit taken before.folder Going = subst (EndsAs start limit taken before.folder) going has.end in
      let size : length (taken ++ take count (part ++ rest)) ≡ length taken + count = length-append taken (take count (part ++ rest)) ∙ ap (λ n. length taken + n) bytes.1 in
      record {
        source = asked.source ∙ has.source;
        opens = asked.opens ∙ has.opens;
        bytes = consumes_more start.left before.folder.left now.left taken (take count (part ++ rest)) has.bytes consumes;
        room = omega (arith, size, has.room);
        end = rw (goes_on before.room kept (sym is ∙ going)) (ends_behind before now start limit taken (take count (part ++ rest)) count fits size has (asked.stayed ∙ stood.0) readable);
        text = reads ∙ ap (λ text. utf8_after text (take count (part ++ rest))) has.text ∙ sym (utf8_after-append Whole taken (take count (part ++ rest)));
      };
}

-- what was left where the folder has no more, and what was left where it failed
last_consumes : (start left later : Option (List ℕ)) (taken part : List ℕ) → Consumes start left taken → IfSome left (λ bytes. Takes bytes later part piece.End)
    → Consumes start later taken × IfSome start (λ bytes. taken ≡ bytes)
last_consumes None left later taken part first then = (tt, tt)
last_consumes (Some all) None later taken part first then = absurd first
last_consumes (Some all) (Some rest) later taken part first then =
    (rw then.1 first, sym (first ∙ ap (λ bytes. taken ++ bytes) then.0 ∙ append-nil taken))

failed_consumes : (start left later : Option (List ℕ)) (taken part : List ℕ) → Consumes start left taken → IfSome left (λ bytes. Takes bytes later part piece.Failed)
    → Consumes start later taken
failed_consumes None left later taken part first then = tt
failed_consumes (Some all) None later taken part first then = absurd first
failed_consumes (Some all) (Some rest) later taken part first then = rw then first

-- nothing is taken where the folder has no more
pub takes_last : (before : PiecesState) (now : FolderState) (part : List ℕ) → before.end ≡ Going → 0 < before.room → IsAsked before.folder now
    → IfSome before.folder.left (λ bytes. Takes bytes now.left part piece.End)
    → TakesOn before [] (record { folder = now; room = before.room; end = end_within before.room Ended; text = before.text })
takes_last before now part going some asked takes = record {
  behind = λ start limit taken has.
      let stood : EndsAs start limit taken before.folder Going = subst (EndsAs start limit taken before.folder) going has.end in
      let last = last_consumes start.left before.folder.left now.left taken part has.bytes takes in
      rw append-nil (record {
        source = asked.source ∙ has.source;
        opens = asked.opens ∙ has.opens;
        bytes = last.0;
        room = has.room;
        end = rw (end_some before.room Ended some) (asked.stayed ∙ stood.0, stood.1, last.1);
        text = has.text;
      });
}

-- nor where it failed
pub takes_failed : (before : PiecesState) (now : FolderState) (part : List ℕ) → before.end ≡ Going → 0 < before.room → now.source ≡ before.folder.source
    → now.opens ≡ before.folder.opens → Rose before.folder.faults now.faults → now.failed ≡ true
    → IfSome before.folder.left (λ bytes. Takes bytes now.left part piece.Failed)
    → TakesOn before [] (record { folder = now; room = before.room; end = end_within before.room Failed; text = before.text })
takes_failed before now part going some source opens rose failed takes = record {
  behind = λ start limit taken has.
      let stood : EndsAs start limit taken before.folder Going = subst (EndsAs start limit taken before.folder) going has.end in
      rw append-nil (record {
        source = source ∙ has.source;
        opens = opens ∙ has.opens;
        bytes = failed_consumes start.left before.folder.left now.left taken part has.bytes takes;
        room = has.room;
        end = rw (end_some before.room Failed some) (subst (λ n. Rose n now.faults) stood.0 rose, stood.1, failed);
        text = has.text;
      });
}

-- no bytes, and some bytes behind others
pub takes_none : (state : PiecesState) → TakesOn state [] state
takes_none state = record { behind = λ start limit taken has. rw append-nil has }

pub takes_more : (before between now : PiecesState) (bytes more : List ℕ) → TakesOn before bytes between → TakesOn between more now → TakesOn before (bytes ++ more) now
takes_more before between now bytes more first then =
    record { behind = λ start limit taken has. rw (← append_assoc taken bytes more) (then.behind start limit (taken ++ bytes) (first.behind start limit taken has)) }

-- how often one may read on
abbrev pub reads_left : PiecesEnd → ℕ → ℕ
reads_left Going room = room + 1
reads_left Ended room = 0
reads_left Failed room = 0
reads_left TooLarge room = 0

pub reads_fewer : (end : PiecesEnd) (before now : ℕ) → (end ≡ Going → now < before) → reads_left end now < reads_left Going before
reads_fewer Going before now less = omega (arith, less refl)
reads_fewer Ended before now less = omega arith
reads_fewer Failed before now less = omega arith
reads_fewer TooLarge before now less = omega arith
