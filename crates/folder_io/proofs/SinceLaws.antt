-- What was taken since a reading began, of which only is known that there is such a thing.
use Rattle.std.proofs.Common.{◌≡◌, ℕ, ◌<◌, ◌≤◌, ◌+◌, ◌-◌, ◌^◌, inl, inr, Bool, true, false, List, ◌++◌, length, Option, None, Some, IfSome, refl, ap, arith, length-append, ◌∙◌}
use Rattle.std.proofs.Math.Logic.{∥∥₁_elim, ∥∥₁_prop}
use Rattle.std.proofs.Props.{props}
use Rattle.std.proofs.lemmas.Bool.Decides.{nat_tests}
use Rattle.std.specs.Io.KnownBytes.{Consumes}
use Rattle.std.specs.Prelude.{nat_lt, nat_eq, ◌||◌}
use Rattle.std.specs.Str.{is_utf8}
use Rattle.feed_files.specs.FaultCounts.{Rose}
use Rattle.folder_io.specs.declared.pieces.PiecesEnd.{PiecesEnd}
use Rattle.folder_io.specs.declared.pieces.PiecesEnd.TheVariants.{Going, Ended, Failed, TooLarge}
use Rattle.folder_io.specs.CallLogs.{CallLog}
use Rattle.folder_io.specs.FolderCalls.{FolderState, FolderSource}
use Rattle.folder_io.specs.Pieces.{PiecesState, HasTaken, HasTakenSome, TakesOn}
use Rattle.folder_io.specs.PiecesSince.{StandsAs, IsSince}

-- some bytes more
pub takes_since : (start : FolderState) (limit : ℕ) (before now : PiecesState) (bytes : List ℕ) → TakesOn before bytes now → ∥ HasTakenSome start limit before ∥₁ → ∥ HasTakenSome start limit now ∥₁
takes_since start limit before now bytes takes since = ∥∥₁_elim since ∥∥₁_prop (λ has. ∣ (has.0 ++ bytes, takes.behind start limit has.0 has.1) ∣₁)

-- what a folder tells can be told apart
source_set : IsSet FolderSource
source_set = hlevel props

log_set : IsSet CallLog
log_set = hlevel props

-- whether a count rose, as a test
abbrev rose : ℕ → ℕ → Bool
rose before now = nat_lt before now || nat_eq now (2 ^ 64 - 1)

rose_tells : (before now : ℕ) → Rose before now → rose before now ≡ true
rose_tells before now (inl less) = grind (arith, nat_tests)
rose_tells before now (inr last) = grind (arith, nat_tests)

rose_told : (before now : ℕ) → rose before now ≡ true → Rose before now
rose_told before now rises = by (nat_lt before now) refl
  where
    by : (b : Bool) → nat_lt before now ≡ b → Rose before now
    by true less = inl (grind (arith, nat_tests))
    by false more = inr (grind (arith, nat_tests))

-- the size of a file that ended, and of one that is too large
ended_size : (left : Option (List ℕ)) (limit : ℕ) (taken : List ℕ) → length taken ≤ limit → IfSome left (λ bytes. taken ≡ bytes) → IfSome left (λ bytes. length bytes ≤ limit)
ended_size None limit taken fits all = tt
ended_size (Some bytes) limit taken fits all = omega (arith, ap length all)

large_size : (left later : Option (List ℕ)) (limit : ℕ) (taken : List ℕ) → length taken ≡ limit + 1 → Consumes left later taken → IfSome left (λ bytes. limit < length bytes)
large_size None later limit taken size takes = tt
large_size (Some bytes) None limit taken size takes = absurd takes
large_size (Some bytes) (Some rest) limit taken size takes = omega (arith, ap length takes, length-append taken rest)

-- such a fact of the bytes that were left is one that there is, or isn't
below_prop : (left : Option (List ℕ)) (fact : List ℕ → Type 0) → ((bytes : List ℕ) → IsProp (fact bytes)) → IsProp (IfSome left fact)
below_prop None fact each = hlevel props
below_prop (Some bytes) fact each = each bytes

-- how the reading stands
stands : (start : FolderState) (limit : ℕ) (now : PiecesState) (end : PiecesEnd) → now.end ≡ end → ∥ HasTakenSome start limit now ∥₁ → StandsAs start limit now.folder end
stands start limit now Going is since =
    (∥∥₁_elim since (hlevel props) (λ has. (rw is at has.1.end).0), ∥∥₁_elim since (hlevel props) (λ has. (rw is at has.1.end).2))
stands start limit now Ended is since =
    (∥∥₁_elim since (hlevel props) (λ has. (rw is at has.1.end).0), ∥∥₁_elim since (below_prop start.left _ (λ bytes. hlevel props)) (λ has. let ends = rw is at has.1.end in ended_size start.left limit has.0 ends.1 ends.2))
stands start limit now Failed is since =
    (rose_told start.faults now.folder.faults (∥∥₁_elim since (hlevel props) (λ has. rose_tells start.faults now.folder.faults (rw is at has.1.end).0)), ∥∥₁_elim since (hlevel props) (λ has. (rw is at has.1.end).2))
stands start limit now TooLarge is since =
    (∥∥₁_elim since (hlevel props) (λ has. (rw is at has.1.end).0), ∥∥₁_elim since (below_prop start.left _ (λ bytes. hlevel props)) (λ has. large_size start.left now.folder.left limit has.0 (rw is at has.1.end).1 has.1.bytes))

pub is_since : (start : FolderState) (limit : ℕ) (now : PiecesState) → ∥ HasTakenSome start limit now ∥₁ → IsSince start limit now.folder now.end
is_since start limit now since = record {
  source = ∥∥₁_elim since (source_set _ _) (λ has. has.1.source);
  opens = ∥∥₁_elim since (log_set _ _) (λ has. has.1.opens);
  stands = stands start limit now now.end refl since;
}

-- whether a file that ended is a text
is_text : (left : Option (List ℕ)) (taken : List ℕ) (result : Bool) → result ≡ is_utf8 taken → IfSome left (λ bytes. taken ≡ bytes) → IfSome left (λ bytes. result ≡ is_utf8 bytes)
is_text None taken result tells all = tt
is_text (Some bytes) taken result tells all = tells ∙ ap is_utf8 all

pub text_since : (start : FolderState) (limit : ℕ) (now : PiecesState) (result : Bool) → ∥ HasTakenSome start limit now ∥₁ → ((taken : List ℕ) → HasTaken start limit taken now → result ≡ is_utf8 taken) → now.end ≡ Ended
    → IfSome start.left (λ bytes. result ≡ is_utf8 bytes)
text_since start limit now result since tells is = ∥∥₁_elim since (below_prop start.left _ (λ bytes. hlevel props)) (λ has. is_text start.left has.0 result (tells has.0 has.1) (rw is at has.1.end).2)
