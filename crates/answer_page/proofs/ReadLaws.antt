-- A text read as an answer, part by part.
use Rattle.std.proofs.Common.{◌≡◌, refl, sym, ◌∙◌, ℕ, ◌+◌, ◌<◌, ◌≤◌, List, [], true, false, length, get_or, drop, Some, None}
use Rattle.std.specs.Prelude.{Ok, Err}
use Rattle.std.proofs.lemmas.List.{at_drop_more, drop_all}
use Rattle.answer_page.specs.declared.reading.Reading.{Reading}
use Rattle.line_cuts.specs.Cuts.{line_parts}
use Rattle.answer_page.specs.Readings.{start, read_line, read_parts, read_answer, answer_of}

-- a part more is read
pub part_read : (parts : List (List ℕ)) (reading next : Reading) (n : ℕ) → n < length parts → Some next ≡ read_line reading (get_or parts n [])
    → read_parts reading n (drop n parts) ≡ read_parts next (n + 1) (drop (n + 1) parts)
unfolding read_parts
part_read parts reading next n inside told =
    at_drop_more (λ left. read_parts reading n left) parts n [] inside ∙ rw (sym told) refl

-- a part is none that may stand there
pub part_wrong : (parts : List (List ℕ)) (reading : Reading) (n : ℕ) → n < length parts → None ≡ read_line reading (get_or parts n [])
    → read_parts reading n (drop n parts) ≡ Err (n + 1)
unfolding read_parts
part_wrong parts reading n inside told =
    at_drop_more (λ left. read_parts reading n left) parts n [] inside ∙ rw (sym told) refl

-- all parts are read, and the last one ended the text, or didn't
pub all_read : (parts : List (List ℕ)) (reading : Reading) (n : ℕ) → length parts ≤ n → reading.ended ≡ true → read_parts reading n (drop n parts) ≡ Ok (answer_of reading)
unfolding read_parts
all_read parts reading n past ended = rw (drop_all n parts past, ended) refl

pub ends_early : (parts : List (List ℕ)) (reading : Reading) (n : ℕ) → length parts ≤ n → reading.ended ≡ false → read_parts reading n (drop n parts) ≡ Err n
unfolding read_parts
ends_early parts reading n past ended = rw (drop_all n parts past, ended) refl

-- before any part
pub begins : (text : List ℕ) (parts : List (List ℕ)) → parts ≡ line_parts text → read_answer text ≡ read_parts start 0 (drop 0 parts)
unfolding read_answer
begins text parts are = rw are refl
