-- Classes of what is kept of fares.
use Rattle.std.specs.Prelude.{◌≡◌, Bool, true, Option, ◌==◌, ◌&&◌}
use Rattle.std.specs.Option.{option_eq}
use Rattle.round_terms.specs.declared.classes.StopClass.{StopClass}

-- where a fare is at most another, both have no class, or both have the same
abbrev pub KeepsClass : {F C : Type 0} → (F → F → Bool) → (C → C → Bool) → (F → Option C) → Type 0
KeepsClass {F} at_most same class_of =
    (a b : F) → at_most a b ≡ true → option_eq same (class_of a) (class_of b) ≡ true

-- the same stop, and the same class
abbrev pub same_key : {C : Type 0} → (C → C → Bool) → StopClass C → StopClass C → Bool
same_key same a b = (a.stop == b.stop) && same a.class b.class
