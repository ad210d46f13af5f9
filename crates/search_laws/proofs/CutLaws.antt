-- Whatever goes on from what is futile is futile, and whatever that covers; so what a search may lack stays so.
use Rattle.std.proofs.Common.{◌≡◌, ℕ, zero, suc, Bool, true, false}
use Rattle.search_laws.specs.Cuts.{AreCuts, IsFutile, MayLack}
use Rattle.search_laws.specs.Ways.{AreLawful, IsUpward, LeadsBy, Ways}

-- from facts that cover others as many steps lead to what is no worse
pub record LeadsNoWorse {F R M E T : Type 0} (w : Ways F R M E T) (n : ℕ) (a : F) (worse : T) : Type 0 where
  pub result : T
  pub leads : LeadsBy w n a result
  pub below : w.at_most result worse ≡ true

module _ {F R M E T : Type 0} (w : Ways F R M E T) (lawful : AreLawful w) where
  pub leads_no_worse : (n : ℕ) (a other : F) (worse : T) → w.IsSound a → w.IsSound other → w.Covers a other →
      LeadsBy w n other worse → LeadsNoWorse w n a worse
  leads_no_worse zero a other worse sound sound' covers leads =
      let e = lawful.ends a other leads.0 worse sound sound' covers leads.1 in
      record { result = e.result; leads = (leads.0, e.end); below = e.below }
  leads_no_worse (suc n) a other worse sound sound' covers leads =
      let f = lawful.follow a other leads.0 leads.1 leads.2 sound sound' covers leads.3 in
      let more =
      leads_no_worse n f.b leads.2 worse (lawful.steps a f.b leads.0 f.move f.step)
      (lawful.steps other leads.2 leads.0 leads.1 leads.3) f.covers leads.4 in
      record { result = more.result; leads = (leads.0, f.move, f.b, f.step, more.leads); below = more.below }

  -- what facts cover is futile where they are
  pub futile_below : (Found : T → Type 0) → IsUpward w Found → (a b : F) → w.IsSound a → w.IsSound b → w.Covers a b →
      IsFutile w Found a → IsFutile w Found b
  futile_below Found upward a b sound sound' covers futile n result leads =
      let better = leads_no_worse n a b result sound sound' covers leads in
      upward better.result result better.below (futile n better.result better.leads)

-- so is whatever goes on from them
pub futile_after : {F R M E T : Type 0} (w : Ways F R M E T) (Found : T → Type 0) (a b : F) (by : R) (move : M) →
    w.Steps a by move b → IsFutile w Found a → IsFutile w Found b
futile_after w Found a b by move step futile n result leads = futile (suc n) result (by, move, b, step, leads)

-- what may be lacking still may be where more is found
pub lack_more : {F R M E T : Type 0} (w : Ways F R M E T) (Cuts : T → F → Type 0) (whole : Bool) (Found More : T → Type 0)
    (a : F) → ((result : T) → Found result → More result) → MayLack w Cuts whole Found a → MayLack w Cuts whole More a
lack_more w Cuts true Found More a more lack = (lack.0, more lack.0 lack.1, lack.2)
lack_more w Cuts false Found More a more lack = λ n result leads. more result (lack n result leads)

module _ {F R M E T : Type 0} (w : Ways F R M E T) (lawful : AreLawful w) (Cuts : T → F → Type 0) (cuts : AreCuts w Cuts)
    (Found : T → Type 0) (upward : IsUpward w Found) where
  -- all that it leads to is found
  pub lack_futile : (whole : Bool) (a : F) → MayLack w Cuts whole Found a → IsFutile w Found a
  lack_futile true a lack = λ n other leads. upward lack.0 other (cuts.leads lack.0 n a other lack.2 leads) lack.1
  lack_futile false a lack = lack

  -- whatever goes on from it may be lacking too
  pub lack_after : (whole : Bool) (a b : F) (by : R) (move : M) → w.Steps a by move b → MayLack w Cuts whole Found a →
      MayLack w Cuts whole Found b
  lack_after true a b by move step lack = (lack.0, lack.1, cuts.after lack.0 a b by move step lack.2)
  lack_after false a b by move step lack = futile_after w Found a b by move step lack

-- and whatever it covers
pub lack_below : {F R M E T : Type 0} (w : Ways F R M E T) → AreLawful w → (Cuts : T → F → Type 0) →
    ((result : T) (a b : F) → w.Covers a b → Cuts result a → Cuts result b) → (Found : T → Type 0) → IsUpward w Found →
    (whole : Bool) (a b : F) → w.IsSound a → w.IsSound b → w.Covers a b → MayLack w Cuts whole Found a → MayLack w Cuts whole Found b
lack_below w lawful Cuts below Found upward true a b sound sound' covers lack =
    (lack.0, lack.1, below lack.0 a b covers lack.2)
lack_below w lawful Cuts below Found upward false a b sound sound' covers lack =
    futile_below w lawful Found upward a b sound sound' covers lack
