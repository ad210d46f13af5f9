-- What fields that may be empty tell, and what chains of them give.
use Rattle.std.proofs.Common.{◌≡◌, Bool, true, refl, false, cond}
use Rattle.std.specs.Prelude.{Option, Some, None, option_map, is_none, is_some, option_and_then}
use Rattle.plain_laws.specs.Optional.{filled_and, when}
use Rattle.std.specs.Option.{option_or}
use Rattle.std.proofs.lemmas.Option.{none-some, same_Some}

-- a filled field that passes a test
pub record Filled {X : Type 0} (o : Option X) (test : X → Bool) : Type 0 where
  pub value : X
  pub is : o ≡ Some value
  pub passes : test value ≡ true

-- what `filled_and` says
pub filled_and-true : {X : Type 0} (o : Option X) (test : X → Bool) → filled_and o test ≡ true → Filled o test
filled_and-true None test h = absurd (cc)
filled_and-true (Some x) test h = record { value = x; is = refl; passes = h }

-- a choice of something or nothing that gives something
pub cond_gives : {X : Type 0} (test : Bool) (o : Option X) (y : X) → cond test o None ≡ Some y → test ≡ true
cond_gives true o y e = refl
cond_gives false o y e = absurd (cc)

-- neither of two gives anything
pub none_either : {X : Type 0} (a b : Option X) → option_or a b ≡ None → (a ≡ None) × (b ≡ None)
none_either None b e = (refl, e)
none_either (Some x) b e = absurd (cc)

-- a test whose fault isn't found fails
pub none_when : {X : Type 0} (b : Bool) (x : X) → when b x ≡ None → b ≡ false
none_when true x e = absurd (cc)
none_when false x e = refl

pub none_map : {X Y : Type 0} (f : X → Y) (o : Option X) → option_map f o ≡ None → o ≡ None
none_map f None e = refl
none_map f (Some x) e = absurd (cc)

pub none_given : {X : Type 0} (o : Option X) → is_none o ≡ true → o ≡ None
none_given None e = refl
none_given (Some x) e = absurd (cc)

-- a value that is there
pub some_value : {X : Type 0} (o : Option X) → is_some o ≡ true → (x : X) × (o ≡ Some x)
some_value None e = absurd (cc)
some_value (Some x) e = (x, refl)

pub option_or-assoc : {X : Type 0} (a b c : Option X) → option_or (option_or a b) c ≡ option_or a (option_or b c)
option_or-assoc None b c = refl
option_or-assoc (Some x) b c = refl

pub none_if : {X : Type 0} (o : Option X) → ((x : X) → o ≡ Some x → ⊥) → o ≡ None
none_if None never = refl
none_if (Some x) never = absurd (never x refl)

-- one thing after another, and then a third
pub option_and_then-assoc : {A B C : Type 0} (f : A → Option B) (g : B → Option C) (o : Option A) →
    option_and_then g (option_and_then f o) ≡ option_and_then (λ x. option_and_then g (f x)) o
option_and_then-assoc f g None = refl
option_and_then-assoc f g (Some x) = refl

-- what a chain gives, it gives from a value
pub record ChainGives {A B : Type 0} (f : A → Option B) (o : Option A) (y : B) : Type 0 where
  pub value : A
  pub is : o ≡ Some value
  pub gives : f value ≡ Some y

-- a chain that gives something gives it from a value
pub chain_gives : {A B : Type 0} (f : A → Option B) (o : Option A) (y : B) → option_and_then f o ≡ Some y → ChainGives f o y
chain_gives f None y e = absurd (cc)
chain_gives f (Some x) y e = record { value = x; is = refl; gives = e }

-- what a mapped option tells
pub mapped_tells : {X Y : Type 0} (f : X → Y) (o : Option X) (y : Y) → option_map f o ≡ Some y →
    (x : X) × (o ≡ Some x) × (f x ≡ y)
mapped_tells f None y e = absurd (none-some y e)
mapped_tells f (Some x) y e = (x, refl, same_Some _ _ e)
