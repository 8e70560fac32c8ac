-- What a chain of answers says where it has one.
use Rattle.std.proofs.Common.{◌≡◌, Bool, true, false, Option, Some, None, option_map, refl}
use Rattle.ae_seq.specs.Typing.{where_ok, ◌>>=◌}

pub bind-some : {A B : Type 0} (o : Option A) (f : A → Option B) (y : B) → (o >>= f) ≡ Some y → (x : A) × (o ≡ Some x) × (f x ≡ Some y)
bind-some None f y h = absurd cc
bind-some (Some x) f y h = (x, refl, h)

pub where-some : {A : Type 0} (b : Bool) (o : Option A) (y : A) → where_ok b o ≡ Some y → (b ≡ true) × (o ≡ Some y)
where-some true o y h = (refl, h)
where-some false o y h = absurd cc

pub map-some : {A B : Type 0} (f : A → B) (o : Option A) (y : B) → option_map f o ≡ Some y → (x : A) × (o ≡ Some x) × (f x ≡ y)
map-some f None y h = absurd cc
map-some f (Some x) y h = (x, refl, some-of (f x) y h)
  where
    some-of : {B : Type 0} (x y : B) → Some x ≡ Some y → x ≡ y
    some-of x y h = cc

pub some-is : {A : Type 0} (x y : A) → Some x ≡ Some y → x ≡ y
some-is x y h = cc
