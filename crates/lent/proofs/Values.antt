-- Facts by value that pin the definitions. Assumes nothing.
use mathlib.Core.Path.{◌≡◌, refl}
use mathlib.Core.Bool.{true, false}
use mathlib.Core.List.{List, [], ◌∷◌}
use Prim.Native.Nat.{ℕ}
use Rattle.lent.specs.Words.{stored, enough}
use Rattle.lent.specs.Refusing.{unless, leaves}

abbrev three : List ℕ
three = 7 ∷ 8 ∷ 9 ∷ []

pub record Values : Type 0 where
  -- as many are stored; fewer or more are not
  pub as_many : stored (1 ∷ 2 ∷ 3 ∷ []) three ≡ three
  pub fewer : stored three (1 ∷ 2 ∷ []) ≡ three
  pub more : stored (1 ∷ 2 ∷ []) three ≡ 1 ∷ 2 ∷ []
  pub as_they_are : (enough 3 three ≡ three) × (enough 2 three ≡ three)
  pub too_few : enough 4 three ≡ []
  -- a check that passes goes on; number 0 stores, and every other keeps
  pub passes : (unless {A = ℕ} true 1 2 ≡ 2) × (unless {A = ℕ} false 1 2 ≡ 1)
  pub stores : (leaves {X = ℕ} 0 5 6 ≡ 5) × (leaves {X = ℕ} 1 5 6 ≡ 6) × (leaves {X = ℕ} 14 5 6 ≡ 6)

pub values : Values
values =
    record {
      as_many = refl;
      fewer = refl;
      more = refl;
      as_they_are = (refl, refl);
      too_few = refl;
      passes = (refl, refl);
      stores = (refl, refl, refl);
    }
