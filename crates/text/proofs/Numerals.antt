-- Laws of numbers that are read byte by byte. Assumes nothing.
use Rattle.std.proofs.Common.{Option, Some, None, option_map, ◌&&◌, ltb, take, sym, lt-ltb, ◌≡◌, ℕ, suc, ◌+◌, ◌-◌, ◌<◌, ◌≤◌, Bool, true, false, cond, eqb, List, [], ◌∷◌, length, get_or, drop, refl, ap, add-one, arith, drop-cons}
use lib.Seq.{drop-length}
use Rattle.text.specs.Bytes.{tab, digit0}
use Rattle.text.specs.Within.{before, up_to, digits_at, number_first}
use Rattle.text.specs.Numbers.{digits_from, number_of}
use Rattle.text.proofs.Paste.{part_whole}
use mathlib.Core.Bool.{and-true}

pub cond_same : {A : Type 0} (t : Bool) (x : A) → cond t x x ≡ x
cond_same true x = refl
cond_same false x = refl

-- what is left from a place on: a byte and what follows it, or nothing
pub next_byte : (s : List ℕ) (i : ℕ) → i < length s → drop i s ≡ get_or s i 0 ∷ drop (i + 1) s
next_byte s i h = rw (add-one, drop-cons s i 0)

pub none_left : (s : List ℕ) (i : ℕ) → i ≡ length s → drop i s ≡ []
none_left s i e = rw e (drop-length s)

before_length : (s : List ℕ) → length (before tab s) ≤ length s
before_length [] = omega arith
before_length (b ∷ bs) = go (eqb b tab) (before_length bs)
  where
    go : (t : Bool) → length (before tab bs) ≤ length bs → length (cond t [] (b ∷ before tab bs)) ≤ suc (length bs)
    go true e = omega arith
    go false e = omega arith

-- what `digits` told
told : (p : Option ℕ) (k v end : ℕ) → Some (v, end) ≡ up_to k p → (p ≡ Some v) × (end ≡ k)
told (Some w) k v end e =
    let same : ◌≡◌ {A = ℕ × ℕ} (v, end) (w, k) = cc in
    (ap Some (sym (ap (λ (f : ℕ × ℕ). f.0) same)), ap (λ (f : ℕ × ℕ). f.1) same)
told None k v end e = let z : ◌≡◌ {A = ℕ} 0 1 = cc in let no_way : ⊥ = omega arith in absurd no_way

-- the digits end within the text
pub digits_within : (s : List ℕ) (v end : ℕ) → Some (v, end) ≡ digits_at 0 s 0 → end ≤ length s
digits_within s v end e =
    let l : end ≡ 0 + length (before tab s) = (told (digits_from 0 (before tab s)) _ v end e).1 in
    omega (arith, before_length s)

-- and are the number where there are some, and no zero leads others
pub number_read : (s : List ℕ) (v end : ℕ) → Some (v, end) ≡ digits_at 0 s 0 → (end ≡ 0 → ⊥)
    → (eqb (get_or s 0 0) digit0 && ltb 1 end) ≡ false → ◌≡◌ {A = Option (ℕ × List ℕ)} (Some (v, take (length s - end) (drop end s))) (number_first s)
number_read [] v end e some led = absurd (some (told (Some 0) _ v end e).1)
number_read (b ∷ bs) v end e some led = rw part_whole (go (eqb b tab) (before tab bs) e)
  where
    go : (t : Bool) (f : List ℕ) → Some (v, end) ≡ up_to (0 + length (cond t [] (b ∷ f))) (digits_from 0 (cond t [] (b ∷ f)))
        → ◌≡◌ {A = Option (ℕ × List ℕ)} (Some (v, drop end (b ∷ bs)))
        (option_map (λ w. (w, drop (length (cond t [] (b ∷ f))) (b ∷ bs))) (number_of (cond t [] (b ∷ f))))
    go true f e = absurd (some (told (Some 0) _ v end e).1)
    go false [] e =
        let r = told (digits_from 0 (b ∷ [])) _ v end e in
        let l : end ≡ 1 = r.1 in
        rw (l, r.0)
    go false (c ∷ ds) e =
        let r = told (digits_from 0 (b ∷ c ∷ ds)) _ v end e in
        let l : end ≡ suc (suc (length ds)) = omega (arith, r.1) in
        let more : ltb 1 end ≡ true = lt-ltb 1 end (omega arith) in
        let no_zero : eqb b digit0 ≡ false = rw (more, and-true) at led in
        rw (no_zero, l, r.0)
