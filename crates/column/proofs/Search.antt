-- Laws of a search: the lowest number below n that passes a test, and the widths of a table. Assumes nothing.
use mathlib.Core.Path.{◌≡◌, refl, sym, subst, subst⁻¹}
use mathlib.Core.Logic.{⊎_elim, ◌⊎◌, inl, inr}
use mathlib.Core.Bool.{Bool, true, false, cond, ◌&&◌, ◌||◌}
use mathlib.Core.List.{List, [], ◌∷◌}
use Prim.Native.Nat.{ℕ, zero, suc, ◌/◌, ◌^◌, ◌<◌, ◌≤◌}
use native.Mathlib.Nat.{eq-or-lt_of_le, div-eq_of_lt, div-lt_iff_lt-mul, le_of_suc-le-suc, not-suc-le-zero, one-mul}
use native.Mathlib.Omega.{arith}
use lib.Pow.{pow_pos}
use lib.Dec.{T, leb, ltb, ltb→lt}
use lib.ListN.{length, get_or}
use borrow.Author.Tests.{lt-leb, le-leb, leb-true, leb-false}
use denote.Param.Members.{Mut}
use denote.Ref.{Bor}
use Rattle.std.specs.Prelude.{Option, None, Some, MatchOption, ⊤}
use Rattle.std.specs.declared.ops.Range.{Range}
use Rattle.std.specs.Fn.{CalledAt}
use Rattle.std.specs.Iterator.{YieldsThen}
use Rattle.std.specs.List.{FoldsTo}
use Rattle.std.proofs.iter.Yields.{nat_range_steps}
use Rattle.std.proofs.lemmas.Iterator.{first_from_Range}
use Rattle.records.specs.Records.{attribute_widths}
use Rattle.column.specs.declared.Check.TheVariants.{Attribute}
use Rattle.column.specs.Refusals.{broken, fails, or_else, lowest, count_fits}
use Rattle.column.specs.Parts.{each_below, over, earlier_of, off_list_at}

-- ---- two tests, joined

both_left : (a b : Bool) → T (a && b) → T a
both_left true b t = tt
both_left false b t = t

both_right : (a b : Bool) → T (a && b) → T b
both_right true b t = t
both_right false b t = absurd t

-- the table's rule at each entry, from the test over the whole table
pub entry_below : (limit : ℕ) (xs : List ℕ) → T (each_below limit xs) → (i : ℕ) → i < length xs → get_or xs i 0 < limit
entry_below limit [] t i h = absurd (not-suc-le-zero h)
entry_below limit (x ∷ xs) t zero h = ltb→lt x limit (both_left (ltb x limit) (each_below limit xs) t)
entry_below limit (x ∷ xs) t (suc i) h =
    entry_below limit xs (both_right (ltb x limit) (each_below limit xs) t) i (le_of_suc-le-suc h)

-- ---- a word shifted down by its width leaves nothing exactly where it fits

pub shifted_fits : (w x : ℕ) → x / 2 ^ w ≡ 0 → leb (2 ^ w) x ≡ false
shifted_fits w x p =
    let q : x / 2 ^ w < 1 = omega arith in
    lt-leb (2 ^ w) x (rw one-mul at ((div-lt_iff_lt-mul (pow_pos w)).0 q))

pub shifted_over : (w x : ℕ) → (x / 2 ^ w ≡ 0 → ⊥) → leb (2 ^ w) x ≡ true
shifted_over w x p = by (leb (2 ^ w) x) refl
  where
    by : (b : Bool) → leb (2 ^ w) x ≡ b → leb (2 ^ w) x ≡ true
    by true e = e
    by false e = absurd (p (div-eq_of_lt (leb-false (2 ^ w) x e)))

-- ---- the lowest number below n

-- a test that holds at k, and at none below, is lowest at k
pub lowest_at : (f : ℕ → Bool) (n k : ℕ) → k < n → lowest f k ≡ None → f k ≡ true → lowest f n ≡ Some k
lowest_at f zero k h p q = absurd (not-suc-le-zero h)
lowest_at f (suc n) k h p q =
    ⊎_elim
    (λ (e : k ≡ n). subst (λ (j : ℕ). lowest f (suc j) ≡ Some k) e (rw (p, q)))
    (λ (l : k < n). rw (lowest_at f n k l p q))
    (eq-or-lt_of_le (le_of_suc-le-suc h))

none_parts : (l : Option ℕ) (b : Bool) (n : ℕ) → or_else l b n ≡ None → (l ≡ None) × (b ≡ false)
none_parts (Some k) b n p = (p, cc)
none_parts None true n p = (refl, cc)
none_parts None false n p = (refl, refl)

-- where there is none, the test fails at each
pub lowest_none : (f : ℕ → Bool) (n k : ℕ) → lowest f n ≡ None → k < n → f k ≡ false
lowest_none f zero k p h = absurd (not-suc-le-zero h)
lowest_none f (suc n) k p h =
    let q = none_parts (lowest f n) (f n) n p in
    ⊎_elim
    (λ (e : k ≡ n). subst⁻¹ (λ (j : ℕ). f j ≡ false) e q.1)
    (λ (l : k < n). lowest_none f n k q.0 l)
    (eq-or-lt_of_le (le_of_suc-le-suc h))

-- and where it fails at each, there is none
pub none_lowest : (f : ℕ → Bool) (n : ℕ) → ((k : ℕ) → k < n → f k ≡ false) → lowest f n ≡ None
none_lowest f zero h = refl
none_lowest f (suc n) h = rw (none_lowest f n (λ k l. h k (omega arith)), h n (omega arith))

-- what `find` answers over the numbers below n, with a test f, is the lowest
pub found_lowest : {F : Type 0} {g : Mut F (Bor ℕ × Unit {0}) Bool} (f : ℕ → Bool) (n : ℕ) (s u : Range ℕ) (p : F) (r : Option ℕ)
    → (s.start ≡ 0) × (s.end ≡ n)
    → (xs : List ℕ) × (j : F) × YieldsThen nat_range_steps s xs r u × FoldsTo (λ p x q. CalledAt g p x false q) p xs j × MatchOption r ⊤ (λ x. (h : F) × CalledAt g j x true h)
    → ((x : ℕ) (b : Bool) (q : F) → CalledAt g p x b q → (q ≡ p) × (b ≡ f x)) → r ≡ lowest f n
found_lowest f n s u p r bounds ran tests =
    by r (first_from_Range s u p r (λ k. f k ≡ true) (λ k. f k ≡ false) ran (λ x q k. sym (tests x true q k).1) (λ x q k. ((tests x false q k).0, sym (tests x false q k).1)))
  where
    by : (r : Option ℕ) → MatchOption r ((k : ℕ) → s.start ≤ k → k < s.end → f k ≡ false)
        (λ i. (s.start ≤ i) × (i < s.end) × (f i ≡ true) × ((k : ℕ) → s.start ≤ k → k < i → f k ≡ false)) → r ≡ lowest f n
    by None h = sym (none_lowest f n (λ k l. h k (omega arith) (omega arith)))
    by (Some i) h = sym (lowest_at f n i (omega arith) (none_lowest f i (λ k l. h.3 k (omega arith) l)) h.2)

at_parts : (l : Option ℕ) (b : Bool) (n k : ℕ) → or_else l b n ≡ Some k → (l ≡ Some k) ⊎ ((l ≡ None) × (b ≡ true) × (n ≡ k))
at_parts (Some j) b n k p = inl p
at_parts None true n k p = inr (refl, refl, cc)
at_parts None false n k p = inl p

-- what a lowest number says: the test holds there, and at none below
pub lowest_says : (f : ℕ → Bool) (n k : ℕ) → lowest f n ≡ Some k → (k < n) × (f k ≡ true) × ((j : ℕ) → j < k → f j ≡ false)
lowest_says f zero k p = let z : ◌≡◌ {A = ℕ} 0 1 = cc in let b : ⊥ = omega arith in absurd b
lowest_says f (suc n) k p =
    ⊎_elim
    (λ (q : lowest f n ≡ Some k). let r = lowest_says f n k q in (omega (arith, r.0), r.1, r.2))
    (λ (q : (lowest f n ≡ None) × (f n ≡ true) × (n ≡ k)). (
      omega (arith, q.2),
      subst (λ (m : ℕ). f m ≡ true) q.2 q.1,
      λ j h. lowest_none f n j q.0 (omega (arith, q.2)),
    ))
    (at_parts (lowest f n) (f n) n k p)

-- a search for either of two tests finds the earlier of their findings
either : (l m : Option ℕ) (b d : Bool) (n : ℕ) → ((k : ℕ) → l ≡ Some k → k < n) → ((k : ℕ) → m ≡ Some k → k < n)
    → or_else (earlier_of l m) (b || d) n ≡ earlier_of (or_else l b n) (or_else m d n)
either None None true true n f g = rw (le-leb n n (omega arith))
either None None true false n f g = refl
either None None false true n f g = refl
either None None false false n f g = refl
either (Some i) None b true n f g = let h = f i refl in rw (le-leb i n (omega arith))
either (Some i) None b false n f g = refl
either None (Some j) true d n f g = let h = g j refl in rw (lt-leb n j h)
either None (Some j) false d n f g = refl
either (Some i) (Some j) b d n f g = by (leb i j)
  where
    by : (t : Bool) → or_else (cond t (Some i) (Some j)) (b || d) n ≡ cond t (Some i) (Some j)
    by true = refl
    by false = refl

pub lowest_or : (f g : ℕ → Bool) (n : ℕ) → lowest (λ k. f k || g k) n ≡ earlier_of (lowest f n) (lowest g n)
lowest_or f g zero = refl
lowest_or f g (suc n) =
    rw (lowest_or f g n)
    (either (lowest f n) (lowest g n) (f n) (g n) n (λ k p. (lowest_says f n k p).0) (λ k p. (lowest_says g n k p).0))

-- number 3 is a width's or the list's
pub attribute_parts : (count : ℕ) (at rs ps : List ℕ)
    → lowest (fails Attribute at rs ps) count ≡ earlier_of (lowest (over attribute_widths at) count) (lowest (off_list_at at) count)
unfolding fails broken over off_list_at
attribute_parts count at rs ps = lowest_or (over attribute_widths at) (off_list_at at) count

-- ---- the slice count

pub few : (count : ℕ) → count_fits count ≡ true → count ≤ 24
few count p = leb-true count 24 (by (leb 1 count) p)
  where
    by : (a : Bool) → a && leb count 24 ≡ true → leb count 24 ≡ true
    by true q = q
    by false q = cc
