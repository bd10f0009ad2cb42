-- Laws of a line's fields, read one after the other. Assumes nothing.
use Rattle.std.proofs.Common.{Option, Some, None, option_map, ◌≡◌, ℕ, suc, ◌+◌, ◌-◌, ◌<◌, ◌≤◌, Bool, true, false, cond, not, ◌&&◌, eqb, leb, List, [], ◌∷◌, ◌++◌, length, take, drop, set, sym, refl, ap, ◌∙◌, append_assoc, append-nil, add-one, arith, length-set, take_all, take-suc-set, ne_eqb, eqb-true, leb-true}
use mathlib.Core.Bool.{and-true, and-false}
use native.Mathlib.Numerals.{unary_clauses}
use lib.Dec.{eqb-suc-suc, eqb-zero-suc, eqb-suc-zero}
use lib.ListN.{length-replicate}
use Rattle.text.specs.Bytes.{tab, most_bytes}
use Rattle.text.specs.Parts.{parted, onto}
use Rattle.text.specs.Numbers.{number_of, Numbers, values, malformed, joins, numbers_of, counted, lettered, headed, line_of, is_well, words_of}
use Rattle.text.specs.Within.{before, number_first, field_first, starts, due, filled}
use Rattle.text.proofs.Numerals.{cond_same}
use Rattle.text.proofs.Paste.{part_whole}

-- the parts that follow the first
abbrev following : List ℕ → List (List ℕ)
following [] = []
following (b ∷ bs) = parted tab bs

part_first : (s : List ℕ) → parted tab s ≡ before tab s ∷ following (drop (length (before tab s)) s)
part_first [] = refl
part_first (b ∷ bs) = go (eqb b tab) (part_first bs)
  where
    go : (t : Bool) → parted tab bs ≡ before tab bs ∷ following (drop (length (before tab bs)) bs)
        → cond t ([] ∷ parted tab bs) (onto b (parted tab bs))
        ≡ cond t [] (b ∷ before tab bs) ∷ following (drop (length (cond t [] (b ∷ before tab bs))) (b ∷ bs))
    go true e = refl
    go false e = ap (onto b) e

-- what follows a part is nothing, or begins with a tab
follows_due : (m : ℕ) (s : List ℕ) → counted m (following (drop (length (before tab s)) s)) ≡ due m (drop (length (before tab s)) s)
follows_due m [] = refl
follows_due m (b ∷ bs) = go (eqb b tab) refl (follows_due m bs)
  where
    go : (t : Bool) → eqb b tab ≡ t
        → counted m (following (drop (length (before tab bs)) bs)) ≡ due m (drop (length (before tab bs)) bs)
        → counted m (following (drop (length (cond t [] (b ∷ before tab bs))) (b ∷ bs)))
        ≡ due m (drop (length (cond t [] (b ∷ before tab bs))) (b ∷ bs))
    go true e h = rw e
    go false e h = h

-- numbers that are read, and then those that are left
abbrev prefixed : List ℕ → Numbers → Numbers
prefixed ws (values vs) = values (ws ++ vs)
prefixed ws malformed = malformed

prefixed_none : (x : Numbers) → x ≡ prefixed [] x
prefixed_none (values vs) = refl
prefixed_none malformed = refl

prefixed_more : (ws : List ℕ) (v : ℕ) (x : Numbers) → prefixed ws (prefixed (v ∷ []) x) ≡ prefixed (ws ++ (v ∷ [])) x
prefixed_more ws v (values vs) = ap values (sym (append_assoc ws (v ∷ []) vs))
prefixed_more ws v malformed = refl

-- one field more: a number, and the fields from its end on, or nothing
abbrev before_rest : Option ℕ → Numbers → Numbers
before_rest (Some v) x = prefixed (v ∷ []) x
before_rest None x = malformed

counted_more : (m : ℕ) (f : List ℕ) (fs : List (List ℕ)) → counted (suc m) (f ∷ fs) ≡ before_rest (number_of f) (counted m fs)
counted_more m f fs = rw (eqb-suc-suc (length fs) m) (go (eqb (length fs) m) (number_of f) (numbers_of fs))
  where
    go : (t : Bool) (p : Option ℕ) (x : Numbers) → cond t (joins p x) malformed ≡ before_rest p (cond t x malformed)
    go true (Some v) (values vs) = refl
    go true (Some v) malformed = refl
    go true None x = refl
    go false (Some v) x = refl
    go false None x = refl

abbrev then_due : (m : ℕ) → Option (ℕ × List ℕ) → Numbers
then_due m (Some (v, rest)) = prefixed (v ∷ []) (due m rest)
then_due m None = malformed

parts_due : (m : ℕ) (s : List ℕ) → counted (suc m) (parted tab s) ≡ then_due m (number_first s)
parts_due m s =
    ap (counted (suc m)) (part_first s)
    ∙ counted_more m (before tab s) (following (drop (length (before tab s)) s))
    ∙ ap (before_rest (number_of (before tab s))) (follows_due m s)
    ∙ go (number_of (before tab s))
  where
    go : (p : Option ℕ)
        → before_rest p (due m (drop (length (before tab s)) s)) ≡ then_due m (option_map (λ v. (v, drop (length (before tab s)) s)) p)
    go (Some v) = refl
    go None = refl

due_more : (m : ℕ) (rest : List ℕ) → due (suc m) rest ≡ then_due m (field_first rest)
due_more m [] = rw (eqb-zero-suc m)
due_more m (b ∷ bs) = go (eqb b tab)
  where
    go : (t : Bool) → cond t (counted (suc m) (parted tab bs)) malformed ≡ then_due m (cond t (number_first bs) None)
    go true = parts_due m bs
    go false = refl

-- where no field is due, the line ends
due_end : (rest : List ℕ) → due 0 rest ≡ filled (eqb (length rest) 0) []
due_end [] = refl
due_end (b ∷ bs) = rw (part_first bs, eqb-suc-zero, eqb-suc-zero) (cond_same (eqb b tab) malformed)

-- a line is its start, and then the fields that are due
onto_letter : (letter n b : ℕ) (bs : List ℕ) → headed letter n (onto b (parted tab bs)) ≡ cond (eqb b letter) (due n bs) malformed
onto_letter letter n b [] = refl
onto_letter letter n b (d ∷ ds) = go (eqb d tab)
  where
    go : (t : Bool) → headed letter n (onto b (cond t ([] ∷ parted tab ds) (onto d (parted tab ds))))
        ≡ cond (eqb b letter) (cond t (counted n (parted tab ds)) malformed) malformed
    go true = refl
    go false = rw (part_first ds) (sym (cond_same (eqb b letter) malformed))

line_starts : (letter n : ℕ) (s : List ℕ) → line_of letter n s ≡ cond (starts letter s) (due n (drop 1 s)) malformed
unfolding line_of
line_starts letter n [] = refl
line_starts letter n (b ∷ bs) = go (leb (suc (length bs)) most_bytes) (eqb b tab)
  where
    go : (l t : Bool) → cond l (headed letter n (cond t ([] ∷ parted tab bs) (onto b (parted tab bs)))) malformed
        ≡ cond (l && (eqb b letter && not t)) (due n bs) malformed
    go false t = refl
    go true true = rw (and-false (eqb b letter))
    go true false = rw (and-true (eqb b letter)) (onto_letter letter n b bs)

-- one more behind those that are known
pub take_set : (ws : List ℕ) (j v : ℕ) → j < length ws → take (j + 1) (set ws j v) ≡ take j ws ++ (v ∷ [])
take_set ws j v h = rw add-one (take-suc-set ws j v h)

-- a line that is being read: its first j numbers stand in `into`, and the others are due
pub record Reading (letter : ℕ) (s : List ℕ) (n : ℕ) (into rest : List ℕ) (j : ℕ) : Type 0 where
  pub whole : length into ≡ n
  pub so_far : line_of letter n s ≡ prefixed (take j into) (due (n - j) rest)

-- the run of `filled`
line_by_start : (letter n : ℕ) (s : List ℕ) {t : Bool} → starts letter s ≡ t → line_of letter n s ≡ cond t (due n (drop 1 s)) malformed
line_by_start letter n s e = line_starts letter n s ∙ ap (λ t. cond t (due n (drop 1 s)) malformed) e

pub line_other : (letter n : ℕ) (s : List ℕ) → starts letter s ≡ false → malformed ≡ line_of letter n s
line_other letter n s e = sym (line_by_start letter n s e)

pub line_begins : (letter : ℕ) (s into : List ℕ) → starts letter s ≡ true → Reading letter s (length into) into (take (length s - 1) (drop 1 s)) 0
line_begins letter s into e =
    let n = length into in
    record { whole = refl; so_far = rw part_whole (simp unary_clauses (line_by_start letter n s e ∙ prefixed_none (due n (drop 1 s)))) }

module _ {letter : ℕ} {s : List ℕ} {n : ℕ} {into rest : List ℕ} {j : ℕ} (r : Reading letter s n into rest j) where
  turn : j < n → line_of letter n s ≡ prefixed (take j into) (then_due (n - (j + 1)) (field_first rest))
  turn h =
      let m : n - j ≡ suc (n - (j + 1)) = omega arith in
      r.so_far ∙ ap (prefixed (take j into)) (ap (λ k. due k rest) m ∙ due_more (n - (j + 1)) rest)

  pub turn_stop : j < n → field_first rest ≡ None → malformed ≡ line_of letter n s
  turn_stop h e = sym (turn h ∙ ap (λ f. prefixed (take j into) (then_due (n - (j + 1)) f)) e)

  pub turn_more : j < n → {v : ℕ} {more : List ℕ} → field_first rest ≡ Some (v, more) → Reading letter s n (set into j v) more (j + 1)
  turn_more h {v} {more} e =
      let l : j < length into = omega (arith, r.whole) in
      let next : take (j + 1) (set into j v) ≡ take j into ++ (v ∷ []) = take_set into j v l in
      record {
        whole = simp length-set r.whole;
        so_far =
            turn h
            ∙ ap (λ f. prefixed (take j into) (then_due (n - (j + 1)) f)) e
            ∙ prefixed_more (take j into) v (due (n - (j + 1)) more)
            ∙ ap (λ ws. prefixed ws (due (n - (j + 1)) more)) (sym next);
      }

  pub turn_end : n ≤ j → filled (eqb (length rest) 0) into ≡ line_of letter n s
  turn_end h =
      let m : n - j ≡ 0 = omega arith in
      sym
      (r.so_far
      ∙ ap (λ k. prefixed (take j into) (due k rest)) m
      ∙ ap (prefixed (take j into)) (due_end rest)
      ∙ ap (λ ws. prefixed ws (filled (eqb (length rest) 0) [])) (take_all j into (omega (arith, r.whole)))
      ∙ go (eqb (length rest) 0))
    where
      go : (t : Bool) → prefixed into (filled t []) ≡ filled t into
      go true = ap values (append-nil into)
      go false = refl

-- as many words as numbers are due
numbers_length : (fs : List (List ℕ)) → length (words_of (length fs) (numbers_of fs)) ≡ length fs
numbers_length [] = refl
numbers_length (f ∷ fs) = go (number_of f) (numbers_of fs) (numbers_length fs)
  where
    go : (p : Option ℕ) (x : Numbers) → length (words_of (length fs) x) ≡ length fs
        → length (words_of (suc (length fs)) (joins p x)) ≡ suc (length fs)
    go (Some v) (values vs) e = ap suc e
    go (Some v) malformed e = length-replicate (suc (length fs)) 0
    go None x e = length-replicate (suc (length fs)) 0

counted_length : (n : ℕ) (fs : List (List ℕ)) → length (words_of n (counted n fs)) ≡ n
counted_length n fs = go (eqb (length fs) n) refl
  where
    go : (t : Bool) → eqb (length fs) n ≡ t → length (words_of n (cond t (numbers_of fs) malformed)) ≡ n
    go true e = rw (← eqb-true (length fs) n e) (numbers_length fs)
    go false e = length-replicate n 0

due_length : (n : ℕ) (s : List ℕ) → length (words_of n (due n s)) ≡ n
due_length n [] = counted_length n []
due_length n (b ∷ bs) = go (eqb b tab)
  where
    go : (t : Bool) → length (words_of n (cond t (counted n (parted tab bs)) malformed)) ≡ n
    go true = counted_length n (parted tab bs)
    go false = length-replicate n 0

pub words_length : (letter n : ℕ) (s : List ℕ) → length (words_of n (line_of letter n s)) ≡ n
words_length letter n s = ap (λ x. length (words_of n x)) (line_starts letter n s) ∙ go (starts letter s)
  where
    go : (t : Bool) → length (words_of n (cond t (due n (drop 1 s)) malformed)) ≡ n
    go true = due_length n (drop 1 s)
    go false = length-replicate n 0

-- ---- a well-formed line

not_values : (ws : List ℕ) → malformed ≡ values ws → ⊥
not_values ws e =
    let z : false ≡ true = ap is_well e in
    let o : ◌≡◌ {A = ℕ} 0 1 = cc in
    omega arith

module _ (letter n : ℕ) (s ws : List ℕ) (e : line_of letter n s ≡ values ws) where
  -- is not too long
  pub well_short : length s ≤ most_bytes
  unfolding line_of
  well_short = go (leb (length s) most_bytes) refl e
    where
      go : (t : Bool) → leb (length s) most_bytes ≡ t → cond t (headed letter n (parted tab s)) malformed ≡ values ws → length s ≤ most_bytes
      go true t h = leb-true (length s) most_bytes t
      go false t h = absurd (not_values ws h)

  -- and has so many numbers, and no other count of them
  pub well_once : (m : ℕ) → (n ≡ m → ⊥) → line_of letter m s ≡ malformed
  unfolding line_of
  well_once m other = go (leb (length s) most_bytes) (parted tab s) e
    where
      count : (fs : List (List ℕ)) (t : Bool) → eqb (length fs) n ≡ t → cond t (numbers_of fs) malformed ≡ values ws → counted m fs ≡ malformed
      count fs true t h = rw (ne_eqb (length fs) m (λ k. other (sym (eqb-true (length fs) n t) ∙ k)))
      count fs false t h = absurd (not_values ws h)

      go : (l : Bool) (fs : List (List ℕ)) → cond l (headed letter n fs) malformed ≡ values ws → cond l (headed letter m fs) malformed ≡ malformed
      go false fs h = refl
      go true [] h = refl
      go true (f ∷ fs) h = lead (lettered letter f) h
        where
          lead : (t : Bool) → cond t (counted n fs) malformed ≡ values ws → cond t (counted m fs) malformed ≡ malformed
          lead true k = count fs (eqb (length fs) n) refl k
          lead false k = refl
