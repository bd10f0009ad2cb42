-- An `A` line is read as one of all attributes, and if it is none, as one of the first of them over zeros. Assumes nothing.
use mathlib.Core.Path.{◌≡◌, refl, sym, ap, ap₂, ◌∙◌}
use mathlib.Core.Bool.{Bool, true, false}
use mathlib.Core.List.{List, ◌++◌}
use Prim.Native.Nat.{ℕ, ◌-◌}
use native.Mathlib.Omega.{arith}
use lib.ListN.{length, take, drop, replicate, length-append}
use Rattle.records.specs.Records.{attribute_words}
use Rattle.text.specs.Numbers.{Numbers, values, malformed, line_of, is_well, words_of}
use Rattle.text.specs.Calls.{Taken}
use Rattle.text.proofs.Lines.{words_length}
use Rattle.listing.specs.Letters.{letter_a}
use Rattle.listing.specs.Listing.{first_attributes, with_zeros, or_else, settings_line}
use Rattle.listing.specs.Parts.{SettingsRead}

-- ---- one of two readings

or_first : (x y : Numbers) → is_well x ≡ true → or_else x y ≡ x
or_first (values ws) y e = refl
or_first malformed y e = let z : false ≡ true = e in cc

or_second : (x y : Numbers) → is_well x ≡ false → or_else x y ≡ y
or_second (values ws) y e = let z : true ≡ false = e in cc
or_second malformed y e = refl

or_length : (n : ℕ) (x y : Numbers) → length (words_of n x) ≡ n → length (words_of n y) ≡ n → length (words_of n (or_else x y)) ≡ n
or_length n (values ws) y h k = h
or_length n malformed y h k = k

malformed_words : (n : ℕ) (x : Numbers) → is_well x ≡ false → words_of n x ≡ replicate n 0
malformed_words n (values ws) e = let z : true ≡ false = e in cc
malformed_words n malformed e = refl

-- ---- the first attributes, and zeros

zeros_well : (k : ℕ) (x : Numbers) → is_well (with_zeros k x) ≡ is_well x
zeros_well k (values ws) = refl
zeros_well k malformed = refl

-- the attributes that the first reading has and the second lacks
abbrev rest : ℕ
rest = attribute_words - first_attributes

zeros_words : (x : Numbers) → words_of attribute_words (with_zeros rest x) ≡ words_of first_attributes x ++ replicate rest 0
zeros_words (values ws) = refl
zeros_words malformed = refl

pub settings_length : (line : List ℕ) → length (words_of attribute_words (settings_line line)) ≡ attribute_words
unfolding settings_line
settings_length line =
    or_length attribute_words (line_of letter_a attribute_words line) (with_zeros rest x) (words_length letter_a attribute_words line)
    (ap length (zeros_words x)
    ∙ length-append (words_of first_attributes x) (replicate rest 0)
    ∙ omega (arith, words_length letter_a first_attributes line))
  where
    x : Numbers
    x = line_of letter_a first_attributes line

-- ---- the two readings of the code

module _ (line into : List ℕ) (whole : length into ≡ attribute_words) where
  -- the first, of as many numbers as there are attributes
  first_well : {r : Bool} {into' : List ℕ} → Taken letter_a line into r into' → is_well (line_of letter_a attribute_words line) ≡ r
  first_well t = sym (t.well ∙ ap (λ (m : ℕ). is_well (line_of letter_a m line)) whole)

  first_words : {r : Bool} {into' : List ℕ} → Taken letter_a line into r into' → into' ≡ words_of attribute_words (line_of letter_a attribute_words line)
  first_words t = t.words ∙ ap (λ (m : ℕ). words_of m (line_of letter_a m line)) whole

  pub all_read : {r : Bool} {into' : List ℕ} → Taken letter_a line into r into' → r ≡ true → SettingsRead line true into'
  unfolding settings_line
  all_read t e =
      let taken = sym (or_first (line_of letter_a attribute_words line) (with_zeros rest (line_of letter_a first_attributes line)) (first_well t ∙ e)) in
      record { well = sym (first_well t ∙ e) ∙ ap is_well taken; words = first_words t ∙ ap (words_of attribute_words) taken }

  -- the second, over the zeros that the first left
  pub some_read : {r s : Bool} {into' got : List ℕ} → Taken letter_a line into r into' → r ≡ false → Taken letter_a line (take first_attributes into') s got
      → SettingsRead line s (got ++ drop first_attributes into')
  unfolding settings_line
  some_read {into' = into'} t e u =
      let x = line_of letter_a first_attributes line in
      let zeros : into' ≡ replicate attribute_words 0 = first_words t ∙ malformed_words attribute_words (line_of letter_a attribute_words line) (first_well t ∙ e) in
      let part : length (take first_attributes into') ≡ first_attributes = ap (λ (ws : List ℕ). length (take first_attributes ws)) zeros in
      let taken = sym (or_second (line_of letter_a attribute_words line) (with_zeros rest x) (first_well t ∙ e)) in
      record {
        well = u.well ∙ ap (λ (m : ℕ). is_well (line_of letter_a m line)) part ∙ sym (zeros_well rest x) ∙ ap is_well taken;
        words =
            ap₂ (λ (a b : List ℕ). a ++ b) (u.words ∙ ap (λ (m : ℕ). words_of m (line_of letter_a m line)) part) (ap (drop first_attributes) zeros)
            ∙ sym (zeros_words x)
            ∙ ap (words_of attribute_words) taken;
      }
