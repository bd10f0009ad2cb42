-- A listing's lines: their bytes, and the first match among them. Assumes nothing.
use mathlib.Core.Path.{◌≡◌, refl, sym, ap, ap₂, ◌∙◌}
use mathlib.Core.Bool.{Bool, true, false, cond}
use mathlib.Core.List.{List, [], ◌∷◌, ◌++◌}
use Prim.Native.Nat.{ℕ, zero, suc, ◌<◌, ◌≤◌}
use native.Mathlib.Omega.{arith}
use lib.Dec.{eqb}
use lib.ListN.{get_or}
use borrow.Author.Tests.{eqb-true, eqb-false, ne_eqb}
use Rattle.event.specs.Letters.{letter_m}
use Rattle.event.specs.Lines.{Line, line_with, output_line, listed, lines_of, printed_lines}
use Rattle.event.specs.Showing.{detects}
use Rattle.event.proofs.Printing.{printed_append}
use Rattle.player.specs.declared.Phase.{Phase}
use Rattle.player.specs.declared.Phase.TheVariants.{Head, Settings, Clocks, Stopped}
use Rattle.player.specs.Numbers.{working}
use Rattle.listing.specs.Steps.{end_in, end_of}
use Rattle.listing.specs.Listing.{Play, turn_bytes, byte_turn, end_says, listing_from, listing}
use Rattle.listing.specs.Matching.{turn_lines, lines_from, listing_lines, is_match, match_clocks, last_of, first_or, first_match}
use Rattle.listing.proofs.Pieces.{stopped_turn}

-- ---- the bytes of a listing are those of its lines

from_lines : (p : Play) (text : List ℕ) → listing_from p text ≡ printed_lines (lines_from p text)
unfolding end_says
from_lines p [] = refl
from_lines p (b ∷ bs) =
    let t = byte_turn p b in
    ap (λ (ls : List ℕ). turn_bytes t ++ ls) (from_lines t.play bs) ∙ sym (printed_append (turn_lines t) (lines_from t.play bs))

pub listing_lines_lem : (text : List ℕ) → listing text ≡ printed_lines (listing_lines text)
unfolding listing listing_lines
listing_lines_lem text = from_lines _ text

-- where no line is due, none is printed
pub stopped_none : (p : Play) (text : List ℕ) → working p.player.phase ≡ false → lines_from p text ≡ []
unfolding end_of
stopped_none p [] stopped = go p.player.phase stopped
  where
    go : (f : Phase) → working f ≡ false → lines_of (end_in f p.player) 0 [] ≡ []
    go Head e = let z : ◌≡◌ {A = Bool} true false = e in cc
    go Settings e = let z : ◌≡◌ {A = Bool} true false = e in cc
    go Clocks e = let z : ◌≡◌ {A = Bool} true false = e in cc
    go Stopped e = refl
stopped_none p (b ∷ bs) stopped = rw (stopped_turn p b stopped) (stopped_none p bs stopped)

-- ---- the last line

-- there is a line
pub record Some (ls : List Line) : Type 0 where
  pub first : Line
  pub rest : List Line
  pub is : ls ≡ first ∷ rest

pub append_some : (xs ys : List Line) → Some ys → Some (xs ++ ys)
append_some [] ys s = s
append_some (x ∷ xs) ys s = record { first = x; rest = xs ++ ys; is = refl }

last_append : (xs ys : List Line) → Some ys → last_of (xs ++ ys) ≡ last_of ys
last_append [] ys s = refl
last_append (x ∷ xs) ys s = more (xs ++ ys) (append_some xs ys s) ∙ last_append xs ys s
  where
    more : (ls : List Line) → Some ls → last_of (x ∷ ls) ≡ last_of ls
    more ls s = rw s.is

-- ---- the first match

match_append : (k : ℕ) (xs ys : List Line) → match_clocks k (xs ++ ys) ≡ match_clocks k xs ++ match_clocks k ys
match_append k [] ys = refl
match_append k (x ∷ xs) ys = go (is_match k x) (match_append k xs ys)
  where
    go : (t : Bool) → match_clocks k (xs ++ ys) ≡ match_clocks k xs ++ match_clocks k ys
        → cond t (get_or x.numbers 0 0 ∷ match_clocks k (xs ++ ys)) (match_clocks k (xs ++ ys))
        ≡ cond t (get_or x.numbers 0 0 ∷ match_clocks k xs) (match_clocks k xs) ++ match_clocks k ys
    go true e = ap (λ (cs : List ℕ). get_or x.numbers 0 0 ∷ cs) e
    go false e = e

-- lines without a match, and others after them
pub not_yet : (k : ℕ) (xs ys : List Line) → match_clocks k xs ≡ [] → Some ys → first_match k (xs ++ ys) ≡ first_match k ys
not_yet k xs ys none s = rw (match_append k xs ys, none) (go (match_clocks k ys))
  where
    go : (cs : List ℕ) → first_or cs (xs ++ ys) ≡ first_or cs ys
    go [] = last_append xs ys s
    go (c ∷ cs) = refl

-- lines with a match, and whatever others after them
pub found : (k : ℕ) (xs ys : List Line) (c : ℕ) (cs : List ℕ) → match_clocks k xs ≡ c ∷ cs → first_match k (xs ++ ys) ≡ line_with letter_m (c ∷ []) ∷ []
found k xs ys c cs e = rw (match_append k xs ys, e)

-- ---- the lines of a clock

module _ (k clock : ℕ) (os : List ℕ) where
  -- of another slice
  other_line : (j : ℕ) → eqb j k ≡ false → match_clocks k (output_line clock os j ∷ []) ≡ []
  other_line j e = rw e

  same_line : (j : ℕ) (t : Bool) → eqb j k ≡ true → detects k os ≡ t → match_clocks k (output_line clock os j ∷ []) ≡ cond t (clock ∷ []) []
  unfolding detects
  same_line j t e d = rw (e, eqb-true j k e, d)

  next_line : (j : ℕ) → match_clocks k (listed (output_line clock os) (suc j)) ≡ match_clocks k (listed (output_line clock os) j) ++ match_clocks k (output_line clock os j ∷ [])
  next_line j = match_append k (listed (output_line clock os) j) (output_line clock os j ∷ [])

  -- without a match
  pub clock_none : detects k os ≡ false → (n : ℕ) → match_clocks k (listed (output_line clock os) n) ≡ []
  clock_none d zero = refl
  clock_none d (suc j) = next_line j ∙ ap₂ (λ (x y : List ℕ). x ++ y) (clock_none d j) (go (eqb j k) refl)
    where
      go : (t : Bool) → eqb j k ≡ t → match_clocks k (output_line clock os j ∷ []) ≡ []
      go true e = same_line j false e d
      go false e = other_line j e

  below : (n : ℕ) → n ≤ k → match_clocks k (listed (output_line clock os) n) ≡ []
  below zero h = refl
  below (suc j) h =
      next_line j ∙ ap₂ (λ (x y : List ℕ). x ++ y) (below j (omega arith)) (other_line j (ne_eqb j k (λ e. let z : ⊥ = omega arith in absurd z)))

  -- with one: it is the first of the clocks
  pub record Begins (cs : List ℕ) : Type 0 where
    pub rest : List ℕ
    pub is : cs ≡ clock ∷ rest

  pub clock_match : detects k os ≡ true → (n : ℕ) → k < n → Begins (match_clocks k (listed (output_line clock os) n))
  clock_match d zero h = let z : ⊥ = omega arith in absurd z
  clock_match d (suc j) h = go (eqb j k) refl (λ l. clock_match d j l)
    where
      go : (t : Bool) → eqb j k ≡ t → (k < j → Begins (match_clocks k (listed (output_line clock os) j))) → Begins (match_clocks k (listed (output_line clock os) (suc j)))
      go true e earlier =
          record {
            rest = [];
            is =
                next_line j
                ∙ ap₂ (λ (x y : List ℕ). x ++ y) (below j (omega (arith, eqb-true j k e))) (same_line j true e d);
          }
      go false e earlier =
          let before = earlier (omega (arith, eqb-false j k e)) in
          record {
            rest = before.rest ++ match_clocks k (output_line clock os j ∷ []);
            is = next_line j ∙ ap (λ (x : List ℕ). x ++ match_clocks k (output_line clock os j ∷ [])) before.is;
          }
