-- Facts by value that pin what is read and printed: each stands beside a slip that would break it. Bytes stand here as numbers, so that
-- their names are pinned too. Assumes nothing.
use Rattle.std.proofs.Common.{Some, None, ◌≡◌, ℕ, ◌-◌, ◌^◌, true, false, List, [], ◌∷◌, ◌++◌, replicate, refl}
use Rattle.text.specs.Numbers.{number_of, values, malformed, line_of, is_well, words_of}
use Rattle.text.specs.Printed.{printed, fields_of, decimal_of, pasted, line_within}

-- 1844674407370955161, the digits of 2^64 - 1 but for the last
abbrev tenth : List ℕ
tenth = 49 ∷ 56 ∷ 52 ∷ 52 ∷ 54 ∷ 55 ∷ 52 ∷ 52 ∷ 48 ∷ 55 ∷ 51 ∷ 55 ∷ 48 ∷ 57 ∷ 53 ∷ 53 ∷ 49 ∷ 54 ∷ 49 ∷ []

pub record Numbers : Type 0 where
  pub zero : number_of (48 ∷ []) ≡ Some 0
  pub inner_zero : number_of (49 ∷ 48 ∷ 50 ∷ []) ≡ Some 102
  -- 2^64 - 1, 2^64, and twenty nines
  pub largest : number_of (tenth ++ (53 ∷ [])) ≡ Some (2 ^ 64 - 1)
  pub one_too_many : number_of (tenth ++ (54 ∷ [])) ≡ None
  pub nines : number_of (replicate 20 57) ≡ None
  pub empty : number_of [] ≡ None
  pub two_zeros : number_of (48 ∷ 48 ∷ []) ≡ None
  pub leading_zero : number_of (48 ∷ 49 ∷ []) ≡ None
  pub plus : number_of (43 ∷ 49 ∷ []) ≡ None
  -- the bytes beside the digits
  pub slash : number_of (49 ∷ 47 ∷ []) ≡ None
  pub colon : number_of (49 ∷ 58 ∷ []) ≡ None

-- N, the letter of the lines below
abbrev N : ℕ
N = 78

pub record Lines : Type 0 where
  pub well : line_of N 1 (N ∷ 9 ∷ 51 ∷ []) ≡ values (3 ∷ [])
  pub no_numbers : line_of N 0 (N ∷ []) ≡ values []
  pub two_numbers : line_of N 2 (N ∷ 9 ∷ 51 ∷ 9 ∷ 48 ∷ []) ≡ values (3 ∷ 0 ∷ [])
  pub number_missing : line_of N 1 (N ∷ []) ≡ malformed
  pub number_over : line_of N 1 (N ∷ 9 ∷ 51 ∷ 9 ∷ 48 ∷ []) ≡ malformed
  pub tab_at_the_end : line_of N 1 (N ∷ 9 ∷ 51 ∷ 9 ∷ []) ≡ malformed
  pub tab_doubled : line_of N 1 (N ∷ 9 ∷ 9 ∷ 51 ∷ []) ≡ malformed
  pub blank_for_tab : line_of N 1 (N ∷ 32 ∷ 51 ∷ []) ≡ malformed
  pub letter_doubled : line_of N 1 (N ∷ N ∷ 9 ∷ 51 ∷ []) ≡ malformed
  pub other_letter : line_of N 1 (110 ∷ 9 ∷ 51 ∷ []) ≡ malformed
  pub return_at_the_end : line_of N 1 (N ∷ 9 ∷ 51 ∷ 13 ∷ []) ≡ malformed
  pub tab_as_letter : line_of 9 1 (9 ∷ 9 ∷ 51 ∷ []) ≡ malformed
  pub nul_at_the_end : line_of N 1 (N ∷ 9 ∷ 51 ∷ 0 ∷ []) ≡ malformed
  pub byte_order_mark : line_of N 1 (239 ∷ 187 ∷ 191 ∷ N ∷ 9 ∷ 51 ∷ []) ≡ malformed
  pub empty : line_of N 0 [] ≡ malformed
  -- 512 bytes, and 513
  pub longest : line_of N 255 (N ∷ fields_of (10 ∷ replicate 254 0)) ≡ values (10 ∷ replicate 254 0)
  pub too_long : line_of N 256 (N ∷ fields_of (replicate 256 0)) ≡ malformed

-- what a line leaves: its numbers, or as many zeros
pub record Leaves : Type 0 where
  pub well : (is_well (values (3 ∷ 4 ∷ [])) ≡ true) × (words_of 2 (values (3 ∷ 4 ∷ [])) ≡ 3 ∷ 4 ∷ [])
  pub malformed_zeros : (is_well malformed ≡ false) × (words_of 2 malformed ≡ 0 ∷ 0 ∷ [])

pub record Prints : Type 0 where
  -- O, a tab, 0, a tab, 12, a newline
  pub line : printed 79 (0 ∷ 12 ∷ []) ≡ 79 ∷ 9 ∷ 48 ∷ 9 ∷ 49 ∷ 50 ∷ 10 ∷ []
  pub largest : decimal_of (2 ^ 64 - 1) ≡ tenth ++ (53 ∷ [])
  pub in_place : pasted 1 (7 ∷ 8 ∷ []) (1 ∷ 2 ∷ 3 ∷ 4 ∷ []) ≡ 1 ∷ 7 ∷ 8 ∷ 4 ∷ []
  pub just_room : line_within N (3 ∷ []) 1 (replicate 43 0) ≡ N ∷ 9 ∷ 51 ∷ 10 ∷ []
  pub a_byte_short : line_within N (3 ∷ []) 1 (replicate 42 0) ≡ []
  pub past_the_end : line_within N [] 44 (replicate 43 0) ≡ []

pub numbers : Numbers
numbers =
    record {
      zero = refl;
      inner_zero = refl;
      largest = refl;
      one_too_many = refl;
      nines = refl;
      empty = refl;
      two_zeros = refl;
      leading_zero = refl;
      plus = refl;
      slash = refl;
      colon = refl;
    }

pub lines : Lines
unfolding line_of decimal_of
lines =
    record {
      well = refl;
      no_numbers = refl;
      two_numbers = refl;
      number_missing = refl;
      number_over = refl;
      tab_at_the_end = refl;
      tab_doubled = refl;
      blank_for_tab = refl;
      letter_doubled = refl;
      other_letter = refl;
      return_at_the_end = refl;
      tab_as_letter = refl;
      nul_at_the_end = refl;
      byte_order_mark = refl;
      empty = refl;
      longest = refl;
      too_long = refl;
    }

pub leaves : Leaves
leaves = record { well = (refl, refl); malformed_zeros = (refl, refl) }

pub prints : Prints
unfolding printed decimal_of
prints = record { line = refl; largest = refl; in_place = refl; just_room = refl; a_byte_short = refl; past_the_end = refl }
