-- Facts by value that pin what is printed: each stands beside a slip that would break it. Assumes nothing.
use mathlib.Core.Path.{◌≡◌, refl}
use mathlib.Core.List.{List, [], ◌∷◌, ◌++◌}
use Prim.Native.Nat.{ℕ}
use lib.ListN.{replicate}
use Rattle.text.specs.Printed.{printed, decimal_of}
use Rattle.player.specs.declared.Shows.TheVariants.{Outputs, FirstMatch}
use Rattle.event.specs.declared.Event.TheVariants.{Nothing, Clocked, Matched, Refused, Ended}
use Rattle.event.specs.Events.{bytes_of, bytes_within}
use Rattle.event.specs.Showing.{detects, shown}

-- the outputs of two slices
abbrev two : List ℕ
two = 10 ∷ 11 ∷ 12 ∷ 13 ∷ 14 ∷ 15 ∷ 16 ∷ 20 ∷ 21 ∷ 22 ∷ 23 ∷ 24 ∷ 25 ∷ 26 ∷ []

abbrev two_lines : List ℕ
two_lines = printed 79 (3 ∷ 0 ∷ 10 ∷ 11 ∷ 12 ∷ 13 ∷ 14 ∷ 15 ∷ 16 ∷ []) ++ printed 79 (3 ∷ 1 ∷ 20 ∷ 21 ∷ 22 ∷ 23 ∷ 24 ∷ 25 ∷ 26 ∷ [])

pub record Prints : Type 0 where
  -- within a clock from slice 0 up
  pub slices_up : bytes_of (Clocked 3) 2 two ≡ two_lines
  pub match : bytes_of (Matched 56) 2 two ≡ printed 77 (56 ∷ [])
  pub refusal : bytes_of (Refused 7 2 1) 2 two ≡ printed 82 (7 ∷ 2 ∷ 1 ∷ [])
  pub end : bytes_of (Ended 57) 2 two ≡ printed 69 (57 ∷ [])
  pub nothing : bytes_of Nothing 2 two ≡ []

-- an event is printed whole where there is room for it, else not at all: 210 bytes an `O` line, 84 an `R` line, 42 an `M` or `E`
-- line
pub record Room : Type 0 where
  pub clock : bytes_within (Clocked 3) 2 two 1 (replicate 421 0) ≡ two_lines
  pub clock_short : bytes_within (Clocked 3) 2 two 1 (replicate 420 0) ≡ []
  pub outputs_short : bytes_within (Clocked 3) 3 two 1 (replicate 800 0) ≡ []
  pub match : bytes_within (Matched 56) 2 [] 1 (replicate 43 0) ≡ printed 77 (56 ∷ [])
  pub match_short : bytes_within (Matched 56) 2 [] 1 (replicate 42 0) ≡ []
  pub refusal : bytes_within (Refused 7 2 1) 2 [] 1 (replicate 85 0) ≡ printed 82 (7 ∷ 2 ∷ 1 ∷ [])
  pub refusal_short : bytes_within (Refused 7 2 1) 2 [] 1 (replicate 84 0) ≡ []
  pub end : bytes_within (Ended 57) 0 [] 1 (replicate 43 0) ≡ printed 69 (57 ∷ [])
  pub end_short : bytes_within (Ended 57) 0 [] 1 (replicate 42 0) ≡ []

pub prints : Prints
unfolding printed decimal_of
prints = record { slices_up = refl; match = refl; refusal = refl; end = refl; nothing = refl }

pub room : Room
unfolding bytes_within printed decimal_of
room =
    record {
      clock = refl;
      clock_short = refl;
      outputs_short = refl;
      match = refl;
      match_short = refl;
      refusal = refl;
      refusal_short = refl;
      end = refl;
      end_short = refl;
    }

-- the outputs of two slices, with these PATTERNDETECTs; every other output is 1, so that only the right one can match
abbrev detecting : (below above : ℕ) → List ℕ
detecting below above = 1 ∷ below ∷ 1 ∷ 1 ∷ 1 ∷ 1 ∷ 1 ∷ 1 ∷ above ∷ 1 ∷ 1 ∷ 1 ∷ 1 ∷ 1 ∷ []

pub record Shows : Type 0 where
  pub every_output : shown Outputs (Clocked 3) (detecting 1 1) ≡ Clocked 3
  pub slice_0 : shown (FirstMatch 0) (Clocked 3) (detecting 1 0) ≡ Matched 3
  pub slice_1 : shown (FirstMatch 1) (Clocked 3) (detecting 0 1) ≡ Matched 3
  -- a match in another slice only
  pub not_slice_0 : shown (FirstMatch 0) (Clocked 3) (detecting 0 1) ≡ Nothing
  pub not_slice_1 : shown (FirstMatch 1) (Clocked 3) (detecting 1 0) ≡ Nothing
  -- a refusal and the end stay, whatever the slice shows
  pub refusal : shown (FirstMatch 0) (Refused 7 2 1) (detecting 1 1) ≡ Refused 7 2 1
  pub end : shown (FirstMatch 0) (Ended 57) (detecting 1 1) ≡ Ended 57
  pub nothing : shown (FirstMatch 0) Nothing (detecting 1 1) ≡ Nothing
  -- a slice whose outputs are not lent shows nothing
  pub unlent : shown (FirstMatch 2) (Clocked 3) (detecting 1 1) ≡ Nothing

pub shows : Shows
unfolding shown detects
shows =
    record {
      every_output = refl;
      slice_0 = refl;
      slice_1 = refl;
      not_slice_0 = refl;
      not_slice_1 = refl;
      refusal = refl;
      end = refl;
      nothing = refl;
      unlent = refl;
    }
