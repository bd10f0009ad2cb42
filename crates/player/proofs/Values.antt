-- Facts by value that pin a player's numbers: each stands beside a slip that would break it. Assumes nothing.
use mathlib.Core.Path.{◌≡◌, refl}
use mathlib.Core.Bool.{true, false}
use mathlib.Core.List.{[], ◌∷◌}
use Prim.Native.Nat.{ℕ, ◌-◌, ◌^◌}
use lib.ListN.{replicate}
use Rattle.player.specs.declared.Phase.TheVariants.{Head, Settings, Clocks, Stopped}
use Rattle.player.specs.declared.Shows.{Shows}
use Rattle.player.specs.declared.Shows.TheVariants.{Outputs, FirstMatch}
use Rattle.player.specs.declared.Player.{Player}
use Rattle.player.specs.Numbers.{working, phase_of, shows_of, player_words, player_of}
use Rattle.player.specs.Fitting.{numbers_fit, lengths_fit}

-- a player whose `P` lines are due
abbrev showing : Shows → (count given clocks lines held : ℕ) → Player
showing shows count given clocks lines held =
    record { phase = Clocks; count = count; given = given; clocks = clocks; lines = lines; held = held; shows = shows }

abbrev player : (count given clocks lines held : ℕ) → Player
player = showing Outputs

pub record Numbers : Type 0 where
  -- zeros are a player that has read nothing
  pub zeros : player_of (replicate 8 0) ≡ record { phase = Head; count = 0; given = 0; clocks = 0; lines = 0; held = 0; shows = Outputs }
  pub in_order : player_words (showing (FirstMatch 3) 24 5 7 9 11) ≡ 2 ∷ 24 ∷ 5 ∷ 7 ∷ 9 ∷ 11 ∷ 1 ∷ 3 ∷ []
  pub back : player_of (2 ∷ 24 ∷ 5 ∷ 7 ∷ 9 ∷ 11 ∷ 1 ∷ 3 ∷ []) ≡ showing (FirstMatch 3) 24 5 7 9 11
  -- every output is shown but where the word for it is 1
  pub shows_all : (player_words (player 24 5 7 9 11) ≡ 2 ∷ 24 ∷ 5 ∷ 7 ∷ 9 ∷ 11 ∷ 0 ∷ 0 ∷ []) × (shows_of 0 3 ≡ Outputs) × (shows_of 2 3 ≡ Outputs)
  -- a line is due in each phase but the last
  pub due : (working Head ≡ true) × (working Settings ≡ true) × (working Clocks ≡ true) × (working Stopped ≡ false)
  pub stopped : (phase_of 3 ≡ Stopped) × (phase_of 4 ≡ Stopped)
  -- counts stay below 2^64 - 1
  pub fit : numbers_fit 1 (player 24 23 (2 ^ 64 - 3) (2 ^ 64 - 3) 512) ≡ true
  pub clocks_over : numbers_fit 1 (player 24 23 (2 ^ 64 - 2) 0 512) ≡ false
  pub lines_over : numbers_fit 1 (player 24 23 0 (2 ^ 64 - 2) 512) ≡ false
  pub count_over : numbers_fit 1 (player 25 23 0 0 512) ≡ false
  pub given_over : numbers_fit 1 (player 24 24 0 0 512) ≡ false
  pub held_over : numbers_fit 1 (player 24 23 0 0 513) ≡ false
  pub lengths : lengths_fit 528 456 264 168 512 ≡ true

pub numbers : Numbers
numbers =
    record {
      zeros = refl;
      in_order = refl;
      back = refl;
      shows_all = (refl, refl, refl);
      due = (refl, refl, refl, refl);
      stopped = (refl, refl);
      fit = refl;
      clocks_over = refl;
      lines_over = refl;
      count_over = refl;
      given_over = refl;
      held_over = refl;
      lengths = refl;
    }
